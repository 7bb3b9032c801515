-- Which choices of limits a list of boxes covers, and what adding, join and meet make of that. Assumes nothing.
use Rattle.std.specs.Prelude.{◌≡◌, ℕ, ◌≤◌, ◌⊎◌, List, [], ◌∷◌, length, Ok}
use Rattle.std.specs.List.{AllByRecursion}
use Rattle.scale.specs.Cuts.{Between}
use Rattle.domain.specs.Added.{Boxes, Sides, added, joined, met}

-- each box has a side for each of n limits
abbrev pub Wide : {S : Type 0} → ℕ → Boxes S → Type 0
Wide n xs = AllByRecursion (λ b. length b ≡ n) xs

module _ {S : Type 0} (rank : S → ℕ) where
  -- the marks, one for each limit, lie in the box
  abbrev pub In : List S → Sides S → Type 0
  In [] [] = Unit {0}
  In [] (i ∷ is) = ⊥
  In (m ∷ ms) [] = ⊥
  In (m ∷ ms) (i ∷ is) = Between rank i.lower i.upper m × In ms is

  -- they lie together in one box of the list
  abbrev pub Covered : List S → Boxes S → Type 0
  Covered ms [] = ⊥
  Covered ms (b ∷ bs) = In ms b ⊎ Covered ms bs

  -- after covers what before covers and the box b, and nothing else
  pub record Extends (n : ℕ) (before : Boxes S) (b : Sides S) (after : Boxes S) : Type 0 where
    pub wide : Wide n after
    pub from : (ms : List S) → Covered ms after → Covered ms before ⊎ In ms b
    pub to_old : (ms : List S) → length ms ≡ n → Covered ms before → Covered ms after
    pub to_new : (ms : List S) → length ms ≡ n → In ms b → Covered ms after

  -- after covers what either list covers, and nothing else
  pub record Union (n : ℕ) (one two after : Boxes S) : Type 0 where
    pub wide : Wide n after
    pub from : (ms : List S) → Covered ms after → Covered ms one ⊎ Covered ms two
    pub to_one : (ms : List S) → length ms ≡ n → Covered ms one → Covered ms after
    pub to_two : (ms : List S) → length ms ≡ n → Covered ms two → Covered ms after

  -- after covers what both lists cover, and nothing else
  pub record Intersection (n : ℕ) (one two after : Boxes S) : Type 0 where
    pub wide : Wide n after
    pub from : (ms : List S) → length ms ≡ n → Covered ms after → Covered ms one × Covered ms two
    pub to : (ms : List S) → length ms ≡ n → Covered ms one → Covered ms two → Covered ms after

  -- adding a box keeps the union, whatever the number of limits
  abbrev pub AddingCovers : Type 0
  AddingCovers = (n : ℕ) (xs ys : Boxes S) (b : Sides S) → Wide n xs → length b ≡ n → added rank xs b ≡ Ok ys → Extends n xs b ys

  -- join covers the union
  abbrev pub JoinCovers : Type 0
  JoinCovers = (n : ℕ) (ys xs zs : Boxes S) → Wide n xs → Wide n ys → joined rank xs ys ≡ Ok zs → Union n xs ys zs

  -- meet covers the intersection
  abbrev pub MeetCovers : Type 0
  MeetCovers = (n : ℕ) (ls bs zs : Boxes S) → Wide n ls → Wide n bs → met rank ls bs ≡ Ok zs → Intersection n ls bs zs

  -- no list passes 32 boxes
  abbrev pub NeverTooMany : Type 0
  NeverTooMany = (xs ys : Boxes S) (b : Sides S) → length xs ≤ 32 → added rank xs b ≡ Ok ys → length ys ≤ 32
