-- How a list of boxes grows: each step ends with the list, or is stopped at the list it had when a box would have been
-- the 33rd. Assumes nothing.
use Rattle.std.specs.Prelude.{ℕ, Bool, false, cond, ◌||◌, List, [], ◌∷◌, ◌++◌, map, length, Ok, Err, Result, nat_lt}
use Rattle.domain.specs.declared.sides.Interval.{Interval}
use Rattle.domain.specs.Boxes.{empty_box, contains_box, overlap_box}

-- a box, and a list of them that was completed or stopped
abbrev pub Sides : Type 0 → Type 0
Sides S = List (Interval S)

abbrev pub Boxes : Type 0 → Type 0
Boxes S = List (List (Interval S))

abbrev pub Outcome : Type 0 → Type 0
Outcome S = Result (Boxes S) (Boxes S)

-- a stopped list stays stopped
abbrev pub and_then : {S : Type 0} → Outcome S → (Boxes S → Outcome S) → Outcome S
and_then (Ok xs) f = f xs
and_then (Err xs) f = Err xs

module _ {S : Type 0} (rank : S → ℕ) where
  abbrev pub some_contains : Boxes S → Sides S → Bool
  some_contains [] b = false
  some_contains (x ∷ xs) b = contains_box rank x b || some_contains xs b

  -- the boxes that b does not contain
  abbrev pub outside : Sides S → Boxes S → Boxes S
  outside b [] = []
  outside b (x ∷ xs) = cond (contains_box rank b x) (outside b xs) (x ∷ outside b xs)

  -- an empty or contained box is skipped; else those that it contains leave, and it goes to the end unless 32 are left
  abbrev pub added : Boxes S → Sides S → Outcome S
  added xs b = cond (empty_box rank b || some_contains xs b) (Ok xs) (cond (nat_lt (length (outside b xs)) 32) (Ok (outside b xs ++ (b ∷ []))) (Err xs))

  -- each box of the second list is added to the first
  abbrev pub joined : Boxes S → Boxes S → Outcome S
  joined xs [] = Ok xs
  joined xs (y ∷ ys) = and_then (added xs y) (λ zs. joined zs ys)

  -- the overlaps of each box of the first list with each of the second, in order
  abbrev pub overlaps : Boxes S → Boxes S → Boxes S
  overlaps [] bs = []
  overlaps (a ∷ ls) bs = map (overlap_box rank a) bs ++ overlaps ls bs

  -- the overlaps, added to an empty list
  abbrev pub met : Boxes S → Boxes S → Outcome S
  met ls bs = joined [] (overlaps ls bs)
