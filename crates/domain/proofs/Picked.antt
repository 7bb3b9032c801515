-- What the boxes from one on cover and offer, and what the picks of a list mean. Assumes nothing.
use Rattle.std.proofs.Common.{◌≡◌, ℕ, zero, suc, true, false, List, [], ◌∷◌, length, drop, is_some, Some, None, Option, refl, ◌∙◌, subst, inl, inr, ⊎_elim, arith}
use Rattle.scale.specs.declared.cuts.Cut.{Cut}
use Rattle.scale.specs.Cuts.{Between, Picks}
use Rattle.domain.specs.declared.shapes.Choice.{Choice}
use Rattle.domain.specs.declared.shapes.Orthotope.{Orthotope}
use Rattle.domain.specs.declared.sides.Interval.{Interval}
use Rattle.domain.specs.Added.{Boxes, Sides}
use Rattle.domain.specs.Covering.{Covered, In, Wide}
use Rattle.domain.specs.Listed.{sides_in}
use Rattle.domain.specs.Picking.{Finds, behind, first_picked, or_else, picks_of, chosen}

-- a domain's boxes have three sides
pub wide_boxes : {S : Type 0} (bs : List (Orthotope S)) → Wide 3 (sides_in bs)
wide_boxes [] = tt
wide_boxes (b ∷ bs) = (refl, wide_boxes bs)

-- a box with picks ends the search, one without leaves it to the others
pub some_picks : {S : Type 0} (o : Option (Choice S)) (rest : Option (List S)) → is_some o ≡ true → or_else (chosen o) rest ≡ chosen o
some_picks None rest e = let z : ◌≡◌ {A = ℕ} 0 1 = cc in absurd (omega arith)
some_picks (Some m) rest e = refl

pub no_picks : {S : Type 0} (o : Option (Choice S)) (rest : Option (List S)) → is_some o ≡ false → or_else (chosen o) rest ≡ rest
no_picks None rest e = refl
no_picks (Some m) rest e = let z : ◌≡◌ {A = ℕ} 0 1 = cc in absurd (omega arith)

module _ {S : Type 0} (rank : S → ℕ) where
  pub covered_drop : (ms : List S) (xs : Boxes S) (i : ℕ) → Covered rank ms (drop i xs) → Covered rank ms xs
  covered_drop ms xs zero h = h
  covered_drop ms [] (suc i) h = h
  covered_drop ms (x ∷ xs) (suc i) h = inr (covered_drop ms xs i h)

  -- what the boxes from here on cover is here or behind
  pub covered_first : (ms : List S) (ys rest : Boxes S) (y : Sides S) → ys ≡ y ∷ rest → (In rank ms y → ⊥) → Covered rank ms ys → Covered rank ms rest
  covered_first ms ys rest y e apart h = ⊎_elim (λ i. absurd (apart i)) (λ c. c) (subst (Covered rank ms) e h)

  pub covered_none : (ms : List S) (ys : Boxes S) → ys ≡ [] → Covered rank ms ys → ⊥
  covered_none ms ys e h = subst (Covered rank ms) e h

  module _ (picked : Cut S → Cut S → Option S) (picks : (l u : Cut S) → Picks rank l u (picked l u)) where
    -- what the picks of a box say
    abbrev Boxed : Sides S → Option (List S) → Type 0
    Boxed b None = (ms : List S) → In rank ms b → ⊥
    Boxed b (Some ms) = (length ms ≡ length b) × In rank ms b

    no_first : (i : Interval S) (is : Sides S) (ms : List S) → ((m : S) → Between rank i.lower i.upper m → ⊥) → In rank ms (i ∷ is) → ⊥
    no_first i is [] here h = h
    no_first i is (m ∷ ms) here h = here m h.0

    no_rest : (i : Interval S) (is : Sides S) (ms : List S) → ((ns : List S) → In rank ns is → ⊥) → In rank ms (i ∷ is) → ⊥
    no_rest i is [] there h = h
    no_rest i is (n ∷ ns) there h = there ns h.1

    with_side : (i : Interval S) (is : Sides S) (o : Option S) (rest : Option (List S)) → Picks rank i.lower i.upper o → Boxed is rest → Boxed (i ∷ is) (behind o rest)
    with_side i is None rest here there = λ ms h. no_first i is ms (λ m b. here m b) h
    with_side i is (Some m) None here there = λ ms h. no_rest i is ms there h
    with_side i is (Some m) (Some ms) here there = (omega (arith, there.0), (here, there.1))

    boxed : (b : Sides S) → Boxed b (picks_of picked b)
    boxed [] = (refl, tt)
    boxed (i ∷ is) = with_side i is (picked i.lower i.upper) (picks_of picked is) (picks i.lower i.upper) (boxed is)

    with_box : (n : ℕ) (b : Sides S) (bs : Boxes S) (o rest : Option (List S)) → length b ≡ n → Boxed b o → Finds rank n bs rest → Finds rank n (b ∷ bs) (or_else o rest)
    with_box n b bs None None l here there = λ ms k h. ⊎_elim (λ i. here ms i) (λ c. there ms k c) h
    with_box n b bs None (Some ms) l here there = (there.0, inr there.1)
    with_box n b bs (Some ms) rest l here there = (here.0 ∙ l, inl here.1)

    -- the picks of the first box that has them are marks that the list covers, and without any it covers none
    pub finds : (n : ℕ) (xs : Boxes S) → Wide n xs → Finds rank n xs (first_picked picked xs)
    finds n [] w = λ ms l h. h
    finds n (b ∷ bs) w = with_box n b bs (picks_of picked b) (first_picked picked bs) w.0 (boxed b) (finds n bs w.1)
