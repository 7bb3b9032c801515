-- Boxes as lists of sides of any length, so that nothing depends on how many limits there are. Assumes nothing.
use Rattle.std.specs.Prelude.{ℕ, Bool, true, false, ◌&&◌, ◌||◌, List, [], ◌∷◌, replicate}
use Rattle.domain.specs.declared.shapes.Orthotope.{Orthotope}
use Rattle.domain.specs.declared.sides.Interval.{Interval}
use Rattle.domain.specs.Sides.{full_side, empty_side, contains_side, overlap_side}

-- the sides of a box, in the order of the limits
abbrev pub sides_of : {S : Type 0} → Orthotope S → List (Interval S)
sides_of b = b.p ∷ b.q ∷ b.r ∷ []

-- every choice of limits
abbrev pub full_box : {S : Type 0} → List (Interval S)
full_box = replicate 3 full_side

module _ {S : Type 0} (rank : S → ℕ) where
  -- some side is empty
  abbrev pub empty_box : List (Interval S) → Bool
  empty_box [] = false
  empty_box (i ∷ is) = empty_side rank i || empty_box is

  -- each side of the first contains that of the second
  abbrev pub contains_box : List (Interval S) → List (Interval S) → Bool
  contains_box [] js = true
  contains_box (i ∷ is) [] = true
  contains_box (i ∷ is) (j ∷ js) = contains_side rank i j && contains_box is js

  abbrev pub overlap_box : List (Interval S) → List (Interval S) → List (Interval S)
  overlap_box [] js = []
  overlap_box (i ∷ is) [] = []
  overlap_box (i ∷ is) (j ∷ js) = overlap_side rank i j ∷ overlap_box is js
