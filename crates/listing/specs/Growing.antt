-- How a listing grows while it is made: each step is put behind what stands. Assumes nothing.
use Rattle.std.specs.Prelude.{ℕ, true, false, cond, List, [], ◌∷◌, codes, decimal}
use Rattle.scale.specs.declared.cuts.Cut.{Cut}
use Rattle.scale.specs.declared.cuts.Cut.TheVariants.{LowerEnd, Below, Above, UpperEnd}
use Rattle.domain.specs.declared.sides.Interval.{Interval}
use Rattle.domain.specs.Added.{Boxes, Sides}
use Rattle.listing.specs.Held.{State, behind}
use Rattle.listing.specs.Listings.{names}

-- a comma, where a comparison stands on the line already
abbrev pub separated : State → List ℕ
separated s = cond s.1 (behind s.0 (codes ",")) s.0

-- the end of a line, which says `any` where no comparison stands on it
abbrev pub ended : State → State
ended s = (behind (cond s.1 s.0 (behind s.0 (codes "any"))) (codes "\n"), false)

-- the heading of this many boxes
abbrev pub headed : List ℕ → ℕ → List ℕ
headed t count = behind (behind (behind t (codes "boxes ")) (decimal count)) (codes "\n")

module _ {S : Type 0} (text : S → List ℕ) where
  abbrev pub compared : State → List ℕ → List ℕ → S → State
  compared s name sign m = (behind (behind (behind (separated s) name) sign) (text m), true)

  -- a comparison with a cut's mark, by one sign where the cut is below it and another where it is above; an end adds nothing
  abbrev pub bounded : List ℕ → List ℕ → State → List ℕ → Cut S → State
  bounded below above s name (Below m) = compared s name below m
  bounded below above s name (Above m) = compared s name above m
  bounded below above s name LowerEnd = s
  bounded below above s name UpperEnd = s

  abbrev pub lowered : State → List ℕ → Cut S → State
  lowered = bounded (codes ">=") (codes ">")

  abbrev pub uppered : State → List ℕ → Cut S → State
  uppered = bounded (codes "<") (codes "<=")

  abbrev pub sided : State → List ℕ → Interval S → State
  sided s name i = uppered (lowered s name i.lower) name i.upper

  abbrev pub boxed : State → List (List ℕ) → Sides S → State
  boxed s [] is = s
  boxed s (n ∷ ns) [] = s
  boxed s (n ∷ ns) (i ∷ is) = boxed (sided s n i) ns is

  -- a line for each box
  abbrev pub lined : State → Boxes S → State
  lined s [] = s
  lined s (b ∷ bs) = lined (ended (boxed s names b)) bs
