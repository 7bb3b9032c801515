-- The order of cuts, and the marks between two of them. Assumes nothing.
use Rattle.std.specs.Prelude.{ℕ, ◌+◌, ◌*◌, ◌^◌, ◌≤◌, Some, None, Option}
use Rattle.scale.specs.declared.cuts.Cut.{Cut}
use Rattle.scale.specs.declared.cuts.Cut.TheVariants.{LowerEnd, Below, Above, UpperEnd}

module _ {S : Type 0} (rank : S → ℕ) where
  -- one number for each cut, in the order of the cuts: the ends are first and last, and below m, above m and
  -- below the next mark follow each other
  abbrev pub place : Cut S → ℕ
  place LowerEnd = 0
  place (Below m) = 2 * rank m + 1
  place (Above m) = 2 * rank m + 2
  place UpperEnd = 2 ^ 33 + 1

  -- m lies between the cuts l and u
  abbrev pub Between : Cut S → Cut S → S → Type 0
  Between l u m = (place l ≤ place (Below m)) × (place (Above m) ≤ place u)

  -- o is a mark between l and u, or none where there is none
  abbrev pub Picks : Cut S → Cut S → Option S → Type 0
  Picks l u None = (m : S) → Between l u m → ⊥
  Picks l u (Some m) = Between l u m
