-- What a comparison says of a limit, or of two marks. Assumes nothing.
use Rattle.std.specs.Prelude.{ℕ, Bool, nat_le, nat_lt}
use Rattle.scale.specs.declared.cuts.Cut.TheVariants.{LowerEnd, Below, Above, UpperEnd}
use Rattle.formula.specs.declared.parts.Comparator.{Comparator}
use Rattle.formula.specs.declared.parts.Comparator.TheVariants.{Less, Greater, AtMost, AtLeast}
use Rattle.domain.specs.declared.sides.Interval.{Interval}

-- the limits x for which mark m compares so with x
abbrev pub side_of : {S : Type 0} → Comparator → S → Interval S
side_of Less m = record { lower = Above m; upper = UpperEnd }
side_of Greater m = record { lower = LowerEnd; upper = Below m }
side_of AtMost m = record { lower = Below m; upper = UpperEnd }
side_of AtLeast m = record { lower = LowerEnd; upper = Above m }

-- whether mark m compares so with mark n
abbrev pub meets : {S : Type 0} → (S → ℕ) → S → Comparator → S → Bool
meets rank m Less n = nat_lt (rank m) (rank n)
meets rank m Greater n = nat_lt (rank n) (rank m)
meets rank m AtMost n = nat_le (rank m) (rank n)
meets rank m AtLeast n = nat_le (rank n) (rank m)
