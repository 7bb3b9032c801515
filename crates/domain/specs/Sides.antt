-- One side of a box: the cuts that bound one limit. Assumes nothing.
use Rattle.std.specs.Prelude.{ℕ, Bool, cond, ◌&&◌, nat_le, nat_lt}
use Rattle.scale.specs.declared.cuts.Cut.{Cut}
use Rattle.scale.specs.declared.cuts.Cut.TheVariants.{LowerEnd, UpperEnd}
use Rattle.scale.specs.Cuts.{place}
use Rattle.domain.specs.declared.sides.Interval.{Interval}

abbrev pub full_side : {S : Type 0} → Interval S
full_side = record { lower = LowerEnd; upper = UpperEnd }

module _ {S : Type 0} (rank : S → ℕ) where
  abbrev pub later_cut : Cut S → Cut S → Cut S
  later_cut a b = cond (nat_lt (place rank a) (place rank b)) b a

  abbrev pub earlier_cut : Cut S → Cut S → Cut S
  earlier_cut a b = cond (nat_lt (place rank b) (place rank a)) b a

  -- the lower cut is not before the upper one
  abbrev pub empty_side : Interval S → Bool
  empty_side i = nat_le (place rank i.upper) (place rank i.lower)

  -- i reaches at least as far as j, both ways
  abbrev pub contains_side : Interval S → Interval S → Bool
  contains_side i j = nat_le (place rank i.lower) (place rank j.lower) && nat_le (place rank j.upper) (place rank i.upper)

  -- the later lower cut and the earlier upper one
  abbrev pub overlap_side : Interval S → Interval S → Interval S
  overlap_side i j = record { lower = later_cut i.lower j.lower; upper = earlier_cut i.upper j.upper }
