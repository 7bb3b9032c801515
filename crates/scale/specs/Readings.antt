-- Readings: the signed 32-bit whole numbers. Assumes nothing.
use Rattle.std.specs.Prelude.{ℕ, suc, ◌+◌, ◌-◌, ◌^◌, ◌<◌, cond, List, ℤ, pos, negsuc, Some, None, Option, nat_lt}
use Rattle.std.proofs.Common.{arith, of_z, to_z}
use Rattle.std.specs.Int.Signed.{mag}
use Rattle.std.specs.Int.{saturate_to_bits, w32}
use Rattle.std.specs.Option.{option_map}
use Rattle.std.specs.Fmt.{signed_decimal}
use Rattle.scale.specs.declared.cuts.Cut.{Cut}
use Rattle.scale.specs.declared.numbered.Row.{Row}
use Rattle.scale.specs.declared.values.Reading.{Reading}
use Rattle.scale.specs.Numbered.{picked_number}

pub saturated_fits : (z : ℤ) → mag (saturate_to_bits 31 z) < 2 ^ 31
saturated_fits (pos n) = omega arith
saturated_fits (negsuc n) = omega arith

-- a number held to the range of a reading
abbrev pub held : ℤ → Reading
held z = record { value = saturate_to_bits 31 z; fits = saturated_fits z }

abbrev pub value_of : Reading → ℤ
value_of m = m.value

-- how far above the least number
abbrev pub above_least : ℤ → ℕ
above_least (pos n) = 2 ^ 31 + n
above_least (negsuc n) = 2 ^ 31 - suc n

abbrev pub reading_rank : Reading → ℕ
reading_rank m = above_least m.value

-- two's complement
abbrev pub reading_code : Reading → ℕ
reading_code m = of_z w32 m.value

abbrev pub reading_named : ℕ → Option Reading
reading_named n = cond (nat_lt n (2 ^ 32)) (Some (held (to_z w32 n))) None

-- decimal, with a minus where needed
abbrev pub reading_text : Reading → List ℕ
reading_text m = signed_decimal m.value

abbrev pub readings : Row
readings = record { least = negsuc (2 ^ 31 - 1); past = pos (2 ^ 31); rest = pos 0 }

abbrev pub reading_picked : Cut Reading → Cut Reading → Option Reading
reading_picked l u = option_map held (picked_number value_of readings l u)
