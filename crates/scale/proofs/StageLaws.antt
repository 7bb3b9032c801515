-- Stages are numbers in a row. Assumes nothing.
use Rattle.std.proofs.Common.{◌≡◌, ℕ, ◌<◌, ℤ, pos, negsuc, ◌≤ℤ◌, ◌<ℤ◌, refl, ap, arith}
use Rattle.std.proofs.lemmas.Int.{ints}
use Rattle.std.proofs.lemmas.Bool.Decides.{nat_tests}
use Rattle.scale.specs.declared.stages.Stage.{Stage}
use Rattle.scale.specs.declared.stages.Stage.TheVariants.{Off}
use Rattle.scale.specs.Stages.{stage_code, stage_at, stage_number, stage_of, stages}
use Rattle.scale.specs.Leaning.{InRow}

code_below : (m : Stage) → stage_code m < 5
code_below m = grind arith

code_at : (n : ℕ) → n < 5 → stage_code (stage_at n) ≡ n
code_at n h = grind (arith, nat_tests)

number_of : (z : ℤ) → pos 0 ≤ℤ z → z <ℤ pos 5 → stage_number (stage_of z) ≡ z
number_of (pos n) low high = ap pos (code_at n (omega (arith, ints)))
number_of (negsuc n) low high = absurd (omega (arith, ints))

pub in_row : InRow stage_code stage_number stages stage_of Off
in_row = record {
  link = λ m. omega (arith, ints);
  inside = λ m. omega (arith, ints, code_below m);
  short = omega (arith, ints);
  marked = number_of;
  rests = refl;
  rest_number = refl;
}
