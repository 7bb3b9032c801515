-- Readings are told apart by their numbers, codes and texts. Assumes nothing.
use Rattle.std.specs.Prelude.{◌≡◌, ℕ, zero, suc, ◌+◌, ◌%◌, ◌^◌, ◌<◌, ◌≤◌, ◌⊎◌, ℤ, pos, negsuc, ◌+ℤ◌, Some, None, decimal, FitsSigned, refl}
use Rattle.std.proofs.Common.{sym, ap, subst, ◌∙◌, inl, inr, ⊎_elim, arith, of_z, to_z}
use mathlib.Core.HLevel.{is_prop→PathP}
use Rattle.std.proofs.Math.Bridge.{le_prop}
use Rattle.std.specs.Int.Signed.{mag}
use Rattle.std.specs.Int.{w32}
use Rattle.std.specs.Fmt.{signed_decimal}
use Rattle.std.specs.List.{AllByRecursion}
use Rattle.std.proofs.lemmas.Fmt.{signed_decimal_injective, decimal_nonempty, length_signed_le, decimal_by_steps}
use Rattle.std.proofs.ByRecursion.{All-push}
use Rattle.std.proofs.lemmas.Bool.Decides.{nat_tests}
use Rattle.std.proofs.lemmas.Int.{to_z-of_z, of_z-to_z, ints}
use Rattle.scale.specs.declared.values.Reading.{Reading}
use Rattle.scale.specs.Marks.{Names, RunByte, RunText}
use Rattle.scale.specs.Leaning.{InRow}
use Rattle.scale.specs.Readings.{held, value_of, readings, above_least, reading_rank, reading_code, reading_named, reading_text}

below_or_not : (a b : ℕ) → (a < b) ⊎ (b ≤ a)
below_or_not a zero = inr (omega arith)
below_or_not zero (suc b) = inl (omega arith)
below_or_not (suc a) (suc b) = elim (below_or_not a b) [ inl h ↦ inl (omega arith) | inr h ↦ inr (omega arith) ]

pub same_reading : (m n : Reading) → m.value ≡ n.value → m ≡ n
same_reading m n e = λ i. record { value = e i; fits = is_prop→PathP (λ j. mag (e j) < 2 ^ 31) (λ j. le_prop) m.fits n.fits i }

pub held_value : (z : ℤ) → mag z < 2 ^ 31 → (held z).value ≡ z
held_value (pos n) h = ap pos (omega arith)
held_value (negsuc n) h = ap negsuc (omega arith)

pub held_same : (m : Reading) (z : ℤ) → m.value ≡ z → held z ≡ m
held_same m z e = same_reading (held z) m (held_value z (subst (λ y. mag y < 2 ^ 31) e m.fits) ∙ sym e)

same_height : (y z : ℤ) → mag y < 2 ^ 31 → mag z < 2 ^ 31 → above_least y ≡ above_least z → y ≡ z
same_height (pos a) (pos b) f g e = ap pos (omega arith)
same_height (pos a) (negsuc b) f g e = absurd (omega arith)
same_height (negsuc a) (pos b) f g e = absurd (omega arith)
same_height (negsuc a) (negsuc b) f g e = ap negsuc (omega arith)

pub reading_ranks_apart : (m n : Reading) → reading_rank m ≡ reading_rank n → m ≡ n
reading_ranks_apart m n e = same_reading m n (same_height m.value n.value m.fits n.fits e)

pub reading_texts_apart : (m n : Reading) → reading_text m ≡ reading_text n → m ≡ n
reading_texts_apart m n e = same_reading m n (signed_decimal_injective m.value n.value (omega (arith, m.fits)) (omega (arith, n.fits)) e)

fits_32 : (m : Reading) → FitsSigned w32 m.value
fits_32 m = record { sfits = m.fits }

-- the number of a code of 32 bits is a reading's
pub code_fits : (n : ℕ) → n < 2 ^ 32 → mag (to_z w32 n) < 2 ^ 31
code_fits n h = grind (arith, ints)

pub named_in : (n : ℕ) → n < 2 ^ 32 → reading_named n ≡ Some (held (to_z w32 n))
named_in n h = grind (arith, nat_tests)

named_out : (n : ℕ) → 2 ^ 32 ≤ n → reading_named n ≡ None
named_out n h = grind (arith, nat_tests)

code_of_named : (n : ℕ) (m : Reading) → n < 2 ^ 32 → reading_named n ≡ Some m → reading_code m ≡ n
code_of_named n m h e =
    let same : Some (held (to_z w32 n)) ≡ Some m = sym (named_in n h) ∙ e in
    let is : held (to_z w32 n) ≡ m = cc in
    ap reading_code (sym is) ∙ ap (of_z w32) (held_value (to_z w32 n) (code_fits n h)) ∙ of_z-to_z w32 n h

pub reading_codes_name : Names reading_code reading_named
reading_codes_name = record {
  found = λ m. named_in (reading_code m) (grind (arith, ints)) ∙ ap Some (held_same m (to_z w32 (reading_code m)) (sym (to_z-of_z w32 m.value (fits_32 m))));
  true_to = λ n m e. ⊎_elim (λ h. code_of_named n m h e) (λ h. let never : None ≡ Some m = sym (named_out n h) ∙ e in let z : ◌≡◌ {A = ℕ} 0 1 = cc in absurd (omega arith)) (below_or_not n (2 ^ 32));
}

digit_byte : (n : ℕ) → n < 10 → RunByte (48 + n)
digit_byte n h = inr (inl (omega arith, omega arith))

digit_bytes : (n : ℕ) → n < 2 ^ 64 → AllByRecursion RunByte (decimal n)
digit_bytes n h =
    decimal_by_steps (λ _ ds. AllByRecursion RunByte ds) (λ n h. (digit_byte n h, tt)) (λ n ds ten more. All-push RunByte ds (48 + n % 10) more (digit_byte (n % 10) (omega arith))) n h

run_text : (z : ℤ) → mag z < 2 ^ 31 → RunText (signed_decimal z)
run_text (pos n) h = record {
  some = decimal_nonempty n (omega arith);
  short = omega (arith, length_signed_le 10 (pos n) (omega arith) (omega arith));
  runs = digit_bytes n (omega arith);
}
run_text (negsuc n) h = record {
  some = omega arith;
  short = omega (arith, length_signed_le 10 (negsuc n) (omega arith) (omega arith));
  runs = (inr (inr refl), digit_bytes (suc n) (omega arith));
}

pub reading_texts_run : (m : Reading) → RunText (reading_text m)
reading_texts_run m = run_text m.value m.fits

height : (z : ℤ) → mag z < 2 ^ 31 → z ≡ readings.least +ℤ pos (above_least z)
height (pos n) h = omega (arith, ints)
height (negsuc n) h = omega (arith, ints)

-- readings are numbers in a row
pub in_row : InRow reading_rank value_of readings held (held (pos 0))
in_row = record {
  link = λ m. height m.value m.fits;
  inside = λ m. omega (arith, ints, m.fits);
  short = omega (arith, ints);
  marked = λ z low high. held_value z (grind (arith, ints));
  rests = refl;
  rest_number = refl;
}
