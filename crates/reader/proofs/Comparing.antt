-- Where the reading of a comparison halts.
use Rattle.std.proofs.Common.{◌≡◌, ℕ, ◌+◌, ◌<◌, ◌≤◌, List, [], ◌∷◌, ◌++◌, length, get_or, sym, refl, subst, append_assoc, arith}
use Rattle.scale.specs.Marks.{RunByte}
use Rattle.formula.specs.declared.parts.Comparator.{Comparator}
use Rattle.formula.specs.declared.parts.Comparator.TheVariants.{Less, Greater, AtMost, AtLeast}
use Rattle.text.specs.declared.faults.TextFault.{TextFault}
use Rattle.text.specs.declared.faults.TextFault.TheVariants.{Form, Parts}
use Rattle.reader.specs.declared.readers.Cursor.{Cursor}
use Rattle.reader.specs.Cursors.{Ahead, Digit, Passes}
use Rattle.reader.specs.Halts.{Halts, last_of}
use Rattle.reader.specs.Spellings.{comparator_text, decimal}
use Rattle.reader.specs.Fronts.{NoFront}
use Rattle.reader.proofs.Alike.{alike_ahead, before}
use Rattle.reader.proofs.Begins.{begun_letter, begun_number, begun_sign}
use Rattle.reader.proofs.Halting.{halts_form, halts_parts, stays}
use Rattle.reader.proofs.Missing.{no_number, no_operand, no_sign}
use Rattle.reader.proofs.Passing.{then}
use Rattle.reader.proofs.Walks.{Clear, clear_met, clear_none, clear_number, clear_sign, clear_then}

-- no part is left for it
pub halts_unmet : (a : Cursor) (left : ℕ) (e : TextFault) → Ahead a 99 → e ≡ Parts a.at → a.met ≡ 24 → Halts a left e
halts_unmet a left e here is full = halts_parts a a [] 0 left left a.met 99 e (stays a) (clear_none left a.met 40) full is here begun_letter refl

letter : (a b : Cursor) (left : ℕ) → Passes a b (99 ∷ []) 1 → Clear left a.met 40 (99 ∷ []) left (a.met + 1)
letter a b left p = clear_met left a.met 40 99 (omega (arith, p.counts, b.counted)) (λ e. omega arith) (λ e. omega arith) refl

pub halts_number : (a b : Cursor) (left : ℕ) (e : TextFault) → Passes a b (99 ∷ []) 1 → e ≡ Form b.at → ((d : ℕ) → Digit d → Ahead b d → ⊥) → Halts a left e
halts_number a b left e p is none =
    halts_form a b (99 ∷ []) 1 left e p (letter a b left p).within is begun_letter
    (λ w same. no_number (before w) (λ d digit ahead. none d digit (alike_ahead b w d same ahead)))

-- what stands behind the number
abbrev Numbered : Cursor → ℕ → Type 0
Numbered c num = num ≡ 1 → (d : ℕ) → 48 ≤ d → d ≤ 53 → Ahead c d → ⊥

numbered_alike : (c : Cursor) (num : ℕ) (w : List ℕ) → Numbered c num → ((x : ℕ) → Ahead (before w) x → Ahead c x) → Numbered (before w) num
numbered_alike c num w stop same one d low high ahead = stop one d low high (same d ahead)

named : (a b c : Cursor) (left num : ℕ) → num < 16 → Passes a b (99 ∷ []) 1 → Clear left a.met 40 (99 ∷ decimal num) left (a.met + 1)
named a b c left num low p = clear_then (99 ∷ []) (decimal num) (letter a b left p) (clear_number left (a.met + 1) 99 num low)

pub halts_sign : (a b c : Cursor) (left num : ℕ) (e : TextFault) → Passes a b (99 ∷ []) 1 → num < 16 → Passes b c (decimal num) 0 → Numbered c num → e ≡ Form c.at → (Ahead c 60 → ⊥) → (Ahead c 62 → ⊥) → Halts a left e
halts_sign a b c left num e p low q stop is less greater =
    halts_form a c (99 ∷ decimal num) (1 + 0) left e (then p q) (named a b c left num low p).within is (begun_number num low)
    (λ w same.
    no_sign (before (decimal num ++ w)) (before w) num low refl (numbered_alike c num w stop (λ x. alike_ahead c w x same)) (λ h. less (alike_ahead c w 60 same h)) (λ h. greater (alike_ahead c w 62 same h)))

-- a comparator begins with no digit
sign_high : (v : Comparator) (w : List ℕ) (x : ℕ) → x ≤ 53 → get_or (comparator_text v ++ w) 0 0 ≡ x → ⊥
sign_high Less w x high e = omega arith
sign_high Greater w x high e = omega arith
sign_high AtMost w x high e = omega arith
sign_high AtLeast w x high e = omega arith

pub halts_operand : (a b c d : Cursor) (left num : ℕ) (v : Comparator) (e : TextFault) → Passes a b (99 ∷ []) 1 → num < 16 → Passes b c (decimal num) 0 → Numbered c num → Passes c d (comparator_text v) 0 → (length (comparator_text v) ≡ 1 → Ahead d 61 → ⊥) → e ≡ Form d.at → ((x : ℕ) → RunByte x → Ahead d x → ⊥) → Halts a left e
halts_operand a b c d left num v e p low q stop s short is none =
    let x = 99 ∷ (decimal num ++ comparator_text v) in
    let clear : Clear left a.met 40 x left (a.met + 1) =
    clear_then (99 ∷ decimal num) (comparator_text v) (named a b c left num low p) (clear_sign left (a.met + 1) (last_of 40 (99 ∷ decimal num)) v) in
    halts_form a d x (1 + 0 + 0) left e (then (then p q) s) clear.within is (begun_sign num v low)
    (λ w same.
    subst (λ (l : List ℕ). NoFront (99 ∷ l)) (sym (append_assoc (decimal num) (comparator_text v) w))
    (no_operand (before (decimal num ++ (comparator_text v ++ w))) (before (comparator_text v ++ w)) (before w) num v low refl (λ one x low' high h. sign_high v w x high h.1) refl (λ one h. short one (alike_ahead d w 61 same h)) (λ y run h. none y run (alike_ahead d w y same h))))
