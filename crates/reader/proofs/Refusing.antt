-- A text that has a fault is refused with it.
use Rattle.std.proofs.Common.{ℕ, ◌<◌, ◌≤◌, ◌⊎◌, List, length, sym, ap, inl, inr, ⊎_elim, arith}
use Rattle.std.proofs.lemmas.Bool.{cases_lt}
use Rattle.scale.specs.declared.faults.ScaleFault.TheVariants.{Unread, NoMark}
use Rattle.text.specs.declared.faults.TextFault.{TextFault}
use Rattle.text.specs.declared.faults.TextFault.TheVariants.{Length, Form, Brackets, Parts, Scale}
use Rattle.text.specs.Faults.{text_number}
use Rattle.reader.specs.Blame.{Blamed, BlamedOnly}
use Rattle.reader.specs.Sayings.{Refuses, Sized}

sized_or : (text : List ℕ) → Sized text ⊎ (Sized text → ⊥)
sized_or text =
    ⊎_elim
    (λ (h : 0 < length text).
    ⊎_elim
    (λ (k : 512 < length text). inr (λ s. omega (arith, k, s.short)))
    (λ (k : length text ≤ 512). inl (record { some = omega (arith, h); short = k }))
    (cases_lt 512 (length text)))
    (λ (h : length text ≤ 0). inr (λ s. omega (arith, h, s.some)))
    (cases_lt 0 (length text))

-- else its length would be the first fault
sized_of : {S : Type 0} (written : S → List ℕ) (text : List ℕ) (e : TextFault) → 2 ≤ text_number e → Blamed written text e → Sized text
sized_of written text e high b =
    ⊎_elim
    (λ s. s)
    (λ (none : Sized text → ⊥). absurd (⊎_elim (λ h. omega (arith, h)) (λ h. omega (arith, h.1, high)) (b.first Length none)))
    (sized_or text)

refuses : {S : Type 0} (code : S → ℕ) (written : S → List ℕ) (text : List ℕ) (e : TextFault) → Blamed written text e → Refuses code written text e
refuses code written text Length b = b.faulty
refuses code written text (Form at) b = (sized_of written text (Form at) (omega arith) b, b.faulty.within)
refuses code written text (Brackets at) b = (sized_of written text (Brackets at) (omega arith) b, (b.faulty.within, b.faulty.opens))
refuses code written text (Parts at) b = (sized_of written text (Parts at) (omega arith) b, b.faulty.within)
refuses code written text (Scale (Unread at)) b =
    let u = b.faulty in (
      sized_of written text (Scale (Unread at)) (omega arith) b,
      record { run = u.run; blamed = ap (λ (n : ℕ). Unread n) (sym u.starts); runs = u.runs; unnamed = u.unnamed; unwritten = u.unwritten },
    )
refuses code written text (Scale NoMark) b = absurd b.faulty

pub blamed_refuses : {S : Type 0} (code : S → ℕ) (written : S → List ℕ) (text : List ℕ) (e : TextFault) → BlamedOnly written text e → Refuses code written text e
blamed_refuses code written text e b = refuses code written text e b.blamed
