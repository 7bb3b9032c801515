use Rattle.std.proofs.Common.{◌≡◌, ℕ, [], ◌∷◌, sym, ap, ◌∙◌, subst, inl, inr, arith, rules}
use Rattle.std.proofs.lemmas.Result.{err_from_is_err_and}
use Rattle.reader.specs.Cursors.{Operatorless, Passes}
use Rattle.reader.specs.Spellings.{first_of}
use Rattle.reader.proofs.Halted.{operatorless_blames, operatorless_missing}
use Rattle.reader.proofs.Passing.{meeting}
use Rattle.reader.proofs.Refused.{known_refused}
use Rattle.reader.proofs.readers.Cursor.binary_operator.Goals as goal

pub returns-in_default : goal.returns-in_default
returns-in_default c =
    let end = c.in_default.ensures in
    let a = c.args.self.now in
    let e = c.misfit.result in
    let none : Operatorless a e = inl (record { blamed = search rules; none = λ op h. omega (arith, end, h.0) }) in
    record { missing = (operatorless_blames a e none, operatorless_missing a e none); read = none }

pub returns-in_default-begun_operator : goal.returns-in_default-begun_operator
returns-in_default-begun_operator c =
    let here = c.in-Some.ensures in
    let other = c.in_default-begun_operator.ensures in
    let a = c.args.self.now in
    let e = c.misfit-in_default-begun_operator.result in
    let none : Operatorless a e = inl (record { blamed = search rules; none = λ op h. other op (sym h.1 ∙ here.1) }) in
    record { missing = (operatorless_blames a e none, operatorless_missing a e none); read = none }

pub returns-in_err-meet : goal.returns-in_err-meet
returns-in_err-meet c =
    let p = err_from_is_err_and c.from_residual.result c.from_residual.ensures.1 in
    let full = c.in_err-meet.ensures in
    let here = c.in-Some.ensures in
    let op = c.in-Some-begun_operator.operator in
    let a = c.args.self.now in
    let none : Operatorless a p.0 =
    inr (inl (record { blamed = p.2 ∙ full.0; full = full.1; op = op; begins = (here.0, here.1 ∙ sym c.in-Some-begun_operator.ensures) })) in
    record {
      missing = known_refused c.from_residual.result p.0 _ _ p.1 (operatorless_blames a p.0 none, operatorless_missing a p.0 none);
      read = known_refused c.from_residual.result p.0 _ _ p.1 none;
    }

pub returns-in_err-expect : goal.returns-in_err-expect
returns-in_err-expect c =
    let p = err_from_is_err_and c.from_residual-in_err-expect.result c.from_residual-in_err-expect.ensures.1 in
    let met = c.in_ok-meet.ensures in
    let other = c.in_err-expect.ensures in
    let byte : c.in-Some.byte ≡ 61 = sym c.in-Some-begun_operator.ensures ∙ ap first_of c.in-Implies.is in
    let a = c.args.self.now in
    let d = c.pass.new.self in
    let read : Passes a d (61 ∷ []) 1 = subst (λ (x : ℕ). Passes a d (x ∷ []) 1) byte (meeting met c.pass.ensures) in
    let none : Operatorless a p.0 = inr (inr (record { next = d; blamed = p.2 ∙ other.0; read = read; none = other.1 })) in
    record {
      missing = known_refused c.from_residual-in_err-expect.result p.0 _ _ p.1 (operatorless_blames a p.0 none, operatorless_missing a p.0 none);
      read = known_refused c.from_residual-in_err-expect.result p.0 _ _ p.1 none;
    }
