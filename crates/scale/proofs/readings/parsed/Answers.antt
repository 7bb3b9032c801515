use Rattle.std.proofs.Common.{◌≡◌, Some, Ok, IsUtf8, sym, ap, ◌∙◌, subst, arith, w32, rules}
use Rattle.std.proofs.lemmas.Fmt.{IsAscii-signed, parse-signed_decimal}
use Rattle.std.proofs.lemmas.Int.{to_z-of_z}
use Rattle.std.proofs.lemmas.Str.{IsUtf8-from_ascii}
use Rattle.scale.specs.declared.values.Reading.{Reading}
use Rattle.scale.specs.Readings.{reading_text}
use Rattle.scale.specs.ReadingLaws.{same_reading}
use Rattle.scale.proofs.readings.parsed.Goals as goal
use Rattle.scale.proofs.readings.parsed.Goals.{After-parse}

-- a text that some reading has is parsed as that reading's number
back : (c : After-parse) (m : Reading) → reading_text m ≡ c.args.run.now → c.parse.result ≡ Ok m.value
back c m e =
    parse-signed_decimal w32 m.value c.in-Ok.digits.now _ (record { sfits = m.fits }) (omega (arith, m.fits)) (c.in-Ok.ensures.cases.0 ∙ sym e) c.parse.ensures.value.0

pub returns-in_default : goal.returns-in_default
returns-in_default c = λ m e. absurd (c.in_default.ensures.cases.0 (subst IsUtf8 e (IsUtf8-from_ascii (reading_text m) (IsAscii-signed m.value (omega (arith, m.fits))))))

pub returns-in_default-parse : goal.returns-in_default-parse
returns-in_default-parse c = λ m e. absurd (c.in_default-parse.not-Ok m.value (back (goal.at.returns-in_default-parse c).After-parse m e))

pub returns : goal.returns
returns c = λ m e.
    let read : Ok c.in-Ok-parse.number ≡ Ok m.value = sym c.in-Ok-parse.is ∙ back (goal.at.returns c).After-parse m e in
    let number : c.in-Ok-parse.number ≡ m.value = cc in
    ap Some (same_reading c.new.result m (c.new.ensures.value ∙ to_z-of_z w32 c.in-Ok-parse.number (search rules) ∙ number))
