use Rattle.std.proofs.Common.{◌≡◌, ℕ, List, sym, ap, ◌∙◌, subst, Bor, rules}
use Rattle.std.proofs.lemmas.Result.{err_from_is_err_and}
use Rattle.reader.specs.Halts.{halt}
use Rattle.reader.specs.Reads.{Stands}
use Rattle.reader.proofs.Compared.{compared}
use Rattle.reader.proofs.Comparing.{halts_number, halts_operand, halts_sign, halts_unmet}
use Rattle.reader.proofs.Drawing.{drawn_more}
use Rattle.reader.proofs.Halted.{stopped_each}
use Rattle.reader.proofs.Halting.{refused_as}
use Rattle.reader.proofs.Passing.{meeting, then}
use Rattle.reader.proofs.Telling.{tells_form, tells_letter, tells_name, tells_none, tells_operand, tells_sign, tells_then, tells_to, told_refused}
use Rattle.reader.proofs.readers.Cursor.comparison.Goals as goal

pub returns : goal.returns
returns c =
    let name = c.in_ok-channel.ensures in
    let sign = c.in_ok-comparator.ensures in
    let operand = c.in_ok-operand.ensures in
    let met = c.in_ok-meet.ensures in
    let front = then (meeting met c.pass.ensures) name.1 in
    let text : c.comparator.new.self.text.now ≡ c.args.self.now.text.now =
    sign.0.same ∙ (name.1.same ∙ (c.pass.ensures.same ∙ ap (λ (t : Bor (List ℕ)). t.now) met.same)) in
    let stands = subst (λ (t : List ℕ). Stands t c.in_ok-operand.operand) text operand.0 in
    record {
      drawn = drawn_more _ _ _ _ c.append.ensures.items stands;
      halts = tt;
      blames = tt;
      missing = tt;
      told = λ behind.
          tells_then
          (tells_then (tells_name c.in_ok-channel.channel _ name.0 behind front) (tells_sign c.args.self.now.text.now _ c.in_ok-comparator.comparator front.same sign.0))
          (tells_operand c.args.self.now.text.now c.in_ok-channel.channel c.in_ok-comparator.comparator c.in_ok-operand.operand _ _ front.same sign.0 operand.3 c.append.ensures.items);
      read =
          compared _ _ _ _ _ _ _ _ _ _ _ _ met c.pass.ensures name.0 name.1 sign.0 operand.0 operand.1 operand.2 c.append.ensures.items c.append.ensures.value;
    }

pub returns-in_err-channel : goal.returns-in_err-channel
returns-in_err-channel c =
    let a = c.args.self.now in
    let b = c.pass.new.self in
    let letter = meeting c.in_ok-meet.ensures c.pass.ensures in
    let none = c.in_err-channel.ensures in
    let p = err_from_is_err_and c.from_residual-in_err-channel.result c.from_residual-in_err-channel.ensures.1 in
    let stop = stopped_each c.from_residual-in_err-channel.result a
    (refused_as c.from_residual-in_err-channel.result c.in_err-channel.field-0.0 p.0 _ p.1 p.2
    (λ k. halts_number a b k _ letter none.0 none.1)) in
    record {
      drawn = search rules;
      halts = stop.halts;
      blames = stop.blames;
      missing = stop.missing;
      told = told_refused c.from_residual-in_err-channel.result c.in_err-channel.field-0.0 p.0 a _ _ _ p.1 p.2 (λ behind. tells_form _ b.at none.0 (tells_letter _ behind letter));
      read = search rules;
    }

pub returns-in_err-comparator : goal.returns-in_err-comparator
returns-in_err-comparator c =
    let a = c.args.self.now in
    let b = c.pass.new.self in
    let letter = meeting c.in_ok-meet.ensures c.pass.ensures in
    let name = c.in_ok-channel.ensures in
    let none = c.in_err-comparator.ensures in
    let p = err_from_is_err_and c.from_residual-in_err-comparator.result c.from_residual-in_err-comparator.ensures.1 in
    let stop = stopped_each c.from_residual-in_err-comparator.result a
    (refused_as c.from_residual-in_err-comparator.result c.in_err-comparator.field-0.0 p.0 _ p.1 p.2
    (λ k. halts_sign a b c.channel_number.new.self k _ _ letter name.0 name.1 name.2 none.0 none.1 none.2)) in
    record {
      drawn = search rules;
      halts = stop.halts;
      blames = stop.blames;
      missing = stop.missing;
      told = told_refused c.from_residual-in_err-comparator.result c.in_err-comparator.field-0.0 p.0 a _ _ _ p.1 p.2 (λ behind. tells_form _ _ none.0 (tells_name _ _ name.0 behind (then letter name.1)));
      read = search rules;
    }

pub returns-in_err-operand : goal.returns-in_err-operand
returns-in_err-operand c =
    let a = c.args.self.now in
    let b = c.pass.new.self in
    let letter = meeting c.in_ok-meet.ensures c.pass.ensures in
    let name = c.in_ok-channel.ensures in
    let sign = c.in_ok-comparator.ensures in
    let none = c.in_err-operand.ensures in
    let p = err_from_is_err_and c.from_residual-in_err-operand.result c.from_residual-in_err-operand.ensures.1 in
    let stop = stopped_each c.from_residual-in_err-operand.result a
    (refused_as c.from_residual-in_err-operand.result c.in_err-operand.field-0.0 p.0 _ p.1 p.2
    (λ k. halts_operand a b c.channel_number.new.self c.comparator.new.self k _ _ _ letter name.0 name.1 name.2 sign.0 sign.1 none.0 none.1)) in
    record {
      drawn = search rules;
      halts = stop.halts;
      blames = stop.blames;
      missing = stop.missing;
      told = told_refused c.from_residual-in_err-operand.result c.in_err-operand.field-0.0 p.0 a _ _ _ p.1 p.2 (λ behind. tells_form _ _ none.0 (tells_then (tells_name _ _ name.0 behind (then letter name.1)) (tells_sign a.text.now _ c.in_ok-comparator.comparator (name.1.same ∙ letter.same) sign.0)));
      read = search rules;
    }

pub returns-in_err-meet : goal.returns-in_err-meet
returns-in_err-meet c =
    let a = c.args.self.now in
    let none = c.in_err-meet.ensures in
    let p = err_from_is_err_and c.from_residual.result c.from_residual.ensures.1 in
    let stop = stopped_each c.from_residual.result a
    (refused_as c.from_residual.result c.in_err-meet.field-0.0 p.0 _ p.1 p.2
    (λ k. halts_unmet a k _ c.requires.ahead none.0 none.1)) in
    record {
      drawn = search rules;
      halts = stop.halts;
      blames = stop.blames;
      missing = stop.missing;
      told = told_refused c.from_residual.result c.in_err-meet.field-0.0 p.0 a _ _ _ p.1 p.2 (λ behind. tells_to (sym (ap halt none.0)) (tells_none a.text.now a.at _));
      read = search rules;
    }
