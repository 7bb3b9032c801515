use Rattle.std.proofs.Common.{◌≡◌, ℕ, List, sym, refl, ap, ◌∙◌, subst, ⊎_elim, arith, Bor, rules}
use Rattle.std.proofs.lemmas.Result.{err_from_is_err_and}
use Rattle.reader.specs.Cursors.{Passes}
use Rattle.reader.specs.Halts.{halt}
use Rattle.reader.proofs.Composed.{unary_read, binary_read}
use Rattle.reader.proofs.Drawing.{drawn_more, drawn_in}
use Rattle.reader.proofs.Halted.{halts_blames, halts_missing, stopped}
use Rattle.reader.proofs.Halting.{each_refused, refused_as}
use Rattle.reader.proofs.Numbering.{grown, topped}
use Rattle.reader.proofs.Passing.{meeting}
use Rattle.reader.proofs.Stopping.{behind, halts_end, halts_left_close, halts_left_inside, halts_operator, halts_right_close, halts_right_inside, halts_right_open, halts_start, halts_unary_close, halts_unary_inside, halts_unary_open, halts_unary_unmet, took}
use Rattle.reader.proofs.Telling.{tells_part, tells_to, tells_unary, told_refused}
use Rattle.reader.proofs.Tracing.{at_start, open_place, past_close, past_operator, past_operatorless, through_left, through_operand, through_right}
use Rattle.reader.proofs.readers.wholes.+formula.Goals as goal

-- the operator was met and has not been added yet, so there is room for it
pub append-requires : goal.append-requires
append-requires t c =
    let q = c.in_ok-operand.ensures.read in
    record {
      room =
          omega (
            arith,
            grown q,
            q.spelled.counts,
            c.in_ok-meet.ensures.counts,
            c.pass.ensures.counts,
            c.in_ok-open.ensures.0.counts,
            c.formula.new.cursor.counted,
            c.requires,
          );
      after = omega (arith, topped q);
    }

pub returns-in-Some-unary_operator : goal.returns-in-Some-unary_operator
returns-in-Some-unary_operator t c =
    let met = c.in_ok-meet.ensures in
    let enter = c.in_ok-open.ensures in
    let operand = c.in_ok-operand.ensures in
    let text : c.open.new.self.text.now ≡ c.args.cursor.now.text.now =
    enter.0.same ∙ (c.pass.ensures.same ∙ ap (λ (x : Bor (List ℕ)). x.now) met.same) in
    let a = c.args.cursor.now in
    let b = c.pass.new.self in
    let op = c.in-Some-unary_operator.operator in
    let word = subst (λ (x : List ℕ). Passes a b x 1) (sym c.in-Some-unary_operator.ensures) (meeting met c.pass.ensures) in
    record {
      drawn = λ all. drawn_more _ _ _ _ c.append.ensures.items tt (drawn_in _ _ _ _ text operand.drawn all);
      halts = tt;
      blames = tt;
      missing = tt;
      told = λ behind.
          tells_part _ refl c.append.ensures.items
          (past_close a.text.now (operand.read.spelled.same ∙ text) c.in_ok-expect.ensures.1 (through_operand op word enter.0 operand.told));
      read =
          unary_read _ _ _ _ _ _ _ _ _ _ _ _ _ _ met c.pass.ensures c.in-Some-unary_operator.ensures enter.0 enter.1 operand.read c.in_ok-expect.ensures.1 c.append.ensures.items c.append.ensures.value;
    }

pub formula-requires-3 : goal.formula-requires-3
formula-requires-3 t c =
    let q = c.in_ok-left_operand.ensures.read in (
      omega (arith, c.decreases, c.in_ok-open-3.ensures.1),
      omega (
        arith,
        grown q,
        q.spelled.counts,
        c.in_ok-open-2.ensures.0.counts,
        c.in_ok-expect-2.ensures.1.counts,
        c.in_ok-operator.ensures.read.counts,
        c.in_ok-open-3.ensures.0.counts,
        c.requires,
      ),
    )

pub append-requires-2 : goal.append-requires-2
append-requires-2 t c =
    let q = c.in_ok-left_operand.ensures.read in
    let q' = c.in_ok-right_operand.ensures.read in
    record {
      room =
          omega (
            arith,
            grown q,
            q.spelled.counts,
            c.in_ok-open-2.ensures.0.counts,
            c.in_ok-expect-2.ensures.1.counts,
            c.in_ok-operator.ensures.read.counts,
            c.in_ok-open-3.ensures.0.counts,
            grown q',
            q'.spelled.counts,
            c.formula-3.new.cursor.counted,
            c.requires,
          );
      after = omega (arith, topped q, topped q', grown q');
    }

pub returns : goal.returns
returns t c =
    let enter = c.in_ok-open-2.ensures in
    let left = c.in_ok-left_operand.ensures in
    let close = c.in_ok-expect-2.ensures.1 in
    let operator = c.in_ok-operator.ensures.read in
    let again = c.in_ok-open-3.ensures.0 in
    let right = c.in_ok-right_operand.ensures in
    let text : c.open-3.new.self.text.now ≡ c.args.cursor.now.text.now =
    again.same ∙ (operator.same ∙ (close.same ∙ (left.read.spelled.same ∙ enter.0.same))) in
    let here = c.args.cursor.now.text.now in
    let there = close.same ∙ (left.read.spelled.same ∙ enter.0.same) in
    record {
      drawn =
          λ all.
          drawn_more _ _ _ _ c.append-2.ensures.items tt
          (drawn_in _ _ _ _ text right.drawn (drawn_in _ _ _ _ enter.0.same left.drawn all));
      halts = tt;
      blames = tt;
      missing = tt;
      told = λ behind.
          tells_part _ refl c.append-2.ensures.items
          (past_close here (right.read.spelled.same ∙ text) c.in_ok-expect-3.ensures.1
          (through_right here (operator.same ∙ there) again
          (past_operator here c.in_ok-operator.operator there operator (past_close here (left.read.spelled.same ∙ enter.0.same) close (through_left enter.0 left.told)))
          right.told));
      read =
          binary_read _ _ _ _ _ _ _ _ _ _ _ _ _ _ _ _ _ enter.0 enter.1 left.read close operator again right.read c.in_ok-expect-3.ensures.1 c.append-2.ensures.items c.append-2.ensures.value;
    }

-- no formula begins where the reading stopped
pub returns-in_default : goal.returns-in_default
returns-in_default t c =
    let a = c.args.cursor.now in
    let halts = halts_end a c.args.left c.misfit.result c.in_default.ensures (search rules) in
    record {
      drawn = search rules;
      halts = halts;
      blames = halts_blames a c.args.left c.misfit.result halts;
      missing = halts_missing a c.args.left c.misfit.result halts;
      told = λ behind. at_start c.args.cursor.now _ c.misfit.result (ap halt c.misfit.ensures);
      read = search rules;
    }

pub returns-then-byte-eq99 : goal.returns-then-byte-eq99
returns-then-byte-eq99 t c =
    let stop = stopped c.comparison.result c.args.cursor.now c.args.left (each_refused c.comparison.result c.args.left _ c.comparison.ensures.halts) in
    record {
      drawn = search rules;
      halts = stop.halts;
      blames = stop.blames;
      missing = stop.missing;
      told = c.comparison.ensures.told;
      read = search rules;
    }

pub returns-in_err-open : goal.returns-in_err-open
returns-in_err-open t c =
    let a = c.args.cursor.now in
    let b = c.pass.new.self in
    let op = c.in-Some-unary_operator.operator in
    let met = c.in_ok-meet.ensures in
    let p = err_from_is_err_and c.from_residual-in_err-open.result c.from_residual-in_err-open.ensures.1 in
    let word = subst (λ (x : List ℕ). Passes a b x 1) (sym c.in-Some-unary_operator.ensures) (meeting met c.pass.ensures) in
    let stop = stopped c.from_residual-in_err-open.result a c.args.left
    (refused_as c.from_residual-in_err-open.result c.in_err-open.field-0.0 p.0 _ p.1 p.2
    (halts_unary_open a b c.args.left op _ word c.in_err-open.ensures)) in
    record {
      drawn = search rules;
      halts = stop.halts;
      blames = stop.blames;
      missing = stop.missing;
      told = told_refused c.from_residual-in_err-open.result c.in_err-open.field-0.0 p.0 a _ _ _ p.1 p.2 (λ behind. tells_to (sym (open_place b c.args.left _ c.in_err-open.ensures)) (tells_unary a.text.now _ op refl word));
      read = search rules;
    }

pub returns-in_err-operand : goal.returns-in_err-operand
returns-in_err-operand t c =
    let a = c.args.cursor.now in
    let b = c.pass.new.self in
    let op = c.in-Some-unary_operator.operator in
    let met = c.in_ok-meet.ensures in
    let enter = c.in_ok-open.ensures.0 in
    let o = c.open.new.self in
    let p = err_from_is_err_and c.from_residual-in_err-operand.result c.from_residual-in_err-operand.ensures.1 in
    let word = subst (λ (x : List ℕ). Passes a b x 1) (sym c.in-Some-unary_operator.ensures) (meeting met c.pass.ensures) in
    let stop = stopped c.from_residual-in_err-operand.result a c.args.left
    (refused_as c.from_residual-in_err-operand.result c.in_err-operand.field-0.0 p.0 _ p.1 p.2
    (halts_unary_inside a b o c.args.left op _ word enter c.in_ok-open.ensures.1 c.in_err-operand.ensures.halts)) in
    record {
      drawn = search rules;
      halts = stop.halts;
      blames = stop.blames;
      missing = stop.missing;
      told = told_refused c.from_residual-in_err-operand.result c.in_err-operand.field-0.0 p.0 a _ _ _ p.1 p.2 (λ behind. through_operand op word enter c.in_err-operand.ensures.told);
      read = search rules;
    }

pub returns-in_err-expect : goal.returns-in_err-expect
returns-in_err-expect t c =
    let a = c.args.cursor.now in
    let b = c.pass.new.self in
    let op = c.in-Some-unary_operator.operator in
    let met = c.in_ok-meet.ensures in
    let enter = c.in_ok-open.ensures.0 in
    let p = err_from_is_err_and c.from_residual-in_err-expect.result c.from_residual-in_err-expect.ensures.1 in
    let word = subst (λ (x : List ℕ). Passes a b x 1) (sym c.in-Some-unary_operator.ensures) (meeting met c.pass.ensures) in
    let none = c.in_err-expect.ensures in
    let stop = stopped c.from_residual-in_err-expect.result a c.args.left
    (refused_as c.from_residual-in_err-expect.result c.in_err-expect.field-0.0 p.0 _ p.1 p.2
    (halts_unary_close a b c.open.new.self c.formula.new.cursor c.args.left op _ word enter c.in_ok-open.ensures.1 (took c.in_ok-operand.ensures.read) none.0 none.1)) in
    record {
      drawn = search rules;
      halts = stop.halts;
      blames = stop.blames;
      missing = stop.missing;
      told = told_refused c.from_residual-in_err-expect.result c.in_err-expect.field-0.0 p.0 a _ _ _ p.1 p.2 (λ behind. tells_to (sym (ap halt none.0)) (through_operand op word enter c.in_ok-operand.ensures.told));
      read = search rules;
    }

pub returns-in_err-open-2 : goal.returns-in_err-open-2
returns-in_err-open-2 t c =
    let a = c.args.cursor.now in
    let p = err_from_is_err_and c.from_residual-in_err-open-2.result c.from_residual-in_err-open-2.ensures.1 in
    let stop = stopped c.from_residual-in_err-open-2.result a c.args.left
    (refused_as c.from_residual-in_err-open-2.result c.in_err-open-2.field-0.0 p.0 _ p.1 p.2
    (halts_start a c.args.left c.in-Some.byte _ c.in-Some.ensures c.if-byte-eq99.false c.in_default-unary_operator.ensures c.in_err-open-2.ensures)) in
    record {
      drawn = search rules;
      halts = stop.halts;
      blames = stop.blames;
      missing = stop.missing;
      told = told_refused c.from_residual-in_err-open-2.result c.in_err-open-2.field-0.0 p.0 a _ _ _ p.1 p.2 (λ behind. at_start a _ c.in_err-open-2.field-0.0 (open_place a c.args.left _ c.in_err-open-2.ensures));
      read = search rules;
    }

pub returns-in_err-left_operand : goal.returns-in_err-left_operand
returns-in_err-left_operand t c =
    let a = c.args.cursor.now in
    let enter = c.in_ok-open-2.ensures.0 in
    let o = c.open-2.new.self in
    let p = err_from_is_err_and c.from_residual-in_err-left_operand.result c.from_residual-in_err-left_operand.ensures.1 in
    let stop = stopped c.from_residual-in_err-left_operand.result a c.args.left
    (refused_as c.from_residual-in_err-left_operand.result c.in_err-left_operand.field-0.0 p.0 _ p.1 p.2
    (halts_left_inside a o c.args.left _ enter c.in_ok-open-2.ensures.1 c.in_err-left_operand.ensures.halts)) in
    record {
      drawn = search rules;
      halts = stop.halts;
      blames = stop.blames;
      missing = stop.missing;
      told = told_refused c.from_residual-in_err-left_operand.result c.in_err-left_operand.field-0.0 p.0 a _ _ _ p.1 p.2 (λ behind. through_left enter c.in_err-left_operand.ensures.told);
      read = search rules;
    }

pub returns-in_err-expect-2 : goal.returns-in_err-expect-2
returns-in_err-expect-2 t c =
    let a = c.args.cursor.now in
    let enter = c.in_ok-open-2.ensures.0 in
    let q = c.in_ok-left_operand.ensures.read in
    let p = err_from_is_err_and c.from_residual-in_err-expect-2.result c.from_residual-in_err-expect-2.ensures.1 in
    let none = c.in_err-expect-2.ensures in
    let stop = stopped c.from_residual-in_err-expect-2.result a c.args.left
    (refused_as c.from_residual-in_err-expect-2.result c.in_err-expect-2.field-0.0 p.0 _ p.1 p.2
    (halts_left_close a c.open-2.new.self c.formula-2.new.cursor c.args.left _ enter c.in_ok-open-2.ensures.1 (took q) none.0 none.1)) in
    record {
      drawn = search rules;
      halts = stop.halts;
      blames = stop.blames;
      missing = stop.missing;
      told = told_refused c.from_residual-in_err-expect-2.result c.in_err-expect-2.field-0.0 p.0 a _ _ _ p.1 p.2 (λ behind. tells_to (sym (ap halt none.0)) (through_left enter c.in_ok-left_operand.ensures.told));
      read = search rules;
    }

pub returns-in_err-operator : goal.returns-in_err-operator
returns-in_err-operator t c =
    let a = c.args.cursor.now in
    let enter = c.in_ok-open-2.ensures.0 in
    let q = c.in_ok-left_operand.ensures.read in
    let close = c.in_ok-expect-2.ensures.1 in
    let p = err_from_is_err_and c.from_residual-in_err-operator.result c.from_residual-in_err-operator.ensures.1 in
    let s = c.expect-2.new.self in
    let some = c.in_ok-open-2.ensures.1 in
    let b = behind a c.open-2.new.self c.formula-2.new.cursor s c.args.left enter some (took q) close in
    let text = a.text.now in
    let after_left = q.spelled.same ∙ enter.same in
    let there = close.same ∙ after_left in
    let left_told = past_close text after_left close (through_left enter c.in_ok-left_operand.ensures.told) in
    let stop = stopped c.from_residual-in_err-operator.result a c.args.left
    (refused_as c.from_residual-in_err-operator.result c.in_err-operator.field-0.0 p.0 _ p.1 p.2
    (halts_operator a s c.args.left _ b c.in_err-operator.ensures.read)) in
    record {
      drawn = search rules;
      halts = stop.halts;
      blames = stop.blames;
      missing = stop.missing;
      told = told_refused c.from_residual-in_err-operator.result c.in_err-operator.field-0.0 p.0 a _ _ _ p.1 p.2 (λ behind. past_operatorless text _ there c.in_err-operator.ensures.read left_told);
      read = search rules;
    }

pub returns-in_err-open-3 : goal.returns-in_err-open-3
returns-in_err-open-3 t c =
    let a = c.args.cursor.now in
    let enter = c.in_ok-open-2.ensures.0 in
    let q = c.in_ok-left_operand.ensures.read in
    let close = c.in_ok-expect-2.ensures.1 in
    let word = c.in_ok-operator.ensures.read in
    let p = err_from_is_err_and c.from_residual-in_err-open-3.result c.from_residual-in_err-open-3.ensures.1 in
    let s = c.expect-2.new.self in
    let some = c.in_ok-open-2.ensures.1 in
    let b = behind a c.open-2.new.self c.formula-2.new.cursor s c.args.left enter some (took q) close in
    let text = a.text.now in
    let after_left = q.spelled.same ∙ enter.same in
    let there = close.same ∙ after_left in
    let left_told = past_close text after_left close (through_left enter c.in_ok-left_operand.ensures.told) in
    let stop = stopped c.from_residual-in_err-open-3.result a c.args.left
    (refused_as c.from_residual-in_err-open-3.result c.in_err-open-3.field-0.0 p.0 _ p.1 p.2
    (⊎_elim
    (λ h. halts_right_open a s c.binary_operator.new.self c.args.left c.in_ok-operator.operator _ b word h.0 h.1)
    (λ h. absurd (omega (arith, some, h.2)))
    c.in_err-open-3.ensures)) in
    record {
      drawn = search rules;
      halts = stop.halts;
      blames = stop.blames;
      missing = stop.missing;
      told = told_refused c.from_residual-in_err-open-3.result c.in_err-open-3.field-0.0 p.0 a _ _ _ p.1 p.2 (λ behind. tells_to (sym (open_place c.binary_operator.new.self c.args.left _ c.in_err-open-3.ensures)) (past_operator text c.in_ok-operator.operator there word left_told));
      read = search rules;
    }

pub returns-in_err-right_operand : goal.returns-in_err-right_operand
returns-in_err-right_operand t c =
    let a = c.args.cursor.now in
    let enter = c.in_ok-open-2.ensures.0 in
    let q = c.in_ok-left_operand.ensures.read in
    let close = c.in_ok-expect-2.ensures.1 in
    let word = c.in_ok-operator.ensures.read in
    let again = c.in_ok-open-3.ensures.0 in
    let u = c.open-3.new.self in
    let p = err_from_is_err_and c.from_residual-in_err-right_operand.result c.from_residual-in_err-right_operand.ensures.1 in
    let s = c.expect-2.new.self in
    let some = c.in_ok-open-2.ensures.1 in
    let b = behind a c.open-2.new.self c.formula-2.new.cursor s c.args.left enter some (took q) close in
    let text = a.text.now in
    let after_left = q.spelled.same ∙ enter.same in
    let there = close.same ∙ after_left in
    let left_told = past_close text after_left close (through_left enter c.in_ok-left_operand.ensures.told) in
    let stop = stopped c.from_residual-in_err-right_operand.result a c.args.left
    (refused_as c.from_residual-in_err-right_operand.result c.in_err-right_operand.field-0.0 p.0 _ p.1 p.2
    (halts_right_inside a s c.binary_operator.new.self u c.args.left c.in_ok-operator.operator _ b word again some c.in_err-right_operand.ensures.halts)) in
    record {
      drawn = search rules;
      halts = stop.halts;
      blames = stop.blames;
      missing = stop.missing;
      told = told_refused c.from_residual-in_err-right_operand.result c.in_err-right_operand.field-0.0 p.0 a _ _ _ p.1 p.2 (λ behind. through_right text (word.same ∙ there) again (past_operator text c.in_ok-operator.operator there word left_told) c.in_err-right_operand.ensures.told);
      read = search rules;
    }

pub returns-in_err-expect-3 : goal.returns-in_err-expect-3
returns-in_err-expect-3 t c =
    let a = c.args.cursor.now in
    let enter = c.in_ok-open-2.ensures.0 in
    let q = c.in_ok-left_operand.ensures.read in
    let close = c.in_ok-expect-2.ensures.1 in
    let word = c.in_ok-operator.ensures.read in
    let again = c.in_ok-open-3.ensures.0 in
    let q' = c.in_ok-right_operand.ensures.read in
    let p = err_from_is_err_and c.from_residual-in_err-expect-3.result c.from_residual-in_err-expect-3.ensures.1 in
    let s = c.expect-2.new.self in
    let some = c.in_ok-open-2.ensures.1 in
    let b = behind a c.open-2.new.self c.formula-2.new.cursor s c.args.left enter some (took q) close in
    let none = c.in_err-expect-3.ensures in
    let text = a.text.now in
    let after_left = q.spelled.same ∙ enter.same in
    let there = close.same ∙ after_left in
    let left_told = past_close text after_left close (through_left enter c.in_ok-left_operand.ensures.told) in
    let stop = stopped c.from_residual-in_err-expect-3.result a c.args.left
    (refused_as c.from_residual-in_err-expect-3.result c.in_err-expect-3.field-0.0 p.0 _ p.1 p.2
    (halts_right_close a s c.binary_operator.new.self c.open-3.new.self c.formula-3.new.cursor c.args.left c.in_ok-operator.operator _ b word again some (took q') none.0 none.1)) in
    record {
      drawn = search rules;
      halts = stop.halts;
      blames = stop.blames;
      missing = stop.missing;
      told = told_refused c.from_residual-in_err-expect-3.result c.in_err-expect-3.field-0.0 p.0 a _ _ _ p.1 p.2 (λ behind. tells_to (sym (ap halt none.0)) (through_right text (word.same ∙ there) again (past_operator text c.in_ok-operator.operator there word left_told) c.in_ok-right_operand.ensures.told));
      read = search rules;
    }

pub returns-in_err-meet : goal.returns-in_err-meet
returns-in_err-meet t c =
    let a = c.args.cursor.now in
    let none = c.in_err-meet.ensures in
    let p = err_from_is_err_and c.from_residual.result c.from_residual.ensures.1 in
    let stop = stopped c.from_residual.result a c.args.left
    (refused_as c.from_residual.result c.in_err-meet.field-0.0 p.0 _ p.1 p.2
    (halts_unary_unmet a c.args.left c.in-Some.byte c.in-Some-unary_operator.operator _ c.in-Some.ensures c.in-Some-unary_operator.ensures none.0 none.1)) in
    record {
      drawn = search rules;
      halts = stop.halts;
      blames = stop.blames;
      missing = stop.missing;
      told = told_refused c.from_residual.result c.in_err-meet.field-0.0 p.0 a _ _ _ p.1 p.2 (λ behind. at_start a _ c.in_err-meet.field-0.0 (ap halt none.0));
      read = search rules;
    }
