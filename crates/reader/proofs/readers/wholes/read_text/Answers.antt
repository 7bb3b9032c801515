use Rattle.std.proofs.Common.{length, sym, refl, ap, ◌∙◌, rules}
use Rattle.std.proofs.lemmas.Result.{err_from_is_err_and}
use Rattle.reader.specs.Halts.{halt}
use Rattle.reader.proofs.Ending.{cases_from, made_from, refused_from, spelt}
use Rattle.reader.proofs.Failing.{fails_inside, fails_more}
use Rattle.reader.proofs.Halted.{failed}
use Rattle.reader.proofs.Halting.{refused_as}
use Rattle.reader.proofs.Refused.{known_refused}
use Rattle.reader.proofs.Stopping.{took}
use Rattle.reader.proofs.Telling.{tells_from, tells_to}
use Rattle.reader.proofs.readers.wholes.read_text.Goals as goal

pub returns : goal.returns
returns c =
    let q = c.in_ok-formula.ensures in
    let fail = failed c.finish.result c.args.text.now
    (refused_from c.finish.result _ _ _ c.finish.ensures
    (λ e h. fails_more _ c.formula.new.cursor e refl refl (took q.read) h.0 h.1)) in
    record {
      drawn = q.drawn (search rules);
      fails = fail.fails;
      blames = fail.blames;
      missing = fail.missing;
      told =
          cases_from c.finish.result _ _ _ _ c.finish.ensures
          (λ x h. tells_from c.clear.ensures (tells_to (h ∙ ap length q.read.spelled.same) (q.told refl)))
          (λ e h. tells_from c.clear.ensures (tells_to (sym (ap halt h.0)) (q.told refl)));
      read =
          made_from c.finish.result _ _ _ c.finish.ensures
          (λ x end. spelt _ _ _ _ _ refl refl c.clear.ensures q.read end);
    }

pub returns-in_err-formula : goal.returns-in_err-formula
returns-in_err-formula c =
    let p = err_from_is_err_and c.from_residual.result c.from_residual.ensures.1 in
    let fail = failed c.from_residual.result c.args.text.now
    (refused_as c.from_residual.result c.in_err-formula.field-0.0 p.0 _ p.1 p.2
    (fails_inside _ _ refl refl c.in_err-formula.ensures.halts)) in
    record {
      drawn = search rules;
      fails = fail.fails;
      blames = fail.blames;
      missing = fail.missing;
      told =
          known_refused c.from_residual.result p.0 _ _ p.1
          (tells_from c.clear.ensures (tells_to (sym (ap halt p.2)) (c.in_err-formula.ensures.told refl)));
      read = search rules;
    }
