use Rattle.std.proofs.Common.{◌≡◌, true, None, refl, ap, ◌∙◌}
use Rattle.formula.specs.Assembly.{wholly}
use Rattle.domain.specs.Listed.{boxes_of}
use Rattle.formula.specs.Formulas.{parts_of}
use Rattle.bench.proofs.Fitting.{fitted_whole}
use Rattle.bench.proofs.Freshness.{unsolved_fresh}
use Rattle.bench.proofs.benches.Bench.put_in_force.Goals as goal

pub invariant_of-self-2-clause-whole : goal.invariant_of-self-2-clause-whole
invariant_of-self-2-clause-whole g c =
    let rule = parts_of c.formula.result.now in
    let whole : wholly rule ≡ true = ap wholly c.formula.ensures ∙ c.args.rule.whole in
    ap (λ x. wholly (parts_of x)) c.swap.ensures.x_after ∙ fitted_whole g.R.Mark.Scale.named c.channels.result rule (parts_of c.fit_parts.new.fresh) c.in_ok-fit_parts.ensures whole
