use Rattle.std.proofs.Common.{set, vec_items, ap, ◌∙◌}
use Rattle.std.proofs.lemmas.List.{map-set}
use Rattle.solver.specs.Labels.{labelled, lists_in}
use Rattle.domain.specs.Listed.{boxes_of}
use Rattle.std.proofs.Common.{sym}
use Rattle.solver.proofs.solvers.Solver.settle.Goals as goal

pub returns-clause-settled : goal.returns-clause-settled
returns-clause-settled g c =
    let rank = g.S.Scale.rank in
    let here = c.args.self.now.here in (
      boxes_of c.label.new.self.work,
      (λ i. labelled rank (lists_in (sym c.as_slice.ensures.value i)) (lists_in (sym c.as_slice-2.ensures.value i)) c.args.number c.args.step) ∙ c.in_ok-label.ensures,
      map-set boxes_of (vec_items here) c.args.number c.swap.new.x ∙ ap (λ d. set (lists_in (vec_items here)) c.args.number (boxes_of d)) c.swap.ensures.x_after,
    )
