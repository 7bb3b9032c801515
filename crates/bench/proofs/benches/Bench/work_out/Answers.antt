use Rattle.std.proofs.Common.{sym, subst}
use Rattle.formula.specs.Formulas.{parts_of}
use Rattle.domain.specs.Listed.{boxes_of}
use Rattle.solver.specs.Derived.{Solves}
use Rattle.bench.specs.Fresh.{Fresh}
use Rattle.bench.proofs.Freshness.{solve_refused}
use Rattle.bench.proofs.benches.Bench.work_out.Goals as goal

-- a refused solve leaves the list
pub invariant_of-self : goal.invariant_of-self
invariant_of-self g c =
    let b = c.args.self.now in
    let m = g.R.Recording.meaning b.recording in
    let rank = g.R.Mark.Scale.rank in
    let was = boxes_of b.standing in
    let is = boxes_of c.solve.new.answer in
    let same = solve_refused rank m (parts_of b.formula) _ c.args.point was is (subst (λ a. Solves rank m.mark m.points (parts_of b.formula) a c.args.point was is) c.in_err-count.was c.solve.ensures.derived) in
    record { whole = b.whole; stands = subst (Fresh rank m (parts_of b.formula) b.solved) (sym same) b.stands }
