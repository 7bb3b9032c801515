use Rattle.std.proofs.Common.{◌≡◌, ◌+◌, ◌<◌, ◌≤◌, ◌∷◌, length, take, drop, is_err, Ok, vec_items, sym, ap, ◌∙◌, arith}
use lib.ListN.{length-map}
use Rattle.std.proofs.lemmas.List.{drop_all, drop_more}
use Rattle.formula.specs.Formulas.{parts_of}
use Rattle.formula.specs.Orders.{reach}
use Rattle.solver.specs.Derived.{row_from, told}
use Rattle.solver.specs.Labels.{labelled, row_of}
use Rattle.domain.specs.Listed.{boxes_of}
use Rattle.solver.specs.Steps.{span}
use Rattle.solver.proofs.Reaching.{step_within}
use Rattle.solver.proofs.Rowing.{row_goes, row_stops}
use Rattle.solver.proofs.solvers.Solver.settle_point.Given as given
use Rattle.solver.proofs.solvers.Solver.settle_point.Goals as goal
use Rattle.solver.proofs.solvers.Solver.settle_point.Goals.{After-step_at-step}

-- the parts from here on: this one, and those behind it
parts_on : (g : given.Over) (c : After-step_at-step g) → drop c.loop-number.number (parts_of c.args.formula.now) ≡ c.part-item.result ∷ drop (c.loop-number.number + 1) (parts_of c.args.formula.now)
parts_on g c =
    let n = c.loop-number.number in
    let parts = c.parts-part-items.result.now in
    ap (drop n) (sym c.parts-part-items.ensures.value)
    ∙ drop_more parts n c.part-item.result c.loop-number-test.true
    ∙ ap (λ p. p ∷ drop (n + 1) parts) (sym c.part-item.is)
    ∙ ap (λ ps. c.part-item.result ∷ drop (n + 1) ps) c.parts-part-items.ensures.value

narrow_step : (g : given.Over) (c : After-step_at-step g) → span c.step_at-step.result ≤ c.loop-number.number
narrow_step g c =
    let part = c.part-item.result in
    let told = g.R.Recording.meaning c.args.recording.now in
    let narrow : span c.step_at-step.result ≤ reach part = step_within _ g.S.Scale.rank told.mark told.points c.args.point _ part c.step_at-step.ensures in
    omega (arith, narrow, ap reach c.part-item.is, c.parts-part-items.ensures.ordered c.loop-number.number part c.loop-number-test.true)

in_row : (g : given.Over) (c : After-step_at-step g) → c.loop-number.number < length (row_of c.loop-number.self.here)
in_row g c = omega (arith, length-map (vec_items c.loop-number.self.here) boxes_of, c.loop-number.self.here.ok.0, c.loop-number.self.level, c.parts-part-items.ensures.few, c.loop-number-test.true)

pub settle-requires-clause-span : goal.settle-requires-clause-span
settle-requires-clause-span g c = narrow_step g (goal.at.settle-requires-clause-span g c).After-step_at-step

pub returns-in_default-clause-settled : goal.returns-in_default-clause-settled
returns-in_default-clause-settled g c =
    let here = (goal.at.returns-in_default-clause-settled g c).After-step_at-step in
    let m = g.R.Recording.meaning c.args.recording.now in
    let rank = g.S.Scale.rank in
    let lists = row_of c.loop-number.self.here in
    let next = row_of c.args.self.now.next in
    let n = c.loop-number.number in
    ap (told c.args.point) (row_stops rank m.mark m.points c.args.signs.now c.args.point next _ lists n c.part-item.result (drop (n + 1) (parts_of c.args.formula.now)) c.step_at-step.result (c.loop-number.invariant.1 ∙ ap (λ l. row_from rank m.mark m.points c.args.signs.now c.args.point next l (take n lists)) (parts_on g here)) c.step_at-step.ensures (narrow_step g here) (in_row g here) (ap (λ v. is_err (labelled rank lists (row_of v) n c.step_at-step.result)) (sym c.loop-number.invariant.0) ∙ c.in_default.ensures.settled))

pub loop-number-preserved : goal.loop-number-preserved
loop-number-preserved g c =
    let here = (goal.at.loop-number-preserved g c).After-step_at-step in
    let m = g.R.Recording.meaning c.args.recording.now in
    let rank = g.S.Scale.rank in
    let lists = row_of c.loop-number.self.here in
    let next = row_of c.args.self.now.next in
    let n = c.loop-number.number in
    let put = c.in-Ok.ensures.settled in (
      c.settle.ensures.same ∙ c.loop-number.invariant.0,
      row_goes rank m.mark m.points c.args.signs.now c.args.point next _ lists _ n c.part-item.result (drop (n + 1) (parts_of c.args.formula.now)) c.step_at-step.result put.0 (c.loop-number.invariant.1 ∙ ap (λ l. row_from rank m.mark m.points c.args.signs.now c.args.point next l (take n lists)) (parts_on g here)) c.step_at-step.ensures (narrow_step g here) (in_row g here) (ap (λ v. labelled rank lists (row_of v) n c.step_at-step.result) (sym c.loop-number.invariant.0) ∙ put.1) put.2,
    )

pub returns-clause-settled : goal.returns-clause-settled
returns-clause-settled g c =
    let m = g.R.Recording.meaning c.args.recording.now in
    let n = c.loop-number.number in
    let parts = parts_of c.args.formula.now in
    let long = ap length c.parts-part-items.ensures.value in
    let past : length parts ≤ n = omega (arith, long, c.loop-number-test.false) in
    let whole : n ≡ length parts = omega (arith, past, long, c.loop-number.auto.number-end) in
    ap (told c.args.point)
    (c.loop-number.invariant.1
    ∙ ap (λ l. row_from g.S.Scale.rank m.mark m.points c.args.signs.now c.args.point (row_of c.args.self.now.next) l (take n (row_of c.loop-number.self.here))) (drop_all n parts past)
    ∙ ap (λ k. Ok (take k (row_of c.loop-number.self.here))) whole)
