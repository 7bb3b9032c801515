use Rattle.std.proofs.Common.{◌≡◌, ◌+◌, ◌-◌, ◌<◌, [], length, take, Ok, Err, vec_items, sym, refl, ap, ◌∙◌, arith, false-eqb}
use Rattle.std.proofs.lemmas.List.{get_or-take}
use Rattle.std.proofs.lemmas.Result.{err_from_is_err_and}
use Rattle.formula.specs.Formulas.{parts_of}
use Rattle.solver.specs.declared.solvers.SolveFault.TheVariants.{Full}
use Rattle.solver.specs.Derived.{derived, row_from, rows_back, told, whole_of}
use Rattle.solver.specs.Labels.{at, row_of}
use Rattle.domain.specs.Listed.{boxes_of}
use Rattle.solver.proofs.Completing.{derived_true}
use Rattle.solver.proofs.Descending.{rows_step, rows_stop, told_stops}
use Rattle.solver.proofs.Labelling.{list_at}
use Rattle.solver.proofs.solvers.Solver.solve.Given as given
use Rattle.solver.proofs.solvers.Solver.solve.Goals as goal
use Rattle.solver.proofs.solvers.Solver.solve.Goals.{After-settle_point}

-- the row that is worked out next, from the one that stands
turn : (g : given.Over) (c : After-settle_point g) → let m = g.R.Recording.meaning c.args.recording.now in rows_back g.S.Scale.rank m.mark m.points (parts_of c.args.formula.now) (m.points - 1 - (c.loop-at.at - 1)) ≡ told (c.loop-at.at - 1) (row_from g.S.Scale.rank m.mark m.points c.signs_of-signs.result (c.loop-at.at - 1) (row_of c.loop-at.self.next) (parts_of c.args.formula.now) [])
turn g c =
    let m = g.R.Recording.meaning c.args.recording.now in
    let rank = g.S.Scale.rank in
    let parts = parts_of c.args.formula.now in
    let here = c.loop-at.at - 1 in
    let next = row_of c.loop-at.self.next in
    let up : c.loop-at.at ≡ here + 1 = omega (arith, c.loop-at-test.true) in
    rows_step rank m.mark m.points parts c.args.formula.now.ordered here next (omega (arith, c.loop-at.auto.at, c.points-points.ensures, c.loop-at-test.true)) (λ more. ap (λ k. rows_back rank m.mark m.points parts (m.points - 1 - k)) (sym up) ∙ c.loop-at.invariant.1 (omega arith))
    ∙ ap (λ sg. told here (row_from rank m.mark m.points sg here next parts [])) (sym c.signs_of-signs.ensures)

pub returns-in_err-settle_point-clause-derived : goal.returns-in_err-settle_point-clause-derived
returns-in_err-settle_point-clause-derived g c =
    let m = g.R.Recording.meaning c.args.recording.now in
    let rank = g.S.Scale.rank in
    let parts = parts_of c.args.formula.now in
    let here = c.loop-at.at - 1 in
    let p = err_from_is_err_and c.from_residual.result c.from_residual.ensures.1 in
    let k = told_stops here _ c.in_err-settle_point.field-0.0 c.in_err-settle_point.ensures.settled in
    let refused : c.from_residual.result ≡ Err (Full here k.0) = p.1 ∙ ap Err (p.2 ∙ sym k.1) in
    let stop = turn g (goal.at.returns-in_err-settle_point-clause-derived g c).After-settle_point ∙ c.in_err-settle_point.ensures.settled ∙ ap Err (sym k.1) in
    rw refused (
      omega (arith, false-eqb (length parts) 0 c.if-is_blank.ensures),
      omega (arith, c.points-points.ensures, c.if-point-points.false),
      ap (whole_of (length parts)) (rows_stop rank m.mark m.points parts c.args.formula.now.ordered (m.points - 1 - here) (m.points - 1 - c.args.point) (Full here k.0) (omega (arith, c.loop-at-test.true)) stop),
      refl,
    )

pub returns-in_err-settle_point-clause-complete : goal.returns-in_err-settle_point-clause-complete
returns-in_err-settle_point-clause-complete g c =
    let p = err_from_is_err_and c.from_residual.result c.from_residual.ensures.1 in
    rw p.1 tt

pub loop-at-preserved : goal.loop-at-preserved
loop-at-preserved g c = (omega (arith, c.loop-at-test.true), λ lt. turn g (goal.at.loop-at-preserved g c).After-settle_point ∙ c.in_ok-settle_point.ensures.settled ∙ ap (λ v. Ok (take (length (parts_of c.args.formula.now)) (row_of v))) (sym c.swap.ensures.y_after))

pub returns : goal.returns
returns g c =
    let m = g.R.Recording.meaning c.args.recording.now in
    let rank = g.S.Scale.rank in
    let formula = c.args.formula.now in
    let parts = parts_of formula in
    let next = c.loop-at.self.next in
    let point = c.args.point in
    let some : 0 < length parts = omega (arith, false-eqb (length parts) 0 c.if-is_blank.ensures) in
    let below : point < m.points = omega (arith, c.points-points.ensures, c.if-point-points.false) in
    let there : c.loop-at.at ≡ point = omega (arith, c.loop-at.invariant.0, c.loop-at-test.false) in
    let last : c.len.result - 1 < length (vec_items next) = omega (arith, next.ok.0, c.loop-at.self.whole, c.len.ensures, formula.few, formula.parts.ok.0) in
    let item : boxes_of c.index_mut.result.now ≡ at (row_of next) (length parts - 1) = list_at (vec_items next) (c.len.result - 1) _ last c.index_mut.ensures.value ∙ ap (λ n. at (row_of next) (n - 1)) c.len.ensures in
    let list : derived rank m.mark m.points parts point ≡ Ok (boxes_of c.swap-2.new.x) =
    ap (λ k. whole_of (length parts) (rows_back rank m.mark m.points parts (m.points - 1 - k))) (sym there)
    ∙ ap (whole_of (length parts)) (c.loop-at.invariant.1 (omega (arith, there, below)))
    ∙ ap Ok (get_or-take (length parts) (row_of next) (length parts - 1) [] (omega arith) ∙ sym item ∙ ap boxes_of (sym c.swap-2.ensures.x_after)) in
    record {
      derived = (some, below, list, c.len-2.ensures.value);
      kept = tt;
      complete = λ t e limits. derived_true rank g.met.S.Scale.ranks_fit m.mark m.points limits parts formula.ordered t point _ e (omega (arith, formula.few, formula.parts.ok.0)) below list;
    }
