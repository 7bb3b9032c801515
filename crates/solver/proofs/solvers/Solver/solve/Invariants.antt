use Rattle.std.proofs.Common.{◌≡◌, ◌-◌, ◌<◌, ◌≤◌, length, take, Ok}
use Rattle.solver.specs.Derived.{rows_back}
use Rattle.formula.specs.Formulas.{parts_of}
use Rattle.solver.specs.Labels.{row_of}
use Rattle.solver.proofs.solvers.Solver.solve.Given as goal

-- the row at this point stands in the places of the next one, unless no point was taken yet
abbrev pub invariant-loop-at : goal.invariant-loop-at
invariant-loop-at g l =
    let told = g.R.Recording.meaning l.recording in
    (l.point ≤ l.at) × (l.at < told.points → rows_back g.S.Scale.rank told.mark told.points (parts_of l.formula) (told.points - 1 - l.at) ≡ Ok (take (length (parts_of l.formula)) (row_of l.self.next)))
