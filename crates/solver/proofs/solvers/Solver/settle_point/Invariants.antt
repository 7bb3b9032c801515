use Rattle.std.proofs.Common.{◌≡◌, [], take, drop}
use Rattle.formula.specs.Formulas.{parts_of}
use Rattle.solver.specs.Derived.{row_from}
use Rattle.solver.specs.Labels.{row_of}
use Rattle.solver.proofs.solvers.Solver.settle_point.Given as goal

-- what is left is the lists of the parts from here on, behind those in their places
abbrev pub invariant-loop-number : goal.invariant-loop-number
invariant-loop-number g l =
    let told = g.R.Recording.meaning l.recording in
    let row = row_from g.S.Scale.rank told.mark told.points l.signs l.point (row_of l.initial.self.next) in
    let parts = parts_of l.formula in
    (l.self.next ≡ l.initial.self.next) × (row parts [] ≡ row (drop l.number parts) (take l.number (row_of l.self.here)))
