-- What a solve answers on a bench, and what it leaves of the one that stood. Assumes nothing.
use Rattle.std.specs.Prelude.{◌≡◌, ℕ, List, Some, Ok, Err, Option, Result}
use Rattle.recording.specs.Meaning.{Meaning}
use Rattle.formula.specs.declared.parts.Part.{Part}
use Rattle.domain.specs.Added.{Boxes}
use Rattle.solver.specs.Derived.{Solves}
use Rattle.solver.specs.declared.solvers.SolveFault.{SolveFault}
use Rattle.bench.specs.declared.faults.BenchFault.{BenchFault}
use Rattle.bench.specs.Faults.{solve_fault}

-- taken: the derived list stands, at this point; refused: the solver's refusal, and the point and list that stood
module _ {S : Type 0} (rank : S → ℕ) (m : Meaning S) (parts : List (Part S)) where
  abbrev pub Solved : Result ℕ BenchFault → ℕ → Boxes S → Boxes S → Option ℕ → Option ℕ → Type 0
  Solved (Ok count) point before after was is = Solves rank m.mark m.points parts (Ok count) point before after × (is ≡ Some point)
  Solved (Err fault) point before after was is = (f : SolveFault) × (fault ≡ solve_fault f) × Solves rank m.mark m.points parts (Err f) point before after × (is ≡ was)
