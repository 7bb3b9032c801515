-- What the list of a solve means. Assumes nothing.
use Rattle.std.specs.Prelude.{◌≡◌, ℕ, List, Ok, Err, Result}
use Rattle.formula.specs.declared.parts.LimitName.{LimitName}
use Rattle.formula.specs.declared.parts.Part.{Part}
use Rattle.formula.specs.Trees.{Tree, numbered}
use Rattle.domain.specs.Added.{Boxes}
use Rattle.domain.specs.Covering.{Covered}
use Rattle.solver.specs.Truth.{Exactly, Holds, choice_of}
use Rattle.solver.specs.declared.solvers.SolveFault.{SolveFault}

module _ {S : Type 0} (rank : S → ℕ) (marks : ℕ → ℕ → S) (points : ℕ) (parts : List (Part S)) where
  -- the limits that lie together in one box of the list are those with which the formula is true at the point
  abbrev pub Means : ℕ → Boxes S → Type 0
  Means point list = (t : Tree S) → parts ≡ numbered 0 t → (limits : LimitName → S) → Exactly (Covered rank (choice_of limits) list) (Holds rank marks points limits t point)

  -- an accepted solve leaves such a list
  abbrev pub Completes : Result ℕ SolveFault → ℕ → Boxes S → Type 0
  Completes (Ok count) point list = Means point list
  Completes (Err fault) point list = Unit {0}
