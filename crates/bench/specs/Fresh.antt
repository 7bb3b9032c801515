-- A list of boxes that belongs to a recording and a formula as they are now. Assumes nothing.
use Rattle.std.specs.Prelude.{◌≡◌, ℕ, ◌<◌, List, length, Some, Ok, Option}
use Rattle.recording.specs.Meaning.{Meaning}
use Rattle.formula.specs.declared.parts.Part.{Part}
use Rattle.domain.specs.Added.{Boxes}
use Rattle.solver.specs.Derived.{derived}

-- while a solve stands, the list is the one derived of the formula, at the point of the solve, from what the recording tells
abbrev pub Fresh : {S : Type 0} → (S → ℕ) → Meaning S → List (Part S) → Option ℕ → Boxes S → Type 0
Fresh rank m parts solved list = (point : ℕ) → solved ≡ Some point → (0 < length parts) × (point < m.points) × (derived rank m.mark m.points parts point ≡ Ok list)
