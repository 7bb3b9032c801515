-- What asking and finding answer on a bench. Assumes nothing.
use Rattle.std.specs.Prelude.{◌≡◌, ℕ, Bool, List, [], ◌∷◌, map, Some, None, Ok, Err, Decides, Option, Result}
use Rattle.std.specs.Option.{option_map}
use Rattle.scale.specs.declared.cuts.Cut.{Cut}
use Rattle.scale.specs.declared.faults.ScaleFault.TheVariants.{NoMark}
use Rattle.recording.specs.declared.faults.TapeFault.{TapeFault}
use Rattle.recording.specs.declared.faults.TapeFault.TheVariants.{Scale}
use Rattle.domain.specs.declared.shapes.Choice.{Choice}
use Rattle.domain.specs.Added.{Boxes}
use Rattle.domain.specs.Covering.{Covered}
use Rattle.domain.specs.Picking.{behind, first_picked, marks_of}
use Rattle.bench.specs.declared.faults.BenchFault.{BenchFault}
use Rattle.bench.specs.declared.faults.BenchFault.TheVariants.{Tape, Unsolved}

-- the marks of three codes, where each has one
abbrev pub three_named : {S : Type 0} → (ℕ → Option S) → ℕ → ℕ → ℕ → Option (List S)
three_named named p q r = behind (named p) (behind (named q) (behind (named r) (Some [])))

-- these are the marks, or some code has none
abbrev pub Named : {S : Type 0} → Option (List S) → Result (Choice S) TapeFault → Type 0
Named marks (Ok choice) = marks ≡ Some (marks_of choice)
Named marks (Err fault) = (marks ≡ None) × (fault ≡ Scale NoMark)

-- three codes as a list of them
abbrev pub three : Option (ℕ × ℕ × ℕ) → Option (List ℕ)
three None = None
three (Some (p, q, r)) = Some (p ∷ q ∷ r ∷ [])

-- a code that no mark has
abbrev pub no_mark : BenchFault
no_mark = Tape (Scale NoMark)

-- the marks lie together in one box of the list
abbrev pub Covers : {S : Type 0} → (S → ℕ) → Boxes S → Option (List S) → Result Bool BenchFault → Type 0
Covers rank list None answer = answer ≡ Err no_mark
Covers rank list (Some marks) answer = (yes : Bool) × (answer ≡ Ok yes) × Decides yes (Covered rank marks list)

-- refused without a solve, then for a code without a mark
abbrev pub Asks : {S : Type 0} → (S → ℕ) → Option ℕ → Boxes S → Option (List S) → Result Bool BenchFault → Type 0
Asks rank None list marks answer = answer ≡ Err Unsolved
Asks rank (Some point) list marks answer = Covers rank list marks answer

-- refused without a solve; else the codes of the picks of the first box that has them, or none
abbrev pub Finds : {S : Type 0} → (S → ℕ) → (Cut S → Cut S → Option S) → Option ℕ → Boxes S → Result (Option (ℕ × ℕ × ℕ)) BenchFault → Type 0
Finds code picked None list answer = answer ≡ Err Unsolved
Finds code picked (Some point) list answer = (codes : Option (ℕ × ℕ × ℕ)) × (answer ≡ Ok codes) × (three codes ≡ option_map (map code) (first_picked picked list))
