-- What each answer of a bench is, in terms of what the bench stands for. Assumes nothing.
use Rattle.std.specs.Prelude.{◌≡◌, ℕ, ◌<◌, ◌≤◌, Bool, List, length, Some, None, Ok, Err, Decides, Option, Result}
use Rattle.recording.specs.Meaning.{Meaning}
use Rattle.recording.specs.declared.faults.TapeFault.{TapeFault}
use Rattle.recording.specs.declared.faults.TapeFault.TheVariants.{NoPoint}
use Rattle.formula.specs.Trees.{Tree, numbered}
use Rattle.formula.specs.declared.parts.Part.{Part as Part'}
use Rattle.domain.specs.Added.{Boxes}
use Rattle.solver.specs.Derived.{derived}
use Rattle.solver.specs.declared.solvers.SolveFault.{SolveFault}
use Rattle.solver.specs.declared.solvers.SolveFault.TheVariants.{Full as full_list}
use Rattle.formula.specs.declared.parts.LimitName.{LimitName}
use Rattle.formula.specs.declared.parts.LimitName.TheVariants.{P, Q, R}
use Rattle.recording.specs.declared.recordings.Recording.{Ghosts as RecordingGhosts}
use Rattle.scale.specs.declared.scales.Scale.{Ghosts as ScaleGhosts}
use Rattle.bench.specs.declared.benches.Bench.{Bench}
use Rattle.bench.specs.declared.faults.BenchFault.{BenchFault}
use Rattle.bench.specs.declared.faults.BenchFault.TheVariants.{Tape, Record, Part, NoRule, Unsolved, Full, Ragged, Room}
use Rattle.bench.specs.Asks.{no_mark}
use Rattle.bench.specs.Settings.{fitted_from}
use Rattle.bench.specs.Views.{Agrees, TrueNow, View, limits_of}

module _ {S : Type 0} (rank : S → ℕ) where
  -- yes exactly when the formula in force is true there with the marks; a code without a mark is refused
  abbrev pub AskedOf : View S → Option S → Option S → Option S → Result Bool BenchFault → Type 0
  AskedOf v (Some p) (Some q) (Some r) answer = (yes : Bool) × (answer ≡ Ok yes) × Decides yes (TrueNow rank v (limits_of p q r))
  AskedOf v None q r answer = answer ≡ Err no_mark
  AskedOf v (Some p) None r answer = answer ≡ Err no_mark
  AskedOf v (Some p) (Some q) None answer = answer ≡ Err no_mark

  -- without a solve every question is refused
  abbrev pub IfSolved : Option ℕ → {X : Type 0} → Result X BenchFault → Type 0 → Type 0
  IfSolved None answer A = answer ≡ Err Unsolved
  IfSolved (Some point) answer A = A

  abbrev pub AskRight : (ℕ → Option S) → View S → ℕ → ℕ → ℕ → Result Bool BenchFault → Type 0
  AskRight named v p q r answer = IfSolved v.solved answer (AskedOf v (named p) (named q) (named r) answer)

  -- for every view that the bench stands for
  abbrev pub AskLaw : {R : Type 0} {telling : RecordingGhosts R S} {scale : ScaleGhosts S} → (R → Meaning S) → (ℕ → Option S) → Bench R S telling scale → ℕ → ℕ → ℕ → Result Bool BenchFault → Type 0
  AskLaw meaning named b p q r answer = (v : View S) → Agrees meaning v b → AskRight named v p q r answer

  -- marks with which the formula in force is true there, or none where there are no such marks
  abbrev pub FoundOf : (S → ℕ) → View S → Option (ℕ × ℕ × ℕ) → Type 0
  FoundOf code v None = (limits : LimitName → S) → TrueNow rank v limits → ⊥
  FoundOf code v (Some (p, q, r)) = (limits : LimitName → S) × (code (limits P) ≡ p) × (code (limits Q) ≡ q) × (code (limits R) ≡ r) × TrueNow rank v limits

  abbrev pub FindRight : (S → ℕ) → View S → Result (Option (ℕ × ℕ × ℕ)) BenchFault → Type 0
  FindRight code v answer = IfSolved v.solved answer ((codes : Option (ℕ × ℕ × ℕ)) × (answer ≡ Ok codes) × FoundOf code v codes)

  abbrev pub FindLaw : {R : Type 0} {telling : RecordingGhosts R S} {scale : ScaleGhosts S} → (R → Meaning S) → (S → ℕ) → Bench R S telling scale → Result (Option (ℕ × ℕ × ℕ)) BenchFault → Type 0
  FindLaw meaning code b answer = (v : View S) → Agrees meaning v b → FindRight code v answer

  -- what the solver derives of a formula from what the recording tells
  abbrev pub derived_from : Meaning S → Tree S → ℕ → Result (Boxes S) SolveFault
  derived_from m t point = derived rank m.mark m.points (numbered 0 t) point

  -- taken with a formula in force and at a point that there is, with the number of derived boxes
  abbrev pub SolveRight : View S → ℕ → Result ℕ BenchFault → Type 0
  SolveRight v point (Ok count) = (t : Tree S) × (list : Boxes S) × (v.rule ≡ Some t) × (point < v.told.points) × (derived_from v.told t point ≡ Ok list) × (count ≡ length list)
  SolveRight v point (Err NoRule) = v.rule ≡ None
  SolveRight v point (Err (Tape fault)) = (t : Tree S) × (v.rule ≡ Some t) × (v.told.points ≤ point) × (fault ≡ NoPoint)
  SolveRight v point (Err (Full at part)) = (t : Tree S) × (v.rule ≡ Some t) × (point < v.told.points) × (derived_from v.told t point ≡ Err (full_list at part))
  SolveRight v point (Err (Record k fault)) = ⊥
  SolveRight v point (Err (Part k fault)) = ⊥
  SolveRight v point (Err Unsolved) = ⊥
  SolveRight v point (Err Ragged) = ⊥
  SolveRight v point (Err (Room needed)) = ⊥

  abbrev pub after_solve : View S → ℕ → Result ℕ BenchFault → View S
  after_solve v point (Ok count) = record { told = v.told; rule = v.rule; solved = Some point }
  after_solve v point (Err fault) = v

  abbrev pub SolveLaw : {R : Type 0} {telling : RecordingGhosts R S} {scale : ScaleGhosts S} → (R → Meaning S) → Bench R S telling scale → ℕ → Result ℕ BenchFault → Bench R S telling scale → Type 0
  SolveLaw meaning before point answer after = (v : View S) → Agrees meaning v before → SolveRight v point answer × Agrees meaning (after_solve v point answer) after

  -- taken with the rule's parts, marks for codes, which are those of the formula that is then in force
  abbrev pub SetRight : {R : Type 0} {telling : RecordingGhosts R S} {scale : ScaleGhosts S} → (R → Meaning S) → (ℕ → Option S) → View S → List (Part' ℕ) → Result (Unit {0}) BenchFault → Bench R S telling scale → Type 0
  SetRight meaning named v rule (Ok u) after = (t : Tree S) × (fitted_from named v.told.channels 0 rule ≡ Ok (numbered 0 t)) × Agrees meaning (record { told = v.told; rule = Some t; solved = None }) after
  SetRight meaning named v rule (Err NoRule) after = (length rule ≡ 0) × Agrees meaning v after
  SetRight meaning named v rule (Err (Part k fault)) after = (0 < length rule) × (fitted_from named v.told.channels 0 rule ≡ Err (k, fault)) × Agrees meaning v after
  SetRight meaning named v rule (Err (Tape fault)) after = ⊥
  SetRight meaning named v rule (Err (Record k fault)) after = ⊥
  SetRight meaning named v rule (Err Unsolved) after = ⊥
  SetRight meaning named v rule (Err (Full at part)) after = ⊥
  SetRight meaning named v rule (Err Ragged) after = ⊥
  SetRight meaning named v rule (Err (Room needed)) after = ⊥

  abbrev pub SetLaw : {R : Type 0} {telling : RecordingGhosts R S} {scale : ScaleGhosts S} → (R → Meaning S) → (ℕ → Option S) → Bench R S telling scale → List (Part' ℕ) → Result (Unit {0}) BenchFault → Bench R S telling scale → Type 0
  SetLaw meaning named before rule answer after = (v : View S) → Agrees meaning v before → SetRight meaning named v rule answer after

  -- the tape's own answer to a change; an accepted one leaves the bench unsolved, a refused one all as it was
  abbrev pub ChangeRight : {R : Type 0} {telling : RecordingGhosts R S} {scale : ScaleGhosts S} → (R → Meaning S) → (Meaning S → Result (Unit {0}) TapeFault → Meaning S → Type 0) → View S → Result (Unit {0}) BenchFault → Bench R S telling scale → Type 0
  ChangeRight meaning does v (Ok u) after = (m : Meaning S) × does v.told (Ok u) m × Agrees meaning (record { told = m; rule = v.rule; solved = None }) after
  ChangeRight meaning does v (Err fault) after = (f : TapeFault) × (fault ≡ Tape f) × does v.told (Err f) v.told × Agrees meaning v after

  abbrev pub ChangeLaw : {R : Type 0} {telling : RecordingGhosts R S} {scale : ScaleGhosts S} → (R → Meaning S) → (Meaning S → Result (Unit {0}) TapeFault → Meaning S → Type 0) → Bench R S telling scale → Result (Unit {0}) BenchFault → Bench R S telling scale → Type 0
  ChangeLaw meaning does before answer after = (v : View S) → Agrees meaning v before → ChangeRight meaning does v answer after

-- a new bench has no rule and is unsolved
abbrev pub start_of : {S : Type 0} → Meaning S → View S
start_of m = record { told = m; rule = None; solved = None }
