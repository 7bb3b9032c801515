-- What changing the tape of a bench answers: the tape's own answer, and an accepted change leaves the bench unsolved.
-- Assumes nothing.
use Rattle.std.specs.Prelude.{◌≡◌, ℕ, ◌<◌, ◌≤◌, true, false, Some, None, Ok, Err, Option, Result}
use Rattle.scale.specs.declared.faults.ScaleFault.TheVariants.{Unread, NoMark}
use Rattle.recording.specs.Changes.{Amended}
use Rattle.recording.specs.Meaning.{Meaning}
use Rattle.recording.specs.declared.faults.TapeFault.{TapeFault}
use Rattle.recording.specs.declared.faults.TapeFault.TheVariants.{NoChannel, NoPoint, NotGiven, Full, TickNotLater, Scale}
use Rattle.bench.specs.declared.faults.BenchFault.{BenchFault}
use Rattle.bench.specs.declared.faults.BenchFault.TheVariants.{Tape}

-- P is what the tape answers; the point of the solve that stands, before and after
abbrev pub Changes : (Result (Unit {0}) TapeFault → Type 0) → Result (Unit {0}) BenchFault → Option ℕ → Option ℕ → Type 0
Changes P (Ok u) was is = P (Ok u) × (is ≡ None)
Changes P (Err fault) was is = (f : TapeFault) × (fault ≡ Tape f) × P (Err f) × (is ≡ was)

-- amending by code: the place is looked at first, then whether the code has a mark
module _ {S : Type 0} (named : ℕ → Option S) (before : Meaning S) (point channel code : ℕ) where
  abbrev pub CodeAmended : Result (Unit {0}) TapeFault → Meaning S → Type 0
  CodeAmended (Ok u) after = (m : S) × (named code ≡ Some m) × Amended before point channel m (Ok u) after
  CodeAmended (Err NoPoint) after = (before.points ≤ point) × (after ≡ before)
  CodeAmended (Err NoChannel) after = (point < before.points) × (before.channels ≤ channel) × (after ≡ before)
  CodeAmended (Err NotGiven) after = (point < before.points) × (channel < before.channels) × (before.given channel ≡ false) × (after ≡ before)
  CodeAmended (Err (Scale NoMark)) after = (point < before.points) × (before.given channel ≡ true) × (named code ≡ None) × (after ≡ before)
  CodeAmended (Err (Scale (Unread place))) after = ⊥
  CodeAmended (Err Full) after = ⊥
  CodeAmended (Err TickNotLater) after = ⊥

  -- the place can be amended, or is refused
  abbrev pub Placed : Result (Unit {0}) TapeFault → Type 0
  Placed (Ok u) = (point < before.points) × (before.given channel ≡ true)
  Placed (Err NoPoint) = before.points ≤ point
  Placed (Err NoChannel) = (point < before.points) × (before.channels ≤ channel)
  Placed (Err NotGiven) = (point < before.points) × (channel < before.channels) × (before.given channel ≡ false)
  Placed (Err (Scale fault)) = ⊥
  Placed (Err Full) = ⊥
  Placed (Err TickNotLater) = ⊥
