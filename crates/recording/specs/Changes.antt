-- What each change of a tape does to what it tells, and when it is refused. Assumes nothing.
use Rattle.std.specs.Prelude.{◌≡◌, ℕ, ◌+◌, ◌-◌, ◌<◌, ◌≤◌, true, false, Ok, Err, Result, ◌≢◌}
use Rattle.recording.specs.declared.faults.TapeFault.{TapeFault}
use Rattle.recording.specs.declared.faults.TapeFault.TheVariants.{NoChannel, NoPoint, NotGiven, Full, TickNotLater, Scale}
use Rattle.recording.specs.Meaning.{Meaning}

module _ {M : Type 0} (before : Meaning M) where
  -- what no change touches, and the ticks of the first n points
  pub record Kept (n : ℕ) (after : Meaning M) : Type 0 where
    pub capacity : after.capacity ≡ before.capacity
    pub channels : after.channels ≡ before.channels
    pub given : (c : ℕ) → after.given c ≡ before.given c
    pub ticks : (i : ℕ) → i < n → after.tick i ≡ before.tick i

  -- the given marks of the first n points are as they were
  abbrev pub MarksKept : ℕ → Meaning M → Type 0
  MarksKept n after = (i c : ℕ) → i < n → before.given c ≡ true → after.mark i c ≡ before.mark i c

  -- one given mark is another
  pub record Replaced (point channel : ℕ) (mark : M) (after : Meaning M) : Type 0 where
    pub points : after.points ≡ before.points
    pub kept : Kept before.points after
    pub new_mark : after.mark point channel ≡ mark
    pub marks : (i c : ℕ) → i < before.points → before.given c ≡ true
        → (i ≡ point → c ≢ channel) → after.mark i c ≡ before.mark i c

  -- the last point is gone
  pub record Shorter (after : Meaning M) : Type 0 where
    pub points : after.points + 1 ≡ before.points
    pub kept : Kept after.points after
    pub marks : MarksKept after.points after

  -- the tick is after that of the last point, if there is one
  abbrev pub Follows : ℕ → Type 0
  Follows tick = 0 < before.points → before.tick (before.points - 1) < tick

  -- what amending answers
  abbrev pub Amended : {X : Type 0} → ℕ → ℕ → M → Result X TapeFault → Meaning M → Type 0
  Amended point channel mark (Ok x) after =
      (point < before.points) × (before.given channel ≡ true) × Replaced point channel mark after
  Amended point channel mark (Err NoPoint) after = (before.points ≤ point) × (after ≡ before)
  Amended point channel mark (Err NoChannel) after =
      (point < before.points) × (before.channels ≤ channel) × (after ≡ before)
  Amended point channel mark (Err NotGiven) after =
      (point < before.points) × (channel < before.channels) × (before.given channel ≡ false) × (after ≡ before)
  Amended point channel mark (Err Full) after = ⊥
  Amended point channel mark (Err TickNotLater) after = ⊥
  Amended point channel mark (Err (Scale fault)) after = ⊥

  -- what withdrawing answers
  abbrev pub Withdrawn : {X : Type 0} → Result X TapeFault → Meaning M → Type 0
  Withdrawn (Ok x) after = Shorter after
  Withdrawn (Err NoPoint) after = (before.points ≡ 0) × (after ≡ before)
  Withdrawn (Err NoChannel) after = ⊥
  Withdrawn (Err NotGiven) after = ⊥
  Withdrawn (Err Full) after = ⊥
  Withdrawn (Err TickNotLater) after = ⊥
  Withdrawn (Err (Scale fault)) after = ⊥

module _ {M : Type 0} (rest : M) (before : Meaning M) where
  -- one point more, whose given marks repeat those of the last one, or rest where it is the first
  pub record Longer (tick : ℕ) (after : Meaning M) : Type 0 where
    pub points : after.points ≡ before.points + 1
    pub kept : Kept before before.points after
    pub new_tick : after.tick before.points ≡ tick
    pub marks : MarksKept before before.points after
    pub repeats : (c : ℕ) → before.given c ≡ true → 0 < before.points
        → after.mark before.points c ≡ before.mark (before.points - 1) c
    pub rests : (c : ℕ) → before.given c ≡ true → before.points ≡ 0 → after.mark before.points c ≡ rest

  -- what adding answers
  abbrev pub Added : {X : Type 0} → ℕ → Result X TapeFault → Meaning M → Type 0
  Added tick (Ok x) after = (before.points < before.capacity) × Follows before tick × Longer tick after
  Added tick (Err Full) after = (before.points ≡ before.capacity) × (after ≡ before)
  Added tick (Err TickNotLater) after =
      (before.points < before.capacity) × (0 < before.points) × (tick ≤ before.tick (before.points - 1))
      × (after ≡ before)
  Added tick (Err NoChannel) after = ⊥
  Added tick (Err NoPoint) after = ⊥
  Added tick (Err NotGiven) after = ⊥
  Added tick (Err (Scale fault)) after = ⊥
