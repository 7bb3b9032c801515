-- What a recording tells with a layer over it, which works out one channel more. Assumes nothing.
use Rattle.std.specs.Prelude.{◌≡◌, ℕ, ◌+◌, ◌<◌, min, Bool, false, cond, ◌==◌, nat_lt}
use Rattle.layers.specs.declared.layers.Layer.{Layer}
use Rattle.recording.specs.Meaning.{Meaning}

-- sixteen channels are the most, and a channel that is added has the next number
abbrev pub takes : ℕ → ℕ → Bool
takes channels n = cond (nat_lt channels 16) (n == channels) false

-- c is the channel n that is added
abbrev pub shows_added : {M : Type 0} → ℕ → Meaning M → ℕ → Bool
shows_added n m c = cond (c == n) (takes m.channels n) false

-- all is told as below, but for the marks of channel n where it is added: those are worked out, and not given
abbrev pub layered : {M : Type 0} → M → (ℕ → M) → ℕ → Meaning M → Meaning M
layered rest worked n m =
    record {
      points = m.points;
      capacity = m.capacity;
      channels = cond (takes m.channels n) (n + 1) m.channels;
      given = m.given;
      tick = m.tick;
      mark = λ i c. cond (shows_added n m c) (cond (nat_lt i m.points) (worked i) rest) (m.mark i c);
    }

-- what a layer tells, from what its recording tells and what it works out of that
abbrev pub told_by : {R W M : Type 0} → M → (R → Meaning M) → (W → Meaning M → ℕ → M) → Layer R W → Meaning M
told_by rest meaning worked s = layered rest (worked s.working (meaning s.below)) s.number (meaning s.below)

-- the same layer over another recording
pub record SameLayer {R W : Type 0} (s t : Layer R W) : Type 0 where
  pub working : t.working ≡ s.working
  pub number : t.number ≡ s.number

-- told over m is all that m tells, and one channel more, with the next number and not given, unless m has sixteen
pub record Overlaid {M : Type 0} (m told : Meaning M) : Type 0 where
  pub points : told.points ≡ m.points
  pub capacity : told.capacity ≡ m.capacity
  pub channels : told.channels ≡ min (m.channels + 1) 16
  pub ticks : (i : ℕ) → told.tick i ≡ m.tick i
  pub given : (c : ℕ) → told.given c ≡ m.given c
  pub not_given : told.given m.channels ≡ false
  pub marks : (i c : ℕ) → c < m.channels → told.mark i c ≡ m.mark i c
