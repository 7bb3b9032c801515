-- The change of a reading from each point to the next, held to the range of readings. Assumes nothing.
use Rattle.std.specs.Prelude.{◌≡◌, ℕ, ◌+◌, ◌<◌, ◌≤◌, cond, pos, ◌-ℤ◌, nat_lt}
use Rattle.scale.specs.Readings.{held, value_of}
use Rattle.scale.specs.declared.values.Reading.{Reading}
use Rattle.layers.specs.Layers.{Overlaid}
use Rattle.recording.specs.Meaning.{Meaning}

-- what a difference layer of channel c works out: 0 at the last point, which has no next one
abbrev pub difference_of : ℕ → Meaning Reading → ℕ → Reading
difference_of c m i =
    cond (nat_lt (i + 1) m.points) (held (value_of (m.mark (i + 1) c) -ℤ value_of (m.mark i c))) (held (pos 0))

-- told over m are the differences of channel c, and rest where m has no such channel
pub record DifferenceOver (c : ℕ) (m told : Meaning Reading) : Type 0 where
  pub over : Overlaid m told
  pub steps : (i : ℕ) → m.channels < 16 → i + 1 < m.points
      → told.mark i m.channels ≡ held (value_of (m.mark (i + 1) c) -ℤ value_of (m.mark i c))
  pub last : (i : ℕ) → i + 1 ≡ m.points → told.mark i m.channels ≡ held (pos 0)
  pub absent : (i : ℕ) → m.channels ≤ c → told.mark i m.channels ≡ held (pos 0)
