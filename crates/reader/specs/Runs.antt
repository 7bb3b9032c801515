-- Runs: the longest stretches of small letters, digits and minus. Assumes nothing.
use Rattle.std.specs.Prelude.{ℕ, ◌-◌, ◌<◌, ◌≤◌, List, length, take, drop, slice_index}
use Rattle.scale.specs.Marks.{RunByte}
use Rattle.reader.specs.declared.readers.Run.{Run}

-- the bytes of a stretch of a text
abbrev pub bytes_in : List ℕ → Run → List ℕ
bytes_in text run = take (run.end - run.start) (drop run.start text)

-- a stretch of the text that is a run, and goes on as far as it can
pub record IsRun (text : List ℕ) (run : Run) : Type 0 where
  pub some : run.start < run.end
  pub within : run.end ≤ length text
  pub each : (k : ℕ) → run.start ≤ k → k < run.end → RunByte (slice_index text k)
  pub longest : run.end < length text → RunByte (slice_index text run.end) → ⊥
