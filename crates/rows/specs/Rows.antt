-- What rows tell as a recording. Assumes nothing.
use Rattle.std.specs.Prelude.{◌≡◌, ℕ, ◌^◌, ◌<◌, ◌≤◌, min, cond, List, length, get_or, ◌==◌, nat_lt, slice_index_or}
use Rattle.rows.specs.declared.rows.Row.{Row}
use Rattle.recording.specs.Meaning.{Meaning, Rising}

-- the ticks of the first n rows have 32 bits and rise, whatever row d is taken where there is none
abbrev pub TicksFit : {S : Type 0} → List (Row S) → ℕ → Type 0
TicksFit {S} rows n = (d : Row S) (i : ℕ) → i < n → (get_or rows i d).tick < 2 ^ 32

abbrev pub TicksRise : {S : Type 0} → List (Row S) → ℕ → Type 0
TicksRise {S} rows n = (d : Row S) → Rising (λ i. (get_or rows i d).tick) n

-- there are as many rows as before, and behind the first n they are as they were
pub record RowsLeft {S : Type 0} (before after : List (Row S)) (n : ℕ) : Type 0 where
  pub count : length after ≡ length before
  pub others : (d : Row S) (i : ℕ) → n ≤ i → slice_index_or after i d ≡ slice_index_or before i d

module _ {S : Type 0} (rest : S) where
  -- a row where nothing was recorded
  abbrev pub blank : Row S
  blank = record { tick = 0; c0 = rest; c1 = rest; c2 = rest; c3 = rest }

  -- the mark that a row has for a channel, and rest for a channel that it has not
  abbrev pub mark_in : Row S → ℕ → S
  mark_in row c =
      cond (c == 0) row.c0 (cond (c == 1) row.c1 (cond (c == 2) row.c2 (cond (c == 3) row.c3 rest)))

  -- a point for each of the first n rows, with room for a point in each, and four given channels; rest stands outside
  abbrev pub rowed : List (Row S) → ℕ → Meaning S
  rowed rows n =
      record {
        points = n;
        capacity = min (length rows) 2048;
        channels = 4;
        given = λ c. nat_lt c 4;
        tick = λ i. cond (nat_lt i n) (get_or rows i blank).tick 0;
        mark = λ i c. cond (nat_lt i n) (mark_in (slice_index_or rows i blank) c) rest;
      }
