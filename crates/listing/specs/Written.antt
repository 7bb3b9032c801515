-- What is written to an output. Assumes nothing.
use Rattle.std.specs.Prelude.{◌≡◌, ℕ, ◌+◌, ◌-◌, ◌^◌, ◌<◌, ◌≤◌, min, List, ◌++◌, length, take, drop, Ok, Err, Result}
use Rattle.listing.specs.declared.outputs.NoRoom.{NoRoom}

-- taken: the text stands from the place on, all else is as it was, and its end is told; refused for want of room: nothing is
-- changed, and the end that there was no room for is told, as far as a number of 64 bits goes
abbrev pub Puts : List ℕ → ℕ → List ℕ → Result ℕ NoRoom → List ℕ → Type 0
Puts before at text (Ok end) after = (at + length text ≤ length before) × (end ≡ at + length text) × (after ≡ take at before ++ (text ++ drop (at + length text) before))
Puts before at text (Err e) after = (length before < at + length text) × (e.needed ≡ min (at + length text) (2 ^ 64 - 1)) × (after ≡ before)

-- the same at the front of the output
abbrev pub Fronts : List ℕ → Result ℕ NoRoom → List ℕ → List ℕ → Type 0
Fronts text (Ok n) before after = (length text ≤ length before) × (n ≡ length text) × (after ≡ text ++ drop (length text) before)
Fronts text (Err e) before after = (length before < length text) × (e.needed ≡ length text) × (after ≡ before)
