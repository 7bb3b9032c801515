-- How far a text has been read. Assumes nothing.
use Rattle.std.specs.Prelude.{◌≡◌, ℕ, ◌+◌, ◌<◌, ◌≤◌, ◌⊎◌, List, [], ◌∷◌, ◌++◌, length, drop, ◌≢◌, slice_index}
use Rattle.formula.specs.declared.parts.BinaryOperator.{BinaryOperator}
use Rattle.text.specs.declared.faults.TextFault.{TextFault}
use Rattle.text.specs.declared.faults.TextFault.TheVariants.{Form, Parts}
use Rattle.reader.specs.declared.readers.Cursor.{Cursor}
use Rattle.reader.specs.Spellings.{binary_text, first_of}

-- the bytes that are still to be read
abbrev pub rest : Cursor → List ℕ
rest c = drop c.at c.text.now

-- the next byte is b
abbrev pub Ahead : Cursor → ℕ → Type 0
Ahead c b = (c.at < length c.text.now) × (slice_index c.text.now c.at ≡ b)

-- reading went on over these bytes and met so many parts in them
pub record Passes (before after : Cursor) (bytes : List ℕ) (parts : ℕ) : Type 0 where
  pub same : after.text.now ≡ before.text.now
  pub over : rest before ≡ bytes ++ rest after
  pub counts : after.met ≡ before.met + parts

-- one more part was met, and nothing was read
pub record Meets (before after : Cursor) : Type 0 where
  pub same : after.text ≡ before.text
  pub here : after.at ≡ before.at
  pub counts : after.met ≡ before.met + 1

-- no operator between two operands is ahead that could still be counted
abbrev pub NoOperator : Cursor → Type 0
NoOperator c = (op : BinaryOperator) (after : List ℕ) → c.met < 24 → rest c ≢ binary_text op ++ after

-- a decimal digit
abbrev pub Digit : ℕ → Type 0
Digit b = (48 ≤ b) × (b ≤ 57)

-- the ways in which no operator between two operands is read: no byte of one is ahead
pub record NoneBegins (c : Cursor) (fault : TextFault) : Type 0 where
  pub blamed : fault ≡ Form c.at
  pub none : (op : BinaryOperator) → Ahead c (first_of op) → ⊥

-- one is ahead that cannot be counted
pub record NoneLeft (c : Cursor) (fault : TextFault) : Type 0 where
  pub blamed : fault ≡ Parts c.at
  pub full : c.met ≡ 24
  pub op : BinaryOperator
  pub begins : Ahead c (first_of op)

-- the first byte of an arrow has no second
pub record HalfRead (c : Cursor) (fault : TextFault) : Type 0 where
  pub next : Cursor
  pub blamed : fault ≡ Form next.at
  pub read : Passes c next (61 ∷ []) 1
  pub none : Ahead next 62 → ⊥

abbrev pub Operatorless : Cursor → TextFault → Type 0
Operatorless c fault = NoneBegins c fault ⊎ (NoneLeft c fault ⊎ HalfRead c fault)
