-- Operands come before their operator. Assumes nothing.
use Rattle.std.specs.Prelude.{ℕ, ◌+◌, ◌<◌, ◌≤◌, max, List, length, slice_index_or}
use Rattle.formula.specs.declared.parts.Part.{Part}
use Rattle.formula.specs.declared.parts.Part.TheVariants.{Comparison, Unary, Binary}

-- the least number that a part with these operands can have
abbrev pub reach : {K : Type 0} → Part K → ℕ
reach (Comparison _ _ _) = 0
reach (Unary _ operand) = operand + 1
reach (Binary _ left right) = max left right + 1

-- the operands of each part have lower numbers than the part
abbrev pub Ordered : {K : Type 0} → List (Part K) → Type 0
Ordered {K} parts = (i : ℕ) (d : Part K) → i < length parts → reach (slice_index_or parts i d) ≤ i

-- a formula has at most 24 parts, and takes one more only after its operands
pub record Fits {K : Type 0} (part : Part K) (parts : List (Part K)) : Type 0 where
  pub room : length parts < 24
  pub after : reach part ≤ length parts
