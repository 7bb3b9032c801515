-- Which runs of a text the parts that were read tell of. Assumes nothing.
use Rattle.std.specs.Prelude.{◌≡◌, ℕ, ◌+◌, ◌<◌, ◌≤◌, List, [], ◌∷◌, ◌++◌, Result, MatchResult, slice_index}
use Rattle.scale.specs.Marks.{RunByte}
use Rattle.formula.specs.declared.parts.Operand.{Operand}
use Rattle.formula.specs.declared.parts.Part.{Part}
use Rattle.formula.specs.declared.parts.Part.TheVariants.{Comparison, Unary, Binary}
use Rattle.text.specs.declared.faults.TextFault.{TextFault}
use Rattle.reader.specs.declared.readers.Cursor.{Cursor}
use Rattle.reader.specs.declared.readers.Run.{Run}
use Rattle.reader.specs.Blame.{before, Sign}
use Rattle.reader.specs.Halts.{halt}
use Rattle.reader.specs.Operands.{MeantBy}
use Rattle.reader.specs.Runs.{bytes_in, IsRun}

-- an opening bracket, or nothing, stands before the cursor
abbrev pub Opened : Cursor → Type 0
Opened c = before c.text.now c.at ≡ 40

-- no run begins behind a sign, from one place to before another
abbrev pub Quiet : List ℕ → ℕ → ℕ → Type 0
Quiet text from to = (k : ℕ) → from ≤ k → k < to → Sign (before text k) → RunByte (slice_index text k) → ⊥

-- the operand is what a run of the text means
pub record Means (text : List ℕ) (from to : ℕ) (operand : Operand Run) : Type 0 where
  pub run : Run
  pub starts : run.start ≡ from
  pub ends : run.end ≡ to
  pub runs : IsRun text run
  pub meant : MeantBy (bytes_in text run) run operand

-- the operands of the comparisons among some parts
abbrev pub operands_of : List (Part Run) → List (Operand Run)
operands_of [] = []
operands_of (Comparison channel comparator operand ∷ parts) = operand ∷ operands_of parts
operands_of (Unary operator operand ∷ parts) = operands_of parts
operands_of (Binary operator left right ∷ parts) = operands_of parts

-- the operands are what the runs behind a sign mean, from one place to before another, one after the other
abbrev pub TellOf : List ℕ → ℕ → ℕ → List (Operand Run) → Type 0
TellOf text from to [] = Quiet text from to
TellOf text from to (o ∷ os) =
    (k : ℕ) × (end : ℕ) × (from ≤ k) × (k < to) × Quiet text from k × Sign (before text k) × Means text k end o × TellOf text (k + 1) to os

-- the parts that were added tell of the runs in a stretch of the text
pub record Tells (text : List ℕ) (from to : ℕ) (old new : List (Part Run)) : Type 0 where
  pub forward : from ≤ to
  pub more : List (Part Run)
  pub added : new ≡ old ++ more
  pub told : TellOf text from to (operands_of more)

-- reading one formula: the parts tell of the runs in it, or of those before the place where it was refused
abbrev pub ToldBy : {X : Type 0} → Result X TextFault → Cursor → ℕ → List (Part Run) → List (Part Run) → Type 0
ToldBy r start to old new =
    Opened start
    → MatchResult r (λ _. Tells start.text.now start.at to old new) (λ e. Tells start.text.now start.at (halt e) old new)
