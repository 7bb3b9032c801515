-- Codes of marks in place of runs. Assumes nothing.
use Rattle.std.specs.Prelude.{◌≡◌, ℕ, ◌<◌, List, length, ◌≢◌, slice_index_or}
use Rattle.scale.specs.declared.faults.ScaleFault.{ScaleFault}
use Rattle.scale.specs.declared.faults.ScaleFault.TheVariants.{Unread}
use Rattle.formula.specs.declared.parts.Operand.{Operand}
use Rattle.formula.specs.declared.parts.Operand.TheVariants.{Limit, Channel, Constant}
use Rattle.formula.specs.declared.parts.Part.{Part}
use Rattle.formula.specs.declared.parts.Part.TheVariants.{Comparison, Unary, Binary}
use Rattle.reader.specs.declared.readers.Run.{Run}
use Rattle.reader.specs.Runs.{bytes_in}

-- over the codes and the texts of a scale's marks, and the text that the runs stand in
module _ {S : Type 0} (code : S → ℕ) (written : S → List ℕ) (text : List ℕ) where
  -- the operand with the code of the mark that the run is written as
  abbrev pub CodedOperand : Operand Run → Operand ℕ → Type 0
  CodedOperand (Limit l) out = out ≡ Limit l
  CodedOperand (Channel n) out = out ≡ Channel n
  CodedOperand (Constant run) out = (m : S) × (written m ≡ bytes_in text run) × (out ≡ Constant (code m))

  -- the same of a part
  abbrev pub CodedPart : Part Run → Part ℕ → Type 0
  CodedPart (Comparison channel comparator operand) out = (o : Operand ℕ) × CodedOperand operand o × (out ≡ Comparison channel comparator o)
  CodedPart (Unary operator operand) out = out ≡ Unary operator operand
  CodedPart (Binary operator left right) out = out ≡ Binary operator left right

  -- the same of each part of a list
  pub record AllCoded (parts : List (Part Run)) (out : List (Part ℕ)) : Type 0 where
    pub long : length out ≡ length parts
    pub each : (i : ℕ) (d : Part Run) (e : Part ℕ) → i < length parts → CodedPart (slice_index_or parts i d) (slice_index_or out i e)

  -- no mark is written as the operand's run
  abbrev pub UnreadOperand : Operand Run → ScaleFault → Type 0
  UnreadOperand (Limit l) fault = ⊥
  UnreadOperand (Channel n) fault = ⊥
  UnreadOperand (Constant run) fault = (fault ≡ Unread run.start) × ((m : S) → written m ≢ bytes_in text run)

  -- the same of a part
  abbrev pub UnreadPart : Part Run → ScaleFault → Type 0
  UnreadPart (Comparison channel comparator operand) fault = UnreadOperand operand fault
  UnreadPart (Unary operator operand) fault = ⊥
  UnreadPart (Binary operator left right) fault = ⊥

  -- the first part whose run no mark is written as
  pub record FirstUnread (parts : List (Part Run)) (fault : ScaleFault) : Type 0 where
    pub at : ℕ
    pub within : at < length parts
    pub unread : (d : Part Run) → UnreadPart (slice_index_or parts at d) fault
    pub before : (i : ℕ) (d : Part Run) → i < at → (out : Part ℕ) × CodedPart (slice_index_or parts i d) out
