-- The parts of a rule held against a recording's channels and scale. Assumes nothing.
use Rattle.std.specs.Prelude.{◌≡◌, ℕ, ◌+◌, cond, List, [], ◌∷◌, Some, None, Ok, Err, Option, Result, nat_lt}
use Rattle.scale.specs.declared.faults.ScaleFault.TheVariants.{NoMark}
use Rattle.recording.specs.declared.faults.TapeFault.{TapeFault}
use Rattle.recording.specs.declared.faults.TapeFault.TheVariants.{NoChannel, Scale}
use Rattle.bench.specs.declared.faults.BenchFault.{BenchFault}
use Rattle.bench.specs.declared.faults.BenchFault.TheVariants.{Tape, Record, Part as part_fault, NoRule, Unsolved, Full, Ragged, Room}
use Rattle.formula.specs.declared.parts.Comparator.{Comparator}
use Rattle.formula.specs.declared.parts.Operand.{Operand}
use Rattle.formula.specs.declared.parts.Operand.TheVariants.{Limit, Channel, Constant}
use Rattle.formula.specs.declared.parts.Part.{Part}
use Rattle.formula.specs.declared.parts.Part.TheVariants.{Comparison, Unary, Binary}

-- the channels that a part names, its own before that of its operand
module _ (channels : ℕ) where
  abbrev pub channel_checked : ℕ → Result (Unit {0}) TapeFault
  channel_checked c = cond (nat_lt c channels) (Ok tt) (Err NoChannel)

  abbrev pub operand_checked : Operand ℕ → Result (Unit {0}) TapeFault
  operand_checked (Limit l) = Ok tt
  operand_checked (Channel c) = channel_checked c
  operand_checked (Constant k) = Ok tt

  abbrev pub channels_checked : Part ℕ → Result (Unit {0}) TapeFault
  channels_checked (Comparison channel comparator operand) = cond (nat_lt channel channels) (operand_checked operand) (Err NoChannel)
  channels_checked (Unary operator operand) = Ok tt
  channels_checked (Binary operator left right) = Ok tt

module _ {S : Type 0} (named : ℕ → Option S) (channels : ℕ) where
  -- the mark of a constant's code
  abbrev pub marked : Option S → Result (Operand S) TapeFault
  marked None = Err (Scale NoMark)
  marked (Some m) = Ok (Constant m)

  abbrev pub fitted_operand : Operand ℕ → Result (Operand S) TapeFault
  fitted_operand (Limit l) = Ok (Limit l)
  fitted_operand (Channel c) = cond (nat_lt c channels) (Ok (Channel c)) (Err NoChannel)
  fitted_operand (Constant k) = marked (named k)

  abbrev pub compared : ℕ → Comparator → Result (Operand S) TapeFault → Result (Part S) TapeFault
  compared channel comparator (Ok operand) = Ok (Comparison channel comparator operand)
  compared channel comparator (Err fault) = Err fault

  -- a comparison whose channels there are and whose constant is a mark; operators stay as they are
  abbrev pub fitted_part : Part ℕ → Result (Part S) TapeFault
  fitted_part (Comparison channel comparator operand) = cond (nat_lt channel channels) (compared channel comparator (fitted_operand operand)) (Err NoChannel)
  fitted_part (Unary operator operand) = Ok (Unary operator operand)
  fitted_part (Binary operator left right) = Ok (Binary operator left right)

  -- the parts in their order, or the first that is refused, with its number
  abbrev pub onward : ℕ → Result (Part S) TapeFault → Result (List (Part S)) (ℕ × TapeFault) → Result (List (Part S)) (ℕ × TapeFault)
  onward k (Ok p) (Ok ps) = Ok (p ∷ ps)
  onward k (Ok p) (Err e) = Err e
  onward k (Err fault) r = Err (k, fault)

  abbrev pub fitted_from : ℕ → List (Part ℕ) → Result (List (Part S)) (ℕ × TapeFault)
  fitted_from k [] = Ok []
  fitted_from k (p ∷ ps) = onward k (fitted_part p) (fitted_from (k + 1) ps)

-- a call left these parts, or was refused at this one
abbrev pub Fitted : {S : Type 0} → Result (Unit {0}) BenchFault → List (Part S) → Result (List (Part S)) (ℕ × TapeFault) → Type 0
Fitted (Ok _) parts fitted = fitted ≡ Ok parts
Fitted (Err (part_fault k fault)) parts fitted = fitted ≡ Err (k, fault)
Fitted (Err (Tape fault)) parts fitted = ⊥
Fitted (Err (Record k fault)) parts fitted = ⊥
Fitted (Err NoRule) parts fitted = ⊥
Fitted (Err Unsolved) parts fitted = ⊥
Fitted (Err (Full point k)) parts fitted = ⊥
Fitted (Err Ragged) parts fitted = ⊥
Fitted (Err (Room needed)) parts fitted = ⊥
