-- Parts with another kind of constant, made by a call that may refuse a constant. Assumes nothing.
use Rattle.std.specs.Prelude.{◌≡◌, Ok, Err, Result, MatchResult}
use Rattle.formula.specs.declared.parts.Operand.{Operand}
use Rattle.formula.specs.declared.parts.Operand.TheVariants.{Limit, Channel, Constant}
use Rattle.formula.specs.declared.parts.Part.{Part}
use Rattle.formula.specs.declared.parts.Part.TheVariants.{Comparison, Unary, Binary}

-- over what a call may answer at a constant
module _ {K L E : Type 0} (answers : K → Result L E → Type 0) where
  -- the operand with the constant that the call gives, or the call's refusal
  abbrev pub ConvertsOperand : Operand K → Result (Operand L) E → Type 0
  ConvertsOperand (Limit l) out = out ≡ Ok (Limit l)
  ConvertsOperand (Channel n) out = out ≡ Ok (Channel n)
  ConvertsOperand (Constant k) out = MatchResult out (λ o. (m : L) × answers k (Ok m) × (o ≡ Constant m)) (λ e. answers k (Err e))

  -- the same of a part
  abbrev pub ConvertsPart : Part K → Result (Part L) E → Type 0
  ConvertsPart (Comparison channel comparator operand) out = MatchResult out (λ p. (o : Operand L) × ConvertsOperand operand (Ok o) × (p ≡ Comparison channel comparator o)) (λ e. ConvertsOperand operand (Err e))
  ConvertsPart (Unary operator operand) out = out ≡ Ok (Unary operator operand)
  ConvertsPart (Binary operator left right) out = out ≡ Ok (Binary operator left right)
