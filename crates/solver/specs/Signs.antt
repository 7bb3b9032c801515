-- The sign of each part: a part under an odd number of negations is turned. Assumes nothing.
use Rattle.std.specs.Prelude.{Bool, false, not, List, [], ◌∷◌, reverse, length, replicate, slice_index_or, slice_set}
use Rattle.formula.specs.declared.parts.Part.{Part}
use Rattle.formula.specs.declared.parts.Part.TheVariants.{Comparison, Unary, Binary}
use Rattle.formula.specs.declared.parts.UnaryOperator.{UnaryOperator}
use Rattle.formula.specs.declared.parts.UnaryOperator.TheVariants.{Not, Next, Finally, Globally}
use Rattle.formula.specs.declared.parts.BinaryOperator.{BinaryOperator}
use Rattle.formula.specs.declared.parts.BinaryOperator.TheVariants.{Until, WeakUntil, And, Or, Implies}

-- the sign of the operand, under the operator's own
abbrev pub operand_sign : UnaryOperator → Bool → Bool
operand_sign Not turned = not turned
operand_sign Next turned = turned
operand_sign Finally turned = turned
operand_sign Globally turned = turned

-- a => b says that a does not hold, or b does
abbrev pub left_sign : BinaryOperator → Bool → Bool
left_sign Until turned = turned
left_sign WeakUntil turned = turned
left_sign And turned = turned
left_sign Or turned = turned
left_sign Implies turned = not turned

-- an operator hands its sign down to its operands
abbrev pub handed : {K : Type 0} → Part K → Bool → List Bool → List Bool
handed (Comparison _ _ _) turned signs = signs
handed (Unary op operand) turned signs = slice_set signs operand (operand_sign op turned)
handed (Binary op left right) turned signs = slice_set (slice_set signs left (left_sign op turned)) right turned

-- the same for parts in reverse order, the last one first, whose number is how many follow it
abbrev pub handed_down : {K : Type 0} → List (Part K) → List Bool → List Bool
handed_down [] signs = signs
handed_down (p ∷ ps) signs = handed_down ps (handed p (slice_index_or signs (length ps) false) signs)

-- the whole formula is not turned
abbrev pub part_signs : {K : Type 0} → List (Part K) → List Bool
part_signs parts = handed_down (reverse parts) (replicate 24 false)
