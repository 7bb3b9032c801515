-- How a part's list is made, by kind and sign. A turned part says the opposite of the part. Assumes nothing.
use Rattle.std.specs.Prelude.{ℕ, ◌+◌, max, Bool, cond, ◌==◌}
use Rattle.formula.specs.Parts.{opposed}
use Rattle.formula.specs.declared.parts.Comparator.{Comparator}
use Rattle.formula.specs.declared.parts.BinaryOperator.{BinaryOperator}
use Rattle.formula.specs.declared.parts.UnaryOperator.{UnaryOperator}
use Rattle.formula.specs.declared.parts.Operand.{Operand}
use Rattle.formula.specs.declared.parts.Operand.TheVariants.{Limit, Channel, Constant}
use Rattle.formula.specs.declared.parts.Part.{Part}
use Rattle.formula.specs.declared.parts.Part.TheVariants.{Comparison, Unary, Binary}
use Rattle.formula.specs.declared.parts.UnaryOperator.TheVariants.{Not, Next as next_op, Finally, Globally}
use Rattle.formula.specs.declared.parts.BinaryOperator.TheVariants.{And, Or, Implies, Until as until_op, WeakUntil as weak_op}
use Rattle.solver.specs.declared.steps.Step.{Step}
use Rattle.solver.specs.declared.steps.Step.TheVariants.{Bound, Everything, Nothing, Same, Join, Meet, Later}
use Rattle.solver.specs.declared.steps.Outlook.{Outlook}
use Rattle.solver.specs.declared.steps.Outlook.TheVariants.{Next, Eventually, Always, Until, WeakUntil}
use Rattle.solver.specs.Comparisons.{side_of, meets}

abbrev pub step_under_sign : Bool → Comparator → Comparator
step_under_sign turned comparator = cond turned (opposed comparator) comparator

-- the part whose list is taken at the last point, which repeats for ever
abbrev pub last_step : Outlook → ℕ
last_step (Next a) = a
last_step (Eventually a) = a
last_step (Always a) = a
last_step (Until l r) = r
last_step (WeakUntil l r) = l

abbrev pub settled : {S : Type 0} → Step S → Step S
settled (Bound limit side) = Bound limit side
settled Everything = Everything
settled Nothing = Nothing
settled (Same a) = Same a
settled (Join l r) = Join l r
settled (Meet l r) = Meet l r
settled (Later outlook) = Same (last_step outlook)

-- how many lists of parts a step looks at, at least
abbrev pub outlook_span : Outlook → ℕ
outlook_span (Next a) = a + 1
outlook_span (Eventually a) = a + 1
outlook_span (Always a) = a + 1
outlook_span (Until l r) = max l r + 1
outlook_span (WeakUntil l r) = max l r + 1

abbrev pub span : {S : Type 0} → Step S → ℕ
span (Bound limit side) = 0
span Everything = 0
span Nothing = 0
span (Same a) = a + 1
span (Join l r) = max l r + 1
span (Meet l r) = max l r + 1
span (Later outlook) = outlook_span outlook

abbrev pub unary_step : {S : Type 0} → Bool → UnaryOperator → ℕ → Step S
-- the operand is turned in the place of the part
unary_step turned Not operand = Same operand
unary_step turned next_op operand = Later (Next operand)
unary_step turned Finally operand = Later (cond turned (Always operand) (Eventually operand))
unary_step turned Globally operand = Later (cond turned (Eventually operand) (Always operand))

abbrev pub binary_step : {S : Type 0} → Bool → BinaryOperator → ℕ → ℕ → Step S
binary_step turned And left right = cond turned (Join left right) (Meet left right)
binary_step turned Or left right = cond turned (Meet left right) (Join left right)
-- the left operand is turned the other way
binary_step turned Implies left right = cond turned (Meet left right) (Join left right)
-- the dual of until is weak until with its sides exchanged, and the other way round
binary_step turned until_op left right = Later (cond turned (WeakUntil right left) (Until left right))
binary_step turned weak_op left right = Later (cond turned (Until right left) (WeakUntil left right))

-- marks gives the mark of each channel at the point
module _ {S : Type 0} (rank : S → ℕ) (marks : ℕ → S) where
  abbrev pub comparison_step : ℕ → Comparator → Operand S → Step S
  comparison_step channel comparator (Limit limit) = Bound limit (side_of comparator (marks channel))
  comparison_step channel comparator (Channel other) = cond (meets rank (marks channel) comparator (marks other)) Everything Nothing
  comparison_step channel comparator (Constant mark) = cond (meets rank (marks channel) comparator mark) Everything Nothing

  abbrev pub step_of : Bool → Part S → Step S
  step_of turned (Comparison channel comparator operand) = comparison_step channel (step_under_sign turned comparator) operand
  step_of turned (Unary operator operand) = unary_step turned operator operand
  step_of turned (Binary operator left right) = binary_step turned operator left right

-- the step at a point of a recording with so many points; the last of them repeats for ever
abbrev pub step_for : {S : Type 0} → (S → ℕ) → (ℕ → ℕ → S) → ℕ → ℕ → Bool → Part S → Step S
step_for rank marks points point turned part = cond (point + 1 == points) (settled (step_of rank (marks point) turned part)) (step_of rank (marks point) turned part)
