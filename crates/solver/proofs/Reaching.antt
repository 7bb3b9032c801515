-- A step looks at no list but those of the part's operands. Assumes nothing.
use Rattle.std.proofs.Common.{◌≡◌, ℕ, ◌+◌, ◌≤◌, Bool, true, false, cond, eqb, ap, arith}
use Rattle.formula.specs.Orders.{reach}
use Rattle.formula.specs.declared.parts.Operand.TheVariants.{Limit, Channel, Constant}
use Rattle.formula.specs.declared.parts.Part.{Part}
use Rattle.formula.specs.declared.parts.Part.TheVariants.{Comparison, Unary, Binary}
use Rattle.formula.specs.declared.parts.UnaryOperator.TheVariants.{Not, Next as next_op, Finally, Globally}
use Rattle.formula.specs.declared.parts.BinaryOperator.TheVariants.{And, Or, Implies, Until as until_op, WeakUntil as weak_op}
use Rattle.solver.specs.declared.steps.Step.{Step}
use Rattle.solver.specs.declared.steps.Step.TheVariants.{Bound, Everything, Nothing, Same, Join, Meet, Later}
use Rattle.solver.specs.declared.steps.Outlook.TheVariants.{Next, Eventually, Always, Until, WeakUntil}
use Rattle.solver.specs.Comparisons.{meets}
use Rattle.solver.specs.Steps.{settled, span, step_for, step_of, step_under_sign}

settled_span : {S : Type 0} (s : Step S) → span (settled s) ≤ span s
settled_span (Bound limit side) = omega arith
settled_span Everything = omega arith
settled_span Nothing = omega arith
settled_span (Same a) = omega arith
settled_span (Join l r) = omega arith
settled_span (Meet l r) = omega arith
settled_span (Later (Next a)) = omega arith
settled_span (Later (Eventually a)) = omega arith
settled_span (Later (Always a)) = omega arith
settled_span (Later (Until l r)) = omega arith
settled_span (Later (WeakUntil l r)) = omega arith

whole_or_none : (S : Type 0) (b : Bool) → span {S = S} (cond b Everything Nothing) ≤ 0
whole_or_none S true = omega arith
whole_or_none S false = omega arith

module _ {S : Type 0} (rank : S → ℕ) (marks : ℕ → S) where
  step_span : (t : Bool) (p : Part S) → span (step_of rank marks t p) ≤ reach p
  step_span t (Comparison channel comparator (Limit limit)) = omega arith
  step_span t (Comparison channel comparator (Channel other)) = whole_or_none S (meets rank (marks channel) (step_under_sign t comparator) (marks other))
  step_span t (Comparison channel comparator (Constant mark)) = whole_or_none S (meets rank (marks channel) (step_under_sign t comparator) mark)
  step_span t (Unary Not a) = omega arith
  step_span t (Unary next_op a) = omega arith
  step_span true (Unary Finally a) = omega arith
  step_span false (Unary Finally a) = omega arith
  step_span true (Unary Globally a) = omega arith
  step_span false (Unary Globally a) = omega arith
  step_span true (Binary And l r) = omega arith
  step_span false (Binary And l r) = omega arith
  step_span true (Binary Or l r) = omega arith
  step_span false (Binary Or l r) = omega arith
  step_span true (Binary Implies l r) = omega arith
  step_span false (Binary Implies l r) = omega arith
  step_span true (Binary until_op l r) = omega arith
  step_span false (Binary until_op l r) = omega arith
  step_span true (Binary weak_op l r) = omega arith
  step_span false (Binary weak_op l r) = omega arith

pub step_reach : {S : Type 0} (rank : S → ℕ) (marks : ℕ → ℕ → S) (points point : ℕ) (t : Bool) (p : Part S) → span (step_for rank marks points point t p) ≤ reach p
step_reach rank marks points point t p =
    let s = step_of rank (marks point) t p in
    elim (eqb (point + 1) points) as (λ b. span (cond b (settled s) s) ≤ reach p) [ true ↦ omega (arith, settled_span s, step_span rank (marks point) t p) | false ↦ step_span rank (marks point) t p ]

pub step_within : {S : Type 0} (s : Step S) (rank : S → ℕ) (marks : ℕ → ℕ → S) (points point : ℕ) (t : Bool) (p : Part S) → s ≡ step_for rank marks points point t p → span s ≤ reach p
step_within s rank marks points point t p e = omega (arith, ap span e, step_reach rank marks points point t p)
