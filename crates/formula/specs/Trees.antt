-- Formulas as trees: their parts and their depth. Assumes nothing.
use Rattle.std.specs.Prelude.{ℕ, ◌+◌, ◌-◌, max, List, [], ◌∷◌, ◌++◌}
use Rattle.formula.specs.declared.parts.Comparator.{Comparator}
use Rattle.formula.specs.declared.parts.UnaryOperator.{UnaryOperator}
use Rattle.formula.specs.declared.parts.BinaryOperator.{BinaryOperator}
use Rattle.formula.specs.declared.parts.Operand.{Operand}
use Rattle.formula.specs.declared.parts.Operand.TheVariants.{Limit, Channel, Constant}
use Rattle.formula.specs.declared.parts.Part.{Part}
use Rattle.formula.specs.declared.parts.Part.TheVariants.{Comparison, Unary, Binary}

-- a comparison, or an operator over its operands; K is the kind of constants
pub data Tree (K : Type 0) : Type 0 where
  compares : ℕ → Comparator → Operand K → Tree K
  one : UnaryOperator → Tree K → Tree K
  two : BinaryOperator → Tree K → Tree K → Tree K

module _ {K : Type 0} where
  -- how many parts there are
  abbrev pub size : Tree K → ℕ
  size (compares _ _ _) = 1
  size (one _ t) = size t + 1
  size (two _ l r) = size l + size r + 1

  -- the number of the last part, where the first has the number n
  abbrev pub root : ℕ → Tree K → ℕ
  root n t = n + size t - 1

  -- the parts numbered from n on: left operand, right operand, then operator
  abbrev pub numbered : ℕ → Tree K → List (Part K)
  numbered n (compares channel comparator operand) = Comparison channel comparator operand ∷ []
  numbered n (one op t) = numbered n t ++ Unary op (root n t) ∷ []
  numbered n (two op l r) = numbered n l ++ (numbered (n + size l) r ++ Binary op (root n l) (root (n + size l) r) ∷ [])

  -- how many brackets are open at once, at most
  abbrev pub depth : Tree K → ℕ
  depth (compares _ _ _) = 0
  depth (one _ t) = depth t + 1
  depth (two _ l r) = max (depth l) (depth r) + 1

-- the same operand with another kind of constant
abbrev pub map_operand : {K L : Type 0} → (K → L) → Operand K → Operand L
map_operand f (Limit l) = Limit l
map_operand f (Channel n) = Channel n
map_operand f (Constant k) = Constant (f k)

-- the same formula with another kind of constant
abbrev pub map_tree : {K L : Type 0} → (K → L) → Tree K → Tree L
map_tree f (compares channel comparator operand) = compares channel comparator (map_operand f operand)
map_tree f (one op t) = one op (map_tree f t)
map_tree f (two op l r) = two op (map_tree f l) (map_tree f r)
