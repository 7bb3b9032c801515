-- How the words of a rule are written. Assumes nothing.
use Rattle.std.specs.Prelude.{ℕ, ◌+◌, cond, List, [], ◌∷◌, codes, nat_lt}
use Rattle.formula.specs.declared.parts.LimitName.{LimitName}
use Rattle.formula.specs.declared.parts.LimitName.TheVariants.{P, Q, R}
use Rattle.formula.specs.declared.parts.Comparator.{Comparator}
use Rattle.formula.specs.declared.parts.Comparator.TheVariants.{Less, Greater, AtMost, AtLeast}
use Rattle.formula.specs.declared.parts.UnaryOperator.{UnaryOperator}
use Rattle.formula.specs.declared.parts.UnaryOperator.TheVariants.{Not, Next, Finally, Globally}
use Rattle.formula.specs.declared.parts.BinaryOperator.{BinaryOperator}
use Rattle.formula.specs.declared.parts.BinaryOperator.TheVariants.{Until, WeakUntil, And, Or, Implies}

-- a number below 20 in decimal, without leading zero
abbrev pub decimal : ℕ → List ℕ
decimal n = cond (nat_lt n 10) ((48 + n) ∷ []) (49 ∷ (38 + n) ∷ [])

-- the name of a channel
abbrev pub channel_name : ℕ → List ℕ
channel_name n = 99 ∷ decimal n

abbrev pub limit_text : LimitName → List ℕ
limit_text P = codes "p"
limit_text Q = codes "q"
limit_text R = codes "r"

abbrev pub comparator_text : Comparator → List ℕ
comparator_text Less = codes "<"
comparator_text Greater = codes ">"
comparator_text AtMost = codes "<="
comparator_text AtLeast = codes ">="

abbrev pub unary_text : UnaryOperator → List ℕ
unary_text Not = codes "!"
unary_text Next = codes "X"
unary_text Finally = codes "F"
unary_text Globally = codes "G"

abbrev pub binary_text : BinaryOperator → List ℕ
binary_text Until = codes "U"
binary_text WeakUntil = codes "W"
binary_text And = codes "&"
binary_text Or = codes "|"
binary_text Implies = codes "=>"

-- the byte that an operator between two operands begins with
abbrev pub first_of : BinaryOperator → ℕ
first_of Until = 85
first_of WeakUntil = 87
first_of And = 38
first_of Or = 124
first_of Implies = 61
