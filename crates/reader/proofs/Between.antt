-- Why no operator stands between two operands where its word is missing.
use Rattle.std.proofs.Common.{◌≡◌, ℕ, List, ◌∷◌, ◌++◌, refl, ap, arith}
use Rattle.formula.specs.declared.parts.BinaryOperator.{BinaryOperator}
use Rattle.formula.specs.declared.parts.BinaryOperator.TheVariants.{Until, WeakUntil, And, Or, Implies}
use Rattle.reader.specs.Spellings.{binary_text, first_of}
use Rattle.reader.proofs.Words.{first, others}

pub begun : (op : BinaryOperator) (w : List ℕ) → (u : List ℕ) × (binary_text op ++ w ≡ first_of op ∷ u)
begun Until w = (w, refl)
begun WeakUntil w = (w, refl)
begun And w = (w, refl)
begun Or w = (w, refl)
begun Implies w = (62 ∷ w, refl)

pub no_arrow : (op : BinaryOperator) (w y : List ℕ) → ((z : List ℕ) → w ≡ 62 ∷ z → ⊥) → 61 ∷ w ≡ binary_text op ++ y → ⊥
no_arrow Until w y none e = omega (arith, ap first e)
no_arrow WeakUntil w y none e = omega (arith, ap first e)
no_arrow And w y none e = omega (arith, ap first e)
no_arrow Or w y none e = omega (arith, ap first e)
no_arrow Implies w y none e = none y (ap others e)
