-- How formulas are written. Assumes nothing.
use Rattle.std.specs.Prelude.{ℕ, List, ◌++◌, codes}
use Rattle.formula.specs.declared.parts.Operand.{Operand}
use Rattle.formula.specs.declared.parts.Operand.TheVariants.{Limit, Channel, Constant}
use Rattle.formula.specs.Trees.{Tree, compares, one, two}
use Rattle.reader.specs.Spellings.{limit_text, channel_name, comparator_text, unary_text, binary_text}

module _ {K : Type 0} (constant : K → List ℕ) where
  -- how an operand is written
  abbrev pub operand_text : Operand K → List ℕ
  operand_text (Limit l) = limit_text l
  operand_text (Channel n) = channel_name n
  operand_text (Constant k) = constant k

  -- how a formula is written, each operand of an operator in brackets of its own
  abbrev pub spelling : Tree K → List ℕ
  spelling (compares channel comparator operand) = channel_name channel ++ (comparator_text comparator ++ operand_text operand)
  spelling (one op t) = unary_text op ++ (codes "(" ++ (spelling t ++ codes ")"))
  spelling (two op l r) = codes "(" ++ (spelling l ++ (codes ")" ++ (binary_text op ++ (codes "(" ++ (spelling r ++ codes ")")))))
