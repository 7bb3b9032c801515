-- The parts of a formula. Assumes nothing.
use Rattle.std.specs.Prelude.{List, vec_items}
use Rattle.formula.specs.declared.parts.Part.{Part}
use Rattle.formula.specs.declared.formulas.Formula.{Formula}

-- the parts of a formula in their order
abbrev pub parts_of : {K : Type 0} → Formula K → List (Part K)
parts_of f = vec_items f.parts
