-- The parts of a rule. Assumes nothing.
use Rattle.std.specs.Prelude.{ℕ, List}
use Rattle.formula.specs.Formulas.{parts_of}
use Rattle.formula.specs.declared.parts.Part.{Part}
use Rattle.rule.specs.declared.rules.Rule.{Rule}

-- the parts of a rule, with codes for constants
abbrev pub rule_parts : Rule → List (Part ℕ)
rule_parts rule = parts_of rule.formula
