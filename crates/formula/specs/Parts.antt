-- What the words of a part stand for. Assumes nothing.
use Rattle.std.specs.Prelude.{ℕ}
use Rattle.formula.specs.declared.parts.LimitName.{LimitName}
use Rattle.formula.specs.declared.parts.LimitName.TheVariants.{P, Q, R}
use Rattle.formula.specs.declared.parts.Comparator.{Comparator}
use Rattle.formula.specs.declared.parts.Comparator.TheVariants.{Less, Greater, AtMost, AtLeast}

-- the place of a limit among the three
abbrev pub limit_index : LimitName → ℕ
limit_index P = 0
limit_index Q = 1
limit_index R = 2

-- the comparator that holds exactly where the given one does not
abbrev pub opposed : Comparator → Comparator
opposed Less = AtLeast
opposed Greater = AtMost
opposed AtMost = Greater
opposed AtLeast = Less
