use Rattle.std.proofs.Common.{◌≡◌, drop}
use Rattle.domain.specs.Added.{joined}
use Rattle.domain.specs.Listed.{boxes_of, sides_in}
use Rattle.domain.proofs.lists.Domain.add_all.Given as goal

-- what is left is the boxes from here on, added to the list as it is
abbrev pub invariant-loop-b : goal.invariant-loop-b
invariant-loop-b g l =
    let rank = g.S.Scale.rank in
    joined rank (boxes_of l.initial.self) (sides_in l.boxes) ≡ joined rank (boxes_of l.self) (drop l.b-index (sides_in l.boxes))
