use Rattle.std.proofs.Common.{◌≡◌, drop}
use Rattle.domain.specs.Added.{joined, met, overlaps}
use Rattle.domain.specs.Listed.{boxes_of}
use Rattle.domain.proofs.lists.Domain.meet.Given as goal

-- what is left is the overlaps of the left boxes from here on
abbrev pub invariant-loop-each : goal.invariant-loop-each
invariant-loop-each g l =
    let rank = g.S.Scale.rank in
    met rank (boxes_of l.left) (boxes_of l.right) ≡ joined rank (boxes_of l.self) (overlaps rank (drop l.each-index (boxes_of l.left)) (boxes_of l.right))
