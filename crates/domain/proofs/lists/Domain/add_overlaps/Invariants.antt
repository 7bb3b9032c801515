use Rattle.std.proofs.Common.{◌≡◌, map, drop}
use Rattle.domain.specs.Added.{joined}
use Rattle.domain.specs.Boxes.{overlap_box, sides_of}
use Rattle.domain.specs.Listed.{boxes_of}
use Rattle.domain.proofs.lists.Domain.add_overlaps.Given as goal

-- what is left is the overlaps with the boxes from here on
abbrev pub invariant-loop-each : goal.invariant-loop-each
invariant-loop-each g l =
    let rank = g.S.Scale.rank in
    joined rank (boxes_of l.initial.self) (map (overlap_box rank (sides_of l.one)) (boxes_of l.boxes)) ≡ joined rank (boxes_of l.self) (map (overlap_box rank (sides_of l.one)) (drop l.each-index (boxes_of l.boxes)))
