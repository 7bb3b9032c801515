use Rattle.std.proofs.Common.{◌≡◌, drop}
use Rattle.domain.specs.Added.{some_contains}
use Rattle.domain.specs.Boxes.{sides_of}
use Rattle.domain.specs.Listed.{boxes_of}
use Rattle.domain.proofs.lists.Domain.has_container.Given as goal

-- no box so far contains it, so the ones behind decide
abbrev pub invariant-loop-b : goal.invariant-loop-b
invariant-loop-b g l =
    let rank = g.S.Scale.rank in
    some_contains rank (boxes_of l.self) (sides_of l.inner) ≡ some_contains rank (drop l.b-index (boxes_of l.self)) (sides_of l.inner)
