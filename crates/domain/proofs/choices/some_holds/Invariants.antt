use Rattle.std.proofs.Common.{[], ◌∷◌, drop}
use Rattle.domain.specs.Covering.{Covered}
use Rattle.domain.specs.Listed.{sides_in}
use Rattle.domain.specs.Picking.{marks_of}
use Rattle.domain.proofs.choices.some_holds.Given as goal

-- if a box covers the marks, it is one of those behind
abbrev pub invariant-loop-b : goal.invariant-loop-b
invariant-loop-b g l =
    let ms = marks_of l.choice in
    Covered g.S.Scale.rank ms (sides_in l.boxes) → Covered g.S.Scale.rank ms (drop l.b-index (sides_in l.boxes))
