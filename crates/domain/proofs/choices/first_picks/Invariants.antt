use Rattle.std.proofs.Common.{◌≡◌, drop}
use Rattle.domain.specs.Listed.{sides_in}
use Rattle.domain.specs.Picking.{first_picked}
use Rattle.domain.proofs.choices.first_picks.Given as goal

-- no box so far has picks, so the ones behind decide
abbrev pub invariant-loop-b : goal.invariant-loop-b
invariant-loop-b g l =
    let picked = g.S.Scale.picked in
    first_picked picked (sides_in l.boxes) ≡ first_picked picked (drop l.b-index (sides_in l.boxes))
