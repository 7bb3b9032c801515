use Rattle.std.proofs.Common.{◌≡◌, drop}
use Rattle.domain.specs.Listed.{sides_in}
use Rattle.listing.specs.Growing.{lined}
use Rattle.listing.specs.Held.{state_of}
use Rattle.listing.proofs.held.Listing.push_boxes.Given as goal

-- what is left is the boxes from here on
abbrev pub invariant-loop-b : goal.invariant-loop-b
invariant-loop-b g l =
    let text = g.S.Scale.text in
    lined text (state_of l.initial.self) (sides_in l.boxes) ≡ lined text (state_of l.self) (drop l.b-index (sides_in l.boxes))
