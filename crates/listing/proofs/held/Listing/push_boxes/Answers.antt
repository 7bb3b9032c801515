use Rattle.std.proofs.Common.{◌+◌, drop, sym, refl, ap, ◌∙◌}
use Rattle.domain.specs.Added.{Boxes}
use Rattle.domain.specs.Listed.{sides_in}
use Rattle.domain.proofs.Growing.{boxes_at, boxes_end}
use Rattle.listing.specs.Growing.{lined}
use Rattle.listing.specs.Held.{State, state_of}
use Rattle.listing.proofs.held.Listing.push_boxes.Goals as goal

pub loop-b-preserved : goal.loop-b-preserved
loop-b-preserved g c =
    let text = g.S.Scale.text in
    let boxes = c.args.boxes.now in
    let i = c.loop-b.b-index in
    c.loop-b.invariant
    ∙ ap (λ (l : Boxes g.row.S.Denot). lined text (state_of c.loop-b.self) l) (boxes_at boxes boxes refl i c.b-item.result c.loop-b-test.true c.b-item.is)
    ∙ ap (λ (s : State). lined text s (drop (i + 1) (sides_in boxes))) (sym c.push_box.ensures)

pub returns : goal.returns
returns g c =
    let boxes = c.args.boxes.now in
    sym (c.loop-b.invariant ∙ ap (λ (l : Boxes g.row.S.Denot). lined g.S.Scale.text (state_of c.loop-b.self) l) (boxes_end boxes boxes refl c.loop-b.b-index c.loop-b-test.false))
