use Rattle.std.proofs.Common.{◌≡◌, ℕ, false, List, [], length, ap, ◌∙◌, arith}
use Rattle.domain.specs.Added.{Boxes}
use Rattle.domain.specs.Listed.{boxes_of, sides_in}
use Rattle.listing.specs.Growing.{headed, lined}
use Rattle.listing.specs.Held.{State, state_of, text_of}
use Rattle.listing.proofs.Lines.{made_whole}
use Rattle.listing.proofs.held.Listing.of.Goals as goal

pub returns : goal.returns
returns g c =
    let text = g.S.Scale.text in
    let bs = boxes_of c.args.domain.now in
    let blank = c.blank-listing.result in
    let heading = c.push_heading.new.self in
    let none : text_of blank ≡ [] = ap (λ (s : State). s.0) c.blank-listing.ensures in
    let count : c.len.result ≡ length bs = c.len.ensures.value in
    let title : text_of heading ≡ headed [] (length bs) = c.push_heading.ensures.text ∙ ap (λ (t : List ℕ). headed t c.len.result) none ∙ ap (headed []) count in
    let idle : heading.begun ≡ false = c.push_heading.ensures.begun ∙ ap (λ (s : State). s.1) c.blank-listing.ensures in
    let start : state_of heading ≡ (headed [] (length bs), false) = λ i. (title i, idle i) in
    ap (λ (s : State). s.0) (
    c.push_boxes.ensures
    ∙ ap (λ (s : State). lined text s (sides_in c.boxes.result.now)) start
    ∙ ap (λ (l : Boxes g.row.S.Denot). lined text (headed [] (length bs), false) l) c.boxes.ensures.value
    ∙ made_whole text g.met.S.Scale.texts_run bs (omega (arith, count, c.len.ensures.bound))
    )
