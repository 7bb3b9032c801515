use Rattle.std.proofs.Common.{◌≡◌, ◌+◌, List, drop, Option, sym, refl, ap, ◌∙◌, subst}
use Rattle.domain.specs.Listed.{sides_in}
use Rattle.domain.specs.Picking.{Finds, first_picked, or_else, chosen}
use Rattle.domain.proofs.Growing.{boxes_at, boxes_end}
use Rattle.domain.proofs.Picked.{finds, no_picks, some_picks, wide_boxes}
use Rattle.domain.proofs.choices.first_picks.Given as given
use Rattle.domain.proofs.choices.first_picks.Goals as goal
use Rattle.domain.proofs.choices.first_picks.Goals.{After-pick-marks}

-- this box decides, or those behind it
step : (g : given.Over) (c : After-pick-marks g) → first_picked g.S.Scale.picked (sides_in c.args.boxes.now) ≡ or_else (chosen c.pick-marks.result) (first_picked g.S.Scale.picked (drop (c.loop-b.b-index + 1) (sides_in c.args.boxes.now)))
step g c =
    let picked = g.S.Scale.picked in
    let rest = first_picked picked (drop (c.loop-b.b-index + 1) (sides_in c.args.boxes.now)) in
    c.loop-b.invariant
    ∙ ap (first_picked picked) (boxes_at _ _ refl c.loop-b.b-index _ c.loop-b-test.true c.b-item.is)
    ∙ ap (λ (o : Option (List g.row.S.Denot)). or_else o rest) (sym c.pick-marks.ensures)

-- the picks of the list are right
right : (g : given.Over) (c : After-pick-marks g) → Finds g.S.Scale.rank 3 (sides_in c.args.boxes.now) (first_picked g.S.Scale.picked (sides_in c.args.boxes.now))
right g c = finds g.S.Scale.rank g.S.Scale.picked g.met.S.Scale.«picks» 3 (sides_in c.args.boxes.now) (wide_boxes c.args.boxes.now)

pub returns-then-is_some : goal.returns-then-is_some
returns-then-is_some g c =
    let at = (goal.at.returns-then-is_some g c).After-pick-marks in
    let same = step g at ∙ some_picks c.pick-marks.result _ (sym c.if-is_some.ensures) in
    record { value = sym same; found = subst (Finds g.S.Scale.rank 3 (sides_in c.args.boxes.now)) same (right g at) }

pub loop-b-preserved : goal.loop-b-preserved
loop-b-preserved g c = step g (goal.at.loop-b-preserved g c).After-pick-marks ∙ no_picks c.pick-marks.result _ (sym c.if-is_some.ensures)

pub returns : goal.returns
returns g c =
    let none = c.loop-b.invariant ∙ ap (first_picked g.S.Scale.picked) (boxes_end _ _ refl c.loop-b.b-index c.loop-b-test.false) in
    record {
      value = sym none;
      found = subst (Finds g.S.Scale.rank 3 (sides_in c.args.boxes.now)) none (finds g.S.Scale.rank g.S.Scale.picked g.met.S.Scale.«picks» 3 (sides_in c.args.boxes.now) (wide_boxes c.args.boxes.now));
    }
