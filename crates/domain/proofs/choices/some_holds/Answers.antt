use Rattle.std.proofs.Common.{◌≡◌, ◌+◌, [], ◌∷◌, drop, sym, refl, ◌∙◌, subst, inl}
use borrow.Author.Tests.{clash}
use Rattle.domain.specs.Boxes.{sides_of}
use Rattle.domain.specs.Covering.{Covered, In}
use Rattle.domain.specs.Listed.{sides_in}
use Rattle.domain.specs.Picking.{marks_of}
use Rattle.domain.proofs.Growing.{boxes_at, boxes_end}
use Rattle.domain.proofs.Picked.{covered_drop, covered_first, covered_none}
use Rattle.domain.proofs.choices.some_holds.Given as given
use Rattle.domain.proofs.choices.some_holds.Goals as goal
use Rattle.domain.proofs.choices.some_holds.Goals.{After-holds}

-- the boxes from here on: this one, and those behind it
here : (g : given.Over) (c : After-holds g) → drop c.loop-b.b-index (sides_in c.args.boxes.now) ≡ sides_of c.b-item.result ∷ drop (c.loop-b.b-index + 1) (sides_in c.args.boxes.now)
here g c = boxes_at _ _ refl c.loop-b.b-index _ c.loop-b-test.true c.b-item.is

pub returns-then-holds : goal.returns-then-holds
returns-then-holds g c =
    let ms = marks_of c.args.choice in
    let rank = g.S.Scale.rank in
    let in_it : In rank ms (sides_of c.b-item.result) = c.holds.ensures.0 c.if-holds.true in
    (λ e. covered_drop rank ms (sides_in c.args.boxes.now) c.loop-b.b-index (subst (Covered rank ms) (sym (here g (goal.at.returns-then-holds g c).After-holds)) (inl in_it)), λ h. refl)

pub loop-b-preserved : goal.loop-b-preserved
loop-b-preserved g c =
    let ms = marks_of c.args.choice in
    let rank = g.S.Scale.rank in
    λ h. covered_first rank ms _ _ (sides_of c.b-item.result) (here g (goal.at.loop-b-preserved g c).After-holds) (λ i. clash (sym c.if-holds.false ∙ c.holds.ensures.1 i)) (c.loop-b.invariant h)

pub returns : goal.returns
returns g c =
    let ms = marks_of c.args.choice in
    let rank = g.S.Scale.rank in
    (λ e. absurd (clash e), λ h. absurd (covered_none rank ms _ (boxes_end _ _ refl c.loop-b.b-index c.loop-b-test.false) (c.loop-b.invariant h)))
