use Rattle.std.proofs.Common.{◌≡◌, ◌+◌, ◌||◌, drop, sym, ap, ◌∙◌}
use Rattle.domain.specs.Added.{some_contains}
use Rattle.domain.specs.Boxes.{sides_of}
use Rattle.domain.specs.Listed.{boxes_of}
use Rattle.domain.proofs.Deciding.{or_holds, or_leaves}
use Rattle.domain.proofs.Growing.{boxes_at, boxes_end, some_step}
use Rattle.domain.proofs.lists.Domain.has_container.Given as given
use Rattle.domain.proofs.lists.Domain.has_container.Goals as goal
use Rattle.domain.proofs.lists.Domain.has_container.Goals.{After-contains}

-- the answer is this box's or that of the boxes behind it
decided : (g : given.Over) (c : After-contains g) → some_contains g.S.Scale.rank (boxes_of c.args.self.now) (sides_of c.args.inner.now) ≡ (c.contains.result || some_contains g.S.Scale.rank (drop (c.loop-b.b-index + 1) (boxes_of c.args.self.now)) (sides_of c.args.inner.now))
decided g c =
    let rank = g.S.Scale.rank in
    let rest = drop (c.loop-b.b-index + 1) (boxes_of c.args.self.now) in
    some_step rank _ (sides_of c.args.inner.now) _ rest (sides_of c.b-item.result) c.loop-b.invariant (boxes_at _ _ c.deref-b-items.ensures.value c.loop-b.b-index _ c.loop-b-test.true c.b-item.is)
    ∙ ap (λ b. b || some_contains rank rest (sides_of c.args.inner.now)) (sym c.contains.ensures)

pub returns-then-contains : goal.returns-then-contains
returns-then-contains g c = sym (or_holds _ _ _ (decided g (goal.at.returns-then-contains g c).After-contains) c.if-contains.true)

pub loop-b-preserved : goal.loop-b-preserved
loop-b-preserved g c = or_leaves _ _ _ (decided g (goal.at.loop-b-preserved g c).After-contains) c.if-contains.false

pub returns : goal.returns
returns g c = sym (c.loop-b.invariant ∙ ap (λ l. some_contains g.S.Scale.rank l (sides_of c.args.inner.now)) (boxes_end _ _ c.deref-b-items.ensures.value c.loop-b.b-index c.loop-b-test.false))
