use Rattle.std.proofs.Common.{◌≡◌, ◌+◌, ◌++◌, map, drop, ap, ◌∙◌}
use Rattle.std.proofs.lemmas.Result.{err_from_is_err_and}
use Rattle.domain.specs.Added.{Boxes, overlaps}
use Rattle.domain.specs.Boxes.{overlap_box, sides_of}
use Rattle.domain.specs.Listed.{boxes_of, reached}
use Rattle.domain.proofs.Growing.{boxes_at, boxes_end, joins_stop, joins_go, join_ends}
use Rattle.domain.proofs.lists.Domain.meet.Given as given
use Rattle.domain.proofs.lists.Domain.meet.Goals as goal
use Rattle.domain.proofs.lists.Domain.meet.Goals.{After-add_overlaps}

-- the overlaps of this box, and those of the boxes behind it
abbrev here : (g : given.Over) (c : After-add_overlaps g) → Boxes g.row.S.Denot
here g c = map (overlap_box g.S.Scale.rank (sides_of c.each-item.result)) (boxes_of c.args.right.now)

abbrev more : (g : given.Over) (c : After-add_overlaps g) → Boxes g.row.S.Denot
more g c = overlaps g.S.Scale.rank (drop (c.loop-each.each-index + 1) (boxes_of c.args.left.now)) (boxes_of c.args.right.now)

first : (g : given.Over) (c : After-add_overlaps g) → overlaps g.S.Scale.rank (drop c.loop-each.each-index (boxes_of c.args.left.now)) (boxes_of c.args.right.now) ≡ here g c ++ more g c
first g c = ap (λ l. overlaps g.S.Scale.rank l (boxes_of c.args.right.now)) (boxes_at _ _ c.deref-each-items.ensures.value c.loop-each.each-index _ c.loop-each-test.true c.each-item.is)

pub returns-in_err-add_overlaps : goal.returns-in_err-add_overlaps
returns-in_err-add_overlaps g c =
    let p = err_from_is_err_and c.from_residual.result c.from_residual.ensures.1 in
    ap (λ r. reached r (boxes_of c.add_overlaps.new.self)) p.1
    ∙ joins_stop g.S.Scale.rank _ (boxes_of c.loop-each.self) _ _ (here g (goal.at.returns-in_err-add_overlaps g c).After-add_overlaps) (more g (goal.at.returns-in_err-add_overlaps g c).After-add_overlaps) _ _ c.loop-each.invariant (first g (goal.at.returns-in_err-add_overlaps g c).After-add_overlaps) c.add_overlaps.ensures c.in_err-add_overlaps.was

pub loop-each-preserved : goal.loop-each-preserved
loop-each-preserved g c =
    joins_go g.S.Scale.rank _ (boxes_of c.loop-each.self) _ _ (here g (goal.at.loop-each-preserved g c).After-add_overlaps) (more g (goal.at.loop-each-preserved g c).After-add_overlaps) _ _ c.loop-each.invariant (first g (goal.at.loop-each-preserved g c).After-add_overlaps) c.add_overlaps.ensures c.in_ok-add_overlaps.was

pub returns : goal.returns
returns g c =
    join_ends g.S.Scale.rank _ (boxes_of c.loop-each.self) _ c.loop-each.invariant (ap (λ l. overlaps g.S.Scale.rank l (boxes_of c.args.right.now)) (boxes_end _ _ c.deref-each-items.ensures.value c.loop-each.each-index c.loop-each-test.false))
