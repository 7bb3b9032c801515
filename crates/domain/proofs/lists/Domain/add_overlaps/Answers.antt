use Rattle.std.proofs.Common.{◌≡◌, ◌+◌, ◌∷◌, map, drop, sym, ap, ◌∙◌}
use Rattle.std.proofs.lemmas.Result.{err_from_is_err_and}
use Rattle.domain.specs.Boxes.{overlap_box, sides_of}
use Rattle.domain.specs.Listed.{boxes_of, reached}
use Rattle.domain.proofs.Growing.{boxes_at, boxes_end, join_stops, join_goes, join_ends}
use Rattle.domain.proofs.lists.Domain.add_overlaps.Given as given
use Rattle.domain.proofs.lists.Domain.add_overlaps.Goals as goal
use Rattle.domain.proofs.lists.Domain.add_overlaps.Goals.{After-add}

-- the overlap that is added is the first of those still to be joined
first : (g : given.Over) (c : After-add g) → map (overlap_box g.S.Scale.rank (sides_of c.args.one.now)) (drop c.loop-each.each-index (boxes_of c.args.boxes.now)) ≡ sides_of c.overlap.result ∷ map (overlap_box g.S.Scale.rank (sides_of c.args.one.now)) (drop (c.loop-each.each-index + 1) (boxes_of c.args.boxes.now))
first g c =
    let overlap = overlap_box g.S.Scale.rank (sides_of c.args.one.now) in
    ap (map overlap) (boxes_at _ _ c.deref-each-items.ensures.value c.loop-each.each-index _ c.loop-each-test.true c.each-item.is)
    ∙ ap (λ y. y ∷ map overlap (drop (c.loop-each.each-index + 1) (boxes_of c.args.boxes.now))) (sym c.overlap.ensures)

pub returns-in_err-add : goal.returns-in_err-add
returns-in_err-add g c =
    let p = err_from_is_err_and c.from_residual.result c.from_residual.ensures.1 in
    ap (λ r. reached r (boxes_of c.add.new.self)) p.1
    ∙ join_stops g.S.Scale.rank _ (boxes_of c.loop-each.self) _ _ _ _ _ _ c.loop-each.invariant (first g (goal.at.returns-in_err-add g c).After-add) c.add.ensures c.in_err-add.was

pub loop-each-preserved : goal.loop-each-preserved
loop-each-preserved g c =
    join_goes g.S.Scale.rank _ (boxes_of c.loop-each.self) _ _ _ _ _ _ c.loop-each.invariant (first g (goal.at.loop-each-preserved g c).After-add) c.add.ensures c.in_ok-add.was

pub returns : goal.returns
returns g c =
    join_ends g.S.Scale.rank _ (boxes_of c.loop-each.self) _ c.loop-each.invariant (ap (map (overlap_box g.S.Scale.rank (sides_of c.args.one.now))) (boxes_end _ _ c.deref-each-items.ensures.value c.loop-each.each-index c.loop-each-test.false))
