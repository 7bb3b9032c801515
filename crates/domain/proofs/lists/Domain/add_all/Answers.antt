use Rattle.std.proofs.Common.{refl, ap, ◌∙◌}
use Rattle.std.proofs.lemmas.Result.{err_from_is_err_and}
use Rattle.domain.specs.Listed.{boxes_of, reached}
use Rattle.domain.proofs.Growing.{boxes_at, boxes_end, join_stops, join_goes, join_ends}
use Rattle.domain.proofs.lists.Domain.add_all.Goals as goal

pub returns-in_err-add : goal.returns-in_err-add
returns-in_err-add g c =
    let p = err_from_is_err_and c.from_residual.result c.from_residual.ensures.1 in
    ap (λ r. reached r (boxes_of c.add.new.self)) p.1
    ∙ join_stops g.S.Scale.rank _ (boxes_of c.loop-b.self) _ _ _ _ _ _ c.loop-b.invariant (boxes_at _ _ refl c.loop-b.b-index _ c.loop-b-test.true c.b-item.is) c.add.ensures c.in_err-add.was

pub loop-b-preserved : goal.loop-b-preserved
loop-b-preserved g c =
    join_goes g.S.Scale.rank _ (boxes_of c.loop-b.self) _ _ _ _ _ _ c.loop-b.invariant (boxes_at _ _ refl c.loop-b.b-index _ c.loop-b-test.true c.b-item.is) c.add.ensures c.in_ok-add.was

pub returns : goal.returns
returns g c =
    join_ends g.S.Scale.rank _ (boxes_of c.loop-b.self) _ c.loop-b.invariant (boxes_end _ _ refl c.loop-b.b-index c.loop-b-test.false)
