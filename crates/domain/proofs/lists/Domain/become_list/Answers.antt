use Rattle.std.proofs.Common.{[], ◌∷◌, ◌++◌, take, sym, ap, ◌∙◌, arith, take_all}
use Rattle.std.proofs.lemmas.List.{take_more}
use Rattle.domain.specs.Listed.{sides_in}
use Rattle.domain.proofs.lists.Domain.become_list.Goals as goal

pub loop-each-preserved : goal.loop-each-preserved
loop-each-preserved g c =
    let from = c.args.boxes.now in (
      omega (arith, c.push_reserved.ensures.len, c.loop-each.invariant.0),
      c.push_reserved.ensures.items
          ∙ ap (λ l. l ++ (c.each-item.result ∷ [])) c.loop-each.invariant.1
          ∙ ap (λ x. take c.loop-each.each-index from ++ (x ∷ [])) c.each-item.is
          ∙ sym (take_more from c.loop-each.each-index c.each-item.result c.loop-each-test.true),
    )

pub returns : goal.returns
returns g c = ap sides_in (c.loop-each.invariant.1 ∙ take_all c.loop-each.each-index _ (omega (arith, c.loop-each-test.false)))
