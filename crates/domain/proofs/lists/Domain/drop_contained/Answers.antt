use Rattle.std.proofs.Common.{ap, ◌∙◌, rules}
use Rattle.std.proofs.lemmas.Fn.{filter_same}
use Rattle.domain.specs.Boxes.{sides_of}
use Rattle.domain.specs.Listed.{sides_in}
use Rattle.domain.proofs.Growing.{outside_filter}
use Rattle.domain.proofs.lists.Domain.drop_contained.Goals as goal

pub returns : goal.returns
returns g c =
    ap sides_in (filter_same _ _ _ (λ x b f' k. search rules) _ _ c.retain.ensures.filtered)
    ∙ outside_filter g.S.Scale.rank (sides_of c.args.outer.now) _
