use Rattle.std.proofs.Common.{◌<◌, List, length, get_or, subst, rules}
use Rattle.std.proofs.lemmas.List.{get_or_default}
use Rattle.std.proofs.lemmas.Result.{err_from_is_err_and}
use Rattle.formula.specs.declared.parts.Part.{Part}
use Rattle.formula.specs.declared.parts.Part.TheVariants.{Comparison}
use Rattle.formula.specs.declared.parts.Comparator.TheVariants.{Less}
use Rattle.formula.specs.declared.parts.Operand.TheVariants.{Limit}
use Rattle.formula.specs.declared.parts.LimitName.TheVariants.{P}
use Rattle.reader.specs.declared.readers.Run.{Run}
use Rattle.reader.specs.Codings.{FirstUnread}
use Rattle.rule.proofs.Coded.{coded_more, first_unread}
use Rattle.rule.proofs.codings.code_parts.Goals as goal

pub returns-in_err-coded : goal.returns-in_err-coded
returns-in_err-coded g c =
    let p = err_from_is_err_and c.from_residual.result c.from_residual.ensures.1 in
    let parts = c.parts-part-items.result.now in
    let i = c.loop-part.part-index in
    let within : i < length parts = search rules in
    let some : Part Run = Comparison 0 Less (Limit P) in
    let first = first_unread g.S.Scale.code g.S.Scale.text c.args.text.now parts _ i (get_or parts i some) _ within (λ d. get_or_default parts i d some within) c.in_err-coded.ensures c.loop-part.invariant.1 in
    rw (p.1, p.2) (subst (λ (x : List (Part Run)). FirstUnread g.S.Scale.code g.S.Scale.text c.args.text.now x c.in_err-coded.field-0.0) c.parts-part-items.ensures.value first)

pub loop-part-preserved : goal.loop-part-preserved
loop-part-preserved g c =
    let parts = c.parts-part-items.result.now in
    let i = c.loop-part.part-index in
    let within : i < length parts = search rules in
    let pushed = rw c.unwrap.ensures at c.push.ensures in
    coded_more g.S.Scale.code g.S.Scale.text c.args.text.now parts _ _ i _ _ c.loop-part.invariant.0 (λ d. get_or_default _ _ d _ within) pushed.1 c.in_ok-coded.ensures.0 c.loop-part.invariant.1
