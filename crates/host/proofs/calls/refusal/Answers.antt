use Rattle.std.proofs.Common.{◌≡◌, ◌++◌, codes, ap, ◌∙◌}
use Rattle.host.proofs.Refusing.{refusal_is}
use Rattle.host.proofs.calls.refusal.Goals as goal

pub returns : goal.returns
returns c =
    let name : c.push_str.new.self.bytes ≡ codes "refused " = c.push_str.ensures.bytes ∙ ap (λ l. l ++ codes "refused ") c.new-text.ensures in
    c.push_str-3.ensures.bytes
    ∙ ap (λ l. l ++ codes "\n") (c.push_str-2.ensures.bytes ∙ (λ i. name i ++ c.format.ensures.text i))
    ∙ refusal_is c.args.number
