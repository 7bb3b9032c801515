use Rattle.formula.specs.Formulas.{parts_of}
use Rattle.reader.specs.Sayings.{SaysOnly, Unsaid}
use Rattle.rule.proofs.Judging.{apart, judged}
use Rattle.rule.proofs.Marking.{says}
use Rattle.reader.proofs.Only.{says_only}
use Rattle.reader.proofs.Unsaid.{unsaid_run, unsaid_whole}
use Rattle.rule.proofs.rules.Rule.prepare.Goals as goal

pub returns : goal.returns
returns g c =
    let text = c.args.text.now in
    let code = g.S.Scale.code in
    let written = g.S.Scale.text in
    let draft = parts_of c.read_text-form.new.out in
    let form = c.read_text-form.ensures in
    let laws = g.met.S.Scale in
    let told =
    apart code written text c.earlier.result (SaysOnly code written text (parts_of c.code-coded.new.self.fresh)) (Unsaid code written text)
    (judged code written text c.requires c.code-coded.result c.read_text-form.result c.earlier.result draft (parts_of c.code-coded.new.self.fresh) _ _
    c.code-coded.ensures.cases c.earlier.ensures form.told form.fails form.read
    (λ coded spelt.
    says_only code written laws.texts_run laws.texts_apart text _
    (says code written text draft (parts_of c.code-coded.new.self.fresh) c.requires.some c.requires.short spelt coded))
    (unsaid_whole code written text laws.texts_run)
    (λ fault unread. unsaid_run code written text laws.texts_run c.read_text-form.result draft fault form.read form.fails unread)) in
    record { same = c.code-coded.ensures.same; cases = told.cases; blamed = told.blamed }
