use Rattle.std.proofs.Common.{ℕ, sym, refl, ap, ◌∙◌, subst, rules}
use Rattle.formula.specs.declared.formulas.Formula.{Formula}
use Rattle.formula.specs.Formulas.{parts_of}
use Rattle.formula.specs.Trees.{map_tree}
use Rattle.formula.proofs.Assembling.{tree_whole}
use Rattle.reader.specs.Sayings.{SaysOnly, Sized}
use Rattle.rule.proofs.Judging.{blamed_length}
use Rattle.rule.proofs.rules.Rule.read.Goals as goal

pub returns : goal.returns
returns g c =
    let prepared = c.in_ok-prepare.ensures in
    record {
      said = subst (λ (x : Formula ℕ). SaysOnly g.S.Scale.code g.S.Scale.text c.args.text.now (parts_of x)) (sym c.swap.ensures.x_after) prepared.cases;
      blamed = prepared.blamed;
    }

pub returns-then-not-has_length : goal.returns-then-not-has_length
returns-then-not-has_length g c =
    let text = c.args.text.now in
    let none : Sized text → ⊥ = search rules in
    record { said = (none, λ parts s. none s.sized, refl); blamed = blamed_length g.S.Scale.text text none }

pub invariant_of-self : goal.invariant_of-self
invariant_of-self g c =
    let said = c.in_ok-prepare.ensures.cases.says in
    record { whole = tree_whole (map_tree g.S.Scale.code said.formula) (parts_of c.swap.new.x) (ap parts_of c.swap.ensures.x_after ∙ said.listed) }
