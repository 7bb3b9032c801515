use Rattle.std.proofs.Common.{◌≡◌, subst, rules}
use Rattle.scale.specs.declared.stages.Stage.TheVariants.{Off}
use Rattle.scale.specs.Numbered.{Leans}
use Rattle.scale.specs.Stages.{stage_code, stage_picked}
use Rattle.scale.specs.Leaning.{leans}
use Rattle.scale.proofs.StageLaws.{in_row}
use Rattle.scale.proofs.stages.StageScale.pick.Goals as goal

pub returns-clause-leans : goal.returns-clause-leans
returns-clause-leans c =
    let is : stage_picked c.args.lower c.args.upper ≡ c.map.result = search rules in
    subst (Leans stage_code Off c.args.lower c.args.upper) is (leans in_row c.args.lower c.args.upper)
