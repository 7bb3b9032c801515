use Rattle.std.proofs.Common.{◌≡◌, pos, subst, rules}
use Rattle.scale.specs.Numbered.{Leans}
use Rattle.scale.specs.Readings.{held, reading_rank, reading_picked}
use Rattle.scale.specs.Leaning.{leans}
use Rattle.scale.specs.ReadingLaws.{in_row}
use Rattle.scale.proofs.readings.ReadingScale.pick.Goals as goal

pub returns-clause-leans : goal.returns-clause-leans
returns-clause-leans c =
    let is : reading_picked c.args.lower c.args.upper ≡ c.map.result = search rules in
    subst (Leans reading_rank (held (pos 0)) c.args.lower c.args.upper) is (leans in_row c.args.lower c.args.upper)
