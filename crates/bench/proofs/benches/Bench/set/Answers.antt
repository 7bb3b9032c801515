use Rattle.rule.specs.Rules.{rule_parts}
use Rattle.bench.proofs.Changing.{set_law}
use Rattle.bench.proofs.benches.Bench.set.Goals as goal

pub returns : goal.returns
returns g c =
    let done = c.put_in_force.ensures in
    record {
      rule = done.rule;
      recording = done.recording;
      standing = done.standing;
      law = set_law g.R.Mark.Scale.rank g.R.Recording.meaning g.R.Mark.Scale.named c.args.self.now c.put_in_force.new.self (rule_parts c.args.rule) c.put_in_force.result done.rule done.recording;
    }
