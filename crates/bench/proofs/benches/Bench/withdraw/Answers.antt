use Rattle.recording.specs.Changes.{Withdrawn}
use Rattle.bench.proofs.Changing.{change_law, withdraw_refused}
use Rattle.bench.proofs.benches.Bench.withdraw.Goals as goal

pub returns : goal.returns
returns g c =
    let done = c.withdraw_point.ensures in
    record {
      tape = done.tape;
      rule = done.rule;
      standing = done.standing;
      law = change_law g.R.Mark.Scale.rank g.R.Recording.meaning (λ m a n. Withdrawn m a n) (λ m n f h. withdraw_refused m n f h) c.args.self.now c.withdraw_point.new.self c.withdraw_point.result done.tape done.rule;
    }
