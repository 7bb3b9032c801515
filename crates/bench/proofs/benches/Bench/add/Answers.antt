use Rattle.recording.specs.Changes.{Added}
use Rattle.bench.proofs.Changing.{add_refused, change_law}
use Rattle.bench.proofs.benches.Bench.add.Goals as goal

pub returns : goal.returns
returns g c =
    let done = c.add_point.ensures in
    record {
      tape = done.tape;
      rule = done.rule;
      standing = done.standing;
      law = change_law g.R.Mark.Scale.rank g.R.Recording.meaning (λ m a n. Added g.R.Mark.Scale.resting m c.args.tick a n) (λ m n f h. add_refused g.R.Mark.Scale.resting m n c.args.tick f h) c.args.self.now c.add_point.new.self c.add_point.result done.tape done.rule;
    }
