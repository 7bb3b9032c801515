use Rattle.bench.specs.Changes.{CodeAmended}
use Rattle.bench.proofs.Changing.{amend_refused, change_law}
use Rattle.bench.proofs.benches.Bench.amend.Goals as goal

pub returns : goal.returns
returns g c =
    let done = c.amend_mark.ensures in
    record {
      tape = done.tape;
      rule = done.rule;
      standing = done.standing;
      law = change_law g.R.Mark.Scale.rank g.R.Recording.meaning (λ m a n. CodeAmended g.R.Mark.Scale.named m c.args.point c.args.channel c.args.code a n) (λ m n f h. amend_refused g.R.Mark.Scale.named m n c.args.point c.args.channel c.args.code f h) c.args.self.now c.amend_mark.new.self c.amend_mark.result done.tape done.rule;
    }
