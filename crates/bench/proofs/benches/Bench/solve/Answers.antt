use Rattle.bench.proofs.Changing.{solve_law}
use Rattle.bench.proofs.benches.Bench.solve.Goals as goal

pub returns : goal.returns
returns g c =
    let done = c.work_out.ensures in
    record {
      list = done.list;
      recording = done.recording;
      rule = done.rule;
      law = solve_law g.R.Mark.Scale.rank g.R.Recording.meaning c.args.self.now c.work_out.new.self c.args.point c.work_out.result done.list done.recording done.rule;
    }
