use Rattle.bench.proofs.Answering.{ask_law}
use Rattle.bench.proofs.benches.Bench.ask.Goals as goal

pub returns : goal.returns
returns g c = record {
  list = c.lie_together.ensures;
  law = ask_law g.met.R.Mark.Scale.ranks_fit g.R.Mark.Scale.named c.args.self.now c.args.p c.args.q c.args.r c.lie_together.result c.lie_together.ensures;
}
