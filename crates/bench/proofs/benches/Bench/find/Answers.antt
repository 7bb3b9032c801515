use Rattle.bench.proofs.Answering.{find_law}
use Rattle.bench.proofs.benches.Bench.find.Goals as goal

pub returns : goal.returns
returns g c = record {
  list = c.first_picks.ensures;
  law = find_law g.met.R.Mark.Scale.ranks_fit g.R.Mark.Scale.code g.R.Mark.Scale.picked g.met.R.Mark.Scale.«picks» c.args.self.now c.first_picks.result c.first_picks.ensures;
}
