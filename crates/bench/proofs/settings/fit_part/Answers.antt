use Rattle.std.proofs.Common.{sym}
use Rattle.bench.proofs.Fitting.{part_fits}
use Rattle.bench.proofs.settings.fit_part.Goals as goal

pub returns : goal.returns
returns g c = sym (part_fits g.S.Scale.named c.args.channels c.args.part c.in_ok-convert.field-0 (sym c.in_ok-check_channels.ensures) c.in_ok-convert.ensures)
