use Rattle.std.proofs.Common.{◌≡◌}
use Rattle.layers.specs.Peaks.{peak_of}
use Rattle.layers.proofs.peaks.PeakOfWorking.work.Given as goal

abbrev pub invariant-loop-before : goal.invariant-loop-before
invariant-loop-before g l =
    l.peak ≡ peak_of g.S.Scale.rank l.self.channel (g.R.Recording.meaning l.below) l.before
