use Rattle.std.proofs.Common.{◌≡◌, length, drop}
use Rattle.formula.specs.Formulas.{parts_of}
use Rattle.bench.specs.Settings.{fitted_from}
use Rattle.bench.proofs.Fitting.{follow}
use Rattle.bench.proofs.settings.fit_parts.Given as goal

-- the parts so far stand, and the ones from here on have yet to be fitted
abbrev pub invariant-loop-number : goal.invariant-loop-number
invariant-loop-number g l =
    let fit = fitted_from g.S.Scale.named l.channels in
    let parts = parts_of l.formula in
    (length (parts_of l.fresh) ≡ l.number) × (fit 0 parts ≡ follow (parts_of l.fresh) (fit l.number (drop l.number parts)))
