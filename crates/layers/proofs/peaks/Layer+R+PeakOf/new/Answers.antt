use Rattle.std.proofs.Common.{ℕ, sym, ap, ◌∙◌, subst}
use Rattle.layers.specs.Layers.{layered}
use Rattle.layers.specs.Peaks.{peak_of, PeakOver}
use Rattle.layers.proofs.Overlays.{told_next}
use Rattle.layers.proofs.Peaking.{peak_over}
use Rattle.layers.proofs.peaks.Layer+R+PeakOf.new.Goals as goal

pub returns : goal.returns
returns g c =
    let rank = g.R.Mark.Scale.rank in
    let rest = g.R.Mark.Scale.resting in
    let meaning = g.R.Recording.meaning in
    let m = meaning c.args.below in
    let made = c.over.ensures in
    let told = told_next rest meaning (λ s. peak_of rank s.channel) c.over.result c.args.below c.at.result made.below made.working made.number in
    let channel = ap (λ (n : ℕ). layered rest (peak_of rank n m) m.channels m) c.at.ensures in
    record {
      below = made.below;
      channel = ap (λ s. s.channel) made.working ∙ c.at.ensures;
      number = made.number;
      peak = subst (PeakOver rank rest c.args.channel m) (sym (told ∙ channel)) (peak_over rank rest c.args.channel m (g.met.R.Recording.sound c.args.below));
    }
