use Rattle.std.proofs.Common.{ℕ, pos, sym, ap, ◌∙◌, subst}
use Rattle.scale.specs.Readings.{held}
use Rattle.layers.specs.Differences.{DifferenceOver, difference_of}
use Rattle.layers.specs.Layers.{layered}
use Rattle.layers.proofs.Differing.{difference_over}
use Rattle.layers.proofs.Overlays.{told_next}
use Rattle.layers.proofs.differences.Layer+R+DifferenceOf.new.Goals as goal

pub returns : goal.returns
returns g c =
    let rest = held (pos 0) in
    let meaning = g.R.Recording.meaning in
    let m = meaning c.args.below in
    let made = c.over.ensures in
    let told = told_next rest meaning (λ s. difference_of s.channel) c.over.result c.args.below c.at.result made.below made.working made.number in
    let channel = ap (λ (n : ℕ). layered rest (difference_of n m) m.channels m) c.at.ensures in
    record {
      below = made.below;
      channel = ap (λ s. s.channel) made.working ∙ c.at.ensures;
      number = made.number;
      differences = subst (DifferenceOver c.args.channel m) (sym (told ∙ channel)) (difference_over c.args.channel m (g.met.R.Recording.sound c.args.below));
    }
