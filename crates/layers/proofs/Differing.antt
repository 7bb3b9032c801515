-- What is told of the differences over a recording.
use Rattle.std.proofs.Common.{◌≡◌, ℕ, ◌+◌, ◌<◌, ◌≤◌, pos, ◌-ℤ◌, ap, ◌∙◌, ⊎_elim, arith}
use Rattle.std.proofs.lemmas.Bool.Decides.{nat_tests}
use Rattle.std.proofs.str.Laws.{order}
use Rattle.scale.specs.Readings.{held, value_of}
use Rattle.scale.specs.declared.values.Reading.{Reading}
use Rattle.layers.specs.Differences.{DifferenceOver, difference_of}
use Rattle.layers.specs.Layers.{layered}
use Rattle.recording.specs.Meaning.{Meaning, Sound}
use Rattle.layers.proofs.Overlays.{overlaid, added_mark, rest_added}

module _ (c : ℕ) (m : Meaning Reading) where
  step : (i : ℕ) → i + 1 < m.points → difference_of c m i ≡ held (value_of (m.mark (i + 1) c) -ℤ value_of (m.mark i c))
  step i h = grind (arith, nat_tests)

  no_step : (i : ℕ) → m.points ≤ i + 1 → difference_of c m i ≡ held (pos 0)
  no_step i h = grind (arith, nat_tests)

  -- a channel that is not there never changes
  still : Sound (held (pos 0)) m → m.channels ≤ c → (i : ℕ) → difference_of c m i ≡ held (pos 0)
  still sound none i =
      ⊎_elim
      (λ h. step i h ∙ ap (λ (r : Reading). held (value_of r -ℤ value_of (m.mark i c))) (sound.no_channel (i + 1) c none) ∙ ap (λ (r : Reading). held (pos 0 -ℤ value_of r)) (sound.no_channel i c none))
      (no_step i) (order (i + 1) m.points)

  pub difference_over : Sound (held (pos 0)) m → DifferenceOver c m (layered (held (pos 0)) (difference_of c m) m.channels m)
  difference_over sound = record {
    over = overlaid (held (pos 0)) (difference_of c m) m sound;
    steps = λ i room h. added_mark (held (pos 0)) (difference_of c m) m sound i room (omega arith) ∙ step i h;
    last = λ i h. rest_added (held (pos 0)) (difference_of c m) m sound i (no_step i (omega arith));
    absent = λ i none. rest_added (held (pos 0)) (difference_of c m) m sound i (still sound none i);
  }
