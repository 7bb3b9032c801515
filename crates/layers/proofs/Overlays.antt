-- What is told of the channel that a layer adds, and of all else.
use Rattle.std.proofs.Common.{◌≡◌, ℕ, ◌<◌, refl, ap, ◌∙◌, arith}
use Rattle.std.proofs.lemmas.Bool.Decides.{nat_tests}
use Rattle.layers.specs.declared.layers.Layer.{Layer}
use Rattle.layers.specs.Layers.{Overlaid, layered, told_by}
use Rattle.recording.specs.Meaning.{Meaning, Sound}

module _ {M : Type 0} (rest : M) (worked : ℕ → M) (m : Meaning M) (sound : Sound rest m) where
  pub overlaid : Overlaid m (layered rest worked m.channels m)
  overlaid =
      let few = sound.few_channels in
      record {
        points = refl;
        capacity = refl;
        channels = grind (arith, nat_tests);
        ticks = λ i. refl;
        given = λ c. refl;
        not_given = sound.not_given m.channels (omega arith);
        marks = λ i c h. grind (arith, nat_tests);
      }

  pub added_mark : (i : ℕ) → m.channels < 16 → i < m.points → (layered rest worked m.channels m).mark i m.channels ≡ worked i
  added_mark i room h = grind (arith, nat_tests)

  -- rest is told where rest is worked out
  pub rest_added : (i : ℕ) → worked i ≡ rest → (layered rest worked m.channels m).mark i m.channels ≡ rest
  rest_added i here =
      let no_channel = sound.no_channel i m.channels (omega arith) in
      grind (arith, nat_tests)

-- a layer that has the next number
pub told_next : {R W M : Type 0} (rest : M) (meaning : R → Meaning M) (worked : W → Meaning M → ℕ → M) (s : Layer R W) (below : R) (working : W)
    → s.below ≡ below → s.working ≡ working → s.number ≡ (meaning below).channels
    → told_by rest meaning worked s ≡ layered rest (worked working (meaning below)) (meaning below).channels (meaning below)
told_next {R} {W} rest meaning worked s below working b w n =
    ap (λ (x : R). layered rest (worked s.working (meaning x)) s.number (meaning x)) b
    ∙ ap (λ (x : W). layered rest (worked x (meaning below)) s.number (meaning below)) w
    ∙ ap (λ (x : ℕ). layered rest (worked working (meaning below)) x (meaning below)) n
