-- The peak one point further, and that it is the last in order.
use Rattle.std.proofs.Common.{◌≡◌, ℕ, zero, suc, ◌<◌, ◌≤◌, sym, refl, ap, ◌∙◌, subst, ⊎_elim, arith}
use Rattle.std.proofs.lemmas.Bool.Decides.{nat_tests}
use Rattle.std.proofs.str.Laws.{order}
use Rattle.layers.specs.Layers.{layered}
use Rattle.recording.specs.Meaning.{Meaning, Sound}
use Rattle.layers.specs.Peaks.{later, peak, peak_of, LastOf, PeakOver}
use Rattle.layers.proofs.Overlays.{overlaid, added_mark, rest_added}

module _ {M : Type 0} (rank : M → ℕ) where
  later_second : (a b : M) → rank a < rank b → later rank a b ≡ b
  later_second a b h = grind (arith, nat_tests)

  later_first : (a b : M) → rank b ≤ rank a → later rank a b ≡ a
  later_first a b h = grind (arith, nat_tests)

  -- the later of the last one so far and the next mark is the last one
  one_more : (marks : ℕ → M) (i : ℕ) (p : M) → LastOf rank marks i p → LastOf rank marks (suc i) (later rank p (marks (suc i)))
  one_more marks i p l =
      ⊎_elim
      (λ h. subst (LastOf rank marks (suc i)) (sym (later_second p (marks (suc i)) h)) (record {
        among = (suc i, omega arith, refl);
        none_after = λ k le.
            ⊎_elim (λ lt. omega (arith, l.none_after k (omega arith))) (λ ge. let e : k ≡ suc i = omega arith in omega (arith, ap (λ j. rank (marks j)) e))
            (order k (suc i));
      }))
      (λ h. subst (LastOf rank marks (suc i)) (sym (later_first p (marks (suc i)) h)) (record {
        among = (l.among.0, omega (arith, l.among.1), l.among.2);
        none_after = λ k le.
            ⊎_elim (λ lt. l.none_after k (omega arith)) (λ ge. let e : k ≡ suc i = omega arith in omega (arith, ap (λ j. rank (marks j)) e))
            (order k (suc i));
      }))
      (order (rank p) (rank (marks (suc i))))

  pub peak_last : (marks : ℕ → M) (i : ℕ) → LastOf rank marks i (peak rank marks i)
  peak_last marks zero = record {
    among = (zero, omega arith, refl);
    none_after = λ k le. let e : k ≡ zero = omega arith in omega (arith, ap (λ j. rank (marks j)) e);
  }
  peak_last marks (suc i) = one_more marks i (peak rank marks i) (peak_last marks i)

  pub peak_over : (rest : M) (c : ℕ) (m : Meaning M) → Sound rest m → PeakOver rank rest c m (layered rest (peak_of rank c m) m.channels m)
  peak_over rest c m sound = record {
    over = overlaid rest (peak_of rank c m) m sound;
    last = λ i room h.
        subst (LastOf rank (λ k. m.mark k c) i) (sym (added_mark rest (peak_of rank c m) m sound i room h))
        (peak_last (λ k. m.mark k c) i);
    absent = λ i none.
        let l = peak_last (λ k. m.mark k c) i in
        rest_added rest (peak_of rank c m) m sound i (l.among.2 ∙ sound.no_channel l.among.0 c none);
  }
