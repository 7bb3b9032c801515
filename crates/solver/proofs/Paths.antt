-- What holds on a path that stands still from its last place on: the laws of each operator from one place to the next.
-- Assumes nothing.
use Rattle.std.proofs.Common.{◌≡◌, ℕ, zero, suc, ◌+◌, ◌≤◌, ◌⊎◌, subst, inl, inr, ⊎_elim, arith}
use Rattle.std.proofs.str.Laws.{order}
use Rattle.solver.specs.Truth.{Always, HoldsUnless, HoldsUntil, Sometime}

-- either it holds or it does not
abbrev pub Decided : (ℕ → Type 0) → Type 0
Decided A = (i : ℕ) → A i ⊎ (A i → ⊥)

-- from the last place on it holds everywhere or nowhere
abbrev pub Steady : ℕ → (ℕ → Type 0) → Type 0
Steady last A = (i j : ℕ) → last ≤ i → last ≤ j → A i → A j

-- of two that do not hold together, one does not hold
pub either_not : {X Y : Type 0} → X ⊎ (X → ⊥) → (X × Y → ⊥) → (X → ⊥) ⊎ (Y → ⊥)
either_not (inl x) nay = inr (λ y. nay (x, y))
either_not (inr n) nay = inl n

module _ (A : ℕ → Type 0) where
  pub sometime_out : (i : ℕ) → Sometime A i → A i ⊎ Sometime A (i + 1)
  sometime_out i h = ⊎_elim (λ lt. inr (h.0, omega arith, h.2)) (λ ge. let same : h.0 ≡ i = omega (arith, h.1) in inl (subst A same h.2)) (order i h.0)

  pub sometime_in : (i : ℕ) → A i ⊎ Sometime A (i + 1) → Sometime A i
  sometime_in i (inl a) = (i, omega arith, a)
  sometime_in i (inr h) = (h.0, omega (arith, h.1), h.2)

  pub always_out : (i : ℕ) → Always A i → A i × Always A (i + 1)
  always_out i all = (all i (omega arith), λ j le. all j (omega arith))

  pub always_in : (i : ℕ) → A i × Always A (i + 1) → Always A i
  always_in i h j le = ⊎_elim (λ lt. h.1 j (omega arith)) (λ ge. let same : i ≡ j = omega arith in subst A same h.0) (order i j)

  pub no_sometime_out : (i : ℕ) → (Sometime A i → ⊥) → (A i → ⊥) × (Sometime A (i + 1) → ⊥)
  no_sometime_out i nay = (λ a. nay (sometime_in i (inl a)), λ s. nay (sometime_in i (inr s)))

  pub no_sometime_in : (i : ℕ) → (A i → ⊥) × (Sometime A (i + 1) → ⊥) → Sometime A i → ⊥
  no_sometime_in i nay s = ⊎_elim nay.0 nay.1 (sometime_out i s)

  pub no_always_out : (i : ℕ) → A i ⊎ (A i → ⊥) → (Always A i → ⊥) → (A i → ⊥) ⊎ (Always A (i + 1) → ⊥)
  no_always_out i d nay = either_not d (λ h. nay (always_in i h))

  pub no_always_in : (i : ℕ) → (A i → ⊥) ⊎ (Always A (i + 1) → ⊥) → Always A i → ⊥
  no_always_in i (inl nay) all = nay (always_out i all).0
  no_always_in i (inr nay) all = nay (always_out i all).1

  module _ (last : ℕ) (still : Steady last A) where
    pub sometime_last : (i : ℕ) → last ≤ i → Sometime A i → A i
    sometime_last i le h = still h.0 i (omega (arith, h.1)) le h.2

    pub always_last : (i : ℕ) → last ≤ i → A i → Always A i
    always_last i le a j more = still i j le (omega arith) a

    pub sometime_still : Steady last (Sometime A)
    sometime_still i j li lj h = (j, omega arith, still h.0 j (omega (arith, h.1)) lj h.2)

    pub always_still : Steady last (Always A)
    always_still i j li lj all = always_last j lj (still i j li lj (all i (omega arith)))

    module _ (known : Decided A) where
      sometime_from : (d i : ℕ) → last ≤ i + d → Sometime A i ⊎ (Sometime A i → ⊥)
      sometime_from zero i le = ⊎_elim (λ a. inl (sometime_in i (inl a))) (λ n. inr (λ s. n (sometime_last i (omega arith) s))) (known i)
      sometime_from (suc d) i le =
          ⊎_elim
          (λ a. inl (sometime_in i (inl a)))
          (λ n. ⊎_elim (λ s. inl (sometime_in i (inr s))) (λ m. inr (no_sometime_in i (n, m))) (sometime_from d (i + 1) (omega arith)))
          (known i)

      pub sometime_known : Decided (Sometime A)
      sometime_known i = sometime_from last i (omega arith)

      always_from : (d i : ℕ) → last ≤ i + d → Always A i ⊎ (Always A i → ⊥)
      always_from zero i le = ⊎_elim (λ a. inl (always_last i (omega arith) a)) (λ n. inr (λ all. n (all i (omega arith)))) (known i)
      always_from (suc d) i le =
          ⊎_elim
          (λ a. ⊎_elim (λ s. inl (always_in i (a, s))) (λ m. inr (no_always_in i (inr m))) (always_from d (i + 1) (omega arith)))
          (λ n. inr (no_always_in i (inl n)))
          (known i)

      pub always_known : Decided (Always A)
      always_known i = always_from last i (omega arith)

module _ (A B : ℕ → Type 0) where
  pub until_out : (i : ℕ) → HoldsUntil A B i → B i ⊎ (HoldsUntil A B (i + 1) × A i)
  until_out i h =
      ⊎_elim
      (λ lt. inr ((h.0, omega arith, h.2, λ k le less. h.3 k (omega arith) less), h.3 i (omega arith) lt))
      (λ ge. let same : h.0 ≡ i = omega (arith, h.1) in inl (subst B same h.2))
      (order i h.0)

  pub until_in : (i : ℕ) → B i ⊎ (HoldsUntil A B (i + 1) × A i) → HoldsUntil A B i
  until_in i (inl b) = (i, omega arith, b, λ k le less. absurd (omega arith))
  until_in i (inr h) = (h.0.0, omega (arith, h.0.1), h.0.2, λ k le less. ⊎_elim (λ lt. h.0.3 k (omega arith) less) (λ ge. let same : i ≡ k = omega arith in subst A same h.1) (order i k))

  pub unless_out : (i : ℕ) → HoldsUnless A B i → (A i × B i) ⊎ (HoldsUnless A B (i + 1) × A i)
  unless_out i (inl all) = inr (inl (always_out A i all).1, all i (omega arith))
  unless_out i (inr h) =
      ⊎_elim
      (λ lt. inr (inr (h.0, omega arith, h.2, λ k le more. h.3 k (omega arith) more), h.3 i (omega arith) (omega arith)))
      (λ ge. let same : h.0 ≡ i = omega (arith, h.1) in inl (h.3 i (omega arith) (omega (arith, h.1)), subst B same h.2))
      (order i h.0)

  pub unless_in : (i : ℕ) → (A i × B i) ⊎ (HoldsUnless A B (i + 1) × A i) → HoldsUnless A B i
  unless_in i (inl (a, b)) = inr (i, omega arith, b, λ k le more. let same : i ≡ k = omega arith in subst A same a)
  unless_in i (inr (inl all, a)) = inl (always_in A i (a, all))
  unless_in i (inr (inr h, a)) = inr (h.0, omega (arith, h.1), h.2, λ k le more. ⊎_elim (λ lt. h.3 k (omega arith) more) (λ ge. let same : i ≡ k = omega arith in subst A same a) (order i k))

  -- the dual of until: weak until, with its sides exchanged
  pub no_until_out : (i : ℕ) → A i ⊎ (A i → ⊥) → (HoldsUntil A B i → ⊥) → ((B i → ⊥) × (A i → ⊥)) ⊎ ((HoldsUntil A B (i + 1) → ⊥) × (B i → ⊥))
  no_until_out i (inl a) nay = inr (λ u. nay (until_in i (inr (u, a))), λ b. nay (until_in i (inl b)))
  no_until_out i (inr n) nay = inl (λ b. nay (until_in i (inl b)), n)

  pub no_until_in : (i : ℕ) → ((B i → ⊥) × (A i → ⊥)) ⊎ ((HoldsUntil A B (i + 1) → ⊥) × (B i → ⊥)) → HoldsUntil A B i → ⊥
  no_until_in i (inl (nb, na)) u = ⊎_elim nb (λ h. na h.1) (until_out i u)
  no_until_in i (inr (nu, nb)) u = ⊎_elim nb (λ h. nu h.0) (until_out i u)

  -- the dual of weak until: until, with its sides exchanged
  pub no_unless_out : (i : ℕ) → A i ⊎ (A i → ⊥) → (HoldsUnless A B i → ⊥) → (A i → ⊥) ⊎ ((HoldsUnless A B (i + 1) → ⊥) × (B i → ⊥))
  no_unless_out i (inl a) nay = inr (λ w. nay (unless_in i (inr (w, a))), λ b. nay (unless_in i (inl (a, b))))
  no_unless_out i (inr n) nay = inl n

  pub no_unless_in : (i : ℕ) → (A i → ⊥) ⊎ ((HoldsUnless A B (i + 1) → ⊥) × (B i → ⊥)) → HoldsUnless A B i → ⊥
  no_unless_in i (inl na) w = ⊎_elim (λ h. na h.0) (λ h. na h.1) (unless_out i w)
  no_unless_in i (inr (nw, nb)) w = ⊎_elim (λ h. nb h.1) (λ h. nw h.0) (unless_out i w)

  module _ (last : ℕ) (still_a : Steady last A) (still_b : Steady last B) where
    pub until_last : (i : ℕ) → last ≤ i → HoldsUntil A B i → B i
    until_last i le h = still_b h.0 i (omega (arith, h.1)) le h.2

    pub unless_here : (i : ℕ) → HoldsUnless A B i → A i
    unless_here i (inl all) = all i (omega arith)
    unless_here i (inr h) = h.3 i (omega arith) h.1

    pub unless_last : (i : ℕ) → last ≤ i → A i → HoldsUnless A B i
    unless_last i le a = inl (always_last A last still_a i le a)

    pub until_still : Steady last (HoldsUntil A B)
    until_still i j li lj h = until_in j (inl (still_b i j li lj (until_last i li h)))

    pub unless_still : Steady last (HoldsUnless A B)
    unless_still i j li lj h = unless_last j lj (still_a i j li lj (unless_here i h))

    module _ (known_a : Decided A) (known_b : Decided B) where
      until_from : (d i : ℕ) → last ≤ i + d → HoldsUntil A B i ⊎ (HoldsUntil A B i → ⊥)
      until_from zero i le = ⊎_elim (λ b. inl (until_in i (inl b))) (λ n. inr (λ u. n (until_last i (omega arith) u))) (known_b i)
      until_from (suc d) i le =
          ⊎_elim
          (λ b. inl (until_in i (inl b)))
          (λ nb. ⊎_elim
          (λ u. ⊎_elim (λ a. inl (until_in i (inr (u, a)))) (λ na. inr (no_until_in i (inl (nb, na)))) (known_a i))
          (λ nu. inr (no_until_in i (inr (nu, nb))))
          (until_from d (i + 1) (omega arith)))
          (known_b i)

      pub until_known : Decided (HoldsUntil A B)
      until_known i = until_from last i (omega arith)

      unless_from : (d i : ℕ) → last ≤ i + d → HoldsUnless A B i ⊎ (HoldsUnless A B i → ⊥)
      unless_from zero i le = ⊎_elim (λ a. inl (unless_last i (omega arith) a)) (λ n. inr (λ w. n (unless_here i w))) (known_a i)
      unless_from (suc d) i le =
          ⊎_elim
          (λ a. ⊎_elim
          (λ b. inl (unless_in i (inl (a, b))))
          (λ nb. ⊎_elim (λ w. inl (unless_in i (inr (w, a)))) (λ nw. inr (no_unless_in i (inr (nw, nb)))) (unless_from d (i + 1) (omega arith)))
          (known_b i))
          (λ na. inr (no_unless_in i (inl na)))
          (known_a i)

      pub unless_known : Decided (HoldsUnless A B)
      unless_known i = unless_from last i (omega arith)
