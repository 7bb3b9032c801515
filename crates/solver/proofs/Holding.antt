-- A formula stands still from the last point on, and at each place it is true or it is not. Assumes nothing.
use Rattle.std.proofs.Common.{◌≡◌, ℕ, ◌+◌, ◌-◌, ◌⊎◌, subst, inl, inr, ⊎_elim, arith}
use Rattle.std.proofs.str.Laws.{order}
use Rattle.formula.specs.declared.parts.BinaryOperator.TheVariants.{And, Or, Implies, Until, WeakUntil}
use Rattle.formula.specs.declared.parts.Comparator.{Comparator}
use Rattle.formula.specs.declared.parts.Comparator.TheVariants.{Less, Greater, AtMost, AtLeast}
use Rattle.formula.specs.declared.parts.LimitName.{LimitName}
use Rattle.formula.specs.declared.parts.Operand.TheVariants.{Limit, Channel, Constant}
use Rattle.formula.specs.declared.parts.UnaryOperator.TheVariants.{Not, Next, Finally, Globally}
use Rattle.formula.specs.Trees.{Tree, compares, one, two}
use Rattle.solver.specs.Truth.{Compares, Holds, against, on_path}
use Rattle.solver.proofs.Paths.{Decided, Steady, always_known, always_still, sometime_known, sometime_still, unless_known, unless_still, until_known, until_still}

compares_known : {S : Type 0} (rank : S → ℕ) (m : S) (v : Comparator) (n : S) → Compares rank m v n ⊎ (Compares rank m v n → ⊥)
compares_known rank m Less n = ⊎_elim inl (λ ge. inr (λ lt. omega arith)) (order (rank m) (rank n))
compares_known rank m Greater n = ⊎_elim inl (λ ge. inr (λ lt. omega arith)) (order (rank n) (rank m))
compares_known rank m AtMost n = ⊎_elim (λ lt. inr (λ le. omega arith)) inl (order (rank n) (rank m))
compares_known rank m AtLeast n = ⊎_elim (λ lt. inr (λ le. omega arith)) inl (order (rank m) (rank n))

module _ {S : Type 0} (rank : S → ℕ) (marks : ℕ → ℕ → S) (points : ℕ) (limits : LimitName → S) where
  -- from the last point on, a formula is true everywhere or nowhere
  pub still : (t : Tree S) → Steady (points - 1) (Holds rank marks points limits t)
  still (compares channel v (Limit l)) i j li lj h = let same : on_path rank marks points limits i ≡ on_path rank marks points limits j = omega arith in subst (λ k. Compares rank (marks k channel) v (limits l)) same h
  still (compares channel v (Channel c)) i j li lj h = let same : on_path rank marks points limits i ≡ on_path rank marks points limits j = omega arith in subst (λ k. Compares rank (marks k channel) v (marks k c)) same h
  still (compares channel v (Constant m)) i j li lj h = let same : on_path rank marks points limits i ≡ on_path rank marks points limits j = omega arith in subst (λ k. Compares rank (marks k channel) v m) same h
  still (one Not t) i j li lj h = λ x. h (still t j i lj li x)
  still (one Next t) i j li lj h = still t (i + 1) (j + 1) (omega arith) (omega arith) h
  still (one Finally t) i j li lj h = sometime_still (Holds rank marks points limits t) (points - 1) (still t) i j li lj h
  still (one Globally t) i j li lj h = always_still (Holds rank marks points limits t) (points - 1) (still t) i j li lj h
  still (two And l r) i j li lj h = (still l i j li lj h.0, still r i j li lj h.1)
  still (two Or l r) i j li lj h = ⊎_elim (λ a. inl (still l i j li lj a)) (λ b. inr (still r i j li lj b)) h
  still (two Implies l r) i j li lj h = λ x. still r i j li lj (h (still l j i lj li x))
  still (two Until l r) i j li lj h = until_still (Holds rank marks points limits l) (Holds rank marks points limits r) (points - 1) (still l) (still r) i j li lj h
  still (two WeakUntil l r) i j li lj h = unless_still (Holds rank marks points limits l) (Holds rank marks points limits r) (points - 1) (still l) (still r) i j li lj h

  -- and at each place it is true or it is not
  pub known : (t : Tree S) → Decided (Holds rank marks points limits t)
  known (compares channel v operand) i = compares_known rank (marks (on_path rank marks points limits i) channel) v (against rank marks points limits i operand)
  known (one Not t) i = ⊎_elim (λ h. inr (λ n. n h)) (λ n. inl n) (known t i)
  known (one Next t) i = known t (i + 1)
  known (one Finally t) i = sometime_known (Holds rank marks points limits t) (points - 1) (still t) (known t) i
  known (one Globally t) i = always_known (Holds rank marks points limits t) (points - 1) (still t) (known t) i
  known (two And l r) i = ⊎_elim (λ a. ⊎_elim (λ b. inl (a, b)) (λ n. inr (λ h. n h.1)) (known r i)) (λ n. inr (λ h. n h.0)) (known l i)
  known (two Or l r) i = ⊎_elim (λ a. inl (inl a)) (λ n. ⊎_elim (λ b. inl (inr b)) (λ m. inr (λ h. ⊎_elim n m h)) (known r i)) (known l i)
  known (two Implies l r) i = ⊎_elim (λ b. inl (λ a. b)) (λ m. ⊎_elim (λ a. inr (λ h. m (h a))) (λ n. inl (λ a. absurd (n a))) (known l i)) (known r i)
  known (two Until l r) i = until_known (Holds rank marks points limits l) (Holds rank marks points limits r) (points - 1) (still l) (still r) (known l) (known r) i
  known (two WeakUntil l r) i = unless_known (Holds rank marks points limits l) (Holds rank marks points limits r) (points - 1) (still l) (still r) (known l) (known r) i
