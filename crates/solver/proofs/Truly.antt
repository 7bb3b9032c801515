-- Each list of each row says when its part is true under its sign. Assumes nothing.
use Rattle.std.proofs.Common.{◌≡◌, ℕ, ◌+◌, ◌-◌, ◌^◌, ◌<◌, ◌≤◌, Bool, true, false, cond, List, [], ◌∷◌, get_or, set, Ok, sym, refl, ap, ◌∙◌, inl, inr, ⊎_elim, arith}
use Rattle.formula.specs.declared.parts.BinaryOperator.TheVariants.{And, Or, Implies, Until as until_op, WeakUntil as weak_op}
use Rattle.formula.specs.declared.parts.Comparator.{Comparator}
use Rattle.formula.specs.declared.parts.LimitName.{LimitName}
use Rattle.formula.specs.declared.parts.Operand.TheVariants.{Limit, Channel, Constant}
use Rattle.formula.specs.declared.parts.Part.{Part}
use Rattle.formula.specs.declared.parts.Part.TheVariants.{Comparison, Unary, Binary}
use Rattle.formula.specs.declared.parts.UnaryOperator.TheVariants.{Not, Next as next_op, Finally, Globally}
use Rattle.formula.specs.Parts.{limit_index}
use Rattle.formula.specs.Trees.{Tree, compares, one, root, size, two}
use Rattle.domain.specs.Added.{Boxes, and_then, joined, met}
use Rattle.domain.specs.Boxes.{full_box}
use Rattle.solver.specs.Comparisons.{meets, side_of}
use Rattle.solver.specs.Labels.{at, foreseen, labelled}
use Rattle.solver.specs.Steps.{last_step, settled, step_of, step_under_sign}
use Rattle.solver.specs.Truth.{Compares, Holds, on_path}
use Rattle.solver.specs.declared.steps.Outlook.{Outlook}
use Rattle.solver.specs.declared.steps.Outlook.TheVariants.{Next, Eventually, Always as always_on, Until, WeakUntil}
use Rattle.solver.specs.declared.steps.Step.{Step}
use Rattle.solver.specs.declared.steps.Step.TheVariants.{Bound, Everything, Nothing, Same, Join, Meet, Later}
use Rattle.solver.proofs.Holding.{known, still}
use Rattle.solver.proofs.Paths.{always_in, always_last, always_out, either_not, no_always_in, no_always_out, no_sometime_in, no_sometime_out, no_unless_in, no_unless_out, no_until_in, no_until_out, sometime_in, sometime_last, sometime_out, unless_here, unless_in, unless_last, unless_out, until_in, until_last, until_out}
use Rattle.solver.proofs.Standing.{Has, Signed, Stands}
use Rattle.solver.proofs.Telling.{Tells, Turned, meets_not, meets_so, sign_in, sign_out, tells_all, tells_as, tells_bound, tells_is, tells_join, tells_meet, tells_none, then_ok, turned_to}

-- a step that looks at no other point is the same at the last
now_step : {S : Type 0} (last : Bool) (s : Step S) → settled s ≡ s → cond last (settled s) s ≡ s
now_step true s e = e
now_step false s e = refl

module _ {S : Type 0} (rank : S → ℕ) (fits : (m : S) → rank m < 2 ^ 32) (marks : ℕ → ℕ → S) (points : ℕ) (limits : LimitName → S) (parts : List (Part S)) (signs : List Bool) where
  -- the lists of a row say when their parts are true at place i
  abbrev pub TrueRow : ℕ → List (Boxes S) → Type 0
  TrueRow i row = (t : Tree S) (n : ℕ) (turned : Bool) → Stands parts n t → Signed signs n turned t → Tells rank fits limits (at row (root n t)) (Turned turned (Holds rank marks points limits t i))

  module _ (i : ℕ) (last : Bool) (row next : List (Boxes S)) (end : last ≡ true → points - 1 ≤ i) (ahead : last ≡ false → TrueRow (i + 1) next) (made : (k : ℕ) (turned : Bool) (p : Part S) → Has parts k p → get_or signs k false ≡ turned → let s = step_of rank (marks (on_path rank marks points limits i)) turned p in labelled rank row next k (cond last (settled s) s) ≡ Ok (at row k)) where
    -- a part that looks at this point only
    now_made : (k : ℕ) (turned : Bool) (p : Part S) (s : Step S) → Has parts k p → get_or signs k false ≡ turned → step_of rank (marks (on_path rank marks points limits i)) turned p ≡ s → settled s ≡ s → labelled rank row next k s ≡ Ok (at row k)
    now_made k turned p s has sign e same = ap (labelled rank row next k) (sym (ap (λ x. cond last (settled x) x) e ∙ now_step last s same)) ∙ made k turned p has sign

    decided : (k : ℕ) (m : S) (turned : Bool) (v : Comparator) (x : S) (b : Bool) → meets rank m (step_under_sign turned v) x ≡ b → labelled rank row next k (cond last (settled (cond b Everything Nothing)) (cond b Everything Nothing)) ≡ Ok (at row k) → Tells rank fits limits (at row k) (Turned turned (Compares rank m v x))
    decided k m turned v x true e o = tells_is rank fits limits (full_box ∷ []) (at row k) _ (tells_all rank fits limits _ (sign_out rank turned m v x (meets_so rank m (step_under_sign turned v) x e))) (ap (labelled rank row next k) (sym (now_step last Everything refl)) ∙ o)
    decided k m turned v x false e o = tells_is rank fits limits [] (at row k) _ (tells_none rank fits limits _ (λ h. meets_not rank m (step_under_sign turned v) x e (sign_in rank turned m v x h))) (ap (labelled rank row next k) (sym (now_step last Nothing refl)) ∙ o)

    -- a part that looks at the points to come
    later_tells : (b : Bool) (k : ℕ) (o : Outlook) (A : Type 0) → last ≡ b → labelled rank row next k (cond b (settled (Later o)) (Later o)) ≡ Ok (at row k) → (last ≡ true → Tells rank fits limits (at row (last_step o)) A) → (last ≡ false → (zs : Boxes S) → foreseen rank row next k o ≡ Ok zs → Tells rank fits limits zs A) → Tells rank fits limits (at row k) A
    later_tells true k o A e m at_end before = tells_is rank fits limits (at row (last_step o)) (at row k) A (at_end e) m
    later_tells false k o A e m at_end before = before e (at row k) m

    -- each list of the row, from those of its operands and its own at the next point
    pub row_tells : TrueRow i row
    row_tells (compares c v (Limit l)) n turned st sg =
        let m = marks (on_path rank marks points limits i) c in
        let k = n + 1 - 1 in
        let xs = set full_box (limit_index l) (side_of (step_under_sign turned v) m) ∷ [] in
        tells_as rank fits limits (at row k) _ _ (tells_is rank fits limits xs (at row k) _ (tells_bound rank fits limits l (step_under_sign turned v) m) (now_made k turned (Comparison c v (Limit l)) (Bound l (side_of (step_under_sign turned v) m)) st sg refl refl)) (sign_out rank turned m v (limits l)) (sign_in rank turned m v (limits l))
    row_tells (compares c v (Channel d)) n turned st sg =
        let p = on_path rank marks points limits i in
        decided (n + 1 - 1) (marks p c) turned v (marks p d) (meets rank (marks p c) (step_under_sign turned v) (marks p d)) refl (made (n + 1 - 1) turned (Comparison c v (Channel d)) st sg)
    row_tells (compares c v (Constant x)) n turned st sg =
        let p = on_path rank marks points limits i in
        decided (n + 1 - 1) (marks p c) turned v x (meets rank (marks p c) (step_under_sign turned v) x) refl (made (n + 1 - 1) turned (Comparison c v (Constant x)) st sg)
    row_tells (one Not t) n true st sg =
        let k = root n (one Not t) in
        tells_as rank fits limits (at row k) _ _ (tells_is rank fits limits (at row (root n t)) (at row k) _ (row_tells t n false st.0 sg.0) (now_made k true (Unary Not (root n t)) (Same (root n t)) st.1 sg.1 refl refl)) (λ h nay. nay h) (λ nn. ⊎_elim (λ h. h) (λ nay. absurd (nn nay)) (known rank marks points limits t i))
    row_tells (one Not t) n false st sg =
        let k = root n (one Not t) in
        tells_is rank fits limits (at row (root n t)) (at row k) _ (row_tells t n true st.0 sg.0) (now_made k false (Unary Not (root n t)) (Same (root n t)) st.1 sg.1 refl refl)
    row_tells (one next_op t) n turned st sg =
        let k = root n (one next_op t) in
        let stay = still rank marks points limits t in
        later_tells last k (Next (root n t)) (Turned turned (Holds rank marks points limits t (i + 1))) refl (made k turned (Unary next_op (root n t)) st.1 sg.1)
        (λ e. tells_as rank fits limits (at row (root n t)) _ _ (row_tells t n turned st.0 sg.0) (turned_to turned (stay i (i + 1) (end e) (omega (arith, end e))) (stay (i + 1) i (omega (arith, end e)) (end e))) (turned_to turned (stay (i + 1) i (omega (arith, end e)) (end e)) (stay i (i + 1) (end e) (omega (arith, end e)))))
        (λ e zs z. tells_is rank fits limits (at next (root n t)) zs _ (ahead e t n turned st.0 sg.0) z)
    row_tells (one Finally t) n false st sg =
        let k = root n (one Finally t) in
        let A = Holds rank marks points limits t in
        let stay = still rank marks points limits t in
        let below = row_tells t n false st.0 sg.0 in
        later_tells last k (Eventually (root n t)) (Turned false (Holds rank marks points limits (one Finally t) i)) refl (made k false (Unary Finally (root n t)) st.1 sg.1)
        (λ e. tells_as rank fits limits (at row (root n t)) _ _ below (λ a. sometime_in A i (inl a)) (λ h. sometime_last A (points - 1) stay i (end e) h))
        (λ e zs z. tells_as rank fits limits zs _ _ (tells_join rank fits limits (at row (root n t)) (at next k) zs _ _ below (ahead e (one Finally t) n false st sg) z) (sometime_in A i) (sometime_out A i))
    row_tells (one Finally t) n true st sg =
        let k = root n (one Finally t) in
        let A = Holds rank marks points limits t in
        let stay = still rank marks points limits t in
        let below = row_tells t n true st.0 sg.0 in
        later_tells last k (always_on (root n t)) (Turned true (Holds rank marks points limits (one Finally t) i)) refl (made k true (Unary Finally (root n t)) st.1 sg.1)
        (λ e. tells_as rank fits limits (at row (root n t)) _ _ below (λ nay h. nay (sometime_last A (points - 1) stay i (end e) h)) (λ nay h. nay (sometime_in A i (inl h))))
        (λ e zs z. tells_as rank fits limits zs _ _ (tells_meet rank fits limits (at row (root n t)) (at next k) zs _ _ below (ahead e (one Finally t) n true st sg) z) (no_sometime_in A i) (no_sometime_out A i))
    row_tells (one Globally t) n false st sg =
        let k = root n (one Globally t) in
        let A = Holds rank marks points limits t in
        let stay = still rank marks points limits t in
        let below = row_tells t n false st.0 sg.0 in
        later_tells last k (always_on (root n t)) (Turned false (Holds rank marks points limits (one Globally t) i)) refl (made k false (Unary Globally (root n t)) st.1 sg.1)
        (λ e. tells_as rank fits limits (at row (root n t)) _ _ below (λ a. always_last A (points - 1) stay i (end e) a) (λ h. (always_out A i h).0))
        (λ e zs z. tells_as rank fits limits zs _ _ (tells_meet rank fits limits (at row (root n t)) (at next k) zs _ _ below (ahead e (one Globally t) n false st sg) z) (always_in A i) (always_out A i))
    row_tells (one Globally t) n true st sg =
        let k = root n (one Globally t) in
        let A = Holds rank marks points limits t in
        let stay = still rank marks points limits t in
        let below = row_tells t n true st.0 sg.0 in
        later_tells last k (Eventually (root n t)) (Turned true (Holds rank marks points limits (one Globally t) i)) refl (made k true (Unary Globally (root n t)) st.1 sg.1)
        (λ e. tells_as rank fits limits (at row (root n t)) _ _ below (λ nay h. nay (always_out A i h).0) (λ nay h. nay (always_last A (points - 1) stay i (end e) h)))
        (λ e zs z. tells_as rank fits limits zs _ _ (tells_join rank fits limits (at row (root n t)) (at next k) zs _ _ below (ahead e (one Globally t) n true st sg) z) (no_always_in A i) (no_always_out A i (known rank marks points limits t i)))
    row_tells (two And l r) n false st sg =
        let k = root n (two And l r) in
        let a = root n l in
        let b = root (n + size l) r in
        tells_as rank fits limits (at row k) _ _ (tells_meet rank fits limits (at row a) (at row b) (at row k) _ _ (row_tells l n false st.0 sg.0) (row_tells r (n + size l) false st.1 sg.1) (now_made k false (Binary And a b) (Meet a b) st.2 sg.2 refl refl)) (λ h. h) (λ h. h)
    row_tells (two And l r) n true st sg =
        let k = root n (two And l r) in
        let a = root n l in
        let b = root (n + size l) r in
        tells_as rank fits limits (at row k) _ _ (tells_join rank fits limits (at row a) (at row b) (at row k) _ _ (row_tells l n true st.0 sg.0) (row_tells r (n + size l) true st.1 sg.1) (now_made k true (Binary And a b) (Join a b) st.2 sg.2 refl refl)) (λ s h. ⊎_elim (λ na. na h.0) (λ nb. nb h.1) s) (λ nay. either_not (known rank marks points limits l i) nay)
    row_tells (two Or l r) n false st sg =
        let k = root n (two Or l r) in
        let a = root n l in
        let b = root (n + size l) r in
        tells_as rank fits limits (at row k) _ _ (tells_join rank fits limits (at row a) (at row b) (at row k) _ _ (row_tells l n false st.0 sg.0) (row_tells r (n + size l) false st.1 sg.1) (now_made k false (Binary Or a b) (Join a b) st.2 sg.2 refl refl)) (λ h. h) (λ h. h)
    row_tells (two Or l r) n true st sg =
        let k = root n (two Or l r) in
        let a = root n l in
        let b = root (n + size l) r in
        tells_as rank fits limits (at row k) _ _ (tells_meet rank fits limits (at row a) (at row b) (at row k) _ _ (row_tells l n true st.0 sg.0) (row_tells r (n + size l) true st.1 sg.1) (now_made k true (Binary Or a b) (Meet a b) st.2 sg.2 refl refl)) (λ both h. ⊎_elim both.0 both.1 h) (λ nay. (λ a. nay (inl a), λ b. nay (inr b)))
    row_tells (two Implies l r) n false st sg =
        let k = root n (two Implies l r) in
        let a = root n l in
        let b = root (n + size l) r in
        tells_as rank fits limits (at row k) _ _ (tells_join rank fits limits (at row a) (at row b) (at row k) _ _ (row_tells l n true st.0 sg.0) (row_tells r (n + size l) false st.1 sg.1) (now_made k false (Binary Implies a b) (Join a b) st.2 sg.2 refl refl)) (λ s a. ⊎_elim (λ na. absurd (na a)) (λ b. b) s) (λ h. ⊎_elim (λ a. inr (h a)) inl (known rank marks points limits l i))
    row_tells (two Implies l r) n true st sg =
        let k = root n (two Implies l r) in
        let a = root n l in
        let b = root (n + size l) r in
        tells_as rank fits limits (at row k) _ _ (tells_meet rank fits limits (at row a) (at row b) (at row k) _ _ (row_tells l n false st.0 sg.0) (row_tells r (n + size l) true st.1 sg.1) (now_made k true (Binary Implies a b) (Meet a b) st.2 sg.2 refl refl)) (λ both h. both.1 (h both.0)) (λ nay. (⊎_elim (λ a. a) (λ na. absurd (nay (λ a. absurd (na a)))) (known rank marks points limits l i), λ b. nay (λ a. b)))
    row_tells (two until_op l r) n false st sg =
        let k = root n (two until_op l r) in
        let a = root n l in
        let b = root (n + size l) r in
        let A = Holds rank marks points limits l in
        let B = Holds rank marks points limits r in
        let stay_a = still rank marks points limits l in
        let stay_b = still rank marks points limits r in
        let lt = row_tells l n false st.0 sg.0 in
        let rt = row_tells r (n + size l) false st.1 sg.1 in
        later_tells last k (Until a b) (Turned false (Holds rank marks points limits (two until_op l r) i)) refl (made k false (Binary until_op a b) st.2 sg.2)
        (λ e. tells_as rank fits limits (at row b) _ _ rt (λ x. until_in A B i (inl x)) (λ h. until_last A B (points - 1) stay_a stay_b i (end e) h))
        (λ e zs z.
        let own = ahead e (two until_op l r) n false st sg in
        let parts_of = then_ok (met rank (at next k) (at row a)) (λ held. joined rank (at row b) held) zs z in
        let held = tells_meet rank fits limits (at next k) (at row a) parts_of.0 _ _ own lt parts_of.1 in
        tells_as rank fits limits zs _ _ (tells_join rank fits limits (at row b) parts_of.0 zs _ _ rt held parts_of.2) (until_in A B i) (until_out A B i))
    row_tells (two until_op l r) n true st sg =
        let k = root n (two until_op l r) in
        let a = root n l in
        let b = root (n + size l) r in
        let A = Holds rank marks points limits l in
        let B = Holds rank marks points limits r in
        let stay_a = still rank marks points limits l in
        let stay_b = still rank marks points limits r in
        let lt = row_tells l n true st.0 sg.0 in
        let rt = row_tells r (n + size l) true st.1 sg.1 in
        later_tells last k (WeakUntil b a) (Turned true (Holds rank marks points limits (two until_op l r) i)) refl (made k true (Binary until_op a b) st.2 sg.2)
        (λ e. tells_as rank fits limits (at row b) _ _ rt (λ nay h. nay (until_last A B (points - 1) stay_a stay_b i (end e) h)) (λ nay h. nay (until_in A B i (inl h))))
        (λ e zs z.
        let own = ahead e (two until_op l r) n true st sg in
        let one_of_lem = then_ok (met rank (at row b) (at row a)) (λ both. and_then (met rank (at next k) (at row b)) (λ held. joined rank both held)) zs z in
        let two_of = then_ok (met rank (at next k) (at row b)) (λ held. joined rank one_of_lem.0 held) zs one_of_lem.2 in
        let both = tells_meet rank fits limits (at row b) (at row a) one_of_lem.0 _ _ rt lt one_of_lem.1 in
        let held = tells_meet rank fits limits (at next k) (at row b) two_of.0 _ _ own rt two_of.1 in
        tells_as rank fits limits zs _ _ (tells_join rank fits limits one_of_lem.0 two_of.0 zs _ _ both held two_of.2) (no_until_in A B i) (no_until_out A B i (known rank marks points limits l i)))
    row_tells (two weak_op l r) n false st sg =
        let k = root n (two weak_op l r) in
        let a = root n l in
        let b = root (n + size l) r in
        let A = Holds rank marks points limits l in
        let B = Holds rank marks points limits r in
        let stay_a = still rank marks points limits l in
        let stay_b = still rank marks points limits r in
        let lt = row_tells l n false st.0 sg.0 in
        let rt = row_tells r (n + size l) false st.1 sg.1 in
        later_tells last k (WeakUntil a b) (Turned false (Holds rank marks points limits (two weak_op l r) i)) refl (made k false (Binary weak_op a b) st.2 sg.2)
        (λ e. tells_as rank fits limits (at row a) _ _ lt (λ x. unless_last A B (points - 1) stay_a stay_b i (end e) x) (λ h. unless_here A B (points - 1) stay_a stay_b i h))
        (λ e zs z.
        let own = ahead e (two weak_op l r) n false st sg in
        let one_of_lem = then_ok (met rank (at row a) (at row b)) (λ both. and_then (met rank (at next k) (at row a)) (λ held. joined rank both held)) zs z in
        let two_of = then_ok (met rank (at next k) (at row a)) (λ held. joined rank one_of_lem.0 held) zs one_of_lem.2 in
        let both = tells_meet rank fits limits (at row a) (at row b) one_of_lem.0 _ _ lt rt one_of_lem.1 in
        let held = tells_meet rank fits limits (at next k) (at row a) two_of.0 _ _ own lt two_of.1 in
        tells_as rank fits limits zs _ _ (tells_join rank fits limits one_of_lem.0 two_of.0 zs _ _ both held two_of.2) (unless_in A B i) (unless_out A B i))
    row_tells (two weak_op l r) n true st sg =
        let k = root n (two weak_op l r) in
        let a = root n l in
        let b = root (n + size l) r in
        let A = Holds rank marks points limits l in
        let B = Holds rank marks points limits r in
        let stay_a = still rank marks points limits l in
        let stay_b = still rank marks points limits r in
        let lt = row_tells l n true st.0 sg.0 in
        let rt = row_tells r (n + size l) true st.1 sg.1 in
        later_tells last k (Until b a) (Turned true (Holds rank marks points limits (two weak_op l r) i)) refl (made k true (Binary weak_op a b) st.2 sg.2)
        (λ e. tells_as rank fits limits (at row a) _ _ lt (λ nay h. nay (unless_here A B (points - 1) stay_a stay_b i h)) (λ nay h. nay (unless_last A B (points - 1) stay_a stay_b i (end e) h)))
        (λ e zs z.
        let own = ahead e (two weak_op l r) n true st sg in
        let parts_of = then_ok (met rank (at next k) (at row b)) (λ held. joined rank (at row a) held) zs z in
        let held = tells_meet rank fits limits (at next k) (at row b) parts_of.0 _ _ own rt parts_of.1 in
        tells_as rank fits limits zs _ _ (tells_join rank fits limits (at row a) parts_of.0 zs _ _ lt held parts_of.2) (no_unless_in A B i) (no_unless_out A B i (known rank marks points limits l i)))
