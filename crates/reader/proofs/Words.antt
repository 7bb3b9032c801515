-- The words of a rule can be told apart by how they begin.
use Rattle.std.proofs.Common.{◌≡◌, ℕ, ◌+◌, ◌<◌, ◌≤◌, ◌⊎◌, List, [], ◌∷◌, ◌++◌, sym, refl, ap, ◌∙◌, subst, inl, inr, ⊎_elim, arith, rules}
use Rattle.std.proofs.lemmas.Bool.{cases_lt}
use Rattle.scale.specs.Marks.{RunByte}
use Rattle.formula.specs.declared.parts.LimitName.{LimitName}
use Rattle.formula.specs.declared.parts.LimitName.TheVariants.{P, Q, R}
use Rattle.formula.specs.declared.parts.Comparator.{Comparator}
use Rattle.formula.specs.declared.parts.Comparator.TheVariants.{Less, Greater, AtMost, AtLeast}
use Rattle.formula.specs.declared.parts.UnaryOperator.{UnaryOperator}
use Rattle.formula.specs.declared.parts.UnaryOperator.TheVariants.{Not, Next, Finally, Globally}
use Rattle.formula.specs.declared.parts.BinaryOperator.{BinaryOperator}
use Rattle.formula.specs.declared.parts.BinaryOperator.TheVariants.{Until, WeakUntil, And, Or, Implies}
use Rattle.formula.specs.declared.parts.Operand.{Operand}
use Rattle.formula.specs.declared.parts.Operand.TheVariants.{Limit, Channel, Constant}
use Rattle.reader.specs.Fronts.{Runny, Stops, Proper}
use Rattle.reader.specs.Spellings.{decimal, channel_name, limit_text, comparator_text, unary_text, binary_text}
use Rattle.reader.specs.Written.{operand_text}

abbrev pub first : List ℕ → ℕ
first [] = 0
first (x ∷ xs) = x

abbrev pub others : List ℕ → List ℕ
others [] = []
others (x ∷ xs) = xs

stops_at : (b : ℕ) (u y : List ℕ) → y ≡ b ∷ u → RunByte b → Stops y → ⊥
stops_at b u [] e r s = let z : ◌≡◌ {A = ℕ} 0 1 = cc in omega arith
stops_at b u (x ∷ y) e r s = s (subst RunByte (sym (ap first e)) r)

pub run_once : (u w y z : List ℕ) → Runny u → Runny w → Stops y → Stops z → u ++ y ≡ w ++ z → (u ≡ w) × (y ≡ z)
run_once [] [] y z p q s t e = (refl, e)
run_once [] (b ∷ w) y z p q s t e = absurd (stops_at b (w ++ z) y e q.0 s)
run_once (a ∷ u) [] y z p q s t e = absurd (stops_at a (u ++ y) z (sym e) p.0 t)
run_once (a ∷ u) (b ∷ w) y z p q s t e =
    let rest = run_once u w y z p.1 q.1 s t (ap others e) in
    let same : a ≡ b = ap first e in
    (ap (λ (x : ℕ). x ∷ u) same ∙ ap (λ (x : List ℕ). b ∷ x) rest.0, rest.1)

-- a number below 16 has one digit or two
pub digits : (n : ℕ) → n < 16 → ((n < 10) × (decimal n ≡ (48 + n) ∷ [])) ⊎ ((10 ≤ n) × (decimal n ≡ 49 ∷ (38 + n) ∷ []))
digits n low = ⊎_elim (λ (h : n < 10). inl (h, search rules)) (λ (h : 10 ≤ n). inr (h, search rules)) (cases_lt n 10)

-- what cannot stand behind a number: another digit
pub channel_once : (n m b d : ℕ) (u w : List ℕ) → n < 16 → m < 16 → 60 ≤ b → 60 ≤ d → decimal n ++ (b ∷ u) ≡ decimal m ++ (d ∷ w) → (n ≡ m) × (b ∷ u ≡ d ∷ w)
channel_once n m b d u w p q h k e =
    ⊎_elim
    (λ x.
    ⊎_elim
    (λ y.
    let f : (48 + n) ∷ (b ∷ u) ≡ (48 + m) ∷ (d ∷ w) = ap (λ (l : List ℕ). l ++ (b ∷ u)) (sym x.1) ∙ (e ∙ ap (λ (l : List ℕ). l ++ (d ∷ w)) y.1) in
    (omega (arith, ap first f), ap others f))
    (λ y.
    let f : (48 + n) ∷ (b ∷ u) ≡ 49 ∷ (38 + m) ∷ (d ∷ w) = ap (λ (l : List ℕ). l ++ (b ∷ u)) (sym x.1) ∙ (e ∙ ap (λ (l : List ℕ). l ++ (d ∷ w)) y.1) in
    absurd (omega (arith, ap (λ (l : List ℕ). first (others l)) f, q)))
    (digits m q))
    (λ x.
    ⊎_elim
    (λ y.
    let f : 49 ∷ (38 + n) ∷ (b ∷ u) ≡ (48 + m) ∷ (d ∷ w) = ap (λ (l : List ℕ). l ++ (b ∷ u)) (sym x.1) ∙ (e ∙ ap (λ (l : List ℕ). l ++ (d ∷ w)) y.1) in
    absurd (omega (arith, ap (λ (l : List ℕ). first (others l)) f, p)))
    (λ y.
    let f : 49 ∷ (38 + n) ∷ (b ∷ u) ≡ 49 ∷ (38 + m) ∷ (d ∷ w) = ap (λ (l : List ℕ). l ++ (b ∷ u)) (sym x.1) ∙ (e ∙ ap (λ (l : List ℕ). l ++ (d ∷ w)) y.1) in
    (omega (arith, ap (λ (l : List ℕ). first (others l)) f), ap (λ (l : List ℕ). others (others l)) f))
    (digits m q))
    (digits n p)

equals_no_run : (b : ℕ) → RunByte b → b ≡ 61 → ⊥
equals_no_run b r e = search rules

-- a run follows a comparator, so it goes on no further
pub comparator_once : (v v' : Comparator) (b d : ℕ) (u w : List ℕ) → RunByte b → RunByte d → comparator_text v ++ (b ∷ u) ≡ comparator_text v' ++ (d ∷ w) → (v ≡ v') × (b ∷ u ≡ d ∷ w)
comparator_once Less Less b d u w r q e = (refl, ap others e)
comparator_once Less Greater b d u w r q e = absurd (omega (arith, ap first e))
comparator_once Less AtMost b d u w r q e = absurd (equals_no_run b r (ap (λ (l : List ℕ). first (others l)) e))
comparator_once Less AtLeast b d u w r q e = absurd (omega (arith, ap first e))
comparator_once Greater Less b d u w r q e = absurd (omega (arith, ap first e))
comparator_once Greater Greater b d u w r q e = (refl, ap others e)
comparator_once Greater AtMost b d u w r q e = absurd (omega (arith, ap first e))
comparator_once Greater AtLeast b d u w r q e = absurd (equals_no_run b r (ap (λ (l : List ℕ). first (others l)) e))
comparator_once AtMost Less b d u w r q e = absurd (equals_no_run d q (sym (ap (λ (l : List ℕ). first (others l)) e)))
comparator_once AtMost Greater b d u w r q e = absurd (omega (arith, ap first e))
comparator_once AtMost AtMost b d u w r q e = (refl, ap (λ (l : List ℕ). others (others l)) e)
comparator_once AtMost AtLeast b d u w r q e = absurd (omega (arith, ap first e))
comparator_once AtLeast Less b d u w r q e = absurd (omega (arith, ap first e))
comparator_once AtLeast Greater b d u w r q e = absurd (equals_no_run d q (sym (ap (λ (l : List ℕ). first (others l)) e)))
comparator_once AtLeast AtMost b d u w r q e = absurd (omega (arith, ap first e))
comparator_once AtLeast AtLeast b d u w r q e = (refl, ap (λ (l : List ℕ). others (others l)) e)

pub unary_once : (op op' : UnaryOperator) (u w : List ℕ) → unary_text op ++ u ≡ unary_text op' ++ w → (op ≡ op') × (u ≡ w)
unary_once Not Not u w e = (refl, ap others e)
unary_once Not Next u w e = absurd (omega (arith, ap first e))
unary_once Not Finally u w e = absurd (omega (arith, ap first e))
unary_once Not Globally u w e = absurd (omega (arith, ap first e))
unary_once Next Not u w e = absurd (omega (arith, ap first e))
unary_once Next Next u w e = (refl, ap others e)
unary_once Next Finally u w e = absurd (omega (arith, ap first e))
unary_once Next Globally u w e = absurd (omega (arith, ap first e))
unary_once Finally Not u w e = absurd (omega (arith, ap first e))
unary_once Finally Next u w e = absurd (omega (arith, ap first e))
unary_once Finally Finally u w e = (refl, ap others e)
unary_once Finally Globally u w e = absurd (omega (arith, ap first e))
unary_once Globally Not u w e = absurd (omega (arith, ap first e))
unary_once Globally Next u w e = absurd (omega (arith, ap first e))
unary_once Globally Finally u w e = absurd (omega (arith, ap first e))
unary_once Globally Globally u w e = (refl, ap others e)

-- no such operator begins as a comparison or a bracket does
pub unary_apart : (op : UnaryOperator) (b : ℕ) (u w : List ℕ) → unary_text op ++ u ≡ b ∷ w → (b ≡ 99 → ⊥) × (b ≡ 40 → ⊥)
unary_apart Not b u w e = (λ h. omega (arith, ap first e), λ h. omega (arith, ap first e))
unary_apart Next b u w e = (λ h. omega (arith, ap first e), λ h. omega (arith, ap first e))
unary_apart Finally b u w e = (λ h. omega (arith, ap first e), λ h. omega (arith, ap first e))
unary_apart Globally b u w e = (λ h. omega (arith, ap first e), λ h. omega (arith, ap first e))

pub binary_once : (op op' : BinaryOperator) (u w : List ℕ) → binary_text op ++ u ≡ binary_text op' ++ w → (op ≡ op') × (u ≡ w)
binary_once Until Until u w e = (refl, ap others e)
binary_once Until WeakUntil u w e = absurd (omega (arith, ap first e))
binary_once Until And u w e = absurd (omega (arith, ap first e))
binary_once Until Or u w e = absurd (omega (arith, ap first e))
binary_once Until Implies u w e = absurd (omega (arith, ap first e))
binary_once WeakUntil Until u w e = absurd (omega (arith, ap first e))
binary_once WeakUntil WeakUntil u w e = (refl, ap others e)
binary_once WeakUntil And u w e = absurd (omega (arith, ap first e))
binary_once WeakUntil Or u w e = absurd (omega (arith, ap first e))
binary_once WeakUntil Implies u w e = absurd (omega (arith, ap first e))
binary_once And Until u w e = absurd (omega (arith, ap first e))
binary_once And WeakUntil u w e = absurd (omega (arith, ap first e))
binary_once And And u w e = (refl, ap others e)
binary_once And Or u w e = absurd (omega (arith, ap first e))
binary_once And Implies u w e = absurd (omega (arith, ap first e))
binary_once Or Until u w e = absurd (omega (arith, ap first e))
binary_once Or WeakUntil u w e = absurd (omega (arith, ap first e))
binary_once Or And u w e = absurd (omega (arith, ap first e))
binary_once Or Or u w e = (refl, ap others e)
binary_once Or Implies u w e = absurd (omega (arith, ap first e))
binary_once Implies Until u w e = absurd (omega (arith, ap first e))
binary_once Implies WeakUntil u w e = absurd (omega (arith, ap first e))
binary_once Implies And u w e = absurd (omega (arith, ap first e))
binary_once Implies Or u w e = absurd (omega (arith, ap first e))
binary_once Implies Implies u w e = (refl, ap (λ (l : List ℕ). others (others l)) e)

limit_once : (l m : LimitName) → limit_text l ≡ limit_text m → l ≡ m
limit_once P P e = refl
limit_once P Q e = absurd (omega (arith, ap first e))
limit_once P R e = absurd (omega (arith, ap first e))
limit_once Q P e = absurd (omega (arith, ap first e))
limit_once Q Q e = refl
limit_once Q R e = absurd (omega (arith, ap first e))
limit_once R P e = absurd (omega (arith, ap first e))
limit_once R Q e = absurd (omega (arith, ap first e))
limit_once R R e = refl

limit_apart : (l : LimitName) (n : ℕ) → limit_text l ≡ channel_name n → ⊥
limit_apart P n e = omega (arith, ap first e)
limit_apart Q n e = omega (arith, ap first e)
limit_apart R n e = omega (arith, ap first e)

name_once : (n m : ℕ) → n < 16 → m < 16 → channel_name n ≡ channel_name m → n ≡ m
name_once n m p q e = (channel_once n m 60 60 [] [] p q (omega arith) (omega arith) (ap (λ (l : List ℕ). others l ++ (60 ∷ [])) e)).0

pub operand_once : (o o' : Operand (List ℕ)) → Proper o → Proper o' → operand_text (λ x. x) o ≡ operand_text (λ x. x) o' → o ≡ o'
operand_once (Limit l) (Limit m) p q e = ap (λ (x : LimitName). Limit x) (limit_once l m e)
operand_once (Limit l) (Channel m) p q e = absurd (limit_apart l m e)
operand_once (Limit l) (Constant y) p q e = absurd (q.2.no_limit l e)
operand_once (Channel n) (Limit m) p q e = absurd (limit_apart m n (sym e))
operand_once (Channel n) (Channel m) p q e = ap (λ (x : ℕ). Channel x) (name_once n m p q e)
operand_once (Channel n) (Constant y) p q e = absurd (q.2.no_channel n p e)
operand_once (Constant x) (Limit m) p q e = absurd (p.2.no_limit m (sym e))
operand_once (Constant x) (Channel m) p q e = absurd (p.2.no_channel m q (sym e))
operand_once (Constant x) (Constant y) p q e = ap (λ (z : List ℕ). Constant z) e
