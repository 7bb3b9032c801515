-- Brackets and parts are counted byte by byte, and over whole formulas.
use Rattle.std.proofs.Common.{◌≡◌, ℕ, ◌+◌, ◌-◌, ◌<◌, ◌≤◌, Bool, true, false, cond, List, [], ◌∷◌, ◌++◌, sym, refl, ap, ◌∙◌, subst, ⊎_elim, arith, rules}
use Rattle.std.proofs.lemmas.Bool.Decides.{nat_tests}
use Rattle.scale.specs.Marks.{RunByte}
use Rattle.formula.specs.declared.parts.BinaryOperator.{BinaryOperator}
use Rattle.formula.specs.declared.parts.BinaryOperator.TheVariants.{Until, WeakUntil, And, Or, Implies}
use Rattle.formula.specs.declared.parts.Comparator.{Comparator}
use Rattle.formula.specs.declared.parts.Comparator.TheVariants.{Less, Greater, AtMost, AtLeast}
use Rattle.formula.specs.declared.parts.Operand.{Operand}
use Rattle.formula.specs.declared.parts.UnaryOperator.{UnaryOperator}
use Rattle.formula.specs.declared.parts.UnaryOperator.TheVariants.{Not, Next, Finally, Globally}
use Rattle.formula.specs.Trees.{Tree, compares, one, two, depth, size}
use Rattle.reader.specs.Counts.{meets, met_in}
use Rattle.reader.specs.Fronts.{Proper, ProperTree, Runny, spelled_out}
use Rattle.reader.specs.Halts.{last_of, leaves, left_by, Within}
use Rattle.reader.specs.Spellings.{binary_text, comparator_text, decimal, unary_text}
use Rattle.reader.proofs.Once.{runny, written}
use Rattle.reader.proofs.Words.{digits}

-- bytes that fit, and what is left and met behind them
pub record Clear (left met before : ℕ) (bytes : List ℕ) (left' met' : ℕ) : Type 0 where
  pub within : Within left met before bytes
  pub lefts : left_by left bytes ≡ left'
  pub mets : met + met_in before bytes ≡ met'

pub within_both : (left met before : ℕ) (x y : List ℕ) → Within left met before x → Within (left_by left x) (met + met_in before x) (last_of before x) y → Within left met before (x ++ y)
within_both left met before [] y p q = subst (λ (n : ℕ). Within left n before y) (omega arith) q
within_both left met before (b ∷ x) y p q =
    let next = met + cond (meets before b) 1 0 in
    let sum : met + (cond (meets before b) 1 0 + met_in b x) ≡ next + met_in b x = omega arith in
    (p.0, p.1, within_both (leaves left b) next b x y p.2 (subst (λ (n : ℕ). Within (left_by (leaves left b) x) n (last_of b x) y) sum q))

pub left_both : (left : ℕ) (x y : List ℕ) → left_by left (x ++ y) ≡ left_by (left_by left x) y
left_both left [] y = refl
left_both left (b ∷ x) y = left_both (leaves left b) x y

pub met_both : (before : ℕ) (x y : List ℕ) → met_in before (x ++ y) ≡ met_in before x + met_in (last_of before x) y
met_both before [] y = omega arith
met_both before (b ∷ x) y = omega (arith, met_both b x y)

pub last_both : (before : ℕ) (x y : List ℕ) → last_of before (x ++ y) ≡ last_of (last_of before x) y
last_both before [] y = refl
last_both before (b ∷ x) y = last_both b x y

-- what fits behind what fits
pub clear_then : {l m p l' m' l'' m'' : ℕ} (x y : List ℕ) → Clear l m p x l' m' → Clear l' m' (last_of p x) y l'' m'' → Clear l m p (x ++ y) l'' m''
clear_then {l} {m} {p} {l'} {m'} x y c d =
    let inner : Within (left_by l x) m' (last_of p x) y = subst (λ (n : ℕ). Within n m' (last_of p x) y) (sym c.lefts) d.within in
    record {
      within = within_both l m p x y c.within (subst (λ (n : ℕ). Within (left_by l x) n (last_of p x) y) (sym c.mets) inner);
      lefts = left_both l x y ∙ (ap (λ (n : ℕ). left_by n y) c.lefts ∙ d.lefts);
      mets = omega (arith, met_both p x y, c.mets, d.mets);
    }

-- no bracket, and no part
pub clear_plain : (l m p b : ℕ) → (b ≡ 40 → ⊥) → (b ≡ 41 → ⊥) → meets p b ≡ false → Clear l m p (b ∷ []) l m
clear_plain l m p b no_open no_close none =
    record {
      within = (λ e. absurd (no_open e), λ e. let z : ◌≡◌ {A = Bool} true false = sym e ∙ none in search rules, tt);
      lefts = grind (arith, nat_tests);
      mets = grind (arith, nat_tests);
    }

pub clear_open : (l m p : ℕ) → 0 < l → Clear l m p (40 ∷ []) (l - 1) m
clear_open l m p some = record { within = (λ _. some, λ e. search rules, tt); lefts = refl; mets = omega arith }

pub clear_close : (l m p : ℕ) → Clear l m p (41 ∷ []) (l + 1) m
clear_close l m p = record { within = (λ e. absurd (omega arith), λ e. search rules, tt); lefts = refl; mets = omega arith }

-- a part is met at the first byte, and no more behind it
pub clear_met : (l m p b : ℕ) → m < 24 → (b ≡ 40 → ⊥) → (b ≡ 41 → ⊥) → meets p b ≡ true → Clear l m p (b ∷ []) l (m + 1)
clear_met l m p b room no_open no_close begins =
    record { within = (λ e. absurd (no_open e), λ e. room, tt); lefts = grind (arith, nat_tests); mets = grind (arith, nat_tests) }

pub clear_unary : (l m p : ℕ) (op : UnaryOperator) → m < 24 → Clear l m p (unary_text op) l (m + 1)
clear_unary l m p Not room = clear_met l m p 33 room (λ e. omega arith) (λ e. omega arith) refl
clear_unary l m p Next room = clear_met l m p 88 room (λ e. omega arith) (λ e. omega arith) refl
clear_unary l m p Finally room = clear_met l m p 70 room (λ e. omega arith) (λ e. omega arith) refl
clear_unary l m p Globally room = clear_met l m p 71 room (λ e. omega arith) (λ e. omega arith) refl

pub clear_binary : (l m : ℕ) (op : BinaryOperator) → m < 24 → Clear l m 41 (binary_text op) l (m + 1)
clear_binary l m Until room = clear_met l m 41 85 room (λ e. omega arith) (λ e. omega arith) refl
clear_binary l m WeakUntil room = clear_met l m 41 87 room (λ e. omega arith) (λ e. omega arith) refl
clear_binary l m And room = clear_met l m 41 38 room (λ e. omega arith) (λ e. omega arith) refl
clear_binary l m Or room = clear_met l m 41 124 room (λ e. omega arith) (λ e. omega arith) refl
clear_binary l m Implies room =
    clear_then (61 ∷ []) (62 ∷ []) (clear_met l m 41 61 room (λ e. omega arith) (λ e. omega arith) refl) (clear_plain l (m + 1) 61 62 (λ e. omega arith) (λ e. omega arith) refl)

digit_plain : (p b : ℕ) → 48 ≤ b → b ≤ 57 → meets p b ≡ false
digit_plain p b low high = grind (arith, nat_tests)

run_plain : (p b : ℕ) → RunByte b → (p ≡ 40 → ⊥) → meets p b ≡ false
run_plain p b r other = grind (arith, nat_tests)

clear_digit : (l m p b : ℕ) → 48 ≤ b → b ≤ 57 → Clear l m p (b ∷ []) l m
clear_digit l m p b low high = clear_plain l m p b (λ e. omega arith) (λ e. omega arith) (digit_plain p b low high)

pub clear_number : (l m p n : ℕ) → n < 16 → Clear l m p (decimal n) l m
clear_number l m p n low =
    ⊎_elim
    (λ x. subst (λ (bytes : List ℕ). Clear l m p bytes l m) (sym x.1) (clear_digit l m p (48 + n) (omega arith) (omega (arith, x.0))))
    (λ x.
    subst (λ (bytes : List ℕ). Clear l m p bytes l m) (sym x.1)
    (clear_then (49 ∷ []) ((38 + n) ∷ []) (clear_digit l m p 49 (omega arith) (omega arith)) (clear_digit l m 49 (38 + n) (omega (arith, x.0)) (omega arith))))
    (digits n low)

pub clear_sign : (l m p : ℕ) (v : Comparator) → Clear l m p (comparator_text v) l m
clear_sign l m p Less = clear_plain l m p 60 (λ e. omega arith) (λ e. omega arith) refl
clear_sign l m p Greater = clear_plain l m p 62 (λ e. omega arith) (λ e. omega arith) refl
clear_sign l m p AtMost =
    clear_then (60 ∷ []) (61 ∷ []) (clear_plain l m p 60 (λ e. omega arith) (λ e. omega arith) refl) (clear_plain l m 60 61 (λ e. omega arith) (λ e. omega arith) refl)
clear_sign l m p AtLeast =
    clear_then (62 ∷ []) (61 ∷ []) (clear_plain l m p 62 (λ e. omega arith) (λ e. omega arith) refl) (clear_plain l m 62 61 (λ e. omega arith) (λ e. omega arith) refl)

run_apart : (b : ℕ) → RunByte b → (b ≡ 40 → ⊥) × (b ≡ 41 → ⊥)
run_apart b r = (λ e. search rules, λ e. search rules)

clear_run : (l m p : ℕ) (x : List ℕ) → (p ≡ 40 → ⊥) → Runny x → Clear l m p x l m
clear_run l m p [] other r = record { within = tt; lefts = refl; mets = omega arith }
clear_run l m p (b ∷ x) other r =
    let apart = run_apart b r.0 in
    clear_then (b ∷ []) x (clear_plain l m p b apart.0 apart.1 (run_plain p b r.0 other)) (clear_run l m b x apart.0 r.1)

-- the last byte of a comparator
sign_last : (p : ℕ) (v : Comparator) → last_of p (comparator_text v) ≡ 40 → ⊥
sign_last p Less e = omega arith
sign_last p Greater e = omega arith
sign_last p AtMost e = omega arith
sign_last p AtLeast e = omega arith

-- a whole comparison
pub clear_compares : (l m c : ℕ) (v : Comparator) (o : Operand (List ℕ)) → c < 16 → Proper o → m < 24 → Clear l m 40 (spelled_out (compares c v o)) l (m + 1)
clear_compares l m c v o low p room =
    clear_then (99 ∷ []) (decimal c ++ (comparator_text v ++ written o)) (clear_met l m 40 99 room (λ e. omega arith) (λ e. omega arith) refl)
    (clear_then (decimal c) (comparator_text v ++ written o) (clear_number l (m + 1) 99 c low)
    (clear_then (comparator_text v) (written o) (clear_sign l (m + 1) (last_of 99 (decimal c)) v)
    (clear_run l (m + 1) (last_of (last_of 99 (decimal c)) (comparator_text v)) (written o) (sign_last (last_of 99 (decimal c)) v) (runny o p))))

-- a whole formula: it opens no more brackets at once than its depth, and meets as many parts as it has
pub clear_tree : (l m : ℕ) (t : Tree (List ℕ)) → ProperTree t → depth t ≤ l → m + size t ≤ 24 → Clear l m 40 (spelled_out t) l (m + size t)
clear_tree l m (compares c v o) p deep few = clear_compares l m c v o p.0 p.1 (omega arith)
clear_tree l m (one op t) p deep few =
    let left : l - 1 + 1 ≡ l = omega arith in
    let sum : m + 1 + size t ≡ m + (size t + 1) = omega arith in
    let x = spelled_out t in
    let last = last_of 40 (unary_text op) in
    subst (λ (n : ℕ). Clear l m 40 (spelled_out (one op t)) n (m + (size t + 1))) left
    (subst (λ (n : ℕ). Clear l m 40 (spelled_out (one op t)) (l - 1 + 1) n) sum
    (clear_then (unary_text op) (40 ∷ (x ++ (41 ∷ []))) (clear_unary l m 40 op (omega arith))
    (clear_then (40 ∷ []) (x ++ (41 ∷ [])) (clear_open l (m + 1) last (omega arith))
    (clear_then x (41 ∷ []) (clear_tree (l - 1) (m + 1) t p (omega arith) (omega arith)) (clear_close (l - 1) (m + 1 + size t) (last_of 40 x))))))
clear_tree l m (two op a b) p deep few =
    let left : l - 1 + 1 ≡ l = omega arith in
    let sum : m + size a + 1 + size b ≡ m + (size a + size b + 1) = omega arith in
    let x = spelled_out a in
    let y = spelled_out b in
    let w = binary_text op in
    let m' = m + size a in
    let back = 40 ∷ (y ++ (41 ∷ [])) in
    subst (λ (n : ℕ). Clear l m 40 (spelled_out (two op a b)) n (m + (size a + size b + 1))) left
    (subst (λ (n : ℕ). Clear l m 40 (spelled_out (two op a b)) (l - 1 + 1) n) sum
    (clear_then (40 ∷ []) (x ++ (41 ∷ (w ++ back))) (clear_open l m 40 (omega arith))
    (clear_then x (41 ∷ (w ++ back)) (clear_tree (l - 1) m a p.0 (omega arith) (omega arith))
    (clear_then (41 ∷ []) (w ++ back) (clear_close (l - 1) m' (last_of 40 x))
    (clear_then w back (clear_binary (l - 1 + 1) m' op (omega arith))
    (clear_then (40 ∷ []) (y ++ (41 ∷ [])) (subst (λ (n : ℕ). Clear n (m' + 1) (last_of 41 w) (40 ∷ []) (l - 1) (m' + 1)) (sym left) (clear_open l (m' + 1) (last_of 41 w) (omega arith)))
    (clear_then y (41 ∷ []) (clear_tree (l - 1) (m' + 1) b p.1 (omega arith) (omega arith)) (clear_close (l - 1) (m' + 1 + size b) (last_of 40 y)))))))))

pub clear_none : (l m p : ℕ) → Clear l m p [] l m
clear_none l m p = record { within = tt; lefts = refl; mets = omega arith }
