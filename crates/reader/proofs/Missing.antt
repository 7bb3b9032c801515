-- Why no comparison stands where one of its words is missing.
use Rattle.std.proofs.Common.{◌≡◌, ℕ, ◌+◌, ◌-◌, ◌<◌, ◌≤◌, ◌⊎◌, List, ◌∷◌, ◌++◌, length, get_or, sym, refl, ap, ◌∙◌, subst, inl, inr, ⊎_elim, arith, length-drop, rules}
use Rattle.std.proofs.lemmas.List.{get_or-drop}
use Rattle.scale.specs.Marks.{RunByte}
use Rattle.formula.specs.declared.parts.Comparator.{Comparator}
use Rattle.formula.specs.declared.parts.Comparator.TheVariants.{Less, Greater, AtMost, AtLeast}
use Rattle.formula.specs.declared.parts.Operand.{Operand}
use Rattle.reader.specs.declared.readers.Cursor.{Cursor}
use Rattle.reader.specs.Cursors.{Ahead, Digit, rest}
use Rattle.reader.specs.Fronts.{NoFront, Proper, Stops}
use Rattle.reader.specs.Spellings.{comparator_text, decimal}
use Rattle.formula.specs.Trees.{compares, one, two}
use Rattle.reader.proofs.Once.{begins, flat_comparison, flat_one, flat_two, written}
use Rattle.reader.proofs.Words.{digits, first, others, unary_apart}

-- the first of the bytes to be read is ahead
pub ahead_of : (c : Cursor) (x : ℕ) (w : List ℕ) → rest c ≡ x ∷ w → Ahead c x
ahead_of c x w e =
    let text = c.text.now in
    let long : length text - c.at ≡ 1 + length w = sym (length-drop c.at text) ∙ (ap length e ∙ omega arith) in
    let read : get_or text (c.at + 0) 0 ≡ x = sym (get_or-drop c.at text 0 0) ∙ ap (λ (l : List ℕ). get_or l 0 0) e in
    let here : c.at + 0 ≡ c.at = omega arith in
    (omega (arith, long), subst (λ (n : ℕ). get_or text n 0 ≡ x) here read)

-- what begins as a comparison can only be one
pub only_comparison : (r : List ℕ) → ((c : ℕ) (v : Comparator) (o : Operand (List ℕ)) (y : List ℕ) → c < 16 → Proper o → Stops y → r ≡ decimal c ++ (comparator_text v ++ (written o ++ y)) → ⊥) → NoFront (99 ∷ r)
only_comparison r never (compares c v o) y p ends e = never c v o y p.0 p.1 ends (ap others (e ∙ flat_comparison c v o y))
only_comparison r never (one op t) y p ends e = (unary_apart op 99 _ _ (sym (e ∙ flat_one op t y))).0 refl
only_comparison r never (two op l t) y p ends e = omega (arith, ap first (e ∙ flat_two op l t y))

pub no_number : (b : Cursor) → ((d : ℕ) → Digit d → Ahead b d → ⊥) → NoFront (99 ∷ rest b)
no_number b none =
    only_comparison (rest b)
    (λ c v o y low p s e.
    ⊎_elim
    (λ x. none (48 + c) (omega arith, omega (arith, x.0)) (ahead_of b (48 + c) _ (e ∙ ap (λ (l : List ℕ). l ++ (comparator_text v ++ (written o ++ y))) x.1)))
    (λ x. none 49 (omega arith, omega arith) (ahead_of b 49 _ (e ∙ ap (λ (l : List ℕ). l ++ (comparator_text v ++ (written o ++ y))) x.1)))
    (digits c low))

-- a number that was read as far as it goes is the number there
number_then : (n m s : ℕ) (w u : List ℕ) → n < 16 → m < 16 → 60 ≤ s → (n ≡ 1 → (d : ℕ) (x : List ℕ) → 48 ≤ d → d ≤ 53 → w ≡ d ∷ x → ⊥) → decimal n ++ w ≡ decimal m ++ (s ∷ u) → w ≡ s ∷ u
number_then n m s w u low low' high stop e =
    ⊎_elim
    (λ x.
    ⊎_elim
    (λ y. ap others (ap (λ (l : List ℕ). l ++ w) (sym x.1) ∙ (e ∙ ap (λ (l : List ℕ). l ++ (s ∷ u)) y.1)))
    (λ y.
    let f : (48 + n) ∷ w ≡ 49 ∷ (38 + m) ∷ (s ∷ u) = ap (λ (l : List ℕ). l ++ w) (sym x.1) ∙ (e ∙ ap (λ (l : List ℕ). l ++ (s ∷ u)) y.1) in
    absurd (stop (omega (arith, ap first f)) (38 + m) (s ∷ u) (omega (arith, y.0)) (omega (arith, low')) (ap others f)))
    (digits m low'))
    (λ x.
    ⊎_elim
    (λ y.
    let f : 49 ∷ (38 + n) ∷ w ≡ (48 + m) ∷ (s ∷ u) = ap (λ (l : List ℕ). l ++ w) (sym x.1) ∙ (e ∙ ap (λ (l : List ℕ). l ++ (s ∷ u)) y.1) in
    absurd (omega (arith, ap (λ (l : List ℕ). first (others l)) f, low)))
    (λ y.
    let f : 49 ∷ (38 + n) ∷ w ≡ 49 ∷ (38 + m) ∷ (s ∷ u) = ap (λ (l : List ℕ). l ++ w) (sym x.1) ∙ (e ∙ ap (λ (l : List ℕ). l ++ (s ∷ u)) y.1) in
    ap (λ (l : List ℕ). others (others l)) f)
    (digits m low'))
    (digits n low)

-- a comparator begins with one of two bytes
signs : (v : Comparator) (w : List ℕ) → (s : ℕ) × (u : List ℕ) × (comparator_text v ++ w ≡ s ∷ u) × ((s ≡ 60) ⊎ (s ≡ 62))
signs Less w = (60, w, refl, inl refl)
signs Greater w = (62, w, refl, inr refl)
signs AtMost w = (60, 61 ∷ w, refl, inl refl)
signs AtLeast w = (62, 61 ∷ w, refl, inr refl)

-- the number is read: what is left begins with a comparator
number_read : (b c : Cursor) (n : ℕ) → n < 16 → rest b ≡ decimal n ++ rest c → (n ≡ 1 → (d : ℕ) → 48 ≤ d → d ≤ 53 → Ahead c d → ⊥) → (m : ℕ) (v : Comparator) (w : List ℕ) → m < 16 → rest b ≡ decimal m ++ (comparator_text v ++ w) → rest c ≡ comparator_text v ++ w
number_read b c n low read stop m v w low' e =
    let s = signs v w in
    let high : 60 ≤ s.0 = ⊎_elim (λ h. omega (arith, h)) (λ h. omega (arith, h)) s.3 in
    number_then n m s.0 (rest c) s.1 low low' high (λ one d x p q f. stop one d p q (ahead_of c d x f))
    (sym read ∙ (e ∙ ap (λ (l : List ℕ). decimal m ++ l) s.2))
    ∙ sym s.2

pub no_sign : (b c : Cursor) (num : ℕ) → num < 16 → rest b ≡ decimal num ++ rest c → (num ≡ 1 → (d : ℕ) → 48 ≤ d → d ≤ 53 → Ahead c d → ⊥) → (Ahead c 60 → ⊥) → (Ahead c 62 → ⊥) → NoFront (99 ∷ rest b)
no_sign b c num low read stop less greater =
    only_comparison (rest b)
    (λ m v o y low' p s e.
    let left = number_read b c num low read stop m v (written o ++ y) low' e in
    let a = signs v (written o ++ y) in
    let here = ahead_of c a.0 a.1 (left ∙ a.2) in
    ⊎_elim (λ (h : a.0 ≡ 60). less (subst (Ahead c) h here)) (λ (h : a.0 ≡ 62). greater (subst (Ahead c) h here)) a.3)

equals_no_run : (b : ℕ) → RunByte b → b ≡ 61 → ⊥
equals_no_run b r e = search rules

-- a comparator that was read as far as it goes is the comparator there
sign_then : (v v' : Comparator) (w u : List ℕ) (x : ℕ) → RunByte x → (length (comparator_text v) ≡ 1 → (z : List ℕ) → w ≡ 61 ∷ z → ⊥) → comparator_text v ++ w ≡ comparator_text v' ++ (x ∷ u) → w ≡ x ∷ u
sign_then Less Less w u x r stop e = ap others e
sign_then Less Greater w u x r stop e = absurd (omega (arith, ap first e))
sign_then Less AtMost w u x r stop e = absurd (stop refl (x ∷ u) (ap others e))
sign_then Less AtLeast w u x r stop e = absurd (omega (arith, ap first e))
sign_then Greater Less w u x r stop e = absurd (omega (arith, ap first e))
sign_then Greater Greater w u x r stop e = ap others e
sign_then Greater AtMost w u x r stop e = absurd (omega (arith, ap first e))
sign_then Greater AtLeast w u x r stop e = absurd (stop refl (x ∷ u) (ap others e))
sign_then AtMost Less w u x r stop e = absurd (equals_no_run x r (sym (ap (λ (l : List ℕ). first (others l)) e)))
sign_then AtMost Greater w u x r stop e = absurd (omega (arith, ap first e))
sign_then AtMost AtMost w u x r stop e = ap (λ (l : List ℕ). others (others l)) e
sign_then AtMost AtLeast w u x r stop e = absurd (omega (arith, ap first e))
sign_then AtLeast Less w u x r stop e = absurd (omega (arith, ap first e))
sign_then AtLeast Greater w u x r stop e = absurd (equals_no_run x r (sym (ap (λ (l : List ℕ). first (others l)) e)))
sign_then AtLeast AtMost w u x r stop e = absurd (omega (arith, ap first e))
sign_then AtLeast AtLeast w u x r stop e = ap (λ (l : List ℕ). others (others l)) e

pub no_operand : (b c d : Cursor) (num : ℕ) (v : Comparator) → num < 16 → rest b ≡ decimal num ++ rest c → (num ≡ 1 → (x : ℕ) → 48 ≤ x → x ≤ 53 → Ahead c x → ⊥) → rest c ≡ comparator_text v ++ rest d → (length (comparator_text v) ≡ 1 → Ahead d 61 → ⊥) → ((x : ℕ) → RunByte x → Ahead d x → ⊥) → NoFront (99 ∷ rest b)
no_operand b c d num v low read stop sign short none =
    only_comparison (rest b)
    (λ m v' o y low' p s e.
    let left = number_read b c num low read stop m v' (written o ++ y) low' e in
    let a = begins o p in
    let whole : written o ++ y ≡ a.0 ∷ (a.1 ++ y) = ap (λ (l : List ℕ). l ++ y) a.2 in
    let after = sign_then v v' (rest d) (a.1 ++ y) a.0 a.3 (λ one z f. short one (ahead_of d 61 z f)) (sym sign ∙ (left ∙ ap (λ (l : List ℕ). comparator_text v' ++ l) whole)) in
    none a.0 a.3 (ahead_of d a.0 (a.1 ++ y) after))
