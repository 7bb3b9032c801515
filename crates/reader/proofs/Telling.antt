-- The parts that are read tell of each run behind a sign, in order.
use Rattle.std.proofs.Common.{◌≡◌, ℕ, zero, suc, ◌+◌, ◌-◌, ◌<◌, ◌≤◌, List, [], ◌∷◌, ◌++◌, length, get_or, Err, Result, sym, refl, ap, ◌∙◌, subst, inl, inr, ⊎_elim, append_assoc, append-nil, arith, rules, MatchResult}
use Rattle.std.proofs.lemmas.List.{get_or_append_left, get_or-drop}
use Rattle.std.proofs.lemmas.Bool.{cases_lt}
use Rattle.scale.specs.Marks.{RunByte}
use Rattle.formula.specs.declared.parts.BinaryOperator.{BinaryOperator}
use Rattle.formula.specs.declared.parts.BinaryOperator.TheVariants.{Until, WeakUntil, And, Or, Implies}
use Rattle.formula.specs.declared.parts.Comparator.{Comparator}
use Rattle.formula.specs.declared.parts.Comparator.TheVariants.{Less, Greater, AtMost, AtLeast}
use Rattle.formula.specs.declared.parts.Operand.{Operand}
use Rattle.formula.specs.declared.parts.Part.{Part}
use Rattle.formula.specs.declared.parts.Part.TheVariants.{Comparison, Unary, Binary}
use Rattle.formula.specs.declared.parts.UnaryOperator.{UnaryOperator}
use Rattle.formula.specs.declared.parts.UnaryOperator.TheVariants.{Not, Next, Finally, Globally}
use Rattle.text.specs.declared.faults.TextFault.{TextFault}
use Rattle.text.specs.declared.faults.TextFault.TheVariants.{Form}
use Rattle.reader.specs.declared.readers.Cursor.{Cursor}
use Rattle.reader.specs.declared.readers.Run.{Run}
use Rattle.reader.specs.Blame.{before, Sign}
use Rattle.reader.specs.Cursors.{Passes, rest}
use Rattle.reader.specs.Spellings.{binary_text, comparator_text, decimal, unary_text}
use Rattle.reader.specs.Halts.{halt}
use Rattle.reader.specs.Told.{Means, Opened, operands_of, Quiet, Tells, TellOf, ToldBy}
use Rattle.reader.proofs.Alike.{passed_at}
use Rattle.reader.proofs.Words.{digits}

quiet_both : (text : List ℕ) (f m t : ℕ) → Quiet text f m → Quiet text m t → Quiet text f t
quiet_both text f m t p q k low high = ⊎_elim (λ (h : k < m). p k low h) (λ (h : m ≤ k). q k h high) (cases_lt k m)

-- the same operands over a longer stretch
widen : (text : List ℕ) (f m t : ℕ) (os : List (Operand Run)) → f ≤ m → Quiet text f m → TellOf text m t os → TellOf text f t os
widen text f m t [] le q r = quiet_both text f m t q r
widen text f m t (o ∷ os) le q (k, end, low, high, quiet, sign, means, more) = (k, end, omega arith, high, quiet_both text f m k q quiet, sign, means, more)

tell_both : (text : List ℕ) (f m t : ℕ) (os more : List (Operand Run)) → f ≤ m → m ≤ t → TellOf text f m os → TellOf text m t more → TellOf text f t (os ++ more)
tell_both text f m t [] more le le' p q = widen text f m t more le p q
tell_both text f m t (o ∷ os) more le le' (k, end, low, high, quiet, sign, means, rest) q =
    (k, end, low, omega arith, quiet, sign, means, tell_both text (k + 1) m t os more (omega arith) le' rest q)

operands_both : (x y : List (Part Run)) → operands_of (x ++ y) ≡ operands_of x ++ operands_of y
operands_both [] y = refl
operands_both (Comparison c v o ∷ x) y = ap (λ (l : List (Operand Run)). o ∷ l) (operands_both x y)
operands_both (Unary op n ∷ x) y = operands_both x y
operands_both (Binary op n m ∷ x) y = operands_both x y

-- one stretch after the other
pub tells_then : {text : List ℕ} {f m t : ℕ} {old mid new : List (Part Run)} → Tells text f m old mid → Tells text m t mid new → Tells text f t old new
tells_then {text} {f} {m} {t} {old} {mid} {new} p q =
    record {
      forward = omega (arith, p.forward, q.forward);
      more = p.more ++ q.more;
      added = q.added ∙ (ap (λ (l : List (Part Run)). l ++ q.more) p.added ∙ append_assoc old p.more q.more);
      told = subst (TellOf text f t) (sym (operands_both p.more q.more)) (tell_both text f m t (operands_of p.more) (operands_of q.more) p.forward q.forward p.told q.told);
    }

pub tells_quiet : {text : List ℕ} {f t : ℕ} (old : List (Part Run)) → f ≤ t → Quiet text f t → Tells text f t old old
tells_quiet old le q = record { forward = le; more = []; added = sym (append-nil old); told = q }

pub tells_none : (text : List ℕ) (f : ℕ) (old : List (Part Run)) → Tells text f f old old
tells_none text f old = tells_quiet old (omega arith) (λ k low high s r. omega arith)

-- an operator among the parts tells of no run
pub tells_part : {text : List ℕ} {f t : ℕ} {old mid new : List (Part Run)} (p : Part Run) → operands_of (p ∷ []) ≡ [] → new ≡ mid ++ p ∷ [] → Tells text f t old mid → Tells text f t old new
tells_part {text} {f} {t} {old} {mid} {new} p none added r =
    record {
      forward = r.forward;
      more = r.more ++ p ∷ [];
      added = added ∙ (ap (λ (l : List (Part Run)). l ++ p ∷ []) r.added ∙ append_assoc old r.more (p ∷ []));
      told =
          subst (TellOf text f t)
          (sym (operands_both r.more (p ∷ []) ∙ (ap (λ (l : List (Operand Run)). operands_of r.more ++ l) none ∙ append-nil (operands_of r.more)))) r.told;
    }

pub tells_in : {text there : List ℕ} {f t : ℕ} {old new : List (Part Run)} → there ≡ text → Tells there f t old new → Tells text f t old new
tells_in {f = f} {t = t} {old = old} {new = new} same r = subst (λ (l : List ℕ). Tells l f t old new) same r

pub tells_to : {text : List ℕ} {f t t' : ℕ} {old new : List (Part Run)} → t ≡ t' → Tells text f t old new → Tells text f t' old new
tells_to {text} {f} {old = old} {new = new} same r = subst (λ (n : ℕ). Tells text f n old new) same r

pub tells_from : {text : List ℕ} {f t : ℕ} {old old' new : List (Part Run)} → old ≡ old' → Tells text f t old new → Tells text f t old' new
tells_from {text} {f} {t} {new = new} same r = subst (λ (l : List (Part Run)). Tells text f t l new) same r

-- the bytes that were read stand in the text
pub byte_at : {a b : Cursor} {x : List ℕ} {n : ℕ} → Passes a b x n → (i : ℕ) → i < length x → get_or a.text.now (a.at + i) 0 ≡ get_or x i 0
byte_at {a} {b} {x} p i low =
    sym (get_or-drop a.at a.text.now i 0) ∙ (ap (λ (l : List ℕ). get_or l i 0) p.over ∙ get_or_append_left x (rest b) 0 i low)

-- bytes of which none is of a run
abbrev NoRun : List ℕ → Type 0
NoRun [] = Unit {0}
NoRun (b ∷ bs) = (RunByte b → ⊥) × NoRun bs

no_run_at : (x : List ℕ) (i : ℕ) → NoRun x → i < length x → RunByte (get_or x i 0) → ⊥
no_run_at [] i p low r = omega arith
no_run_at (b ∷ x) zero p low r = p.0 r
no_run_at (b ∷ x) (suc i) p low r = no_run_at x i p.1 (omega arith) r

quiet_over : {a b : Cursor} {x : List ℕ} {n : ℕ} → Passes a b x n → NoRun x → Quiet a.text.now a.at b.at
quiet_over {a} {b} {x} p none k low high sign run =
    let i = k - a.at in
    let here : a.at + i ≡ k = omega arith in
    let small : i < length x = omega (arith, passed_at p) in
    no_run_at x i none small (subst RunByte (ap (λ (j : ℕ). get_or a.text.now j 0) (sym here) ∙ byte_at p i small) run)

over_tells : {a b : Cursor} {x : List ℕ} {n : ℕ} (text : List ℕ) (old : List (Part Run)) → a.text.now ≡ text → Passes a b x n → NoRun x → Tells text a.at b.at old old
over_tells text old same p none = tells_in same (tells_quiet old (omega (arith, passed_at p)) (quiet_over p none))

no_unary : (op : UnaryOperator) → NoRun (unary_text op)
no_unary Not = (λ r. search rules, tt)
no_unary Next = (λ r. search rules, tt)
no_unary Finally = (λ r. search rules, tt)
no_unary Globally = (λ r. search rules, tt)

no_binary : (op : BinaryOperator) → NoRun (binary_text op)
no_binary Until = (λ r. search rules, tt)
no_binary WeakUntil = (λ r. search rules, tt)
no_binary And = (λ r. search rules, tt)
no_binary Or = (λ r. search rules, tt)
no_binary Implies = (λ r. search rules, (λ r. search rules, tt))

no_sign_run : (v : Comparator) → NoRun (comparator_text v)
no_sign_run Less = (λ r. search rules, tt)
no_sign_run Greater = (λ r. search rules, tt)
no_sign_run AtMost = (λ r. search rules, (λ r. search rules, tt))
no_sign_run AtLeast = (λ r. search rules, (λ r. search rules, tt))

pub tells_unary : {a b : Cursor} {n : ℕ} (text : List ℕ) (old : List (Part Run)) (op : UnaryOperator) → a.text.now ≡ text → Passes a b (unary_text op) n → Tells text a.at b.at old old
tells_unary text old op same p = over_tells text old same p (no_unary op)

pub tells_binary : {a b : Cursor} {n : ℕ} (text : List ℕ) (old : List (Part Run)) (op : BinaryOperator) → a.text.now ≡ text → Passes a b (binary_text op) n → Tells text a.at b.at old old
tells_binary text old op same p = over_tells text old same p (no_binary op)

pub tells_sign : {a b : Cursor} {n : ℕ} (text : List ℕ) (old : List (Part Run)) (v : Comparator) → a.text.now ≡ text → Passes a b (comparator_text v) n → Tells text a.at b.at old old
tells_sign text old v same p = over_tells text old same p (no_sign_run v)

-- a byte that is of no run
pub tells_byte : {a b : Cursor} {n : ℕ} (text : List ℕ) (old : List (Part Run)) (byte : ℕ) → (RunByte byte → ⊥) → a.text.now ≡ text → Passes a b (byte ∷ []) n → Tells text a.at b.at old old
tells_byte text old byte none same p = over_tells text old same p (none, tt)

pub no_open : RunByte 40 → ⊥
no_open r = search rules

pub no_close : RunByte 41 → ⊥
no_close r = search rules

pub no_equals : RunByte 61 → ⊥
no_equals r = search rules

next : (m i : ℕ) → m + (i + 1) ≡ suc (m + i)
next m i = omega arith

-- the byte behind which others stand
before_over : {a b : Cursor} {n : ℕ} {x : List ℕ} → Passes a b x n → (i : ℕ) → i < length x → before a.text.now (a.at + (i + 1)) ≡ get_or x i 0
before_over {a} p i low = ap (λ (k : ℕ). get_or (40 ∷ a.text.now) k 0) (next a.at i) ∙ byte_at p i low

pub opened_over : {a b : Cursor} {n : ℕ} → Passes a b (40 ∷ []) n → Opened b
opened_over {a} {b} p =
    let at : b.at ≡ a.at + (0 + 1) = omega (arith, passed_at p) in
    ap (λ (l : List ℕ). before l b.at) p.same ∙ (ap (λ (k : ℕ). before a.text.now k) at ∙ before_over p 0 (omega arith))

-- bytes of which none ends a sign
abbrev NoSign : List ℕ → Type 0
NoSign [] = Unit {0}
NoSign (b ∷ bs) = (Sign b → ⊥) × NoSign bs

no_sign_at : (x : List ℕ) (i : ℕ) → NoSign x → i < length x → Sign (get_or x i 0) → ⊥
no_sign_at [] i p low r = omega arith
no_sign_at (b ∷ x) zero p low r = p.0 r
no_sign_at (b ∷ x) (suc i) p low r = no_sign_at x i p.1 (omega arith) r

open_no_sign : Sign 40 → ⊥
open_no_sign r = search rules

-- behind an opening bracket and such bytes
quiet_behind : {a b : Cursor} {x : List ℕ} {n : ℕ} → Opened a → Passes a b x n → NoSign x → Quiet a.text.now a.at b.at
quiet_behind {a} {b} {x} behind p none k low high sign run =
    ⊎_elim
    (λ (h : a.at < k).
    let i = k - a.at - 1 in
    let here : a.at + (i + 1) ≡ k = omega arith in
    let small : i < length x = omega (arith, passed_at p) in
    no_sign_at x i none small (subst Sign (ap (λ (j : ℕ). before a.text.now j) (sym here) ∙ before_over p i small) sign))
    (λ (h : k ≤ a.at).
    let here : k ≡ a.at = omega arith in
    open_no_sign (subst Sign (ap (λ (j : ℕ). before a.text.now j) here ∙ behind) sign))
    (cases_lt a.at k)

digit_no_sign : (b : ℕ) → 48 ≤ b → b ≤ 57 → Sign b → ⊥
digit_no_sign b low high s = search rules

letter_no_sign : Sign 99 → ⊥
letter_no_sign s = search rules

number_no_sign : (n : ℕ) → n < 16 → NoSign (decimal n)
number_no_sign n low =
    ⊎_elim
    (λ x. subst NoSign (sym x.1) (digit_no_sign (48 + n) (omega arith) (omega (arith, x.0)), tt))
    (λ x. subst NoSign (sym x.1) (digit_no_sign 49 (omega arith) (omega arith), (digit_no_sign (38 + n) (omega (arith, x.0)) (omega arith), tt)))
    (digits n low)

pub tells_letter : {a b : Cursor} {n : ℕ} (old : List (Part Run)) → Opened a → Passes a b (99 ∷ []) n → Tells a.text.now a.at b.at old old
tells_letter old behind p = tells_quiet old (omega (arith, passed_at p)) (quiet_behind behind p (letter_no_sign, tt))

pub tells_name : {a b : Cursor} {n : ℕ} (num : ℕ) (old : List (Part Run)) → num < 16 → Opened a → Passes a b (99 ∷ decimal num) n → Tells a.text.now a.at b.at old old
tells_name num old low behind p = tells_quiet old (omega (arith, passed_at p)) (quiet_behind behind p (letter_no_sign, number_no_sign num low))

-- a comparison sign was read
sign_last : {c d : Cursor} {n : ℕ} (v : Comparator) → Passes c d (comparator_text v) n → (i : ℕ) × (i < length (comparator_text v)) × (d.at ≡ c.at + (i + 1)) × Sign (get_or (comparator_text v) i 0)
sign_last Less p = (0, omega arith, omega (arith, passed_at p), inl refl)
sign_last Greater p = (0, omega arith, omega (arith, passed_at p), inr (inr refl))
sign_last AtMost p = (1, omega arith, omega (arith, passed_at p), inr (inl refl))
sign_last AtLeast p = (1, omega arith, omega (arith, passed_at p), inr (inl refl))

sign_before : {c d : Cursor} {n : ℕ} (v : Comparator) → Passes c d (comparator_text v) n → Sign (before c.text.now d.at)
sign_before {c} {d} v p =
    let l = sign_last v p in
    subst Sign (sym (ap (λ (k : ℕ). before c.text.now k) l.2 ∙ before_over p l.0 l.1)) l.3

run_no_sign : (b : ℕ) → RunByte b → Sign b → ⊥
run_no_sign b r s = search rules

-- inside a run no other begins
quiet_inside : (text : List ℕ) (f t : ℕ) (o : Operand Run) → Means text f t o → Quiet text (f + 1) t
quiet_inside text f t o m k low high sign run =
    let j = k - 1 in
    let here : k ≡ suc j = omega arith in
    run_no_sign (get_or text j 0) (m.runs.each j (omega (arith, m.starts)) (omega (arith, m.ends))) (subst Sign (ap (λ (n : ℕ). before text n) here) sign)

pub tells_operand : {c d : Cursor} {n to : ℕ} (text : List ℕ) (channel : ℕ) (v : Comparator) (o : Operand Run) (old new : List (Part Run)) → c.text.now ≡ text → Passes c d (comparator_text v) n → Means d.text.now d.at (to) o → new ≡ old ++ Comparison channel v o ∷ [] → Tells text d.at (to) old new
tells_operand {c} {d} {n} {to} text channel v o old new same p means added =
    let here : Means text d.at (to) o = subst (λ (l : List ℕ). Means l d.at (to) o) (p.same ∙ same) means in
    let long : d.at < to = omega (arith, here.starts, here.ends, here.runs.some) in
    record {
      forward = omega arith;
      more = Comparison channel v o ∷ [];
      added = added;
      told = (
        d.at,
        to,
        omega arith,
        long,
        λ k low high s r. omega arith,
        subst (λ (l : List ℕ). Sign (before l d.at)) same (sign_before v p),
        here,
        quiet_inside text d.at (to) o here,
      );
    }

-- a refusal tells of the runs before its place
pub told_refused : {X : Type 0} (r : Result X TextFault) (e e' : TextFault) (a : Cursor) (to : ℕ) (old new : List (Part Run)) → r ≡ Err e' → e' ≡ e → (Opened a → Tells a.text.now a.at (halt e) old new) → ToldBy r a to old new
told_refused {X} r e e' a to old new is same f behind =
    subst (λ (x : Result X TextFault). MatchResult x (λ _. Tells a.text.now a.at to old new) (λ y. Tells a.text.now a.at (halt y) old new))
    (sym (is ∙ ap (λ (y : TextFault). Err y) same)) (f behind)

pub tells_form : {text : List ℕ} {f : ℕ} {old new : List (Part Run)} (e : TextFault) (t : ℕ) → e ≡ Form t → Tells text f t old new → Tells text f (halt e) old new
tells_form e t is r = tells_to (sym (ap halt is)) r
