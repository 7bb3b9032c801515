-- Where the reading of a formula halts, between its operands and around them.
use Rattle.std.proofs.Common.{◌≡◌, ℕ, ◌+◌, ◌-◌, ◌<◌, ◌≤◌, true, ◌⊎◌, List, [], ◌∷◌, ◌++◌, length, sym, refl, ap, ◌∙◌, subst, ⊎_elim, append_assoc, arith}
use Rattle.std.proofs.lemmas.List.{drop_all}
use Rattle.formula.specs.declared.parts.BinaryOperator.{BinaryOperator}
use Rattle.formula.specs.declared.parts.BinaryOperator.TheVariants.{Until, WeakUntil, And, Or, Implies}
use Rattle.formula.specs.declared.parts.Part.{Part}
use Rattle.formula.specs.declared.parts.UnaryOperator.{UnaryOperator}
use Rattle.formula.specs.declared.parts.UnaryOperator.TheVariants.{Not, Next, Finally, Globally}
use Rattle.formula.specs.Trees.{Tree, compares, one, two, depth, map_tree, size}
use Rattle.text.specs.declared.faults.TextFault.{TextFault}
use Rattle.text.specs.declared.faults.TextFault.TheVariants.{Form, Brackets, Parts}
use Rattle.reader.specs.declared.readers.Cursor.{Cursor}
use Rattle.reader.specs.declared.readers.Run.{Run}
use Rattle.reader.specs.Blame.{Begun}
use Rattle.reader.specs.Counts.{meets}
use Rattle.reader.specs.Cursors.{Ahead, HalfRead, NoneBegins, NoneLeft, Operatorless, Passes, rest}
use Rattle.reader.specs.Fronts.{Ends, NoFront, ProperTree, spelled_out}
use Rattle.reader.specs.Halts.{first_only, Halts, last_of}
use Rattle.reader.specs.Reads.{Reads}
use Rattle.reader.specs.Runs.{bytes_in}
use Rattle.reader.specs.Spellings.{binary_text, first_of, unary_text}
use Rattle.reader.proofs.Absent.{binary_unopened, front_ends, front_proper, no_start, only_unary, other, size_mapped}
use Rattle.reader.proofs.Alike.{alike_ahead, alike_ends, before, first_in_both}
use Rattle.reader.proofs.Begins.{begun_front, begun_left, begun_none, begun_right, begun_unary, begun_whole}
use Rattle.reader.proofs.Between.{begun, no_arrow}
use Rattle.reader.proofs.Halting.{halts_brackets, halts_form, halts_inside, halts_parts, Leads, stays}
use Rattle.reader.proofs.Missing.{ahead_of}
use Rattle.reader.proofs.Once.{ends_close, flat_comparison, flat_one, flat_two, once}
use Rattle.reader.proofs.Only.{written_out}
use Rattle.reader.proofs.Passing.{then}
use Rattle.reader.proofs.Unsaid.{depth_mapped}
use Rattle.reader.proofs.Walks.{Clear, clear_binary, clear_close, clear_met, clear_none, clear_open, clear_then, clear_tree, clear_unary, last_both}
use Rattle.reader.proofs.Words.{binary_once, first, others, unary_apart}

-- a formula that was read from one place to another, with so many brackets left
pub record Took (o e : Cursor) (left : ℕ) : Type 0 where
  pub tree : Tree (List ℕ)
  pub proper : ProperTree tree
  pub over : Passes o e (spelled_out tree) (size tree)
  pub ends : Ends tree (rest e)
  pub shallow : depth tree ≤ left

pub took : {o e : Cursor} {k r : ℕ} {old new : List (Part Run)} → Reads o e k old new r → Took o e k
took {o} {e} {k} q =
    let text = o.text.now in
    let t = q.tree in
    let s = map_tree (bytes_in text) t in
    let words : Passes o e (spelled_out s) (size t) = subst (λ (l : List ℕ). Passes o e l (size t)) (sym (written_out (λ _. 0) (bytes_in text) t)) q.spelled in
    record {
      tree = s;
      proper = front_proper text t q.formed;
      over = subst (λ (n : ℕ). Passes o e (spelled_out s) n) (sym (size_mapped (bytes_in text) t)) words;
      ends = front_ends e text t q.ended;
      shallow = omega (arith, depth_mapped (bytes_in text) t, q.shallow);
    }

-- nothing is ahead
alike_nothing : (w : List ℕ) → first_only w ≡ [] → 0 ≡ length w
alike_nothing [] e = refl
alike_nothing (b ∷ w) e = let z : ◌≡◌ {A = ℕ} 0 1 = cc in absurd (omega arith)

pub halts_end : (a : Cursor) (left : ℕ) (e : TextFault) → a.at ≡ length a.text.now → e ≡ Form a.at → Halts a left e
halts_end a left e end is =
    let none : rest a ≡ [] = drop_all a.at a.text.now (omega (arith, end)) in
    halts_form a a [] 0 left e (stays a) tt is begun_none
    (λ w same. no_start (before w) (alike_nothing w (same ∙ ap first_only none)))

-- an operator over one operand
unary_meets : (op : UnaryOperator) (p : ℕ) → meets p (first (unary_text op)) ≡ true
unary_meets Not p = refl
unary_meets Next p = refl
unary_meets Finally p = refl
unary_meets Globally p = refl

pub halts_unary_unmet : (a : Cursor) (left byte : ℕ) (op : UnaryOperator) (e : TextFault) → Ahead a byte → unary_text op ≡ byte ∷ [] → e ≡ Parts a.at → a.met ≡ 24 → Halts a left e
halts_unary_unmet a left byte op e here word is full =
    halts_parts a a [] 0 left left a.met byte e (stays a) (clear_none left a.met 40) full is here
    (subst Begun word (begun_front (unary_text op) (40 ∷ []) (begun_unary op [] begun_none)))
    (ap (λ (l : List ℕ). meets 40 (first l)) (sym word) ∙ unary_meets op 40)

unary_clear : (a b : Cursor) (left : ℕ) (op : UnaryOperator) → Passes a b (unary_text op) 1 → Clear left a.met 40 (unary_text op) left b.met
unary_clear a b left op p =
    subst (λ (n : ℕ). Clear left a.met 40 (unary_text op) left n) (sym p.counts) (clear_unary left a.met 40 op (omega (arith, p.counts, b.counted)))

stuck_unary : (op : UnaryOperator) (r : List ℕ) → ((t : Tree (List ℕ)) (y : List ℕ) → ProperTree t → r ≡ 40 ∷ (spelled_out t ++ (41 ∷ y)) → ⊥) → NoFront (unary_text op ++ r)
stuck_unary op r never = only_unary op r never

pub halts_unary_open : (a b : Cursor) (left : ℕ) (op : UnaryOperator) (e : TextFault) → Passes a b (unary_text op) 1 → ((e ≡ Form b.at) × (Ahead b 40 → ⊥)) ⊎ ((e ≡ Brackets b.at) × Ahead b 40 × (left ≡ 0)) → Halts a left e
halts_unary_open a b left op e p f =
    let clear = unary_clear a b left op p in
    ⊎_elim
    (λ h.
    halts_form a b (unary_text op) 1 left e p clear.within h.0 (begun_front (unary_text op) (40 ∷ []) (begun_unary op [] begun_none))
    (λ w same. stuck_unary op w (λ t y q s. h.1 (alike_ahead b w 40 same (ahead_of (before w) 40 _ s)))))
    (λ h.
    halts_brackets a b (unary_text op) 1 left b.met e p (subst (λ (n : ℕ). Clear left a.met 40 (unary_text op) n b.met) h.2 clear) h.0 h.1 (begun_unary op [] begun_none))
    f

unary_opened : (a b o : Cursor) (left : ℕ) (op : UnaryOperator) → Passes a b (unary_text op) 1 → Passes b o (40 ∷ []) 0 → 0 < left → Clear left a.met 40 (unary_text op ++ (40 ∷ [])) (left - 1) o.met
unary_opened a b o left op p enter some =
    let met : b.met ≡ o.met = omega (arith, enter.counts) in
    clear_then (unary_text op) (40 ∷ []) (unary_clear a b left op p)
    (subst (λ (n : ℕ). Clear left b.met (last_of 40 (unary_text op)) (40 ∷ []) (left - 1) n) met (clear_open left b.met (last_of 40 (unary_text op)) some))

unary_leads : (op : UnaryOperator) → Leads (unary_text op ++ (40 ∷ []))
unary_leads op =
    record {
      opened = last_both 40 (unary_text op) (40 ∷ []);
      fill = λ d b. subst Begun (sym (append_assoc (unary_text op) (40 ∷ []) d)) (begun_unary op d b);
      only = λ w none.
          subst NoFront (sym (append_assoc (unary_text op) (40 ∷ []) w))
          (stuck_unary op (40 ∷ w) (λ t y p s. none t (41 ∷ y) p (ends_close t y) (ap others s)));
    }

pub halts_unary_inside : (a b o : Cursor) (left : ℕ) (op : UnaryOperator) (e : TextFault) → Passes a b (unary_text op) 1 → Passes b o (40 ∷ []) 0 → 0 < left → Halts o (left - 1) e → Halts a left e
halts_unary_inside a b o left op e p enter some h =
    halts_inside a o (unary_text op ++ (40 ∷ [])) (1 + 0) left (left - 1) e (then p enter) (unary_leads op) (unary_opened a b o left op p enter some) h

-- a formula that was read is followed by its closing bracket, and by nothing else
unclosed : {o e : Cursor} {left : ℕ} (t : Took o e left) → (Ahead e 41 → ⊥) → (w : List ℕ) → first_only w ≡ first_only (rest e) → (u : Tree (List ℕ)) (y : List ℕ) → ProperTree u → spelled_out t.tree ++ w ≡ spelled_out u ++ (41 ∷ y) → ⊥
unclosed {o} {e} t none w same u y p s =
    let all = once t.tree u w (41 ∷ y) t.proper p (alike_ends t.tree w (rest e) same t.ends) (ends_close u y) s in
    none (alike_ahead e w 41 same (ahead_of (before w) 41 y all.1))

pub took_clear : {o e : Cursor} {left : ℕ} (t : Took o e left) → Clear left o.met 40 (spelled_out t.tree) left e.met
took_clear {o} {e} {left} t =
    subst (λ (n : ℕ). Clear left o.met 40 (spelled_out t.tree) left n) (sym t.over.counts)
    (clear_tree left o.met t.tree t.proper t.shallow (omega (arith, t.over.counts, e.counted)))

pub halts_unary_close : (a b o d : Cursor) (left : ℕ) (op : UnaryOperator) (e : TextFault) → Passes a b (unary_text op) 1 → Passes b o (40 ∷ []) 0 → 0 < left → Took o d (left - 1) → e ≡ Form d.at → (Ahead d 41 → ⊥) → Halts a left e
halts_unary_close a b o d left op e p enter some t is none =
    let front = unary_text op ++ (40 ∷ []) in
    let x = spelled_out t.tree in
    let same : front ++ x ≡ unary_text op ++ (40 ∷ x) = append_assoc (unary_text op) (40 ∷ []) x in
    let clear : Clear left a.met 40 (front ++ x) (left - 1) d.met =
    clear_then front x (unary_opened a b o left op p enter some)
    (subst (λ (k : ℕ). Clear (left - 1) o.met k x (left - 1) d.met) (sym (unary_leads op).opened) (took_clear t)) in
    halts_form a d (front ++ x) (1 + 0 + size t.tree) left e (then (then p enter) t.over) clear.within is
    ((unary_leads op).fill x (begun_whole t.tree t.proper))
    (λ w alike.
    subst NoFront (sym (append_assoc front x w ∙ append_assoc (unary_text op) (40 ∷ []) (x ++ w)))
    (stuck_unary op (40 ∷ (x ++ w)) (λ u y q s. unclosed t none w alike u y q (ap others s))))

-- an operator between two operands: its left operand
stuck_left : (w : List ℕ) → ((op : BinaryOperator) (l r : Tree (List ℕ)) (y : List ℕ) → ProperTree l → ProperTree r → w ≡ spelled_out l ++ (41 ∷ (binary_text op ++ (40 ∷ (spelled_out r ++ (41 ∷ y))))) → ⊥) → NoFront (40 ∷ w)
stuck_left w never (compares c v o) y p ends e = omega (arith, ap first (e ∙ flat_comparison c v o y))
stuck_left w never (one op t) y p ends e = (unary_apart op 40 _ _ (sym (e ∙ flat_one op t y))).1 refl
stuck_left w never (two op l r) y p ends e = never op l r y p.0 p.1 (ap others (e ∙ flat_two op l r y))

head_back : (w : List ℕ) (x : ℕ) → first_only w ≡ x ∷ [] → Ahead (before w) x
head_back [] x e = let z : ◌≡◌ {A = ℕ} 0 1 = cc in absurd (omega arith)
head_back (b ∷ w) x e = (omega arith, ap first e)

alike_back : (c : Cursor) (w : List ℕ) (x : ℕ) → first_only w ≡ first_only (rest c) → Ahead c x → Ahead (before w) x
alike_back c w x same ahead = head_back w x (same ∙ ap first_only (first_in_both c x ahead).1)

pub halts_start : (a : Cursor) (left byte : ℕ) (e : TextFault) → Ahead a byte → (byte ≡ 99 → ⊥) → ((op : UnaryOperator) → unary_text op ≡ byte ∷ [] → ⊥) → ((e ≡ Form a.at) × (Ahead a 40 → ⊥)) ⊎ ((e ≡ Brackets a.at) × Ahead a 40 × (left ≡ 0)) → Halts a left e
halts_start a left byte e here low none f =
    ⊎_elim
    (λ h.
    halts_form a a [] 0 left e (stays a) tt h.0 begun_none
    (λ w same.
    binary_unopened (before w) (other (before w) byte (alike_back a w byte same here) low none) (λ x. h.1 (alike_ahead a w 40 same x))))
    (λ h.
    halts_brackets a a [] 0 left a.met e (stays a) (subst (λ (n : ℕ). Clear left a.met 40 [] n a.met) h.2 (clear_none left a.met 40)) h.0 h.1 (begun_left [] begun_none))
    f

left_opened : (a o : Cursor) (left : ℕ) → Passes a o (40 ∷ []) 0 → 0 < left → Clear left a.met 40 (40 ∷ []) (left - 1) o.met
left_opened a o left enter some =
    let met : a.met ≡ o.met = omega (arith, enter.counts) in
    subst (λ (n : ℕ). Clear left a.met 40 (40 ∷ []) (left - 1) n) met (clear_open left a.met 40 some)

left_leads : Leads (40 ∷ [])
left_leads =
    record {
      opened = refl;
      fill = begun_left;
      only = λ w none. stuck_left w (λ op l r y p q e. none l _ p (ends_close l _) e);
    }

pub halts_left_inside : (a o : Cursor) (left : ℕ) (e : TextFault) → Passes a o (40 ∷ []) 0 → 0 < left → Halts o (left - 1) e → Halts a left e
halts_left_inside a o left e enter some h = halts_inside a o (40 ∷ []) 0 left (left - 1) e enter left_leads (left_opened a o left enter some) h

pub halts_left_close : (a o d : Cursor) (left : ℕ) (e : TextFault) → Passes a o (40 ∷ []) 0 → 0 < left → Took o d (left - 1) → e ≡ Form d.at → (Ahead d 41 → ⊥) → Halts a left e
halts_left_close a o d left e enter some t is none =
    let x = spelled_out t.tree in
    halts_form a d (40 ∷ x) (0 + size t.tree) left e (then enter t.over) (clear_then (40 ∷ []) x (left_opened a o left enter some) (took_clear t)).within is
    (begun_left x (begun_whole t.tree t.proper))
    (λ w alike. stuck_left (x ++ w) (λ op l r y p q s. unclosed t none w alike l _ p s))

-- behind its left operand
abbrev closed_by : Tree (List ℕ) → List ℕ → List ℕ
closed_by l d = 40 ∷ (spelled_out l ++ (41 ∷ d))

closed_both : (l : Tree (List ℕ)) (d w : List ℕ) → closed_by l d ++ w ≡ closed_by l (d ++ w)
closed_both l d w = ap (λ (x : List ℕ). 40 ∷ x) (append_assoc (spelled_out l) (41 ∷ d) w)

closed_last : (l : Tree (List ℕ)) (d : List ℕ) → last_of 40 (closed_by l d) ≡ last_of 41 d
closed_last l d = last_both 40 (spelled_out l) (41 ∷ d)

begun_after : (l : Tree (List ℕ)) (d y : List ℕ) → Begun (closed_by l (d ++ y)) → Begun (closed_by l d)
begun_after l d y b = begun_front (closed_by l d) y (subst Begun (sym (closed_both l d y)) b)

-- the left operand, its brackets, and what was read behind them
pub record Behind (a s : Cursor) (left : ℕ) : Type 0 where
  pub tree : Tree (List ℕ)
  pub proper : ProperTree tree
  pub over : Passes a s (closed_by tree []) (size tree)
  pub clear : Clear left a.met 40 (closed_by tree []) left s.met

pub behind : (a o e s : Cursor) (left : ℕ) → Passes a o (40 ∷ []) 0 → 0 < left → Took o e (left - 1) → Passes e s (41 ∷ []) 0 → Behind a s left
behind a o e s left enter some t close =
    let x = spelled_out t.tree in
    let n = size t.tree in
    let sum : 0 + (n + 0) ≡ n = omega arith in
    let met : e.met ≡ s.met = omega (arith, close.counts) in
    let back : left - 1 + 1 ≡ left = omega arith in
    record {
      tree = t.tree;
      proper = t.proper;
      over = subst (λ (k : ℕ). Passes a s (closed_by t.tree []) k) sum (then enter (then t.over close));
      clear =
          subst (λ (k : ℕ). Clear left a.met 40 (closed_by t.tree []) k s.met) back
          (subst (λ (k : ℕ). Clear left a.met 40 (closed_by t.tree []) (left - 1 + 1) k) met
          (clear_then (40 ∷ []) (x ++ (41 ∷ [])) (left_opened a o left enter some)
          (clear_then x (41 ∷ []) (took_clear t) (clear_close (left - 1) e.met (last_of 40 x)))));
    }

over_after : {a s d : Cursor} {left n : ℕ} {x : List ℕ} (b : Behind a s left) → Passes s d x n → Passes a d (closed_by b.tree x) (size b.tree + n)
over_after {a} {s} {d} {left} {n} {x} b p = subst (λ (l : List ℕ). Passes a d l (size b.tree + n)) (closed_both b.tree [] x) (then b.over p)

clear_after : {a s : Cursor} {left left' met : ℕ} (b : Behind a s left) (x : List ℕ) → Clear left s.met 41 x left' met → Clear left a.met 40 (closed_by b.tree x) left' met
clear_after {a} {s} {left} {left'} {met} b x c =
    subst (λ (l : List ℕ). Clear left a.met 40 l left' met) (closed_both b.tree [] x)
    (clear_then (closed_by b.tree []) x b.clear (subst (λ (k : ℕ). Clear left s.met k x left' met) (sym (closed_last b.tree [])) c))

stuck_after : (l : Tree (List ℕ)) (w : List ℕ) → ProperTree l → ((op : BinaryOperator) (r : Tree (List ℕ)) (y : List ℕ) → ProperTree r → w ≡ binary_text op ++ (40 ∷ (spelled_out r ++ (41 ∷ y))) → ⊥) → NoFront (closed_by l w)
stuck_after l w p never =
    stuck_left (spelled_out l ++ (41 ∷ w))
    (λ op u r y p' q e. never op r y q (ap others (once l u (41 ∷ w) _ p p' (ends_close l w) (ends_close u _) e).1))

-- the operator
binary_meets : (op : BinaryOperator) → meets 41 (first_of op) ≡ true
binary_meets Until = refl
binary_meets WeakUntil = refl
binary_meets And = refl
binary_meets Or = refl
binary_meets Implies = refl

begun_word : (l : Tree (List ℕ)) (op : BinaryOperator) → ProperTree l → Begun (closed_by l (binary_text op))
begun_word l op p = begun_after l (binary_text op) (40 ∷ []) (begun_right op l [] p begun_none)

begun_byte : (l : Tree (List ℕ)) (op : BinaryOperator) → ProperTree l → Begun (closed_by l (first_of op ∷ []))
begun_byte l Until p = begun_word l Until p
begun_byte l WeakUntil p = begun_word l WeakUntil p
begun_byte l And p = begun_word l And p
begun_byte l Or p = begun_word l Or p
begun_byte l Implies p = begun_after l (61 ∷ []) (62 ∷ []) (begun_word l Implies p)

pub halts_operator : (a s : Cursor) (left : ℕ) (e : TextFault) → Behind a s left → Operatorless s e → Halts a left e
halts_operator a s left e b f =
    let l = b.tree in
    let none_begins : NoneBegins s e → Halts a left e =
    λ h.
    halts_form a s (closed_by l []) (size l) left e b.over b.clear.within h.blamed (begun_after l [] (38 ∷ []) (begun_byte l And b.proper))
    (λ w same.
    subst NoFront (sym (closed_both l [] w))
    (stuck_after l w b.proper
    (λ op r y q x.
    let u = begun op (40 ∷ (spelled_out r ++ (41 ∷ y))) in
    h.none op (alike_ahead s w (first_of op) same (ahead_of (before w) (first_of op) u.0 (x ∙ u.1)))))) in
    let none_left : NoneLeft s e → Halts a left e =
    λ h.
    halts_parts a s (closed_by l []) (size l) left left s.met (first_of h.op) e b.over b.clear h.full h.blamed h.begins
    (subst Begun (sym (closed_both l [] (first_of h.op ∷ []))) (begun_byte l h.op b.proper))
    (ap (λ (k : ℕ). meets k (first_of h.op)) (closed_last l []) ∙ binary_meets h.op) in
    let half : HalfRead s e → Halts a left e =
    λ h.
    let d = h.next in
    let room : s.met < 24 = omega (arith, h.read.counts, d.counted) in
    let clear = clear_after b (61 ∷ []) (clear_met left s.met 41 61 room (λ e. omega arith) (λ e. omega arith) refl) in
    halts_form a d (closed_by l (61 ∷ [])) (size l + 1) left e (over_after b h.read) clear.within h.blamed (begun_byte l Implies b.proper)
    (λ w same.
    subst NoFront (sym (closed_both l (61 ∷ []) w))
    (stuck_after l (61 ∷ w) b.proper
    (λ op r y q x. no_arrow op w _ (λ z e. h.none (alike_ahead d w 62 same (ahead_of (before w) 62 z e))) x))) in
    ⊎_elim none_begins (λ g. ⊎_elim none_left half g) f

-- the right operand
pub halts_right_open : (a s v : Cursor) (left : ℕ) (op : BinaryOperator) (e : TextFault) → Behind a s left → Passes s v (binary_text op) 1 → e ≡ Form v.at → (Ahead v 40 → ⊥) → Halts a left e
halts_right_open a s v left op e b word is none =
    let l = b.tree in
    halts_form a v (closed_by l (binary_text op)) (size l + 1) left e (over_after b word) (clear_after b (binary_text op) (clear_binary left s.met op (omega (arith, word.counts, v.counted)))).within is (begun_word l op b.proper)
    (λ w same.
    subst NoFront (sym (closed_both l (binary_text op) w))
    (stuck_after l (binary_text op ++ w) b.proper
    (λ op' r y q x. none (alike_ahead v w 40 same (ahead_of (before w) 40 _ (binary_once op op' _ _ x).1)))))

abbrev opening : BinaryOperator → List ℕ
opening op = binary_text op ++ (40 ∷ [])

opening_both : (l : Tree (List ℕ)) (op : BinaryOperator) (d : List ℕ) → closed_by l (opening op) ++ d ≡ closed_by l (binary_text op ++ (40 ∷ d))
opening_both l op d = closed_both l (opening op) d ∙ ap (λ (x : List ℕ). closed_by l x) (append_assoc (binary_text op) (40 ∷ []) d)

right_leads : (l : Tree (List ℕ)) (op : BinaryOperator) → ProperTree l → Leads (closed_by l (opening op))
right_leads l op p =
    record {
      opened = closed_last l (opening op) ∙ last_both 41 (binary_text op) (40 ∷ []);
      fill = λ d b. subst Begun (sym (opening_both l op d)) (begun_right op l d p b);
      only = λ w none.
          subst NoFront (sym (opening_both l op w))
          (stuck_after l (binary_text op ++ (40 ∷ w)) p
          (λ op' r y q x.
          none r (41 ∷ y) q (ends_close r y) (ap others (binary_once op op' _ _ x).1)));
    }

right_opened : {a s : Cursor} (v u : Cursor) {left : ℕ} (op : BinaryOperator) (b : Behind a s left) → Passes s v (binary_text op) 1 → Passes v u (40 ∷ []) 0 → 0 < left → Clear left a.met 40 (closed_by b.tree (opening op)) (left - 1) u.met
right_opened {a} {s} v u {left} op b word again some =
    let met : s.met + 1 ≡ u.met = omega (arith, word.counts, again.counts) in
    let last = last_of 41 (binary_text op) in
    clear_after b (opening op)
    (clear_then (binary_text op) (40 ∷ []) (clear_binary left s.met op (omega (arith, word.counts, v.counted)))
    (subst (λ (n : ℕ). Clear left (s.met + 1) last (40 ∷ []) (left - 1) n) met (clear_open left (s.met + 1) last some)))

pub halts_right_inside : (a s v u : Cursor) (left : ℕ) (op : BinaryOperator) (e : TextFault) → Behind a s left → Passes s v (binary_text op) 1 → Passes v u (40 ∷ []) 0 → 0 < left → Halts u (left - 1) e → Halts a left e
halts_right_inside a s v u left op e b word again some h =
    halts_inside a u (closed_by b.tree (opening op)) (size b.tree + (1 + 0)) left (left - 1) e (over_after b (then word again)) (right_leads b.tree op b.proper) (right_opened v u op b word again some) h

pub halts_right_close : (a s v u d : Cursor) (left : ℕ) (op : BinaryOperator) (e : TextFault) → Behind a s left → Passes s v (binary_text op) 1 → Passes v u (40 ∷ []) 0 → 0 < left → Took u d (left - 1) → e ≡ Form d.at → (Ahead d 41 → ⊥) → Halts a left e
halts_right_close a s v u d left op e b word again some t is none =
    let front = closed_by b.tree (opening op) in
    let x = spelled_out t.tree in
    let leads = right_leads b.tree op b.proper in
    let clear : Clear left a.met 40 (front ++ x) (left - 1) d.met =
    clear_then front x (right_opened v u op b word again some)
    (subst (λ (k : ℕ). Clear (left - 1) u.met k x (left - 1) d.met) (sym leads.opened) (took_clear t)) in
    halts_form a d (front ++ x) (size b.tree + (1 + 0) + size t.tree) left e (then (over_after b (then word again)) t.over) clear.within is
    (leads.fill x (begun_whole t.tree t.proper))
    (λ w alike.
    subst NoFront (sym (append_assoc front x w ∙ opening_both b.tree op (x ++ w)))
    (stuck_after b.tree (binary_text op ++ (40 ∷ (x ++ w))) b.proper
    (λ op' r y q s. unclosed t none w alike r y q (ap others (binary_once op op' _ _ s).1))))
