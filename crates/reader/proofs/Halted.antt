-- What a reading that halts says of the text: where it can find fault, and that no formula stands there.
use Rattle.std.proofs.Common.{◌≡◌, ℕ, ◌+◌, ◌-◌, ◌<◌, ◌≤◌, true, cond, ◌⊎◌, List, [], ◌∷◌, ◌++◌, length, get_or, drop, IfErr, OnErr, Ok, Err, Result, sym, refl, ap, ◌∙◌, subst, inl, inr, ⊎_elim, append_assoc, append-nil, zero-le, arith, length-append, length-drop}
use Rattle.std.proofs.lemmas.List.{get_or-drop, get_or_at}
use Rattle.formula.specs.Trees.{Tree}
use Rattle.text.specs.declared.faults.TextFault.{TextFault}
use Rattle.text.specs.declared.faults.TextFault.TheVariants.{Length, Form, Brackets, Parts, Scale}
use Rattle.text.specs.Faults.{Blames}
use Rattle.reader.specs.declared.readers.Cursor.{Cursor}
use Rattle.reader.specs.Blame.{Begun, Unspelled}
use Rattle.reader.specs.Counts.{meets, met_in}
use Rattle.reader.specs.Cursors.{HalfRead, NoneBegins, NoneLeft, NoOperator, Operatorless, rest}
use Rattle.reader.specs.Fronts.{Ends, NoFormula, NoFront, NoWhole, ProperTree, spelled_out}
use Rattle.reader.specs.Halts.{Fails, first_only, Found, halt, Halts, last_of, leaves, left_by, Within}
use Rattle.reader.specs.Spellings.{first_of}
use Rattle.reader.proofs.Alike.{alike_ends}
use Rattle.reader.proofs.Between.{begun, no_arrow}
use Rattle.reader.proofs.Blaming.{first_some, no_whole}
use Rattle.reader.proofs.Missing.{ahead_of}
use Rattle.reader.proofs.Once.{once}
use Rattle.reader.proofs.Unsaid.{ends_nothing}
use Rattle.reader.proofs.Walks.{clear_tree}
use Rattle.reader.proofs.Words.{first, others}

-- where a reading that began at a place can find fault
found_blames : (None : List ℕ → Type 0) (left met place : ℕ) (text done after : List ℕ) (e : TextFault) → drop place text ≡ done ++ after → place ≤ length text → halt e ≡ place + length done → Found None left met done after e → Blames text e
found_blames None left met place text done after Length read within here f = f
found_blames None left met place text done after (Form at) read within here f =
    omega (arith, here, length-drop place text, ap length read, length-append done after, within)
found_blames None left met place text done after (Brackets at) read within here f =
    let next = first_some after 40 f.next in
    let byte : get_or text (place + length done) 0 ≡ 40 =
    sym (get_or-drop place text (length done) 0)
    ∙ (ap (λ (l : List ℕ). get_or l (length done) 0) (read ∙ ap (λ (l : List ℕ). done ++ l) next.1) ∙ get_or_at done 40 next.0 0 (length done) refl) in (
      omega (arith, here, length-drop place text, ap length read, length-append done after, within, ap length next.1),
      ap (λ (n : ℕ). get_or text n 0) here ∙ byte,
    )
found_blames None left met place text done after (Parts at) read within here f =
    let next = first_some after f.byte f.next in
    omega (arith, here, length-drop place text, ap length read, length-append done after, within, ap length next.1)
found_blames None left met place text done after (Scale fault) read within here f = f

pub halts_blames : (a : Cursor) (left : ℕ) (e : TextFault) → Halts a left e → Blames a.text.now e
halts_blames a left e h = found_blames NoFront left a.met a.at a.text.now h.done h.after e h.read a.within h.place h.found

fails_blames : (text : List ℕ) (e : TextFault) → Fails text e → Blames text e
fails_blames text e f = found_blames Unspelled 12 0 0 text f.done f.after e f.read zero-le (omega (arith, f.place)) f.found

-- what fits allows the byte behind its first bytes
within_at : (left met p : ℕ) (x : List ℕ) (b : ℕ) (y : List ℕ) → Within left met p (x ++ b ∷ y) → (b ≡ 40 → 0 < left_by left x) × (meets (last_of p x) b ≡ true → met + met_in p x < 24)
within_at left met p [] b y w = (w.0, λ e. omega (arith, w.1 e))
within_at left met p (d ∷ x) b y w =
    let inner = within_at (leaves left d) (met + cond (meets p d) 1 0) d x b y w.2 in
    (inner.0, λ e. omega (arith, inner.1 e))

-- of two ways to part some bytes one comes first
parted : (done : List ℕ) (b : ℕ) (u x w : List ℕ) → done ++ b ∷ u ≡ x ++ w → ((v : List ℕ) × (x ≡ done ++ b ∷ v)) ⊎ ((d : List ℕ) × (done ≡ x ++ d) × (w ≡ d ++ b ∷ u))
parted done b u [] w e = inr (done, refl, sym e)
parted [] b u (d ∷ x) w e = inl (x, ap (λ (n : ℕ). n ∷ x) (sym (ap first e)))
parted (c ∷ done) b u (d ∷ x) w e =
    let same : c ≡ d = ap first e in
    ⊎_elim
    (λ r. inl (r.0, ap (λ (l : List ℕ). d ∷ l) r.1 ∙ ap (λ (n : ℕ). n ∷ (done ++ b ∷ r.0)) (sym same)))
    (λ r. inr (r.0, ap (λ (n : ℕ). n ∷ done) same ∙ ap (λ (l : List ℕ). d ∷ l) r.1, r.2))
    (parted done b u x w (ap others e))

first_same : (d : List ℕ) (b : ℕ) (u z : List ℕ) → first_only (d ++ b ∷ u) ≡ first_only (d ++ b ∷ z)
first_same [] b u z = refl
first_same (c ∷ d) b u z = refl

not_empty : (d : List ℕ) (b : ℕ) (z : List ℕ) → d ++ b ∷ z ≡ [] → ⊥
not_empty d b z e = omega (arith, ap length e, length-append d (b ∷ z))

-- a formula at the front has every byte with which a spelling still goes on
covers : (t : Tree (List ℕ)) (done : List ℕ) (b : ℕ) (u w : List ℕ) → ProperTree t → Ends t w → done ++ b ∷ u ≡ spelled_out t ++ w → Begun (done ++ b ∷ []) → (v : List ℕ) × (spelled_out t ≡ done ++ b ∷ v)
covers t done b u w p ends e more =
    let x = spelled_out t in
    ⊎_elim
    (λ r. r)
    (λ r.
    let d = r.0 in
    let s = more.tree in
    let z = more.after in
    let go : spelled_out s ++ [] ≡ x ++ (d ++ b ∷ z) =
    append-nil (spelled_out s)
    ∙ (more.spelled
    ∙ (append_assoc done (b ∷ []) z
    ∙ (ap (λ (l : List ℕ). l ++ b ∷ z) r.1 ∙ append_assoc x d (b ∷ z)))) in
    let same : first_only (d ++ b ∷ z) ≡ first_only w = first_same d b z u ∙ ap first_only (sym r.2) in
    absurd (not_empty d b z (once t s (d ++ b ∷ z) [] p more.proper (alike_ends t (d ++ b ∷ z) w same ends) (ends_nothing s) (sym go)).1))
    (parted done b u x w e)

-- so it would have the bracket or the part that is one too many
pub halts_missing : (a : Cursor) (left : ℕ) (e : TextFault) → Halts a left e → NoFormula (rest a) left (24 - a.met)
halts_missing a left Length h t w p deep few ends is = h.found
halts_missing a left (Form at) h t w p deep few ends is = h.found.stuck h.after refl t w p ends (sym h.read ∙ is)
halts_missing a left (Brackets at) h t w p deep few ends is =
    let next = first_some h.after 40 h.found.next in
    let whole = covers t h.done 40 next.0 w p ends (sym (h.read ∙ ap (λ (l : List ℕ). h.done ++ l) next.1) ∙ is) h.found.begun in
    let fits = subst (Within left a.met 40) whole.1 (clear_tree left a.met t p deep (omega (arith, few, a.counted))).within in
    omega (arith, (within_at left a.met 40 h.done 40 whole.0 fits).0 refl, h.found.none)
halts_missing a left (Parts at) h t w p deep few ends is =
    let b = h.found.byte in
    let next = first_some h.after b h.found.next in
    let whole = covers t h.done b next.0 w p ends (sym (h.read ∙ ap (λ (l : List ℕ). h.done ++ l) next.1) ∙ is) h.found.begun in
    let fits = subst (Within left a.met 40) whole.1 (clear_tree left a.met t p deep (omega (arith, few, a.counted))).within in
    omega (arith, (within_at left a.met 40 h.done b whole.0 fits).1 h.found.starts, h.found.all)
halts_missing a left (Scale fault) h t w p deep few ends is = h.found

-- the same of a result: all that is said where a formula is refused
pub record Stopped {X : Type 0} (r : Result X TextFault) (a : Cursor) (left : ℕ) : Type 0 where
  pub halts : IfErr r (Halts a left)
  pub blames : IfErr r (Blames a.text.now)
  pub missing : OnErr r (NoFormula (rest a) left (24 - a.met))

pub stopped : {X : Type 0} (r : Result X TextFault) (a : Cursor) (left : ℕ) → IfErr r (Halts a left) → Stopped r a left
stopped (Ok x) a left h = record { halts = tt; blames = tt; missing = tt }
stopped (Err e) a left h = record { halts = h; blames = halts_blames a left e h; missing = halts_missing a left e h }

-- and where a comparison is refused, with any number of brackets left
pub record StoppedEach {X : Type 0} (r : Result X TextFault) (a : Cursor) : Type 0 where
  pub halts : IfErr r (λ e. (brackets : ℕ) → Halts a brackets e)
  pub blames : IfErr r (Blames a.text.now)
  pub missing : OnErr r ((brackets : ℕ) → NoFormula (rest a) brackets (24 - a.met))

pub stopped_each : {X : Type 0} (r : Result X TextFault) (a : Cursor) → IfErr r (λ e. (brackets : ℕ) → Halts a brackets e) → StoppedEach r a
stopped_each (Ok x) a h = record { halts = tt; blames = tt; missing = tt }
stopped_each (Err e) a h = record { halts = h; blames = halts_blames a 0 e (h 0); missing = λ n. halts_missing a n e (h n) }

-- no operator was read between two operands
pub operatorless_blames : (c : Cursor) (e : TextFault) → Operatorless c e → Blames c.text.now e
operatorless_blames c e f =
    let text = c.text.now in
    let none_begins : NoneBegins c e → Blames text e = λ h. subst (Blames text) (sym h.blamed) c.within in
    let none_left : NoneLeft c e → Blames text e = λ h. subst (Blames text) (sym h.blamed) h.begins.0 in
    let half : HalfRead c e → Blames text e =
    λ h. subst (Blames text) (sym h.blamed) (omega (arith, h.next.within, ap length h.read.same)) in
    ⊎_elim none_begins (λ g. ⊎_elim none_left half g) f

pub operatorless_missing : (c : Cursor) (e : TextFault) → Operatorless c e → NoOperator c
operatorless_missing c e f op after room is =
    let none_begins : NoneBegins c e → ⊥ = λ h. let u = begun op after in h.none op (ahead_of c (first_of op) u.0 (is ∙ u.1)) in
    let none_left : NoneLeft c e → ⊥ = λ h. omega (arith, room, h.full) in
    let half : HalfRead c e → ⊥ =
    λ h. no_arrow op (rest h.next) after (λ z s. h.none (ahead_of h.next 62 z s)) (sym h.read.over ∙ is) in
    ⊎_elim none_begins (λ g. ⊎_elim none_left half g) f

-- a whole text was refused
pub record Failed {X : Type 0} (r : Result X TextFault) (text : List ℕ) : Type 0 where
  pub fails : IfErr r (Fails text)
  pub blames : IfErr r (Blames text)
  pub missing : OnErr r (NoWhole text)

pub failed : {X : Type 0} (r : Result X TextFault) (text : List ℕ) → IfErr r (Fails text) → Failed r text
failed (Ok x) text f = record { fails = tt; blames = tt; missing = tt }
failed (Err e) text f = record { fails = f; blames = fails_blames text e f; missing = no_whole text e f }
