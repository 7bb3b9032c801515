-- The fault of a plain reading is the first that the text has.
use Rattle.std.proofs.Common.{◌≡◌, ℕ, zero, suc, ◌+◌, ◌-◌, ◌<◌, ◌≤◌, Bool, true, false, cond, List, [], ◌∷◌, ◌++◌, length, get_or, take, sym, refl, ap, ◌∙◌, subst, inl, inr, ⊎_elim, append_assoc, append-nil, arith, length-append}
use Rattle.std.proofs.lemmas.List.{get_or_append_left, get_or_at, take-append-le, take_at}
use Rattle.std.proofs.lemmas.Bool.{cases_lt}
use Rattle.std.proofs.lemmas.Bool.Decides.{nat_tests}
use Rattle.formula.specs.Trees.{Tree, depth, size}
use Rattle.scale.specs.declared.faults.ScaleFault.TheVariants.{Unread, NoMark}
use Rattle.text.specs.declared.faults.TextFault.{TextFault}
use Rattle.text.specs.declared.faults.TextFault.TheVariants.{Length, Form, Brackets, Parts, Scale}
use Rattle.reader.specs.Blame.{before, Begun, Blamed, BracketAt, Faulty, FormAt, NoLater, PartAt, placed, UnreadAt, Unspelled}
use Rattle.reader.specs.Counts.{meets, met_in, times}
use Rattle.text.specs.Faults.{text_number}
use Rattle.reader.specs.Fronts.{NoWhole, ProperTree, spelled_out}
use Rattle.reader.specs.Halts.{Fails, first_only, Found, halt, last_of, leaves, left_by, Misfit, Unmet, Unopened, Within}
use Rattle.reader.specs.Sayings.{Sized}
use Rattle.reader.proofs.Begins.{begun_front}
use Rattle.reader.proofs.Walks.{clear_tree}

-- no bracket among bytes that fit is the thirteenth
within_bracket : (left met p : ℕ) (x : List ℕ) (k : ℕ) → Within left met p x → k < length x → get_or x k 0 ≡ 40 → times 40 (take k x) + 1 ≤ times 41 (take k x) + left
within_bracket left met p [] k w h e = absurd (omega arith)
within_bracket left met p (b ∷ x) zero w h e = omega (arith, w.0 e)
within_bracket left met p (b ∷ x) (suc k) w h e =
    let inner = within_bracket (leaves left b) (met + cond (meets p b) 1 0) b x k w.2 (omega arith) e in
    let first = w.0 in
    grind (arith, nat_tests)

-- what is left counts what was opened and closed
left_count : (left met p : ℕ) (x : List ℕ) → Within left met p x → left_by left x + times 40 x ≡ left + times 41 x
left_count left met p [] w = refl
left_count left met p (b ∷ x) w =
    let inner = left_count (leaves left b) (met + cond (meets p b) 1 0) b x w.2 in
    let first = w.0 in
    grind (arith, nat_tests)

-- no part among them is the 25th
within_part : (left met p : ℕ) (x : List ℕ) (k : ℕ) → Within left met p x → k < length x → meets (get_or (p ∷ x) k 0) (get_or x k 0) ≡ true → met + met_in p (take k x) < 24
within_part left met p [] k w h e = absurd (omega arith)
within_part left met p (b ∷ x) zero w h e = omega (arith, w.1 e)
within_part left met p (b ∷ x) (suc k) w h e =
    omega (arith, within_part (leaves left b) (met + cond (meets p b) 1 0) b x k w.2 (omega arith) e)

-- the byte before the end of some bytes
last_before : (p : ℕ) (x y : List ℕ) → get_or (p ∷ (x ++ y)) (length x) 0 ≡ last_of p x
last_before p [] y = refl
last_before p (b ∷ x) y = last_before b x y

-- more of the text than was read goes on as the text does
first_take : (k : ℕ) (x y : List ℕ) → 0 < k → 0 < length x → first_only (take k x ++ y) ≡ first_only x
first_take zero x y h l = absurd (omega arith)
first_take (suc k) [] y h l = absurd (omega arith)
first_take (suc k) (b ∷ x) y h l = refl

take_past : (k : ℕ) (x y : List ℕ) → length x ≤ k → take k (x ++ y) ≡ x ++ take (k - length x) y
take_past k [] y h = ap (λ (n : ℕ). take n y) (omega arith)
take_past zero (b ∷ x) y h = absurd (omega arith)
take_past (suc k) (b ∷ x) y h = ap (λ (l : List ℕ). b ∷ l) (take_past k x y (omega arith) ∙ ap (λ (n : ℕ). x ++ take n y) (omega arith))

pub first_some : (x : List ℕ) (b : ℕ) → first_only x ≡ b ∷ [] → (u : List ℕ) × (x ≡ b ∷ u)
first_some [] b e = let z : ◌≡◌ {A = ℕ} 0 1 = cc in absurd (omega arith)
first_some (d ∷ x) b e = (x, ap (λ (l : List ℕ). l ++ x) e)

-- the text, parted where the reading failed
module _ (done after : List ℕ) (within : Within 12 0 40 done) where
  abbrev text : List ℕ
  text = done ++ after

  abbrev end : ℕ
  end = length done

  long : length text ≡ end + length after
  long = length-append done after

  read_part : take end text ≡ done
  read_part = take_at done after end refl

  no_bracket : (k : ℕ) → BracketAt text k → end ≤ k
  no_bracket k b =
      ⊎_elim
      (λ (h : k < end).
      let low : k ≤ length done = omega arith in
      let same = take-append-le k done after low in
      let byte : get_or done k 0 ≡ 40 = sym (get_or_append_left done after 0 k h) ∙ b.opens in
      absurd (omega (arith, within_bracket 12 0 40 done k within h byte, b.thirteenth, ap (times 40) same, ap (times 41) same)))
      (λ (h : end ≤ k). h)
      (cases_lt k end)

  no_part : (k : ℕ) → PartAt text k → end ≤ k
  no_part k b =
      ⊎_elim
      (λ (h : k < end).
      let low : k ≤ length done = omega arith in
      let same = take-append-le k done after low in
      let byte = get_or_append_left done after 0 k h in
      let back = get_or_append_left (40 ∷ done) after 0 k (omega arith) in
      let met : meets (get_or (40 ∷ done) k 0) (get_or done k 0) ≡ true =
      ap (λ (n : ℕ). meets n (get_or done k 0)) (sym back) ∙ (ap (λ (n : ℕ). meets (before text k) n) (sym byte) ∙ b.met) in
      absurd (omega (arith, within_part 12 0 40 done k within h met, b.last, ap (met_in 40) same)))
      (λ (h : end ≤ k). h)
      (cases_lt k end)

  -- a spelling can begin with what was read, or with one byte more
  form_past : (k : ℕ) → Begun done → FormAt text k → end ≤ k
  form_past k b f = f.longest end (omega (arith, long)) (subst Begun (sym read_part) b)

  form_later : (k byte : ℕ) (u : List ℕ) → after ≡ byte ∷ u → Begun (done ++ byte ∷ []) → FormAt text k → end < k
  form_later k byte u next b f =
      let one : end + 1 - length done ≡ 1 = omega arith in
      let same : take (end + 1) text ≡ done ++ byte ∷ [] =
      take_past (end + 1) done after (omega arith)
      ∙ (ap (λ (n : ℕ). done ++ take n after) one ∙ ap (λ (l : List ℕ). done ++ take 1 l) next) in
      let more : 1 ≤ length after = omega (arith, ap length next) in
      omega (arith, f.longest (end + 1) (omega (arith, long)) (subst Begun (sym same) b))

  form_at : Misfit Unspelled done after → FormAt text end
  form_at m =
      record {
        within = omega (arith, long);
        begun = subst Begun (sym read_part) m.begun;
        longest = λ k h b.
            ⊎_elim
            (λ (past : end < k).
            let over = k - end in
            let other = take over after in
            let bytes : take k text ≡ done ++ other = take_past k done after (omega arith) in
            let spelled : spelled_out b.tree ≡ done ++ (other ++ b.after) =
            b.spelled ∙ (ap (λ (l : List ℕ). l ++ b.after) bytes ∙ append_assoc done other b.after) in
            absurd (m.stuck (other ++ b.after) (first_take over after b.after (omega arith) (omega (arith, long))) b.tree b.proper spelled))
            (λ (low : k ≤ end). low)
            (cases_lt end k);
        unspelled = m.stuck after refl;
      }

  bracket_at : Unopened 12 done after → BracketAt text end
  bracket_at m =
      let next = first_some after 40 m.next in
      let more : 1 ≤ length after = omega (arith, ap length next.1) in
      record {
        within = omega (arith, long);
        opens = ap (λ (l : List ℕ). get_or (done ++ l) end 0) next.1 ∙ get_or_at done 40 next.0 0 end refl;
        thirteenth = omega (arith, ap (times 40) read_part, ap (times 41) read_part, left_count 12 0 40 done within, m.none);
      }

  part_at : Unmet 0 done after → PartAt text end
  part_at m =
      let next = first_some after m.byte m.next in
      let more : 1 ≤ length after = omega (arith, ap length next.1) in
      let here : get_or text end 0 ≡ m.byte = ap (λ (l : List ℕ). get_or (done ++ l) end 0) next.1 ∙ get_or_at done m.byte next.0 0 end refl in
      record {
        within = omega (arith, long);
        met = ap (λ (n : ℕ). meets n (get_or text end 0)) (last_before 40 done after) ∙ (ap (λ (n : ℕ). meets (last_of 40 done) n) here ∙ m.starts);
        last = omega (arith, ap (met_in 40) read_part, m.all);
      }

  -- no part is met at a bracket
  part_before_bracket : Unmet 0 done after → (k : ℕ) → BracketAt text k → end < k
  part_before_bracket m k b =
      let next = first_some after m.byte m.next in
      ⊎_elim
      (λ (h : end < k). h)
      (λ (h : k ≤ end).
      let same : end ≡ k = omega (arith, no_bracket k b) in
      let here : get_or text end 0 ≡ m.byte = ap (λ (l : List ℕ). get_or (done ++ l) end 0) next.1 ∙ get_or_at done m.byte next.0 0 end refl in
      let byte : m.byte ≡ 40 = sym here ∙ (ap (λ (n : ℕ). get_or text n 0) same ∙ b.opens) in
      let z : ◌≡◌ {A = Bool} false true = ap (λ (n : ℕ). meets (last_of 40 done) n) (sym byte) ∙ m.starts in
      let y : ◌≡◌ {A = ℕ} 0 1 = cc in
      absurd (omega arith))
      (cases_lt end k)

  -- over the texts of a scale's marks, when no run that they do not have comes before
  module _ {S : Type 0} (written : S → List ℕ) (sized : Sized text) (late : (k : ℕ) → UnreadAt written text k → end ≤ k) where
    soon : (e f : TextFault) (i k : ℕ) → placed e ≡ i → placed f ≡ k → i ≤ k → text_number e ≤ text_number f → NoLater e f
    soon e f i k p q le few = ⊎_elim (λ (h : i < k). inl (omega (arith, p, q))) (λ (h : k ≤ i). inr (omega (arith, p, q), few)) (cases_lt i k)

    form_first : Misfit Unspelled done after → (f : TextFault) → Faulty written text f → NoLater (Form end) f
    form_first m Length h = absurd (h sized)
    form_first m (Form k) h = soon (Form end) (Form k) end k refl refl (form_past k m.begun h) (omega arith)
    form_first m (Brackets k) h = soon (Form end) (Brackets k) end k refl refl (no_bracket k h) (omega arith)
    form_first m (Parts k) h = soon (Form end) (Parts k) end k refl refl (no_part k h) (omega arith)
    form_first m (Scale (Unread k)) h = soon (Form end) (Scale (Unread k)) end k refl refl (late k h) (omega arith)
    form_first m (Scale NoMark) h = absurd h

    bracket_first : Unopened 12 done after → (f : TextFault) → Faulty written text f → NoLater (Brackets end) f
    bracket_first m Length h = absurd (h sized)
    bracket_first m (Form k) h = let next = first_some after 40 m.next in inl (form_later k 40 next.0 next.1 m.begun h)
    bracket_first m (Brackets k) h = soon (Brackets end) (Brackets k) end k refl refl (no_bracket k h) (omega arith)
    bracket_first m (Parts k) h = soon (Brackets end) (Parts k) end k refl refl (no_part k h) (omega arith)
    bracket_first m (Scale (Unread k)) h = soon (Brackets end) (Scale (Unread k)) end k refl refl (late k h) (omega arith)
    bracket_first m (Scale NoMark) h = absurd h

    part_first : Unmet 0 done after → (f : TextFault) → Faulty written text f → NoLater (Parts end) f
    part_first m Length h = absurd (h sized)
    part_first m (Form k) h = let next = first_some after m.byte m.next in inl (form_later k m.byte next.0 next.1 m.begun h)
    part_first m (Brackets k) h = inl (part_before_bracket m k h)
    part_first m (Parts k) h = soon (Parts end) (Parts k) end k refl refl (no_part k h) (omega arith)
    part_first m (Scale (Unread k)) h = soon (Parts end) (Scale (Unread k)) end k refl refl (late k h) (omega arith)
    part_first m (Scale NoMark) h = absurd h

    blamed_here : (e : TextFault) → halt e ≡ end → Found Unspelled 12 0 done after e → Blamed written text e
    blamed_here Length p f = absurd f
    blamed_here (Form at) p f = subst (λ (n : ℕ). Blamed written text (Form n)) (sym p) (record { faulty = form_at f; first = form_first f })
    blamed_here (Brackets at) p f = subst (λ (n : ℕ). Blamed written text (Brackets n)) (sym p) (record { faulty = bracket_at f; first = bracket_first f })
    blamed_here (Parts at) p f = subst (λ (n : ℕ). Blamed written text (Parts n)) (sym p) (record { faulty = part_at f; first = part_first f })
    blamed_here (Scale fault) p f = absurd f

-- no fault but one of the scale comes before a place
pub record Late (text : List ℕ) (place : ℕ) : Type 0 where
  pub form : (k : ℕ) → FormAt text k → place ≤ k
  pub bracket : (k : ℕ) → BracketAt text k → place ≤ k
  pub part : (k : ℕ) → PartAt text k → place ≤ k

begun_done : (done after : List ℕ) (e : TextFault) → Found Unspelled 12 0 done after e → Begun done
begun_done done after Length f = absurd f
begun_done done after (Form at) f = f.begun
begun_done done after (Brackets at) f = begun_front done (40 ∷ []) f.begun
begun_done done after (Parts at) f = begun_front done (f.byte ∷ []) f.begun
begun_done done after (Scale fault) f = absurd f

pub late_refused : (text : List ℕ) (e : TextFault) → Fails text e → Late text (halt e)
late_refused text e f =
    let d = f.done in
    let a = f.after in
    subst (Late text) (sym f.place)
    (subst (λ (l : List ℕ). Late l (length d)) (sym f.read)
    (record {
      form = λ k h. form_past d a f.within k (begun_done d a e f.found) h;
      bracket = no_bracket d a f.within;
      part = no_part d a f.within;
    }))

pub late_spelled : (text : List ℕ) (t : Tree (List ℕ)) → ProperTree t → depth t ≤ 12 → size t ≤ 24 → spelled_out t ≡ text → Late text (length text)
late_spelled text t p deep few e =
    let within : Within 12 0 40 text = subst (Within 12 0 40) e (clear_tree 12 0 t p deep (omega arith)).within in
    record {
      form = λ k h. absurd (h.unspelled t p e);
      bracket = λ k h. no_bracket text [] within k (subst (λ (l : List ℕ). BracketAt l k) (sym (append-nil text)) h);
      part = λ k h. no_part text [] within k (subst (λ (l : List ℕ). PartAt l k) (sym (append-nil text)) h);
    }

none_whole : (done after : List ℕ) → Within 12 0 40 done → (e : TextFault) → Found Unspelled 12 0 done after e → (t : Tree (List ℕ)) → ProperTree t → spelled_out t ≡ done ++ after → Late (done ++ after) (length (done ++ after)) → ⊥
none_whole done after within Length f t p is late = f
none_whole done after within (Form at) f t p is late = f.stuck after refl t p is
none_whole done after within (Brackets at) f t p is late =
    let b = bracket_at done after within f in
    omega (arith, late.bracket (length done) b, b.within)
none_whole done after within (Parts at) f t p is late =
    let b = part_at done after within f in
    omega (arith, late.part (length done) b, b.within)
none_whole done after within (Scale fault) f t p is late = f

-- a text that a plain reading refused, with every run before that place read by the scale
pub blamed_plain : {S : Type 0} (written : S → List ℕ) (text : List ℕ) (e : TextFault) → Sized text → ((k : ℕ) → UnreadAt written text k → halt e ≤ k) → Fails text e → Blamed written text e
blamed_plain written text e sized late f =
    subst (λ (l : List ℕ). Blamed written l e) (sym f.read)
    (blamed_here f.done f.after f.within written (subst Sized f.read sized)
    (λ k u. subst (λ (n : ℕ). n ≤ k) f.place (late k (subst (λ (l : List ℕ). UnreadAt written l k) (sym f.read) u)))
    e f.place f.found)

-- and no formula that a rule can have is the whole of it
pub no_whole : (text : List ℕ) (e : TextFault) → Fails text e → NoWhole text
no_whole text e f t p deep few is =
    none_whole f.done f.after f.within e f.found t p (sym is ∙ f.read)
    (subst (λ (l : List ℕ). Late l (length l)) f.read (late_spelled text t p deep few (sym is)))
