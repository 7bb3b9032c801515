-- From the reading of a text and of its runs to the fault that it has.
use Rattle.std.proofs.Common.{◌≡◌, ℕ, ◌<◌, ◌≤◌, List, [], length, IfOk, IfErr, Ok, Err, Result, sym, refl, ap, ◌∙◌, subst, inl, inr, ⊎_elim, zero-le, arith, MatchResult}
use Rattle.std.proofs.lemmas.Bool.{cases_lt}
use Rattle.scale.specs.declared.faults.ScaleFault.{ScaleFault}
use Rattle.scale.specs.declared.faults.ScaleFault.TheVariants.{Unread, NoMark}
use Rattle.formula.specs.declared.parts.Part.{Part}
use Rattle.formula.specs.Trees.{map_tree}
use Rattle.text.specs.declared.faults.TextFault.{TextFault}
use Rattle.text.specs.declared.faults.TextFault.TheVariants.{Length, Form, Brackets, Parts, Scale}
use Rattle.reader.specs.declared.readers.Run.{Run}
use Rattle.reader.specs.Blame.{Blamed, BlamedOnly, Faultless, Faulty, NoLater, placed, UnreadAt}
use Rattle.reader.specs.Codings.{AllCoded, FirstUnread}
use Rattle.text.specs.Faults.{text_number}
use Rattle.reader.specs.Fronts.{NoWhole}
use Rattle.reader.specs.Halts.{Fails, halt}
use Rattle.reader.specs.Reads.{Spelt}
use Rattle.reader.specs.Sayings.{Refuses, Sized}
use Rattle.reader.specs.Runs.{bytes_in}
use Rattle.reader.specs.Told.{operands_of, Tells, TellOf}
use Rattle.reader.proofs.Absent.{front_proper, size_mapped}
use Rattle.reader.proofs.Blaming.{blamed_plain, Late, late_refused, late_spelled, no_whole}
use Rattle.reader.proofs.Only.{written_out}
use Rattle.reader.proofs.Refusing.{blamed_refuses}
use Rattle.rule.proofs.Unread.{all_coded, first_unread_run, told_coded}
use Rattle.reader.proofs.Unsaid.{depth_mapped}

-- a fault is told by its place and its number
same_fault : {S : Type 0} (written : S → List ℕ) (text : List ℕ) (e f : TextFault) → Faulty written text e → Faulty written text f → placed e ≡ placed f → text_number e ≡ text_number f → f ≡ e
same_fault written text Length Length h g place number = refl
same_fault written text Length (Form k) h g place number = absurd (omega arith)
same_fault written text Length (Brackets k) h g place number = absurd (omega arith)
same_fault written text Length (Parts k) h g place number = absurd (omega arith)
same_fault written text Length (Scale (Unread k)) h g place number = absurd (omega arith)
same_fault written text Length (Scale NoMark) h g place number = absurd g
same_fault written text (Form i) Length h g place number = absurd (omega arith)
same_fault written text (Form i) (Form k) h g place number = ap (λ (n : ℕ). Form n) (sym place)
same_fault written text (Form i) (Brackets k) h g place number = absurd (omega arith)
same_fault written text (Form i) (Parts k) h g place number = absurd (omega arith)
same_fault written text (Form i) (Scale (Unread k)) h g place number = absurd (omega arith)
same_fault written text (Form i) (Scale NoMark) h g place number = absurd g
same_fault written text (Brackets i) Length h g place number = absurd (omega arith)
same_fault written text (Brackets i) (Form k) h g place number = absurd (omega arith)
same_fault written text (Brackets i) (Brackets k) h g place number = ap (λ (n : ℕ). Brackets n) (sym place)
same_fault written text (Brackets i) (Parts k) h g place number = absurd (omega arith)
same_fault written text (Brackets i) (Scale (Unread k)) h g place number = absurd (omega arith)
same_fault written text (Brackets i) (Scale NoMark) h g place number = absurd g
same_fault written text (Parts i) Length h g place number = absurd (omega arith)
same_fault written text (Parts i) (Form k) h g place number = absurd (omega arith)
same_fault written text (Parts i) (Brackets k) h g place number = absurd (omega arith)
same_fault written text (Parts i) (Parts k) h g place number = ap (λ (n : ℕ). Parts n) (sym place)
same_fault written text (Parts i) (Scale (Unread k)) h g place number = absurd (omega arith)
same_fault written text (Parts i) (Scale NoMark) h g place number = absurd g
same_fault written text (Scale (Unread i)) Length h g place number = absurd (omega arith)
same_fault written text (Scale (Unread i)) (Form k) h g place number = absurd (omega arith)
same_fault written text (Scale (Unread i)) (Brackets k) h g place number = absurd (omega arith)
same_fault written text (Scale (Unread i)) (Parts k) h g place number = absurd (omega arith)
same_fault written text (Scale (Unread i)) (Scale (Unread k)) h g place number = ap (λ (n : ℕ). Scale (Unread n)) (sym place)
same_fault written text (Scale (Unread i)) (Scale NoMark) h g place number = absurd g
same_fault written text (Scale NoMark) Length h g place number = absurd h
same_fault written text (Scale NoMark) (Form k) h g place number = absurd h
same_fault written text (Scale NoMark) (Brackets k) h g place number = absurd h
same_fault written text (Scale NoMark) (Parts k) h g place number = absurd h
same_fault written text (Scale NoMark) (Scale (Unread k)) h g place number = absurd h
same_fault written text (Scale NoMark) (Scale NoMark) h g place number = absurd h

no_later_both : (e f : TextFault) → NoLater e f → NoLater f e → (placed e ≡ placed f) × (text_number e ≡ text_number f)
no_later_both e f a b =
    ⊎_elim
    (λ x. ⊎_elim (λ y. absurd (omega (arith, x, y))) (λ y. absurd (omega (arith, x, y.0))) b)
    (λ x. ⊎_elim (λ y. absurd (omega (arith, x.0, y))) (λ y. (x.0, omega (arith, x.1, y.1))) b)
    a

pub blamed_only : {S : Type 0} (written : S → List ℕ) (text : List ℕ) (e : TextFault) → Blamed written text e → BlamedOnly written text e
blamed_only written text e b =
    record {
      blamed = b;
      only = λ f c.
          let both = no_later_both e f (b.first f c.faulty) (c.first e b.faulty) in
          same_fault written text e f b.faulty c.faulty both.0 both.1;
    }

-- a text that was read whole
late_spelt : (text : List ℕ) (draft : List (Part Run)) → Spelt text draft → Late text (length text)
late_spelt text draft s =
    let t = s.tree in
    late_spelled text (map_tree (bytes_in text) t) (front_proper text t s.formed) (omega (arith, depth_mapped (bytes_in text) t, s.shallow)) (omega (arith, size_mapped (bytes_in text) t, s.few)) (written_out (λ _. 0) (bytes_in text) t ∙ s.spelled)

-- parts from the start on tell of every run
told_all : (text : List ℕ) (t : ℕ) (draft : List (Part Run)) → Tells text 0 t [] draft → TellOf text 0 t (operands_of draft)
told_all text t draft r = subst (λ (l : List (Part Run)). TellOf text 0 t (operands_of l)) (sym r.added) r.told

-- a fault of length comes before all others
length_first : {S : Type 0} (written : S → List ℕ) (text : List ℕ) (f : TextFault) → Faulty written text f → 1 ≤ text_number f
length_first written text Length h = omega arith
length_first written text (Form k) h = omega arith
length_first written text (Brackets k) h = omega arith
length_first written text (Parts k) h = omega arith
length_first written text (Scale (Unread k)) h = omega arith
length_first written text (Scale NoMark) h = absurd h

pub blamed_length : {S : Type 0} (written : S → List ℕ) (text : List ℕ) → (Sized text → ⊥) → BlamedOnly written text Length
blamed_length written text none =
    blamed_only written text Length
    (record {
      faulty = none;
      first = λ f h.
          ⊎_elim
          (λ (x : 0 < placed f). inl x)
          (λ (x : placed f ≤ 0). inr (omega arith, length_first written text f h))
          (cases_lt 0 (placed f));
    })

module _ {S : Type 0} (code : S → ℕ) (written : S → List ℕ) (text : List ℕ) (sized : Sized text) where
  -- the first run that no mark is written as, before any other fault
  scale_first : (t place : ℕ) (fault : ScaleFault) → Late text t → fault ≡ Unread place → place < t → ((k : ℕ) → UnreadAt written text k → place ≤ k) → (f : TextFault) → Faulty written text f → NoLater (Scale (Unread place)) f
  scale_first t place fault late is high least Length h = absurd (h sized)
  scale_first t place fault late is high least (Form k) h = inl (omega (arith, late.form k h))
  scale_first t place fault late is high least (Brackets k) h = inl (omega (arith, late.bracket k h))
  scale_first t place fault late is high least (Parts k) h = inl (omega (arith, late.part k h))
  scale_first t place fault late is high least (Scale (Unread k)) h =
      let low = least k h in
      ⊎_elim (λ (x : place < k). inl x) (λ (x : k ≤ place). inr (omega arith, omega arith)) (cases_lt place k)
  scale_first t place fault late is high least (Scale NoMark) h = absurd h

  blamed_scale : (t : ℕ) (draft : List (Part Run)) (fault : ScaleFault) → Late text t → Tells text 0 t [] draft → FirstUnread code written text draft fault → Blamed written text (Scale fault)
  blamed_scale t draft fault late told f =
      let r = first_unread_run code written text draft t fault f (told_all text t draft told) in
      subst (λ (e : ScaleFault). Blamed written text (Scale e)) (sym r.blamed)
      (record {
        faulty = r.unread;
        first = scale_first t r.place fault late r.blamed r.high (λ k u. r.least k zero-le u);
      })

  -- some run is the text of no mark, whether or not the rest of the text was read
  judged_unread : {X : Type 0} (r : Result X TextFault) (draft : List (Part Run)) (fault : ScaleFault) → MatchResult r (λ _. Tells text 0 (length text) [] draft) (λ e. Tells text 0 (halt e) [] draft) → IfErr r (Fails text) → IfOk r (λ _. Spelt text draft) → FirstUnread code written text draft fault → BlamedOnly written text (Scale fault)
  judged_unread (Ok x) draft fault told fails spelt f = blamed_only written text (Scale fault) (blamed_scale (length text) draft fault (late_spelt text draft spelt) told f)
  judged_unread (Err e) draft fault told fails spelt f = blamed_only written text (Scale fault) (blamed_scale (halt e) draft fault (late_refused text e fails) told f)

  -- every run is the text of a mark
  module _ (draft : List (Part Run)) (out : List (Part ℕ)) (coded : AllCoded code written text draft out) where
    read_before : (t : ℕ) → Tells text 0 t [] draft → (k : ℕ) → UnreadAt written text k → t ≤ k
    read_before t told k u =
        ⊎_elim
        (λ (h : k < t). absurd (told_coded code written text draft 0 t (told_all text t draft told) (all_coded code written text draft out coded) k zero-le h u))
        (λ (h : t ≤ k). h)
        (cases_lt k t)

    faultless : Tells text 0 (length text) [] draft → Spelt text draft → Faultless written text
    faultless told s Length h = h sized
    faultless told s (Form k) h =
        let t = s.tree in
        h.unspelled (map_tree (bytes_in text) t) (front_proper text t s.formed) (written_out (λ _. 0) (bytes_in text) t ∙ s.spelled)
    faultless told s (Brackets k) h = omega (arith, (late_spelt text draft s).bracket k h, h.within)
    faultless told s (Parts k) h = omega (arith, (late_spelt text draft s).part k h, h.within)
    faultless told s (Scale (Unread k)) h = omega (arith, read_before (length text) told k h, h.starts, h.runs.some, h.runs.within)
    faultless told s (Scale NoMark) h = h

    judged_read : {X : Type 0} (r : Result X TextFault) (G M : Type 0) → MatchResult r (λ _. Tells text 0 (length text) [] draft) (λ e. Tells text 0 (halt e) [] draft) → IfErr r (Fails text) → IfOk r (λ _. Spelt text draft) → (Spelt text draft → G) → (NoWhole text → M) → MatchResult r (λ _. G × Faultless written text) (λ e. BlamedOnly written text e × M)
    judged_read (Ok x) G M told fails s f g = (f s, faultless told s)
    judged_read (Err e) G M told fails s f g = (blamed_only written text e (blamed_plain written text e sized (read_before (halt e) told) fails), g (no_whole text e fails))

  -- whichever comes first
  pub judged : {X Y : Type 0} (told_of : Result Y ScaleFault) (form r : Result X TextFault) (draft : List (Part Run)) (out : List (Part ℕ)) (G M : Type 0) → MatchResult told_of (λ _. AllCoded code written text draft out) (FirstUnread code written text draft) → MatchResult told_of (λ _. r ≡ form) (λ fault. r ≡ Err (Scale fault)) → MatchResult form (λ _. Tells text 0 (length text) [] draft) (λ e. Tells text 0 (halt e) [] draft) → IfErr form (Fails text) → IfOk form (λ _. Spelt text draft) → (AllCoded code written text draft out → Spelt text draft → G) → (NoWhole text → M) → ((fault : ScaleFault) → FirstUnread code written text draft fault → M) → MatchResult r (λ _. G × Faultless written text) (λ e. BlamedOnly written text e × M)
  judged {X} (Ok y) form r draft out G M coded is told fails spelt f g h =
      subst (λ (x : Result X TextFault). MatchResult x (λ _. G × Faultless written text) (λ e. BlamedOnly written text e × M)) (sym is)
      (judged_read draft out coded form G M told fails spelt (f coded) g)
  judged {X} (Err fault) form r draft out G M unread is told fails spelt f g h =
      subst (λ (x : Result X TextFault). MatchResult x (λ _. G × Faultless written text) (λ e. BlamedOnly written text e × M)) (sym is)
      (judged_unread form draft fault told fails spelt unread, h fault unread)

-- what a result says of the text, and which fault it tells
module _ {S : Type 0} (code : S → ℕ) (written : S → List ℕ) (text : List ℕ) where
  pub record Apart {X : Type 0} (r : Result X TextFault) (G M : Type 0) : Type 0 where
    pub cases : MatchResult r (λ _. G) (λ e. Refuses code written text e × M)
    pub blamed : MatchResult r (λ _. Faultless written text) (λ e. BlamedOnly written text e)

  pub apart : {X : Type 0} (r : Result X TextFault) (G M : Type 0) → MatchResult r (λ _. G × Faultless written text) (λ e. BlamedOnly written text e × M) → Apart r G M
  apart (Ok x) G M h = record { cases = h.0; blamed = h.1 }
  apart (Err e) G M h = record { cases = (blamed_refuses code written text e h.0, h.1); blamed = h.0 }
