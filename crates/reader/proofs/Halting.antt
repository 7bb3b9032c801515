-- Where a reading halts, from what was read before and what was found.
use Rattle.std.proofs.Common.{◌≡◌, ℕ, ◌+◌, true, List, [], ◌∷◌, ◌++◌, IfErr, Ok, Err, Result, sym, refl, ap, ◌∙◌, subst, append_assoc, arith, length-append}
use Rattle.text.specs.declared.faults.TextFault.{TextFault}
use Rattle.text.specs.declared.faults.TextFault.TheVariants.{Length, Form, Brackets, Parts, Scale}
use Rattle.reader.specs.declared.readers.Cursor.{Cursor}
use Rattle.reader.specs.Blame.{Begun}
use Rattle.reader.specs.Counts.{meets, met_in}
use Rattle.reader.specs.Cursors.{Ahead, Passes, rest}
use Rattle.reader.specs.Halts.{first_only, Found, Halts, last_of, left_by, Within}
use Rattle.reader.specs.Fronts.{NoFront}
use Rattle.reader.proofs.Alike.{first_in_both, passed_at}
use Rattle.reader.proofs.Walks.{Clear, last_both, left_both, met_both, within_both}

-- a refusal that is passed on
pub refused_as : {X E : Type 0} (r : Result X E) (e e' : E) (G : E → Type 0) → r ≡ Err e' → e' ≡ e → G e → IfErr r G
refused_as {X} {E} r e e' G is same h = subst (λ (x : Result X E). IfErr x G) (sym (is ∙ ap (λ (y : E). Err y) same)) h

-- a refusal with any number of brackets left is one with so many
pub each_refused : {X E : Type 0} (r : Result X E) (k : ℕ) (G : ℕ → E → Type 0) → IfErr r (λ e. (n : ℕ) → G n e) → IfErr r (G k)
each_refused (Ok x) k G h = tt
each_refused (Err e) k G h = h k

-- nothing was read
pub stays : (a : Cursor) → Passes a a [] 0
stays a = record { same = refl; over = refl; counts = omega arith }

-- the next byte, or the end, does not fit
pub halts_form : (a d : Cursor) (x : List ℕ) (n left : ℕ) (e : TextFault) → Passes a d x n → Within left a.met 40 x → e ≡ Form d.at → Begun x → ((w : List ℕ) → first_only w ≡ first_only (rest d) → NoFront (x ++ w)) → Halts a left e
halts_form a d x n left e p within is begun stuck =
    subst (Halts a left) (sym is)
    (record { done = x; after = rest d; read = p.over; place = passed_at p; within = within; found = record { begun = begun; stuck = stuck } })

pub halts_brackets : (a d : Cursor) (x : List ℕ) (n left met : ℕ) (e : TextFault) → Passes a d x n → Clear left a.met 40 x 0 met → e ≡ Brackets d.at → Ahead d 40 → Begun (x ++ 40 ∷ []) → Halts a left e
halts_brackets a d x n left met e p c is ahead begun =
    subst (Halts a left) (sym is)
    (record {
      done = x;
      after = rest d;
      read = p.over;
      place = passed_at p;
      within = c.within;
      found = record { next = ap first_only (first_in_both d 40 ahead).1; begun = begun; none = c.lefts };
    })

pub halts_parts : (a d : Cursor) (x : List ℕ) (n left left' met b : ℕ) (e : TextFault) → Passes a d x n → Clear left a.met 40 x left' met → met ≡ 24 → e ≡ Parts d.at → Ahead d b → Begun (x ++ b ∷ []) → meets (last_of 40 x) b ≡ true → Halts a left e
halts_parts a d x n left left' met b e p c full is ahead begun starts =
    subst (Halts a left) (sym is)
    (record {
      done = x;
      after = rest d;
      read = p.over;
      place = passed_at p;
      within = c.within;
      found = record { byte = b; next = ap first_only (first_in_both d b ahead).1; begun = begun; starts = starts; all = c.mets ∙ full };
    })

-- a formula inside a formula, behind bytes that lead to it
pub record Leads (x : List ℕ) : Type 0 where
  pub opened : last_of 40 x ≡ 40
  pub fill : (d : List ℕ) → Begun d → Begun (x ++ d)
  pub only : (w : List ℕ) → NoFront w → NoFront (x ++ w)

found_behind : (x done after : List ℕ) (left met left' met' : ℕ) (e : TextFault) → Leads x → Clear left met 40 x left' met' → Found NoFront left' met' done after e → Found NoFront left met (x ++ done) after e
found_behind x done after left met left' met' Length l c f = f
found_behind x done after left met left' met' (Form at) l c f =
    record {
      begun = l.fill done f.begun;
      stuck = λ other same. subst NoFront (sym (append_assoc x done other)) (l.only (done ++ other) (f.stuck other same));
    }
found_behind x done after left met left' met' (Brackets at) l c f =
    record {
      next = f.next;
      begun = subst Begun (sym (append_assoc x done (40 ∷ []))) (l.fill (done ++ 40 ∷ []) f.begun);
      none = left_both left x done ∙ (ap (λ (k : ℕ). left_by k done) c.lefts ∙ f.none);
    }
found_behind x done after left met left' met' (Parts at) l c f =
    let b = f.byte in
    let same : last_of 40 (x ++ done) ≡ last_of 40 done = last_both 40 x done ∙ ap (λ (k : ℕ). last_of k done) l.opened in
    let counted : met_in 40 (x ++ done) ≡ met_in 40 x + met_in 40 done = met_both 40 x done ∙ ap (λ (k : ℕ). met_in 40 x + met_in k done) l.opened in
    record {
      byte = b;
      next = f.next;
      begun = subst Begun (sym (append_assoc x done (b ∷ []))) (l.fill (done ++ b ∷ []) f.begun);
      starts = ap (λ (k : ℕ). meets k b) same ∙ f.starts;
      all = omega (arith, counted, c.mets, f.all);
    }
found_behind x done after left met left' met' (Scale fault) l c f = f

pub halts_inside : (a o : Cursor) (x : List ℕ) (n left left' : ℕ) (e : TextFault) → Passes a o x n → Leads x → Clear left a.met 40 x left' o.met → Halts o left' e → Halts a left e
halts_inside a o x n left left' e p l c h =
    let inner : Within left' o.met (last_of 40 x) h.done = subst (λ (k : ℕ). Within left' o.met k h.done) (sym l.opened) h.within in
    let there : Within (left_by left x) (a.met + met_in 40 x) (last_of 40 x) h.done =
    subst (λ (k : ℕ). Within k (a.met + met_in 40 x) (last_of 40 x) h.done) (sym c.lefts)
    (subst (λ (k : ℕ). Within left' k (last_of 40 x) h.done) (sym c.mets) inner) in
    record {
      done = x ++ h.done;
      after = h.after;
      read = p.over ∙ (ap (λ (l : List ℕ). x ++ l) h.read ∙ sym (append_assoc x h.done h.after));
      place = omega (arith, h.place, passed_at p, length-append x h.done);
      within = within_both left a.met 40 x h.done c.within there;
      found = found_behind x h.done h.after left a.met left' o.met e l c h.found;
    }
