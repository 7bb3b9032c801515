-- The derived list covers exactly the limits with which the formula is true. Assumes nothing.
use Rattle.std.proofs.Common.{◌≡◌, ℕ, zero, suc, ◌+◌, ◌-◌, ◌^◌, ◌<◌, ◌≤◌, Bool, false, cond, eqb, List, [], ◌∷◌, ◌++◌, length, get_or, Ok, Err, sym, refl, ap, ◌∙◌, subst, append-nil, arith, eqb-true}
use borrow.Author.Tests.{eqb-false}
use lib.Seq.{get_or-append_seam}
use Rattle.std.proofs.lemmas.List.{get_or_append_left, length_push}
use Rattle.formula.specs.declared.parts.LimitName.{LimitName}
use Rattle.formula.specs.declared.parts.Part.{Part}
use Rattle.formula.specs.Orders.{Ordered}
use Rattle.formula.specs.Trees.{Tree, numbered, root}
use Rattle.domain.specs.Added.{Boxes, Outcome}
use Rattle.domain.specs.Covering.{Covered}
use Rattle.solver.specs.Derived.{Row, Rows, derived, row_from, rows_back, settle, then_row, then_rows, told, whole_of}
use Rattle.solver.specs.Labels.{at, labelled}
use Rattle.solver.specs.Signs.{part_signs}
use Rattle.solver.specs.Steps.{settled, step_for, step_of}
use Rattle.solver.specs.Truth.{Exactly, Holds, choice_of, on_path}
use Rattle.solver.proofs.Descending.{Within, within}
use Rattle.solver.proofs.Reaching.{step_reach}
use Rattle.solver.proofs.Rowing.{Alike, alike_same, labelled_alike}
use Rattle.solver.proofs.Standing.{numbered_length, signs_stand, stands}
use Rattle.solver.proofs.Telling.{Tells}
use Rattle.solver.proofs.Truly.{TrueRow, row_tells}

settle_ok : {S : Type 0} (here : List (Boxes S)) (o : Outcome S) (f : List (Boxes S) → Row S) (row : List (Boxes S)) → then_row (settle here o) f ≡ Ok row → (xs : Boxes S) × (o ≡ Ok xs) × (f (here ++ (xs ∷ [])) ≡ Ok row)
settle_ok here (Ok xs) f row e = (xs, refl, e)
settle_ok here (Err xs) f row e = let z : ◌≡◌ {A = ℕ} 0 1 = cc in absurd (omega arith)

told_ok : {S : Type 0} (point : ℕ) (r : Row S) (row : List (Boxes S)) → told point r ≡ Ok row → r ≡ Ok row
told_ok point (Ok xs) row e = let same : xs ≡ row = cc in ap Ok same
told_ok point (Err k) row e = let z : ◌≡◌ {A = ℕ} 0 1 = cc in absurd (omega arith)

rows_ok : {S : Type 0} (r : Rows S) (f : List (Boxes S) → Rows S) (row : List (Boxes S)) → then_rows r f ≡ Ok row → (next : List (Boxes S)) × (r ≡ Ok next) × (f next ≡ Ok row)
rows_ok (Ok next) f row e = (next, refl, e)
rows_ok (Err k) f row e = let z : ◌≡◌ {A = ℕ} 0 1 = cc in absurd (omega arith)

whole_ok : {S : Type 0} (count : ℕ) (r : Rows S) (xs : Boxes S) → whole_of count r ≡ Ok xs → (row : List (Boxes S)) × (r ≡ Ok row) × (at row (count - 1) ≡ xs)
whole_ok count (Ok row) xs e = (row, refl, cc)
whole_ok count (Err k) xs e = let z : ◌≡◌ {A = ℕ} 0 1 = cc in absurd (omega arith)

module _ {S : Type 0} (rank : S → ℕ) (marks : ℕ → ℕ → S) (points : ℕ) (signs : List Bool) (point : ℕ) (next : List (Boxes S)) where
  -- each list of a row is made from the row itself
  pub record Made (here row : List (Boxes S)) (ps : List (Part S)) : Type 0 where
    pub front : Alike (length here) here row
    pub each : (i : ℕ) (d : Part S) → i < length ps → labelled rank row next (length here + i) (step_for rank marks points point (get_or signs (length here + i) false) (get_or ps i d)) ≡ Ok (at row (length here + i))

  row_made : (ps : List (Part S)) (here row : List (Boxes S)) → Within (length here) ps → row_from rank marks points signs point next ps here ≡ Ok row → Made here row ps
  row_made [] here row w e = let same : here ≡ row = cc in record { front = λ i lt. ap (λ l. at l i) same; each = λ i d lt. absurd (omega arith) }
  row_made (p ∷ ps) here row w e =
      let k = length here in
      let step = step_for rank marks points point (get_or signs k false) p in
      let one = settle_ok here (labelled rank here next k step) (row_from rank marks points signs point next ps) row e in
      let longer = here ++ (one.0 ∷ []) in
      let long = length_push here one.0 in
      let rest = row_made ps longer row (subst (λ m. Within m ps) (sym long) w.1) one.2 in
      let front : Alike k here row = λ i lt. sym (get_or_append_left here (one.0 ∷ []) [] i lt) ∙ rest.front i (omega arith) in
      let own : at row k ≡ one.0 = sym (rest.front k (omega arith)) ∙ get_or-append_seam here one.0 [] [] in
      let first : labelled rank row next k step ≡ Ok (at row k) = sym (labelled_alike rank k here row next next k (k + 1) front (alike_same (k + 1) next) step (omega (arith, w.0, step_reach rank marks points point (get_or signs k false) p)) (omega arith) (omega arith)) ∙ one.1 ∙ ap Ok (sym own) in
      record {
        front = front;
        each = λ (i : ℕ) (d : Part S) lt. elim i as (λ i. i < length (p ∷ ps) → labelled rank row next (k + i) (step_for rank marks points point (get_or signs (k + i) false) (get_or (p ∷ ps) i d)) ≡ Ok (at row (k + i))) [ zero ↦ λ lt. subst (λ m. labelled rank row next m (step_for rank marks points point (get_or signs m false) p) ≡ Ok (at row m)) (omega arith) first | suc j ↦ λ lt. subst (λ m. labelled rank row next m (step_for rank marks points point (get_or signs m false) (get_or ps j d)) ≡ Ok (at row m)) (omega (arith, long)) (rest.each j d (omega arith)) ] lt;
      }

module _ {S : Type 0} (rank : S → ℕ) (fits : (m : S) → rank m < 2 ^ 32) (marks : ℕ → ℕ → S) (points : ℕ) (limits : LimitName → S) (parts : List (Part S)) (ordered : Ordered parts) where
  -- a row is true at its point, if the row of the next point is true there
  row_true : (point : ℕ) (row next : List (Boxes S)) → point < points → row_from rank marks points (part_signs parts) point next parts [] ≡ Ok row → (point + 1 < points → TrueRow rank fits marks points limits parts (part_signs parts) (point + 1) next) → TrueRow rank fits marks points limits parts (part_signs parts) point row
  row_true point row next lt e ahead =
      let signs = part_signs parts in
      let made = row_made rank marks points signs point next parts [] row (within parts ordered) e in
      let here : on_path rank marks points limits point ≡ point = omega arith in
      row_tells rank fits marks points limits parts signs point (eqb (point + 1) points) row next
      (λ last. omega (arith, eqb-true (point + 1) points last))
      (λ more. ahead (omega (arith, eqb-false (point + 1) points more)))
      (λ k turned p has sign.
      ap (λ x. let s = step_of rank (marks x) turned p in labelled rank row next k (cond (eqb (point + 1) points) (settled s) s)) here
      ∙ ap (λ b. labelled rank row next k (step_for rank marks points point b p)) (sym sign)
      ∙ ap (λ q. labelled rank row next k (step_for rank marks points point (get_or signs k false) q)) (sym (has.is p))
      ∙ subst (λ m. labelled rank row next m (step_for rank marks points point (get_or signs m false) (get_or parts k p)) ≡ Ok (at row m)) (omega arith) (made.each k p has.within))

  rows_true : (d : ℕ) (row : List (Boxes S)) → d < points → rows_back rank marks points parts d ≡ Ok row → TrueRow rank fits marks points limits parts (part_signs parts) (points - 1 - d) row
  rows_true zero row lt e = subst (λ i. TrueRow rank fits marks points limits parts (part_signs parts) i row) (omega arith) (row_true (points - 1) row [] (omega arith) (told_ok (points - 1) _ row e) (λ more. absurd (omega arith)))
  rows_true (suc d) row lt e =
      let point = points - 1 - suc d in
      let after = rows_ok (rows_back rank marks points parts d) (λ next. told point (row_from rank marks points (part_signs parts) point next parts [])) row e in
      let up : points - 1 - d ≡ point + 1 = omega arith in
      row_true point row after.0 (omega arith) (told_ok point _ row after.2) (λ more. subst (λ i. TrueRow rank fits marks points limits parts (part_signs parts) i after.0) up (rows_true d after.0 (omega arith) after.1))

  -- the derived list of a formula covers exactly the limits with which it is true
  pub derived_true : (t : Tree S) (point : ℕ) (xs : Boxes S) → parts ≡ numbered 0 t → length parts ≤ 24 → point < points → derived rank marks points parts point ≡ Ok xs → Exactly (Covered rank (choice_of limits) xs) (Holds rank marks points limits t point)
  derived_true t point xs e few lt o =
      let d = points - 1 - point in
      let whole = whole_ok (length parts) (rows_back rank marks points parts d) xs o in
      let there : points - 1 - d ≡ point = omega arith in
      let top : root 0 t ≡ length parts - 1 = omega (arith, ap length e, numbered_length 0 t) in
      let list : at whole.0 (root 0 t) ≡ xs = ap (at whole.0) top ∙ whole.2 in
      let told = rows_true d whole.0 (omega arith) whole.1 t 0 false (stands t 0 parts [] [] (e ∙ sym (append-nil (numbered 0 t))) refl) (signs_stand t parts e few) in
      let is = subst (λ l. Tells rank fits limits l (Holds rank marks points limits t point)) list (subst (λ i. Tells rank fits limits (at whole.0 (root 0 t)) (Holds rank marks points limits t i)) there told) in
      (is.out, is.back)
