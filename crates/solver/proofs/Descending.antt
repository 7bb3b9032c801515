-- From the row at one point to the row at the point before it. Assumes nothing.
use Rattle.std.proofs.Common.{◌≡◌, ℕ, zero, suc, ◌+◌, ◌-◌, ◌<◌, ◌≤◌, Bool, false, cond, List, [], ◌∷◌, ◌++◌, length, get_or, take, Ok, Err, sym, refl, ap, ◌∙◌, subst, ⊎_elim, arith, eq-eqb}
use Rattle.std.proofs.lemmas.List.{length_push}
use Rattle.std.proofs.str.Laws.{order}
use Rattle.formula.specs.declared.parts.Part.{Part}
use Rattle.formula.specs.Orders.{Ordered, reach}
use Rattle.solver.specs.declared.solvers.SolveFault.{SolveFault}
use Rattle.solver.specs.declared.solvers.SolveFault.TheVariants.{Full}
use Rattle.solver.specs.declared.steps.Step.{Step}
use Rattle.solver.specs.declared.steps.Step.TheVariants.{Bound, Everything, Nothing, Same, Join, Meet, Later}
use Rattle.domain.specs.Added.{Boxes}
use Rattle.solver.specs.Derived.{Row, row_from, rows_back, settle, then_row, then_rows, told}
use Rattle.solver.specs.Labels.{labelled}
use Rattle.solver.specs.Signs.{part_signs}
use Rattle.solver.specs.Steps.{settled, step_for, step_of}
use Rattle.solver.proofs.Reaching.{step_reach}
use Rattle.solver.proofs.Rowing.{Alike, alike_front, alike_same, labelled_alike}

-- the operands of each part come before it, where the first has the number k
abbrev pub Within : {S : Type 0} → ℕ → List (Part S) → Type 0
Within k [] = Unit {0}
Within k (p ∷ ps) = (reach p ≤ k) × Within (k + 1) ps

within_from : {S : Type 0} (k : ℕ) (ps : List (Part S)) → ((i : ℕ) (d : Part S) → i < length ps → reach (get_or ps i d) ≤ k + i) → Within k ps
within_from k [] h = tt
within_from k (p ∷ ps) h = (omega (arith, h 0 p (omega arith)), within_from (k + 1) ps (λ i d lt. omega (arith, h (suc i) d (omega arith))))

pub within : {S : Type 0} (ps : List (Part S)) → Ordered ps → Within 0 ps
within ps h = within_from 0 ps (λ i d lt. omega (arith, h i d lt))

module _ {S : Type 0} (rank : S → ℕ) where
  -- at the last point nothing is read of the next one
  labelled_last : (here next next' : List (Boxes S)) (k : ℕ) (s : Step S) → labelled rank here next k (settled s) ≡ labelled rank here next' k (settled s)
  labelled_last here next next' k (Bound limit side) = refl
  labelled_last here next next' k Everything = refl
  labelled_last here next next' k Nothing = refl
  labelled_last here next next' k (Same a) = refl
  labelled_last here next next' k (Join l r) = refl
  labelled_last here next next' k (Meet l r) = refl
  labelled_last here next next' k (Later o) = refl

module _ {S : Type 0} (rank : S → ℕ) (marks : ℕ → ℕ → S) (points : ℕ) (signs : List Bool) (point : ℕ) (next next' : List (Boxes S)) where
  module _ (n : ℕ) (same : (here : List (Boxes S)) (k : ℕ) (t : Bool) (p : Part S) → reach p ≤ k → k < n → labelled rank here next k (step_for rank marks points point t p) ≡ labelled rank here next' k (step_for rank marks points point t p)) where
    -- two rows whose lists are made alike are alike
    row_swap : (ps : List (Part S)) (here : List (Boxes S)) → Within (length here) ps → length here + length ps ≤ n → row_from rank marks points signs point next ps here ≡ row_from rank marks points signs point next' ps here
    row_swap [] here w fits = refl
    row_swap (p ∷ ps) here w fits =
        let k = length here in
        let step = step_for rank marks points point (get_or signs k false) p in
        ap (λ o. then_row (settle here o) (row_from rank marks points signs point next ps)) (same here k (get_or signs k false) p w.0 (omega arith))
        ∙ elim (labelled rank here next' k step) as (λ o. then_row (settle here o) (row_from rank marks points signs point next ps) ≡ then_row (settle here o) (row_from rank marks points signs point next' ps)) [ Ok xs ↦ row_swap ps (here ++ (xs ∷ [])) (subst (λ m. Within m ps) (sym (length_push here xs)) w.1) (omega (arith, length_push here xs)) | Err xs ↦ refl ]

  -- the lists of the next point beyond the parts do not matter
  pub row_alike : (ps : List (Part S)) → Ordered ps → Alike (length ps) next next' → row_from rank marks points signs point next ps [] ≡ row_from rank marks points signs point next' ps []
  row_alike ps h alike =
      row_swap (length ps) (λ here k t p reached lt. labelled_alike rank k here here next next' k (length ps) (alike_same k here) alike (step_for rank marks points point t p) (omega (arith, step_reach rank marks points point t p)) (omega arith) lt) ps [] (within ps h) (omega arith)

  -- at the last point they do not matter at all
  pub row_last : (ps : List (Part S)) → Ordered ps → point + 1 ≡ points → row_from rank marks points signs point next ps [] ≡ row_from rank marks points signs point next' ps []
  row_last ps h last =
      row_swap (length ps) (λ here k t p reached lt.
      let s = step_of rank (marks point) t p in
      let is : step_for rank marks points point t p ≡ settled s = ap (λ b. cond b (settled s) s) (eq-eqb (point + 1) points last) in
      ap (labelled rank here next k) is ∙ labelled_last rank here next next' k s ∙ ap (labelled rank here next' k) (sym is)) ps [] (within ps h) (omega arith)

module _ {S : Type 0} (rank : S → ℕ) (marks : ℕ → ℕ → S) (points : ℕ) (parts : List (Part S)) (ordered : Ordered parts) where
  -- what the row at a point comes to, from the lists that stand at the next point, or from any at the last
  pub rows_step : (at : ℕ) (next : List (Boxes S)) → at < points → (at + 1 < points → rows_back rank marks points parts (points - 1 - (at + 1)) ≡ Ok (take (length parts) next)) → rows_back rank marks points parts (points - 1 - at) ≡ told at (row_from rank marks points (part_signs parts) at next parts [])
  rows_step at next lt before =
      let sg = part_signs parts in
      ⊎_elim
      (λ more.
      let d = points - 1 - (at + 1) in
      let up : points - 1 - at ≡ suc d = omega arith in
      let back : points - 1 - suc d ≡ at = omega arith in
      ap (rows_back rank marks points parts) up
      ∙ ap (λ r. then_rows r (λ row. told (points - 1 - suc d) (row_from rank marks points sg (points - 1 - suc d) row parts []))) (before more)
      ∙ ap (λ q. told q (row_from rank marks points sg q (take (length parts) next) parts [])) back
      ∙ ap (told at) (row_alike rank marks points sg at (take (length parts) next) next parts ordered (alike_front (length parts) next)))
      (λ none.
      let last : at + 1 ≡ points = omega arith in
      let first : points - 1 - at ≡ 0 = omega arith in
      let here : points - 1 ≡ at = omega arith in
      ap (rows_back rank marks points parts) first
      ∙ ap (λ q. told q (row_from rank marks points sg q [] parts [])) here
      ∙ ap (told at) (row_last rank marks points sg at [] next parts ordered last))
      (order (at + 1) points)

  -- a row that was stopped stops all rows below it
  pub rows_stop : (d e : ℕ) (fault : SolveFault) → d ≤ e → rows_back rank marks points parts d ≡ Err fault → rows_back rank marks points parts e ≡ Err fault
  rows_stop d zero fault le stop = let same : 0 ≡ d = omega arith in ap (rows_back rank marks points parts) same ∙ stop
  rows_stop d (suc e) fault le stop =
      ⊎_elim
      (λ lt. ap (λ r. then_rows r (λ row. told (points - 1 - suc e) (row_from rank marks points (part_signs parts) (points - 1 - suc e) row parts []))) (rows_stop d e fault (omega arith) stop))
      (λ ge. let same : suc e ≡ d = omega arith in ap (rows_back rank marks points parts) same ∙ stop)
      (order d (suc e))

-- a row that is refused is refused at one of its parts
pub told_stops : {S : Type 0} (point : ℕ) (row : Row S) (fault : SolveFault) → told point row ≡ Err fault → (part : ℕ) × (Full point part ≡ fault)
told_stops point (Ok row) fault e = let z : ◌≡◌ {A = ℕ} 0 1 = cc in absurd (omega arith)
told_stops point (Err part) fault e = (part, cc)
