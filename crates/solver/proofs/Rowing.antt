-- A row of lists grows by one list after another. Assumes nothing.
use Rattle.std.proofs.Common.{◌≡◌, ℕ, ◌+◌, ◌<◌, ◌≤◌, Bool, true, false, List, [], ◌∷◌, length, get_or, take, set, is_err, Ok, Err, sym, refl, ap, ◌∙◌, arith}
use Rattle.std.proofs.lemmas.List.{get_or-take, length-take-le, take_more_set}
use Rattle.formula.specs.declared.parts.Part.{Part}
use Rattle.solver.specs.declared.steps.Step.{Step}
use Rattle.solver.specs.declared.steps.Step.TheVariants.{Bound, Everything, Nothing, Same, Join, Meet, Later}
use Rattle.solver.specs.declared.steps.Outlook.{Outlook}
use Rattle.solver.specs.declared.steps.Outlook.TheVariants.{Next, Eventually, Always, Until, WeakUntil}
use Rattle.domain.specs.Added.{Boxes, Outcome, and_then, joined, met}
use Rattle.solver.specs.Derived.{Row, row_from, settle, then_row}
use Rattle.solver.specs.Labels.{at, foreseen, labelled}
use Rattle.solver.specs.Steps.{outlook_span, span, step_for}

-- two rows with the same lists of the first n parts
abbrev pub Alike : {S : Type 0} → ℕ → List (Boxes S) → List (Boxes S) → Type 0
Alike n as' bs = (i : ℕ) → i < n → at as' i ≡ at bs i

module _ {S : Type 0} (rank : S → ℕ) (number : ℕ) where
  -- a step sees only the lists of the parts that it names, and its own at the next point
  foreseen_alike : (here here' next next' : List (Boxes S)) (k n : ℕ) → Alike k here here' → Alike n next next' → (o : Outlook) → outlook_span o ≤ k → k ≤ n → number < n → foreseen rank here next number o ≡ foreseen rank here' next' number o
  foreseen_alike here here' next next' k n h g (Next a) s w m = ap Ok (g a (omega arith))
  foreseen_alike here here' next next' k n h g (Eventually a) s w m = λ i. joined rank (h a (omega arith) i) (g number m i)
  foreseen_alike here here' next next' k n h g (Always a) s w m = λ i. met rank (h a (omega arith) i) (g number m i)
  foreseen_alike here here' next next' k n h g (Until l r) s w m = λ i. and_then (met rank (g number m i) (h l (omega arith) i)) (λ held. joined rank (h r (omega arith) i) held)
  foreseen_alike here here' next next' k n h g (WeakUntil l r) s w m = λ i. and_then (met rank (h l (omega arith) i) (h r (omega arith) i)) (λ both. and_then (met rank (g number m i) (h l (omega arith) i)) (λ held. joined rank both held))

  pub labelled_alike : (here here' next next' : List (Boxes S)) (k n : ℕ) → Alike k here here' → Alike n next next' → (s : Step S) → span s ≤ k → k ≤ n → number < n → labelled rank here next number s ≡ labelled rank here' next' number s
  labelled_alike here here' next next' k n h g (Bound limit side) s w m = refl
  labelled_alike here here' next next' k n h g Everything s w m = refl
  labelled_alike here here' next next' k n h g Nothing s w m = refl
  labelled_alike here here' next next' k n h g (Same a) s w m = ap Ok (h a (omega arith))
  labelled_alike here here' next next' k n h g (Join l r) s w m = λ i. joined rank (h l (omega arith) i) (h r (omega arith) i)
  labelled_alike here here' next next' k n h g (Meet l r) s w m = λ i. met rank (h l (omega arith) i) (h r (omega arith) i)
  labelled_alike here here' next next' k n h g (Later o) s w m = foreseen_alike here here' next next' k n h g o s w m

pub alike_front : {S : Type 0} (k : ℕ) (lists : List (Boxes S)) → Alike k (take k lists) lists
alike_front k lists i h = get_or-take k lists i [] h

pub alike_same : {S : Type 0} (n : ℕ) (lists : List (Boxes S)) → Alike n lists lists
alike_same n lists i h = refl

module _ {S : Type 0} (rank : S → ℕ) (marks : ℕ → ℕ → S) (points : ℕ) (signs : List Bool) (point : ℕ) (next : List (Boxes S)) where
  -- the row with the list of one part more
  pub row_goes : (all : Row S) (lists after : List (Boxes S)) (k : ℕ) (p : Part S) (ps : List (Part S)) (s : Step S) (xs : Boxes S) → all ≡ row_from rank marks points signs point next (p ∷ ps) (take k lists) → s ≡ step_for rank marks points point (get_or signs k false) p → span s ≤ k → k < length lists → labelled rank lists next k s ≡ Ok xs → after ≡ set lists k xs → all ≡ row_from rank marks points signs point next ps (take (k + 1) after)
  row_goes all lists after k p ps s xs e step narrow within ends put =
      let here = take k lists in
      let long : length here ≡ k = length-take-le k lists (omega arith) in
      let same : labelled rank here next k s ≡ labelled rank lists next k s = labelled_alike rank k here lists next next k (k + 1) (alike_front k lists) (alike_same (k + 1) next) s narrow (omega arith) (omega arith) in
      e
      ∙ ap (λ n. then_row (settle here (labelled rank here next n (step_for rank marks points point (get_or signs n false) p))) (row_from rank marks points signs point next ps)) long
      ∙ ap (λ t. then_row (settle here (labelled rank here next k t)) (row_from rank marks points signs point next ps)) (sym step)
      ∙ ap (λ o. then_row (settle here o) (row_from rank marks points signs point next ps)) (same ∙ ends)
      ∙ ap (row_from rank marks points signs point next ps) (sym (take_more_set lists k xs within) ∙ ap (take (k + 1)) (sym put))

  stopped : (here : List (Boxes S)) (ps : List (Part S)) (o : Outcome S) → is_err o ≡ true → then_row (settle here o) (row_from rank marks points signs point next ps) ≡ Err (length here)
  stopped here ps (Ok xs) e = let z : ◌≡◌ {A = ℕ} 0 1 = cc in absurd (omega arith)
  stopped here ps (Err xs) e = refl

  pub row_stops : (all : Row S) (lists : List (Boxes S)) (k : ℕ) (p : Part S) (ps : List (Part S)) (s : Step S) → all ≡ row_from rank marks points signs point next (p ∷ ps) (take k lists) → s ≡ step_for rank marks points point (get_or signs k false) p → span s ≤ k → k < length lists → is_err (labelled rank lists next k s) ≡ true → all ≡ Err k
  row_stops all lists k p ps s e step narrow within err =
      let here = take k lists in
      let long : length here ≡ k = length-take-le k lists (omega arith) in
      let same : labelled rank here next k s ≡ labelled rank lists next k s = labelled_alike rank k here lists next next k (k + 1) (alike_front k lists) (alike_same (k + 1) next) s narrow (omega arith) (omega arith) in
      e
      ∙ ap (λ n. then_row (settle here (labelled rank here next n (step_for rank marks points point (get_or signs n false) p))) (row_from rank marks points signs point next ps)) long
      ∙ ap (λ t. then_row (settle here (labelled rank here next k t)) (row_from rank marks points signs point next ps)) (sym step)
      ∙ stopped here ps (labelled rank here next k s) (ap is_err same ∙ err)
      ∙ ap Err long
