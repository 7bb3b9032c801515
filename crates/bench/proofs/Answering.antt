-- From lists of boxes to truth: what a bench answers of a solve that stands. Assumes nothing.
use Rattle.std.proofs.Common.{◌≡◌, ℕ, ◌^◌, ◌<◌, ◌≤◌, Bool, List, [], ◌∷◌, map, length, Some, None, vec_items, Decides, Option, Result, refl, subst, arith}
use Rattle.std.specs.Option.{option_map}
use Rattle.scale.specs.Cuts.{Picks}
use Rattle.scale.specs.declared.cuts.Cut.{Cut}
use Rattle.recording.specs.Meaning.{Meaning}
use Rattle.formula.specs.Formulas.{parts_of}
use Rattle.formula.specs.declared.formulas.Formula.{Formula}
use Rattle.formula.specs.declared.parts.LimitName.{LimitName}
use Rattle.formula.specs.Orders.{Ordered}
use Rattle.formula.specs.Trees.{Tree, numbered}
use Rattle.domain.specs.Added.{Boxes}
use Rattle.domain.specs.Covering.{Covered}
use Rattle.domain.specs.Listed.{boxes_of}
use Rattle.domain.specs.Picking.{Finds as Picked, behind, first_picked}
use Rattle.domain.proofs.Picked.{finds, wide_boxes}
use Rattle.solver.specs.Truth.{Exactly, choice_of}
use Rattle.solver.proofs.Completing.{derived_true}
use Rattle.recording.specs.declared.recordings.Recording.{Ghosts as RecordingGhosts}
use Rattle.scale.specs.declared.scales.Scale.{Ghosts as ScaleGhosts}
use Rattle.bench.specs.declared.benches.Bench.{Bench}
use Rattle.bench.specs.declared.faults.BenchFault.{BenchFault}
use Rattle.bench.specs.Asks.{Asks, Finds, three, three_named}
use Rattle.bench.specs.Laws.{AskLaw, AskedOf, FindLaw, FindRight, FoundOf, IfSolved}
use Rattle.bench.specs.Views.{Agrees, TrueAt, View, limits_of, parts_in_force}
use Rattle.bench.specs.Fresh.{Fresh}
use Rattle.bench.proofs.Freshness.{still_fresh}

-- a formula has few parts, by its type
pub few_parts : {K : Type 0} (f : Formula K) → length (parts_of f) ≤ 24
few_parts f = omega (arith, f.few, f.parts.ok.0)

decides_as : (answer : Bool) {A B : Type 0} → Exactly A B → Decides answer A → Decides answer B
decides_as answer e d = (λ y. e.0 (d.0 y), λ b. d.1 (e.1 b))

module _ {S : Type 0} (rank : S → ℕ) (fits : (m : S) → rank m < 2 ^ 32) where
  -- the list that stands covers exactly the limits with which the formula in force is true
  pub covers_truth : (m : Meaning S) (rule : Option (Tree S)) (point : ℕ) (list : Boxes S) → Ordered (parts_in_force rule) → length (parts_in_force rule) ≤ 24 → Fresh rank m (parts_in_force rule) (Some point) list → (limits : LimitName → S) → Exactly (Covered rank (choice_of limits) list) (TrueAt rank m rule (Some point) limits)
  covers_truth m None point list ordered few fresh limits = absurd (omega (arith, (fresh point refl).0))
  covers_truth m (Some t) point list ordered few fresh limits = derived_true rank fits m.mark m.points limits (numbered 0 t) ordered t point list refl few (fresh point refl).1 (fresh point refl).2

  pub ask_of : (m : Meaning S) (rule : Option (Tree S)) (solved : Option ℕ) (list : Boxes S) → Ordered (parts_in_force rule) → length (parts_in_force rule) ≤ 24 → Fresh rank m (parts_in_force rule) solved list → (p q r : Option S) (answer : Result Bool BenchFault) → Asks rank solved list (behind p (behind q (behind r (Some [])))) answer → IfSolved rank solved answer (AskedOf rank (record { told = m; rule = rule; solved = solved }) p q r answer)
  ask_of m rule None list ordered few fresh p q r answer h = h
  ask_of m rule (Some point) list ordered few fresh None q r answer h = h
  ask_of m rule (Some point) list ordered few fresh (Some p) None r answer h = h
  ask_of m rule (Some point) list ordered few fresh (Some p) (Some q) None answer h = h
  ask_of m rule (Some point) list ordered few fresh (Some p) (Some q) (Some r) answer h = (h.0, h.1, decides_as h.0 (covers_truth m rule point list ordered few fresh (limits_of p q r)) h.2)

  found_of : (m : Meaning S) (rule : Option (Tree S)) (point : ℕ) (list : Boxes S) (code : S → ℕ) → ((limits : LimitName → S) → Exactly (Covered rank (choice_of limits) list) (TrueAt rank m rule (Some point) limits)) → (marks : Option (List S)) → Picked rank 3 list marks → (codes : Option (ℕ × ℕ × ℕ)) → three codes ≡ option_map (map code) marks → FoundOf rank code (record { told = m; rule = rule; solved = Some point }) codes
  found_of m rule point list code means None picked None e = λ limits t. picked (choice_of limits) refl ((means limits).1 t)
  found_of m rule point list code means None picked (Some x) e = let z : ◌≡◌ {A = ℕ} 0 1 = cc in absurd (omega arith)
  found_of m rule point list code means (Some ms) picked None e = let z : ◌≡◌ {A = ℕ} 0 1 = cc in absurd (omega arith)
  found_of m rule point list code means (Some []) picked (Some x) e = absurd (omega (arith, picked.0))
  found_of m rule point list code means (Some (a ∷ [])) picked (Some x) e = absurd (omega (arith, picked.0))
  found_of m rule point list code means (Some (a ∷ b ∷ [])) picked (Some x) e = absurd (omega (arith, picked.0))
  found_of m rule point list code means (Some (a ∷ b ∷ c ∷ [])) picked (Some (p, q, r)) e =
      let same : p ∷ q ∷ r ∷ [] ≡ code a ∷ code b ∷ code c ∷ [] = cc in
      let first : code a ≡ p = cc in
      let second : code b ≡ q = cc in
      let third : code c ≡ r = cc in
      (limits_of a b c, first, second, third, (means (limits_of a b c)).0 picked.1)
  found_of m rule point list code means (Some (a ∷ b ∷ c ∷ d ∷ ms)) picked (Some x) e = absurd (omega (arith, picked.0))

  pub find_of : (m : Meaning S) (rule : Option (Tree S)) (solved : Option ℕ) (list : Boxes S) (code : S → ℕ) (picked : Cut S → Cut S → Option S) → Ordered (parts_in_force rule) → length (parts_in_force rule) ≤ 24 → Fresh rank m (parts_in_force rule) solved list → Picked rank 3 list (first_picked picked list) → (answer : Result (Option (ℕ × ℕ × ℕ)) BenchFault) → Finds code picked solved list answer → FindRight rank code (record { told = m; rule = rule; solved = solved }) answer
  find_of m rule None list code picked ordered few fresh right answer h = h
  find_of m rule (Some point) list code picked ordered few fresh right answer h = (h.0, h.1, found_of m rule point list code (covers_truth m rule point list ordered few fresh) (first_picked picked list) right h.0 h.2)

module _ {S R : Type 0} {telling : RecordingGhosts R S} {scale : ScaleGhosts S} (fits : (m : S) → scale.rank m < 2 ^ 32) where
  -- the list of a bench belongs to what the bench stands for
  fresh_of : (v : View S) (b : Bench R S telling scale) → Agrees telling.meaning v b → Fresh scale.rank v.told (parts_in_force v.rule) v.solved (boxes_of b.standing)
  fresh_of v b agrees = still_fresh scale.rank _ _ _ _ _ _ (boxes_of b.standing) agrees.told agrees.rule agrees.solved b.stands

  pub ask_law : (named : ℕ → Option S) (b : Bench R S telling scale) (p q r : ℕ) (answer : Result Bool BenchFault) → Asks scale.rank b.solved (boxes_of b.standing) (three_named named p q r) answer → AskLaw scale.rank telling.meaning named b p q r answer
  ask_law named b p q r answer h v agrees =
      ask_of scale.rank fits v.told v.rule v.solved (boxes_of b.standing) (subst Ordered agrees.rule b.formula.ordered) (subst (λ l. length l ≤ 24) agrees.rule (few_parts b.formula)) (fresh_of v b agrees) (named p) (named q) (named r) answer (subst (λ s. Asks scale.rank s (boxes_of b.standing) (three_named named p q r) answer) agrees.solved h)

  pub find_law : (code : S → ℕ) (picked : Cut S → Cut S → Option S) → ((l u : Cut S) → Picks scale.rank l u (picked l u)) → (b : Bench R S telling scale) (answer : Result (Option (ℕ × ℕ × ℕ)) BenchFault) → Finds code picked b.solved (boxes_of b.standing) answer → FindLaw scale.rank telling.meaning code b answer
  find_law code picked picks b answer h v agrees =
      let list = boxes_of b.standing in
      find_of scale.rank fits v.told v.rule v.solved list code picked (subst Ordered agrees.rule b.formula.ordered) (subst (λ l. length l ≤ 24) agrees.rule (few_parts b.formula)) (fresh_of v b agrees) (finds scale.rank picked picks 3 list (wide_boxes (vec_items b.standing.boxes))) answer (subst (λ s. Finds code picked s list answer) agrees.solved h)
