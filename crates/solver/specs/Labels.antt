-- The list of a part at a point, from those of lower parts here and of all parts at the next point. Assumes nothing.
use Rattle.std.specs.Prelude.{◌≡◌, ℕ, true, List, [], ◌∷◌, map, replicate, is_err, Ok, Err, vec_items, Result, Vec, slice_index_or, slice_set}
use Rattle.std.specs.declared.alloc.Global.{Global}
use Rattle.formula.specs.Parts.{limit_index}
use Rattle.domain.specs.declared.lists.Domain.{Domain}
use Rattle.domain.specs.declared.lists.Full.{Full}
use Rattle.solver.specs.declared.solvers.Solver.{Solver}
use Rattle.solver.specs.declared.steps.Step.{Step}
use Rattle.solver.specs.declared.steps.Step.TheVariants.{Bound, Everything, Nothing, Same, Join, Meet, Later}
use Rattle.solver.specs.declared.steps.Outlook.{Outlook}
use Rattle.solver.specs.declared.steps.Outlook.TheVariants.{Next, Eventually, Always, Until, WeakUntil}
use Rattle.domain.specs.Added.{Boxes, Outcome, joined, met, and_then}
use Rattle.domain.specs.Boxes.{full_box}
use Rattle.domain.specs.Listed.{boxes_of}

-- the lists of a row of domains
abbrev pub lists_in : {S : Type 0} → List (Domain S) → List (Boxes S)
lists_in ds = map boxes_of ds

-- the same of a vector of them
abbrev pub row_of : {S : Type 0} → Vec (Domain S) Global → List (Boxes S)
row_of v = lists_in (vec_items v)

-- a solver that holds no box
pub record Idle {S : Type 0} (s : Solver S) : Type 0 where
  pub here : row_of s.here ≡ replicate 24 []
  pub next : row_of s.next ≡ replicate 24 []
  pub work : boxes_of s.scratch.work ≡ []
  pub spare : boxes_of s.scratch.spare ≡ []

-- a call ended with this list, or was stopped
abbrev pub Ends : {S : Type 0} → Result (Unit {0}) Full → Boxes S → Outcome S → Type 0
Ends (Ok _) xs o = o ≡ Ok xs
Ends (Err _) xs o = is_err o ≡ true

-- the list went to its place in the row, or was stopped
abbrev pub Settles : {S : Type 0} → Result (Unit {0}) Full → List (Boxes S) → ℕ → Outcome S → List (Boxes S) → Type 0
Settles {S} (Ok _) lists number o after = (xs : Boxes S) × (o ≡ Ok xs) × (after ≡ slice_set lists number xs)
Settles (Err _) lists number o after = is_err o ≡ true

-- the list of one part, by its number
abbrev pub at : {S : Type 0} → List (Boxes S) → ℕ → Boxes S
at lists i = slice_index_or lists i []

module _ {S : Type 0} (rank : S → ℕ) (here next : List (Boxes S)) (number : ℕ) where
  -- what is to come: the part's own list at the next point, with lists of this point
  abbrev pub foreseen : Outlook → Outcome S
  foreseen (Next a) = Ok (at next a)
  foreseen (Eventually a) = joined rank (at here a) (at next number)
  foreseen (Always a) = met rank (at here a) (at next number)
  foreseen (Until l r) = and_then (met rank (at next number) (at here l)) (λ held. joined rank (at here r) held)
  foreseen (WeakUntil l r) = and_then (met rank (at here l) (at here r)) (λ both. and_then (met rank (at next number) (at here l)) (λ held. joined rank both held))

  abbrev pub labelled : Step S → Outcome S
  labelled (Bound limit side) = Ok (slice_set full_box (limit_index limit) side ∷ [])
  labelled Everything = Ok (full_box ∷ [])
  labelled Nothing = Ok []
  labelled (Same a) = Ok (at here a)
  labelled (Join l r) = joined rank (at here l) (at here r)
  labelled (Meet l r) = met rank (at here l) (at here r)
  labelled (Later outlook) = foreseen outlook
