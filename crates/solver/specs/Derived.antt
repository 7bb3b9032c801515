-- The lists of all parts, from the last point down to the one solved; the first box that would be the 33rd ends it with
-- its point and part. Assumes nothing.
use Rattle.std.specs.Prelude.{◌≡◌, ℕ, zero, suc, ◌-◌, ◌<◌, ◌≤◌, Bool, false, List, [], ◌∷◌, ◌++◌, length, take, Ok, Err, Result, slice_index_or}
use Rattle.formula.specs.declared.parts.Part.{Part}
use Rattle.solver.specs.declared.solvers.SolveFault.{SolveFault}
use Rattle.solver.specs.declared.solvers.SolveFault.TheVariants.{Blank, NoPoint, Full}
use Rattle.domain.specs.Added.{Boxes, Outcome}
use Rattle.solver.specs.Labels.{at, labelled}
use Rattle.solver.specs.Signs.{part_signs}
use Rattle.solver.specs.Steps.{step_for}

-- a row of lists, one for each part, or the part that was stopped
abbrev pub Row : Type 0 → Type 0
Row S = Result (List (Boxes S)) ℕ

module _ {S : Type 0} where
  -- one more list at the end of the row, or the number of its part
  abbrev pub settle : List (Boxes S) → Outcome S → Row S
  settle here (Ok xs) = Ok (here ++ (xs ∷ []))
  settle here (Err _) = Err (length here)

  abbrev pub then_row : Row S → (List (Boxes S) → Row S) → Row S
  then_row (Ok here) f = f here
  then_row (Err part) f = Err part

module _ {S : Type 0} (rank : S → ℕ) (marks : ℕ → ℕ → S) (points : ℕ) (signs : List Bool) where
  -- the lists of the parts that follow, upwards, behind those there are
  abbrev pub row_from : ℕ → List (Boxes S) → List (Part S) → List (Boxes S) → Row S
  row_from point next [] here = Ok here
  row_from point next (p ∷ ps) here = then_row (settle here (labelled rank here next (length here) (step_for rank marks points point (slice_index_or signs (length here) false) p))) (row_from point next ps)

-- a row, or the refusal
abbrev pub Rows : Type 0 → Type 0
Rows S = Result (List (Boxes S)) SolveFault

module _ {S : Type 0} where
  abbrev pub told : ℕ → Row S → Rows S
  told point (Ok row) = Ok row
  told point (Err part) = Err (Full point part)

  -- a call left the row's lists in the first places, or was refused so
  abbrev pub RowEnds : Result (Unit {0}) SolveFault → ℕ → List (Boxes S) → Rows S → Type 0
  RowEnds (Ok _) count lists rows = rows ≡ Ok (take count lists)
  RowEnds (Err fault) count lists rows = rows ≡ Err fault

  abbrev pub then_rows : Rows S → (List (Boxes S) → Rows S) → Rows S
  then_rows (Ok row) f = f row
  then_rows (Err fault) f = Err fault

  -- the list of the last part
  abbrev pub whole_of : ℕ → Rows S → Result (Boxes S) SolveFault
  whole_of count (Ok row) = Ok (at row (count - 1))
  whole_of count (Err fault) = Err fault

module _ {S : Type 0} (rank : S → ℕ) (marks : ℕ → ℕ → S) (points : ℕ) (parts : List (Part S)) where
  -- the row at the point that lies d points before the last
  abbrev pub rows_back : ℕ → Rows S
  rows_back zero = told (points - 1) (row_from rank marks points (part_signs parts) (points - 1) [] parts [])
  rows_back (suc d) = then_rows (rows_back d) (λ next. told (points - 1 - suc d) (row_from rank marks points (part_signs parts) (points - 1 - suc d) next parts []))

  -- the list of the whole formula at a point
  abbrev pub derived : ℕ → Result (Boxes S) SolveFault
  derived point = whole_of (length parts) (rows_back (points - 1 - point))

  -- what a solve answers, and what it leaves of the list that stood before: refused, all of it
  abbrev pub Solves : Result ℕ SolveFault → ℕ → Boxes S → Boxes S → Type 0
  Solves (Ok count) point before after = (0 < length parts) × (point < points) × (derived point ≡ Ok after) × (count ≡ length after)
  Solves (Err Blank) point before after = (length parts ≡ 0) × (after ≡ before)
  Solves (Err NoPoint) point before after = (0 < length parts) × (points ≤ point) × (after ≡ before)
  Solves (Err (Full p k)) point before after = (0 < length parts) × (point < points) × (derived point ≡ Err (Full p k)) × (after ≡ before)
