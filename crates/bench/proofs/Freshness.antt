-- What leaves a list fresh. Assumes nothing.
use Rattle.std.proofs.Common.{◌≡◌, ℕ, List, Some, None, Err, Option, sym, ◌∙◌, subst, arith}
use Rattle.recording.specs.Meaning.{Meaning}
use Rattle.formula.specs.declared.parts.Part.{Part}
use Rattle.domain.specs.Added.{Boxes}
use Rattle.solver.specs.Derived.{Solves}
use Rattle.solver.specs.declared.solvers.SolveFault.{SolveFault}
use Rattle.solver.specs.declared.solvers.SolveFault.TheVariants.{Blank, NoPoint, Full}
use Rattle.bench.specs.Fresh.{Fresh}

pub still_fresh : {S : Type 0} (rank : S → ℕ) (m n : Meaning S) (ps qs : List (Part S)) (was is : Option ℕ) (list : Boxes S) → m ≡ n → ps ≡ qs → was ≡ is → Fresh rank m ps was list → Fresh rank n qs is list
still_fresh rank m n ps qs was is list tells rule solved h =
    subst (λ x. Fresh rank x qs is list) tells (subst (λ x. Fresh rank m x is list) rule (subst (λ x. Fresh rank m ps x list) solved h))

-- a tape that tells the same leaves it so
pub tells_alike : {S : Type 0} (rank : S → ℕ) (m n : Meaning S) (ps : List (Part S)) (solved : Option ℕ) (list : Boxes S) → n ≡ m → Fresh rank m ps solved list → Fresh rank n ps solved list
tells_alike rank m n ps solved list same h = subst (λ x. Fresh rank x ps solved list) (sym same) h

-- without a solve any list is
pub unsolved_fresh : {S : Type 0} (rank : S → ℕ) (m : Meaning S) (ps : List (Part S)) (solved : Option ℕ) (list : Boxes S) → solved ≡ None → Fresh rank m ps solved list
unsolved_fresh rank m ps solved list none point e = let never : ◌≡◌ {A = Option ℕ} None (Some point) = sym none ∙ e in let z : ◌≡◌ {A = ℕ} 0 1 = cc in absurd (omega arith)

-- a refused solve leaves the list
pub solve_refused : {S : Type 0} (rank : S → ℕ) (m : Meaning S) (ps : List (Part S)) (f : SolveFault) (point : ℕ) (before after : Boxes S) → Solves rank m.mark m.points ps (Err f) point before after → after ≡ before
solve_refused rank m ps Blank point before after h = h.1
solve_refused rank m ps NoPoint point before after h = h.2
solve_refused rank m ps (Full at k) point before after h = h.3
