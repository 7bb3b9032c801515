-- Formulas at the front of a text, each constant as its bytes. Assumes nothing.
use Rattle.std.specs.Prelude.{ℕ, ◌<◌, ◌≤◌, List, [], ◌∷◌, ◌++◌, length, ◌≢◌}
use Rattle.scale.specs.Marks.{RunByte}
use Rattle.formula.specs.declared.parts.Operand.{Operand}
use Rattle.formula.specs.declared.parts.Operand.TheVariants.{Limit, Channel, Constant}
use Rattle.reader.specs.Operands.{Unnamed}
use Rattle.formula.specs.Trees.{Tree, compares, one, two, size, depth}
use Rattle.reader.specs.Written.{spelling}

-- bytes that are all of a run
abbrev pub Runny : List ℕ → Type 0
Runny [] = Unit {0}
Runny (b ∷ bs) = RunByte b × Runny bs

-- bytes that do not go on with a run
abbrev pub Stops : List ℕ → Type 0
Stops [] = Unit {0}
Stops (b ∷ bs) = RunByte b → ⊥

-- a channel that there is, or a run that names nothing else
abbrev pub Proper : Operand (List ℕ) → Type 0
Proper (Limit l) = Unit {0}
Proper (Channel n) = n < 16
Proper (Constant bytes) = (1 ≤ length bytes) × Runny bytes × Unnamed bytes

-- the same of every comparison in a formula
abbrev pub ProperTree : Tree (List ℕ) → Type 0
ProperTree (compares channel comparator operand) = (channel < 16) × Proper operand
ProperTree (one op t) = ProperTree t
ProperTree (two op l r) = ProperTree l × ProperTree r

-- what follows a comparison does not go on with its run
abbrev pub Ends : Tree (List ℕ) → List ℕ → Type 0
Ends (compares _ _ _) after = Stops after
Ends (one _ _) after = Unit {0}
Ends (two _ _ _) after = Unit {0}

-- how a formula over bytes is written
abbrev pub spelled_out : Tree (List ℕ) → List ℕ
spelled_out t = spelling (λ x. x) t

-- no formula begins the bytes
abbrev pub NoFront : List ℕ → Type 0
NoFront bytes = (t : Tree (List ℕ)) (after : List ℕ) → ProperTree t → Ends t after → bytes ≢ spelled_out t ++ after

-- no formula with at most so many brackets open at once and so many parts begins the bytes
abbrev pub NoFormula : List ℕ → ℕ → ℕ → Type 0
NoFormula bytes brackets parts = (t : Tree (List ℕ)) (after : List ℕ) → ProperTree t → depth t ≤ brackets → size t ≤ parts → Ends t after → bytes ≢ spelled_out t ++ after

-- no formula that a rule can have is the whole text
abbrev pub NoWhole : List ℕ → Type 0
NoWhole text = (t : Tree (List ℕ)) → ProperTree t → depth t ≤ 12 → size t ≤ 24 → text ≢ spelled_out t
