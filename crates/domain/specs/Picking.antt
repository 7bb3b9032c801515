-- The marks that are picked from a box and from a list of boxes. Assumes nothing.
use Rattle.std.specs.Prelude.{◌≡◌, ℕ, List, [], ◌∷◌, length, Some, None, Option}
use Rattle.scale.specs.declared.cuts.Cut.{Cut}
use Rattle.domain.specs.declared.shapes.Choice.{Choice}
use Rattle.domain.specs.Added.{Boxes, Sides}
use Rattle.domain.specs.Covering.{Covered}

-- the marks of a choice, in the order of the limits
abbrev pub marks_of : {S : Type 0} → Choice S → List S
marks_of c = c.p ∷ c.q ∷ c.r ∷ []

abbrev pub chosen : {S : Type 0} → Option (Choice S) → Option (List S)
chosen None = None
chosen (Some c) = Some (marks_of c)

module _ {S : Type 0} where
  abbrev pub behind : Option S → Option (List S) → Option (List S)
  behind None rest = None
  behind (Some m) None = None
  behind (Some m) (Some ms) = Some (m ∷ ms)

  abbrev pub or_else : Option (List S) → Option (List S) → Option (List S)
  or_else None other = other
  or_else (Some ms) other = Some ms

module _ {S : Type 0} (picked : Cut S → Cut S → Option S) where
  -- the pick of each side, where all of them have one
  abbrev pub picks_of : Sides S → Option (List S)
  picks_of [] = Some []
  picks_of (i ∷ is) = behind (picked i.lower i.upper) (picks_of is)

  -- the picks of the first box that has them
  abbrev pub first_picked : Boxes S → Option (List S)
  first_picked [] = None
  first_picked (b ∷ bs) = or_else (picks_of b) (first_picked bs)

-- marks that the list covers, or none where it covers no marks, one for each of n limits
abbrev pub Finds : {S : Type 0} → (S → ℕ) → ℕ → Boxes S → Option (List S) → Type 0
Finds {S} rank n xs None = (ms : List S) → length ms ≡ n → Covered rank ms xs → ⊥
Finds rank n xs (Some ms) = (length ms ≡ n) × Covered rank ms xs
