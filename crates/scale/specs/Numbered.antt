-- Marks that are whole numbers in a row, and the mark that is picked among them. Assumes nothing.
use Rattle.std.specs.Prelude.{◌≡◌, ℕ, ◌≤◌, cond, ℤ, pos, ◌+ℤ◌, ◌-ℤ◌, Some, None, Option, ◌≢◌, int_lt}
use Rattle.scale.specs.declared.cuts.Cut.{Cut}
use Rattle.scale.specs.declared.cuts.Cut.TheVariants.{LowerEnd, Below, Above, UpperEnd}
use Rattle.scale.specs.declared.numbered.Row.{Row}
use Rattle.scale.specs.Cuts.{Between}

module _ {S : Type 0} (number : S → ℤ) (row : Row) where
  -- the number of the first mark behind a cut
  abbrev pub edge : Cut S → ℤ
  edge LowerEnd = row.least
  edge (Below m) = number m
  edge (Above m) = number m +ℤ pos 1
  edge UpperEnd = row.past

  -- what is picked where the lower cut is an end: the last number, or rest between the ends
  abbrev pub last : Cut S → ℤ
  last LowerEnd = row.least -ℤ pos 1
  last (Below m) = number m -ℤ pos 1
  last (Above m) = number m
  last UpperEnd = row.rest

  -- the first number behind a lower cut that is no end
  abbrev pub choice : Cut S → Cut S → ℤ
  choice LowerEnd u = last u
  choice (Below m) u = edge (Below m)
  choice (Above m) u = edge (Above m)
  choice UpperEnd u = edge UpperEnd

  abbrev pub picked_number : Cut S → Cut S → Option ℤ
  picked_number l u = cond (int_lt (edge l) (edge u)) (Some (choice l u)) None

-- the pick of readings and stages, in terms of the order alone: the least mark between unless the lower cut is an end,
-- else the greatest unless the upper cut is one, else the rest mark; none where no mark lies between
module _ {S : Type 0} (rank : S → ℕ) (rest : S) (l u : Cut S) where
  pub record Leaned (m : S) : Type 0 where
    pub between : Between rank l u m
    pub least : (l ≢ LowerEnd) → (n : S) → Between rank l u n → rank m ≤ rank n
    pub greatest : l ≡ LowerEnd → (u ≢ UpperEnd) → (n : S) → Between rank l u n → rank n ≤ rank m
    pub resting : l ≡ LowerEnd → u ≡ UpperEnd → m ≡ rest

  abbrev pub Leans : Option S → Type 0
  Leans None = (m : S) → Between rank l u m → ⊥
  Leans (Some m) = Leaned m
