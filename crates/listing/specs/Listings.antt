-- The listing of a list of boxes: `boxes N`, then a line for each box. Assumes nothing.
use Rattle.std.specs.Prelude.{ℕ, List, [], ◌∷◌, ◌++◌, length, codes, decimal}
use Rattle.scale.specs.declared.cuts.Cut.{Cut}
use Rattle.scale.specs.declared.cuts.Cut.TheVariants.{LowerEnd, Below, Above, UpperEnd}
use Rattle.domain.specs.Added.{Boxes, Sides}

-- the names of the limits, in the order of a box's sides
abbrev pub names : List (List ℕ)
names = codes "p" ∷ codes "q" ∷ codes "r" ∷ []

-- each of them behind a comma
abbrev pub further : List (List ℕ) → List ℕ
further [] = []
further (x ∷ xs) = codes "," ++ (x ++ further xs)

-- joined by commas; a box that says nothing is any choice
abbrev pub joined : List (List ℕ) → List ℕ
joined [] = codes "any"
joined (x ∷ xs) = x ++ further xs

module _ {S : Type 0} (text : S → List ℕ) where
  abbrev pub comparison : List ℕ → List ℕ → S → List ℕ
  comparison name sign m = name ++ (sign ++ text m)

  -- what a cut says of a limit, by one sign where it is below its mark and another where it is above; an end of the scale
  -- says nothing
  abbrev pub bounds : List ℕ → List ℕ → List ℕ → Cut S → List (List ℕ)
  bounds below above name (Below m) = comparison name below m ∷ []
  bounds below above name (Above m) = comparison name above m ∷ []
  bounds below above name LowerEnd = []
  bounds below above name UpperEnd = []

  -- a lower cut below m lets m in, and above m it does not
  abbrev pub lowers : List ℕ → Cut S → List (List ℕ)
  lowers = bounds (codes ">=") (codes ">")

  -- an upper cut above m lets m in, and below m it does not
  abbrev pub uppers : List ℕ → Cut S → List (List ℕ)
  uppers = bounds (codes "<") (codes "<=")

  -- the comparisons of a box: for each limit the lower one, then the upper
  abbrev pub comparisons : List (List ℕ) → Sides S → List (List ℕ)
  comparisons [] is = []
  comparisons (n ∷ ns) [] = []
  comparisons (n ∷ ns) (i ∷ is) = lowers n i.lower ++ (uppers n i.upper ++ comparisons ns is)

  abbrev pub line : Sides S → List ℕ
  line b = joined (comparisons names b) ++ codes "\n"

  abbrev pub lines : Boxes S → List ℕ
  lines [] = []
  lines (b ∷ bs) = line b ++ lines bs

  abbrev pub listing_text : Boxes S → List ℕ
  listing_text bs = codes "boxes " ++ (decimal (length bs) ++ (codes "\n" ++ lines bs))
