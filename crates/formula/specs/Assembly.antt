-- Lists of parts that are the parts of one formula, told part by part. Assumes nothing.
use Rattle.std.specs.Prelude.{◌≡◌, ℕ, ◌+◌, Bool, true, false, ◌&&◌, List, [], ◌∷◌, ◌==◌}
use Rattle.formula.specs.declared.parts.Part.{Part}
use Rattle.formula.specs.declared.parts.Part.TheVariants.{Comparison, Unary, Binary}

module _ {K : Type 0} where
  -- whether the parts, the first of which has the number n, make one formula of those that stand alone, the last of them
  -- first: an operator takes the last one or two of them, and each of them is taken once
  abbrev pub assembles : ℕ → List (Part K) → List ℕ → Bool
  assembles n [] [] = false
  assembles n [] (r ∷ []) = true
  assembles n [] (r ∷ s ∷ rs) = false
  assembles n (Comparison _ _ _ ∷ ps) rs = assembles (n + 1) ps (n ∷ rs)
  assembles n (Unary _ a ∷ ps) [] = false
  assembles n (Unary _ a ∷ ps) (r ∷ rs) = a == r && assembles (n + 1) ps (n ∷ rs)
  assembles n (Binary _ a b ∷ ps) [] = false
  assembles n (Binary _ a b ∷ ps) (r ∷ []) = false
  assembles n (Binary _ a b ∷ ps) (r ∷ s ∷ rs) = b == r && (a == s && assembles (n + 1) ps (n ∷ rs))

  -- no parts, or those of one formula
  abbrev pub wholly : List (Part K) → Bool
  wholly [] = true
  wholly (p ∷ ps) = assembles 0 (p ∷ ps) []

  abbrev pub Whole : List (Part K) → Type 0
  Whole parts = wholly parts ≡ true
