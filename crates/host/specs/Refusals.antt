-- The text of a refusal. Assumes nothing.
use Rattle.std.specs.Prelude.{ℕ, List, [], ◌∷◌, ◌++◌, codes, decimal}

-- `refused N` and a line end
unfoldable pub refusal_text : ℕ → List ℕ
refusal_text number = codes "refused " ++ (decimal number ++ (10 ∷ []))
