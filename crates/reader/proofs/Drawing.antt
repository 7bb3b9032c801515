-- The operands among the parts stay ones that the text has.
use Rattle.std.proofs.Common.{◌≡◌, ℕ, ◌<◌, ◌≤◌, List, [], ◌∷◌, ◌++◌, length, sym, subst, ⊎_elim, arith}
use Rattle.std.proofs.lemmas.List.{get_or_append_left, get_or_push, length_push}
use Rattle.std.proofs.lemmas.Bool.{cases_lt}
use Rattle.formula.specs.declared.parts.Part.{Part}
use Rattle.reader.specs.declared.readers.Run.{Run}
use Rattle.reader.specs.Reads.{Drawn, AllDrawn}

more : (text : List ℕ) (parts : List (Part Run)) (part : Part Run) → AllDrawn text parts → Drawn text part → AllDrawn text (parts ++ part ∷ [])
more text parts part old here i d below =
    ⊎_elim
    (λ (h : i < length parts). subst (Drawn text) (sym (get_or_append_left parts (part ∷ []) d i h)) (old i d h))
    (λ (h : length parts ≤ i). let e : length parts ≡ i = omega (arith, length_push parts part) in subst (Drawn text) (sym (get_or_push parts part d i e)) here)
    (cases_lt i (length parts))

-- one more part
pub drawn_more : (text : List ℕ) (old new : List (Part Run)) (part : Part Run) → new ≡ old ++ part ∷ [] → Drawn text part → AllDrawn text old → AllDrawn text new
drawn_more text old new part added here all = subst (AllDrawn text) (sym added) (more text old part all here)

-- parts that were added while the same text was read
pub drawn_in : (text there : List ℕ) (old new : List (Part Run)) → there ≡ text → (AllDrawn there old → AllDrawn there new) → AllDrawn text old → AllDrawn text new
drawn_in text there old new same = subst (λ (x : List ℕ). (AllDrawn x old → AllDrawn x new) → AllDrawn text old → AllDrawn text new) (sym same) (λ f. f)
