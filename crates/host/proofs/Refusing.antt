-- The text of a refusal, and how long it is. Assumes nothing.
use Rattle.std.proofs.Common.{◌≡◌, ℕ, ◌+◌, ◌^◌, ◌<◌, ◌≤◌, [], ◌∷◌, ◌++◌, length, codes, decimal, ap, ◌∙◌, append_assoc, arith, length-append}
use Rattle.std.proofs.lemmas.Fmt.{length-decimal-le}
use Rattle.host.specs.Refusals.{refusal_text}

pub refusal_is : (n : ℕ) → (codes "refused " ++ decimal n) ++ (10 ∷ []) ≡ refusal_text n
unfolding refusal_text
refusal_is n = append_assoc (codes "refused ") (decimal n) (10 ∷ [])
