-- What a refused text comes to.
use Rattle.std.proofs.Common.{◌≡◌, Err, Result, sym, subst, MatchResult}

-- a result that is known to be a refusal
pub known_refused : {X E : Type 0} (r : Result X E) (e : E) (F : X → Type 0) (G : E → Type 0) → r ≡ Err e → G e → MatchResult r F G
known_refused {X} {E} r e F G is h = subst (λ (x : Result X E). MatchResult x F G) (sym is) h
