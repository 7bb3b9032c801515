-- A text from a place on is a stretch of it and then what comes after.
use Rattle.std.proofs.Common.{◌≡◌, ℕ, ◌+◌, ◌-◌, ◌≤◌, List, ◌++◌, take, drop, sym, ap, ◌∙◌, arith}
use Rattle.std.proofs.lemmas.List.{take-append-drop, drop-drop}

pub stretch : (text : List ℕ) (s e : ℕ) → s ≤ e → drop s text ≡ take (e - s) (drop s text) ++ drop e text
stretch text s e h =
    let sum : s + (e - s) ≡ e = omega arith in
    sym (take-append-drop (e - s) (drop s text))
    ∙ ap (λ (t : List ℕ). take (e - s) (drop s text) ++ t) (drop-drop (e - s) s text ∙ ap (λ (n : ℕ). drop n text) sum)
