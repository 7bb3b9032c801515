-- One more part coded, and the first that is not.
use Rattle.std.proofs.Common.{◌≡◌, ℕ, ◌+◌, ◌<◌, ◌≤◌, List, [], ◌∷◌, ◌++◌, length, get_or, sym, ap, ◌∙◌, subst, ⊎_elim, arith}
use Rattle.std.proofs.lemmas.List.{get_or_append_left, get_or_push, length_push}
use Rattle.std.proofs.lemmas.Bool.{cases_lt}
use Rattle.scale.specs.declared.faults.ScaleFault.{ScaleFault}
use Rattle.formula.specs.declared.parts.Part.{Part}
use Rattle.formula.specs.declared.parts.Part.TheVariants.{Unary}
use Rattle.formula.specs.declared.parts.UnaryOperator.TheVariants.{Not}
use Rattle.reader.specs.declared.readers.Run.{Run}
use Rattle.reader.specs.Codings.{CodedPart, UnreadPart, FirstUnread}

module _ {S : Type 0} (code : S → ℕ) (written : S → List ℕ) (text : List ℕ) where
  -- the first i parts are coded
  abbrev pub Front : List (Part Run) → List (Part ℕ) → ℕ → Type 0
  Front parts out i = (k : ℕ) (d : Part Run) (e : Part ℕ) → k < i → CodedPart code written text (get_or parts k d) (get_or out k e)

  pub coded_more : (parts : List (Part Run)) (out new : List (Part ℕ)) (i : ℕ) (p : Part Run) (q : Part ℕ) → length out ≡ i → ((d : Part Run) → get_or parts i d ≡ p) → new ≡ out ++ q ∷ [] → CodedPart code written text p q → Front parts out i → (length new ≡ i + 1) × Front parts new (i + 1)
  coded_more parts out new i p q long read added here front =
      let lengths : length new ≡ i + 1 = omega (arith, ap length added, length_push out q, long) in (
        lengths,
        λ k d e below.
            subst (λ (x : List (Part ℕ)). CodedPart code written text (get_or parts k d) (get_or x k e)) (sym added)
            (⊎_elim
            (λ (h : k < i).
            let low : k < length out = omega (arith, long) in
            subst (λ (y : Part ℕ). CodedPart code written text (get_or parts k d) y) (sym (get_or_append_left out (q ∷ []) e k low)) (front k d e h))
            (λ (h : i ≤ k).
            let same : i ≡ k = omega arith in
            let last : get_or (out ++ q ∷ []) k e ≡ q = get_or_push out q e k (long ∙ same) in
            let first : get_or parts k d ≡ p = subst (λ (n : ℕ). get_or parts n d ≡ p) same (read d) in
            subst (λ (y : Part ℕ). CodedPart code written text (get_or parts k d) y) (sym last)
            (subst (λ (x : Part Run). CodedPart code written text x q) (sym first) here))
            (cases_lt k i)),
      )

  pub first_unread : (parts : List (Part Run)) (out : List (Part ℕ)) (i : ℕ) (p : Part Run) (fault : ScaleFault) → i < length parts → ((d : Part Run) → get_or parts i d ≡ p) → UnreadPart code written text p fault → Front parts out i → FirstUnread code written text parts fault
  first_unread parts out i p fault within read here front =
      let o : Part ℕ = Unary Not 0 in
      record {
        at = i;
        within = within;
        unread = λ d. subst (λ (x : Part Run). UnreadPart code written text x fault) (sym (read d)) here;
        before = λ k d below. (get_or out k o, front k d o below);
      }
