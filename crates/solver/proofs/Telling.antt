-- What a list of boxes says of one choice of limits, and what join and meet make of it. Assumes nothing.
use Rattle.std.proofs.Common.{◌≡◌, ℕ, ◌^◌, ◌<◌, Bool, true, false, ◌⊎◌, [], ◌∷◌, set, Ok, Err, refl, subst, inl, inr, ⊎_elim, arith}
use Rattle.std.proofs.lemmas.Bool.Decides.{nat_tests}
use Rattle.std.proofs.str.Laws.{order}
use Rattle.scale.specs.Cuts.{Between}
use Rattle.formula.specs.Parts.{limit_index}
use Rattle.formula.specs.declared.parts.Comparator.{Comparator}
use Rattle.formula.specs.declared.parts.Comparator.TheVariants.{Less, Greater, AtMost, AtLeast}
use Rattle.formula.specs.declared.parts.LimitName.{LimitName}
use Rattle.formula.specs.declared.parts.LimitName.TheVariants.{P, Q, R}
use Rattle.domain.specs.Added.{Boxes, Outcome, and_then, joined, met}
use Rattle.domain.specs.Boxes.{full_box}
use Rattle.domain.specs.Covering.{Covered, Wide}
use Rattle.domain.specs.Sides.{full_side}
use Rattle.domain.proofs.Covers.{join_covers, meet_covers}
use Rattle.solver.specs.Comparisons.{meets, side_of}
use Rattle.solver.specs.Steps.{step_under_sign}
use Rattle.solver.specs.Truth.{Compares, choice_of}

-- what a part says under its sign
abbrev pub Turned : Bool → Type 0 → Type 0
Turned true A = A → ⊥
Turned false A = A

pub turned_to : (t : Bool) {A B : Type 0} → (A → B) → (B → A) → Turned t A → Turned t B
turned_to true f g h = λ b. h (g b)
turned_to false f g h = f h

pub then_ok : {S : Type 0} (o : Outcome S) (f : Boxes S → Outcome S) (zs : Boxes S) → and_then o f ≡ Ok zs → (ws : Boxes S) × (o ≡ Ok ws) × (f ws ≡ Ok zs)
then_ok (Ok ws) f zs e = (ws, refl, e)
then_ok (Err ws) f zs e = let z : ◌≡◌ {A = ℕ} 0 1 = cc in absurd (omega arith)

module _ {S : Type 0} (rank : S → ℕ) where
  -- a comparison, decided
  pub meets_so : (m : S) (v : Comparator) (n : S) → meets rank m v n ≡ true → Compares rank m v n
  meets_so m Less n e = grind (arith, nat_tests)
  meets_so m Greater n e = grind (arith, nat_tests)
  meets_so m AtMost n e = grind (arith, nat_tests)
  meets_so m AtLeast n e = grind (arith, nat_tests)

  pub meets_not : (m : S) (v : Comparator) (n : S) → meets rank m v n ≡ false → Compares rank m v n → ⊥
  meets_not m Less n e h = grind (arith, nat_tests)
  meets_not m Greater n e h = grind (arith, nat_tests)
  meets_not m AtMost n e h = grind (arith, nat_tests)
  meets_not m AtLeast n e h = grind (arith, nat_tests)

  -- the opposite comparator holds exactly where the comparator does not
  pub sign_out : (t : Bool) (m : S) (v : Comparator) (n : S) → Compares rank m (step_under_sign t v) n → Turned t (Compares rank m v n)
  sign_out false m v n h = h
  sign_out true m Less n h = λ g. omega arith
  sign_out true m Greater n h = λ g. omega arith
  sign_out true m AtMost n h = λ g. omega arith
  sign_out true m AtLeast n h = λ g. omega arith

  pub sign_in : (t : Bool) (m : S) (v : Comparator) (n : S) → Turned t (Compares rank m v n) → Compares rank m (step_under_sign t v) n
  sign_in false m v n h = h
  sign_in true m Less n h = ⊎_elim (λ lt. absurd (h lt)) (λ ge. ge) (order (rank m) (rank n))
  sign_in true m Greater n h = ⊎_elim (λ lt. absurd (h lt)) (λ ge. ge) (order (rank n) (rank m))
  sign_in true m AtMost n h = ⊎_elim (λ lt. lt) (λ ge. absurd (h ge)) (order (rank n) (rank m))
  sign_in true m AtLeast n h = ⊎_elim (λ lt. lt) (λ ge. absurd (h ge)) (order (rank m) (rank n))

  -- the side of a comparison holds exactly the limits that it is true of
  pub side_out : (m : S) (v : Comparator) (x : S) → Between rank (side_of v m).lower (side_of v m).upper x → Compares rank m v x
  side_out m Less x h = omega (arith, h.0, h.1)
  side_out m Greater x h = omega (arith, h.0, h.1)
  side_out m AtMost x h = omega (arith, h.0, h.1)
  side_out m AtLeast x h = omega (arith, h.0, h.1)

  pub side_in : (m : S) (v : Comparator) (x : S) → rank x < 2 ^ 32 → Compares rank m v x → Between rank (side_of v m).lower (side_of v m).upper x
  side_in m Less x fits h = (omega arith, omega arith)
  side_in m Greater x fits h = (omega arith, omega arith)
  side_in m AtMost x fits h = (omega arith, omega arith)
  side_in m AtLeast x fits h = (omega arith, omega arith)

  free : (x : S) → rank x < 2 ^ 32 → Between rank full_side.lower full_side.upper x
  free x fits = (omega arith, omega arith)

  module _ (fits : (m : S) → rank m < 2 ^ 32) (limits : LimitName → S) where
    -- the list covers these limits exactly when A holds
    pub record Tells (xs : Boxes S) (A : Type 0) : Type 0 where
      pub wide : Wide 3 xs
      pub out : Covered rank (choice_of limits) xs → A
      pub back : A → Covered rank (choice_of limits) xs

    pub tells_as : (xs : Boxes S) (A B : Type 0) → Tells xs A → (A → B) → (B → A) → Tells xs B
    tells_as xs A B t f g = record { wide = t.wide; out = λ c. f (t.out c); back = λ b. t.back (g b) }

    pub tells_is : (xs ys : Boxes S) (A : Type 0) → Tells xs A → ◌≡◌ {A = Outcome S} (Ok xs) (Ok ys) → Tells ys A
    tells_is xs ys A t e = let same : xs ≡ ys = cc in subst (λ l. Tells l A) same t

    pub tells_join : (xs ys zs : Boxes S) (A B : Type 0) → Tells xs A → Tells ys B → joined rank xs ys ≡ Ok zs → Tells zs (A ⊎ B)
    tells_join xs ys zs A B s t e =
        let u = join_covers rank 3 ys xs zs s.wide t.wide e in
        record {
          wide = u.wide;
          out = λ c. ⊎_elim (λ d. inl (s.out d)) (λ d. inr (t.out d)) (u.from (choice_of limits) c);
          back = λ h. ⊎_elim (λ a. u.to_one (choice_of limits) refl (s.back a)) (λ b. u.to_two (choice_of limits) refl (t.back b)) h;
        }

    pub tells_meet : (xs ys zs : Boxes S) (A B : Type 0) → Tells xs A → Tells ys B → met rank xs ys ≡ Ok zs → Tells zs (A × B)
    tells_meet xs ys zs A B s t e =
        let u = meet_covers rank 3 xs ys zs s.wide t.wide e in
        record {
          wide = u.wide;
          out = λ c. let both = u.from (choice_of limits) refl c in (s.out both.0, t.out both.1);
          back = λ h. u.to (choice_of limits) refl (s.back h.0) (t.back h.1);
        }

    pub tells_all : (A : Type 0) → A → Tells (full_box ∷ []) A
    tells_all A a = record { wide = (refl, tt); out = λ c. a; back = λ h. inl (free (limits P) (fits (limits P)), (free (limits Q) (fits (limits Q)), (free (limits R) (fits (limits R)), tt))) }

    pub tells_none : (A : Type 0) → (A → ⊥) → Tells [] A
    tells_none A nay = record { wide = tt; out = λ c. absurd c; back = λ a. nay a }

    pub tells_bound : (l : LimitName) (v : Comparator) (m : S) → Tells (set full_box (limit_index l) (side_of v m) ∷ []) (Compares rank m v (limits l))
    tells_bound P v m = record { wide = (refl, tt); out = λ c. ⊎_elim (λ h. side_out m v (limits P) h.0) (λ none. absurd none) c; back = λ h. inl (side_in m v (limits P) (fits (limits P)) h, (free (limits Q) (fits (limits Q)), (free (limits R) (fits (limits R)), tt))) }
    tells_bound Q v m = record { wide = (refl, tt); out = λ c. ⊎_elim (λ h. side_out m v (limits Q) h.1.0) (λ none. absurd none) c; back = λ h. inl (free (limits P) (fits (limits P)), (side_in m v (limits Q) (fits (limits Q)) h, (free (limits R) (fits (limits R)), tt))) }
    tells_bound R v m = record { wide = (refl, tt); out = λ c. ⊎_elim (λ h. side_out m v (limits R) h.1.1.0) (λ none. absurd none) c; back = λ h. inl (free (limits P) (fits (limits P)), (free (limits Q) (fits (limits Q)), (side_in m v (limits R) (fits (limits R)) h, tt))) }
