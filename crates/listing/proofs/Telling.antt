-- A listing tells its boxes: it is read back line by line, comparison by comparison and cut by cut. Assumes nothing.
use Rattle.std.proofs.Common.{◌≡◌, ℕ, suc, ◌+◌, ◌%◌, ◌^◌, ◌<◌, ◌≤◌, Bool, true, false, ◌||◌, List, [], ◌∷◌, ◌++◌, map, length, take, drop, codes, decimal, sym, refl, ap, ◌∙◌, subst, ⊎_elim, append_assoc, arith}
use Rattle.std.specs.List.{AllByRecursion}
use Rattle.std.proofs.lemmas.Fmt.{decimal_by_steps}
use Rattle.std.proofs.ByRecursion.{All-append, All-push, All-weaker}
use Rattle.std.proofs.lemmas.Bool.Decides.{nat_tests}
use Rattle.scale.specs.declared.cuts.Cut.{Cut}
use Rattle.scale.specs.declared.cuts.Cut.TheVariants.{LowerEnd, Below, Above, UpperEnd}
use Rattle.scale.specs.Cuts.{place}
use Rattle.scale.specs.Marks.{Apart, RunByte, RunText}
use Rattle.domain.specs.declared.sides.Interval.{Interval}
use Rattle.domain.specs.Added.{Boxes, Sides}
use Rattle.domain.specs.Boxes.{empty_box}
use Rattle.domain.specs.Sides.{empty_side}
use Rattle.listing.specs.Apart.{ListingsApart}
use Rattle.listing.specs.Listings.{bounds, comparison, comparisons, further, joined, line, lines, lowers, names, uppers}

never : {A : Type 0} {x : A} {xs : List A} → [] ≡ x ∷ xs → ⊥
never {A} {x} {xs} e = let z : 0 ≡ suc (length xs) = ap length e in omega arith

head_of : {A : Type 0} {x y : A} {xs ys : List A} → x ∷ xs ≡ y ∷ ys → x ≡ y
head_of {A} {x} {y} {xs} {ys} e = cc

rest_of : {A : Type 0} {x y : A} {xs ys : List A} → x ∷ xs ≡ y ∷ ys → xs ≡ ys
rest_of e = ap (drop 1) e

-- a list that is at its end, or goes on with an element that is not P
abbrev Stops : {A : Type 0} → (A → Type 0) → List A → Type 0
Stops P [] = Unit {0}
Stops P (x ∷ xs) = P x → ⊥

-- what is P in front of what stops is told from it
split : {A : Type 0} (P : A → Type 0) (a b u v : List A) → AllByRecursion P a → AllByRecursion P b → Stops P u → Stops P v → a ++ u ≡ b ++ v → (a ≡ b) × (u ≡ v)
split P [] [] u v p q s t e = (refl, e)
split P [] (y ∷ b) [] v p q s t e = absurd (never e)
split P [] (y ∷ b) (x ∷ u) v p q s t e = absurd (s (subst P (sym (head_of e)) q.0))
split P (x ∷ a) [] u [] p q s t e = absurd (never (sym e))
split P (x ∷ a) [] u (y ∷ v) p q s t e = absurd (t (subst P (head_of e) p.0))
split P (x ∷ a) (y ∷ b) u v p q s t e =
    let same = split P a b u v p.1 q.1 s t (rest_of e) in
    let front : x ∷ a ≡ y ∷ b = let h = head_of e in let r = same.0 in cc in
    (front, same.1)

-- bytes of a comparison, which are past the comma, and of a line, which are past the line end
abbrev Plain : ℕ → Type 0
Plain b = 45 ≤ b

abbrev Inline : ℕ → Type 0
Inline b = 11 ≤ b

run_plain : (b : ℕ) → RunByte b → Plain b
run_plain b r = ⊎_elim (λ h. omega (arith, h.0)) (λ s. ⊎_elim (λ h. omega (arith, h.0)) (λ e. omega (arith, e)) s) r

plain_inline : (x : List ℕ) → AllByRecursion Plain x → AllByRecursion Inline x
plain_inline x p = All-weaker Plain Inline (λ b h. omega (arith, h)) x p

decimal_inline : (n : ℕ) → n < 2 ^ 64 → AllByRecursion Inline (decimal n)
decimal_inline n h = decimal_by_steps (λ _ ds. AllByRecursion Inline ds) (λ k small. (omega arith, tt)) (λ k ds ten more. All-push Inline ds (48 + k % 10) more (omega arith)) n h

-- a comparison begins with a name, which is past the `a` of `any`
abbrev First : List ℕ → Type 0
First [] = ⊥
First (c ∷ x) = 98 ≤ c

abbrev Piece : List ℕ → Type 0
Piece x = First x × AllByRecursion Plain x

further_stops : (xs : List (List ℕ)) → Stops Plain (further xs)
further_stops [] = tt
further_stops (x ∷ xs) = λ h. omega (arith, h)

further_same : (xs ys : List (List ℕ)) → AllByRecursion Piece xs → AllByRecursion Piece ys → further xs ≡ further ys → xs ≡ ys
further_same [] [] p q e = refl
further_same [] (y ∷ ys) p q e = absurd (never e)
further_same (x ∷ xs) [] p q e = absurd (never (sym e))
further_same (x ∷ xs) (y ∷ ys) p q e =
    let s = split Plain x y (further xs) (further ys) p.0.1 q.0.1 (further_stops xs) (further_stops ys) (rest_of e) in
    let one = s.0 in
    let others = further_same xs ys p.1 q.1 s.1 in
    cc

joined_same : (xs ys : List (List ℕ)) → AllByRecursion Piece xs → AllByRecursion Piece ys → joined xs ≡ joined ys → xs ≡ ys
joined_same [] [] p q e = refl
joined_same [] ([] ∷ ys) p q e = absurd q.0.0
joined_same [] ((c ∷ y) ∷ ys) p q e = absurd (omega (arith, head_of e, q.0.0))
joined_same ([] ∷ xs) [] p q e = absurd p.0.0
joined_same ((c ∷ x) ∷ xs) [] p q e = absurd (omega (arith, head_of e, p.0.0))
joined_same (x ∷ xs) (y ∷ ys) p q e =
    let s = split Plain x y (further xs) (further ys) p.0.1 q.0.1 (further_stops xs) (further_stops ys) e in
    let one = s.0 in
    let others = further_same xs ys p.1 q.1 s.1 in
    cc

further_inline : (xs : List (List ℕ)) → AllByRecursion Piece xs → AllByRecursion Inline (further xs)
further_inline [] p = tt
further_inline (x ∷ xs) p = (omega arith, All-append Inline x (further xs) (plain_inline x p.0.1) (further_inline xs p.1))

joined_inline : (xs : List (List ℕ)) → AllByRecursion Piece xs → AllByRecursion Inline (joined xs)
joined_inline [] p = (omega arith, (omega arith, (omega arith, tt)))
joined_inline (x ∷ xs) p = All-append Inline x (further xs) (plain_inline x p.0.1) (further_inline xs p.1)

-- comparisons by their first byte, the limit's name, and lower ones by their second too
abbrev Starts : ℕ → List ℕ → Type 0
Starts c x = take 1 x ≡ c ∷ []

abbrev LowerOf : ℕ → List ℕ → Type 0
LowerOf c x = take 2 x ≡ c ∷ 62 ∷ []

lower_starts : (c : ℕ) (x : List ℕ) → LowerOf c x → Starts c x
lower_starts c [] h = absurd (never h)
lower_starts c (y ∷ x) h = ap (take 1) h

lower_stops : (c : ℕ) (xs : List (List ℕ)) → Stops (Starts c) xs → Stops (LowerOf c) xs
lower_stops c [] s = tt
lower_stops c (x ∷ xs) s = λ h. s (lower_starts c x h)

no_equals : RunByte 61 → ⊥
no_equals r = ⊎_elim (λ h. omega (arith, h.0)) (λ s. ⊎_elim (λ h. omega (arith, h.1)) (λ e. omega (arith, e)) s) r

or_none : (x y : Bool) → (x || y) ≡ false → (x ≡ false) × (y ≡ false)
or_none true y e = let z : ◌≡◌ {A = ℕ} 0 1 = cc in absurd (omega arith)
or_none false y e = (refl, e)

-- a name of one byte
abbrev single : ℕ → List ℕ
single c = c ∷ []

abbrev Distinct : List ℕ → Type 0
Distinct [] = Unit {0}
Distinct (c ∷ cs) = AllByRecursion (λ d. d ≡ c → ⊥) cs × Distinct cs

module _ {S : Type 0} (rank : S → ℕ) (text : S → List ℕ) (fit : (m : S) → rank m < 2 ^ 32) (run : (m : S) → RunText (text m)) (apart : Apart text) where
  piece : (c : ℕ) (sign : List ℕ) (m : S) → 98 ≤ c → AllByRecursion Plain sign → Piece (comparison text (single c) sign m)
  piece c sign m h p = (h, (omega arith, All-append Plain sign (text m) p (All-weaker RunByte Plain run_plain (text m) (run m).runs)))

  bound_pieces : (below above : List ℕ) (c : ℕ) (k : Cut S) → AllByRecursion Plain below → AllByRecursion Plain above → 98 ≤ c → AllByRecursion Piece (bounds text below above (single c) k)
  bound_pieces below above c LowerEnd p q h = tt
  bound_pieces below above c (Below m) p q h = (piece c below m h p, tt)
  bound_pieces below above c (Above m) p q h = (piece c above m h q, tt)
  bound_pieces below above c UpperEnd p q h = tt

  all_pieces : (cs : List ℕ) (b : Sides S) → AllByRecursion (λ c. 98 ≤ c) cs → AllByRecursion Piece (comparisons text (map single cs) b)
  all_pieces [] b h = tt
  all_pieces (c ∷ cs) [] h = tt
  all_pieces (c ∷ cs) (i ∷ b) h =
      let us = uppers text (single c) i.upper in
      let rest = comparisons text (map single cs) b in
      All-append Piece (lowers text (single c) i.lower) (us ++ rest) (bound_pieces (codes ">=") (codes ">") c i.lower (omega arith, (omega arith, tt)) (omega arith, tt) h.0) (All-append Piece us rest (bound_pieces (codes "<") (codes "<=") c i.upper (omega arith, tt) (omega arith, (omega arith, tt)) h.0) (all_pieces cs b h.1))

  -- the comparisons of other names stop those of this one
  bounds_other : (below above : List ℕ) (d c : ℕ) (k : Cut S) (xs : List (List ℕ)) → (c ≡ d → ⊥) → Stops (Starts d) xs → Stops (Starts d) (bounds text below above (single c) k ++ xs)
  bounds_other below above d c LowerEnd xs ne s = s
  bounds_other below above d c (Below m) xs ne s = λ h. ne (head_of h)
  bounds_other below above d c (Above m) xs ne s = λ h. ne (head_of h)
  bounds_other below above d c UpperEnd xs ne s = s

  others_stop : (d : ℕ) (cs : List ℕ) (b : Sides S) → AllByRecursion (λ c. c ≡ d → ⊥) cs → Stops (Starts d) (comparisons text (map single cs) b)
  others_stop d [] b h = tt
  others_stop d (c ∷ cs) [] h = tt
  others_stop d (c ∷ cs) (i ∷ b) h =
      let rest = comparisons text (map single cs) b in
      bounds_other (codes ">=") (codes ">") d c i.lower (uppers text (single c) i.upper ++ rest) h.0 (bounds_other (codes "<") (codes "<=") d c i.upper rest h.0 (others_stop d cs b h.1))

  -- an upper comparison stops the lower ones
  upper_stops : (c : ℕ) (u : Cut S) (xs : List (List ℕ)) → Stops (Starts c) xs → Stops (LowerOf c) (uppers text (single c) u ++ xs)
  upper_stops c LowerEnd xs s = lower_stops c xs s
  upper_stops c (Below m) xs s = λ h. omega (arith, head_of (rest_of h))
  upper_stops c (Above m) xs s = λ h. omega (arith, head_of (rest_of h))
  upper_stops c UpperEnd xs s = lower_stops c xs s

  lowers_start : (c : ℕ) (l : Cut S) → AllByRecursion (LowerOf c) (lowers text (single c) l)
  lowers_start c LowerEnd = tt
  lowers_start c (Below m) = (refl, tt)
  lowers_start c (Above m) = (refl, tt)
  lowers_start c UpperEnd = tt

  uppers_start : (c : ℕ) (u : Cut S) → AllByRecursion (Starts c) (uppers text (single c) u)
  uppers_start c LowerEnd = tt
  uppers_start c (Below m) = (refl, tt)
  uppers_start c (Above m) = (refl, tt)
  uppers_start c UpperEnd = tt

  -- no text goes on with the second byte of `>=` and `<=`
  no_sign : (m n : S) → 61 ∷ text m ≡ text n → ⊥
  no_sign m n e = no_equals (subst (AllByRecursion RunByte) (sym e) (run n).runs).0

  lower_same : (c : ℕ) (k l : Cut S) → (k ≡ UpperEnd → ⊥) → (l ≡ UpperEnd → ⊥) → lowers text (single c) k ≡ lowers text (single c) l → k ≡ l
  lower_same c UpperEnd l p q e = absurd (p refl)
  lower_same c LowerEnd LowerEnd p q e = refl
  lower_same c LowerEnd (Below n) p q e = absurd (never e)
  lower_same c LowerEnd (Above n) p q e = absurd (never e)
  lower_same c LowerEnd UpperEnd p q e = absurd (q refl)
  lower_same c (Below m) LowerEnd p q e = absurd (never (sym e))
  lower_same c (Below m) (Below n) p q e = ap (λ k. Below k) (apart m n (ap (drop 3) (head_of e)))
  lower_same c (Below m) (Above n) p q e = absurd (no_sign m n (ap (drop 2) (head_of e)))
  lower_same c (Below m) UpperEnd p q e = absurd (q refl)
  lower_same c (Above m) LowerEnd p q e = absurd (never (sym e))
  lower_same c (Above m) (Below n) p q e = absurd (no_sign n m (sym (ap (drop 2) (head_of e))))
  lower_same c (Above m) (Above n) p q e = ap (λ k. Above k) (apart m n (ap (drop 2) (head_of e)))
  lower_same c (Above m) UpperEnd p q e = absurd (q refl)

  upper_same : (c : ℕ) (k l : Cut S) → (k ≡ LowerEnd → ⊥) → (l ≡ LowerEnd → ⊥) → uppers text (single c) k ≡ uppers text (single c) l → k ≡ l
  upper_same c LowerEnd l p q e = absurd (p refl)
  upper_same c UpperEnd UpperEnd p q e = refl
  upper_same c UpperEnd (Below n) p q e = absurd (never e)
  upper_same c UpperEnd (Above n) p q e = absurd (never e)
  upper_same c UpperEnd LowerEnd p q e = absurd (q refl)
  upper_same c (Below m) UpperEnd p q e = absurd (never (sym e))
  upper_same c (Below m) (Below n) p q e = ap (λ k. Below k) (apart m n (ap (drop 2) (head_of e)))
  upper_same c (Below m) (Above n) p q e = absurd (no_sign n m (sym (ap (drop 2) (head_of e))))
  upper_same c (Below m) LowerEnd p q e = absurd (q refl)
  upper_same c (Above m) UpperEnd p q e = absurd (never (sym e))
  upper_same c (Above m) (Below n) p q e = absurd (no_sign m n (ap (drop 2) (head_of e)))
  upper_same c (Above m) (Above n) p q e = ap (λ k. Above k) (apart m n (ap (drop 3) (head_of e)))
  upper_same c (Above m) LowerEnd p q e = absurd (q refl)

  -- a side that is not empty begins before the upper end, and ends behind the lower one
  place_most : (c : Cut S) → place rank c ≤ 2 ^ 33 + 1
  place_most LowerEnd = omega arith
  place_most (Below m) = omega (arith, fit m)
  place_most (Above m) = omega (arith, fit m)
  place_most UpperEnd = omega arith

  begins : (i : Interval S) → empty_side rank i ≡ false → i.lower ≡ UpperEnd → ⊥
  begins i e end = grind (arith, nat_tests, ap (place rank) end, place_most i.upper)

  ends : (i : Interval S) → empty_side rank i ≡ false → i.upper ≡ LowerEnd → ⊥
  ends i e end = grind (arith, nat_tests, ap (place rank) end)

  sides_same : (cs : List ℕ) (a b : Sides S) → Distinct cs → length a ≡ length cs → length b ≡ length cs → empty_box rank a ≡ false → empty_box rank b ≡ false → comparisons text (map single cs) a ≡ comparisons text (map single cs) b → a ≡ b
  sides_same [] [] [] d m n p q e = refl
  sides_same [] [] (j ∷ b) d m n p q e = absurd (omega (arith, n))
  sides_same [] (i ∷ a) b d m n p q e = absurd (omega (arith, m))
  sides_same (c ∷ cs) [] b d m n p q e = absurd (omega (arith, m))
  sides_same (c ∷ cs) (i ∷ a) [] d m n p q e = absurd (omega (arith, n))
  sides_same (c ∷ cs) (i ∷ a) (j ∷ b) d m n p q e =
      let x = comparisons text (map single cs) a in
      let y = comparisons text (map single cs) b in
      let name = single c in
      let left = others_stop c cs a d.0 in
      let right = others_stop c cs b d.0 in
      let one = split (LowerOf c) (lowers text name i.lower) (lowers text name j.lower) (uppers text name i.upper ++ x) (uppers text name j.upper ++ y) (lowers_start c i.lower) (lowers_start c j.lower) (upper_stops c i.upper x left) (upper_stops c j.upper y right) e in
      let two = split (Starts c) (uppers text name i.upper) (uppers text name j.upper) x y (uppers_start c i.upper) (uppers_start c j.upper) left right one.1 in
      let pi = or_none (empty_side rank i) (empty_box rank a) p in
      let qj = or_none (empty_side rank j) (empty_box rank b) q in
      let low = lower_same c i.lower j.lower (begins i pi.0) (begins j qj.0) one.0 in
      let high = upper_same c i.upper j.upper (ends i pi.0) (ends j qj.0) two.0 in
      let side : i ≡ j = λ k. record { lower = low k; upper = high k } in
      let others : a ≡ b = sides_same cs a b d.1 (omega (arith, m)) (omega (arith, n)) pi.1 qj.1 two.1 in
      cc

  abbrev limits : List ℕ
  limits = 112 ∷ 113 ∷ 114 ∷ []

  box_pieces : (b : Sides S) → AllByRecursion Piece (comparisons text names b)
  box_pieces b = all_pieces limits b (omega arith, (omega arith, (omega arith, tt)))

  distinct : Distinct limits
  distinct = ((λ e. omega (arith, e), (λ e. omega (arith, e), tt)), ((λ e. omega (arith, e), tt), (tt, tt)))

  line_split : (b : Sides S) (z : List ℕ) → line text b ++ z ≡ joined (comparisons text names b) ++ (10 ∷ z)
  line_split b z = append_assoc (joined (comparisons text names b)) (codes "\n") z

  lines_same : (xs ys : Boxes S) → AllByRecursion (λ b. length b ≡ 3) xs → AllByRecursion (λ b. length b ≡ 3) ys → AllByRecursion (λ b. empty_box rank b ≡ false) xs → AllByRecursion (λ b. empty_box rank b ≡ false) ys → lines text xs ≡ lines text ys → xs ≡ ys
  lines_same [] [] m n p q e = refl
  lines_same [] (b ∷ ys) m n p q e =
      let j = joined (comparisons text names b) in
      absurd (never (split Inline [] j [] (10 ∷ lines text ys) tt (joined_inline _ (box_pieces b)) tt (λ h. omega (arith, h)) (e ∙ line_split b (lines text ys))).1)
  lines_same (a ∷ xs) [] m n p q e =
      let j = joined (comparisons text names a) in
      absurd (never (split Inline [] j [] (10 ∷ lines text xs) tt (joined_inline _ (box_pieces a)) tt (λ h. omega (arith, h)) (sym e ∙ line_split a (lines text xs))).1)
  lines_same (a ∷ xs) (b ∷ ys) m n p q e =
      let u = comparisons text names a in
      let v = comparisons text names b in
      let s = split Inline (joined u) (joined v) (10 ∷ lines text xs) (10 ∷ lines text ys) (joined_inline u (box_pieces a)) (joined_inline v (box_pieces b)) (λ h. omega (arith, h)) (λ h. omega (arith, h)) (sym (line_split a (lines text xs)) ∙ e ∙ line_split b (lines text ys)) in
      let one : a ≡ b = sides_same limits a b distinct m.0 n.0 p.0 q.0 (joined_same u v (box_pieces a) (box_pieces b) s.0) in
      let others : xs ≡ ys = lines_same xs ys m.1 n.1 p.1 q.1 (rest_of s.1) in
      cc

  pub listings_apart : ListingsApart rank text
  listings_apart xs ys p q e =
      let s = split Inline (decimal (length xs)) (decimal (length ys)) (10 ∷ lines text xs) (10 ∷ lines text ys) (decimal_inline (length xs) (omega (arith, p.few))) (decimal_inline (length ys) (omega (arith, q.few))) (λ h. omega (arith, h)) (λ h. omega (arith, h)) (ap (drop 6) e) in
      lines_same xs ys p.wide q.wide p.filled q.filled (rest_of s.1)
