-- What one turn of a loop over boxes does to the list. Assumes nothing.
use Rattle.std.proofs.Common.{◌≡◌, ℕ, suc, ◌+◌, ◌<◌, ◌≤◌, Bool, true, false, cond, ◌||◌, ltb, List, [], ◌∷◌, ◌++◌, length, get_or, drop, filter, not, Ok, Err, vec_items, vec_len, Result, sym, refl, ap, ◌∙◌, arith}
use lib.ListN.{length-map}
use Rattle.std.proofs.lemmas.List.{drop_more, drop_all, drop-map}
use Rattle.std.proofs.lemmas.Bool.Decides.{nat_tests}
use Rattle.domain.specs.declared.lists.Domain.{Domain}
use Rattle.domain.specs.declared.lists.Full.{Full}
use Rattle.domain.specs.declared.shapes.Orthotope.{Orthotope}
use Rattle.domain.specs.Added.{Boxes, Sides, Outcome, some_contains, outside, added, joined, and_then}
use Rattle.domain.specs.Boxes.{sides_of, contains_box, empty_box}
use Rattle.domain.specs.Listed.{sides_in, boxes_of, reached}

pub length_boxes : {S : Type 0} (d : Domain S) → length (boxes_of d) ≡ vec_len d.boxes
length_boxes d = length-map (vec_items d.boxes) sides_of ∙ sym d.boxes.ok.0

-- the boxes from the i-th on: that box, and the ones behind it
pub boxes_at : {S : Type 0} (items bs : List (Orthotope S)) → bs ≡ items → (i : ℕ) (x : Orthotope S) → i < length bs → x ≡ get_or bs i x → drop i (sides_in items) ≡ sides_of x ∷ drop (i + 1) (sides_in items)
boxes_at items bs same i x h e =
    ap (λ l. drop i (sides_in l)) (sym same)
    ∙ drop-map sides_of i bs
    ∙ ap sides_in (drop_more bs i x h)
    ∙ ap (λ y. sides_of y ∷ sides_in (drop (i + 1) bs)) (sym e)
    ∙ ap (λ l. sides_of x ∷ l) (sym (drop-map sides_of (i + 1) bs))
    ∙ ap (λ l. sides_of x ∷ drop (i + 1) (sides_in l)) same

-- no box is left
pub boxes_end : {S : Type 0} (items bs : List (Orthotope S)) → bs ≡ items → (i : ℕ) → length bs ≤ i → drop i (sides_in items) ≡ []
boxes_end items bs same i h = drop_all i (sides_in items) (omega (arith, length-map items sides_of, ap length same))

module _ {S : Type 0} (rank : S → ℕ) where
  pub some_step : (x : Bool) (b : Sides S) (ys rest : Boxes S) (y : Sides S) → x ≡ some_contains rank ys b → ys ≡ y ∷ rest → x ≡ (contains_box rank y b || some_contains rank rest b)
  some_step x b ys rest y e f = e ∙ ap (λ l. some_contains rank l b) f

  -- what a filter leaves
  pub outside_filter : (b : Sides S) (bs : List (Orthotope S)) → sides_in (filter (λ x. not (contains_box rank b (sides_of x))) bs) ≡ outside rank b (sides_in bs)
  outside_filter b [] = refl
  outside_filter b (x ∷ xs) =
      let left = filter (λ y. not (contains_box rank b (sides_of y))) xs in
      elim (contains_box rank b (sides_of x)) as (λ t. sides_in (cond (not t) (x ∷ left) left) ≡ cond t (outside rank b (sides_in xs)) (sides_of x ∷ outside rank b (sides_in xs))) [ true ↦ outside_filter b xs | false ↦ ap (λ l. sides_of x ∷ l) (outside_filter b xs) ]

  outside_le : (b : Sides S) (xs : Boxes S) → length (outside rank b xs) ≤ length xs
  outside_le b [] = omega arith
  outside_le b (x ∷ xs) =
      elim (contains_box rank b x) as (λ t. length (cond t (outside rank b xs) (x ∷ outside rank b xs)) ≤ suc (length xs)) [ true ↦ omega (arith, outside_le b xs) | false ↦ omega (arith, outside_le b xs) ]

  -- where as many are left, all are
  outside_all : (b : Sides S) (xs : Boxes S) → length xs ≤ length (outside rank b xs) → outside rank b xs ≡ xs
  outside_all b [] = λ h. refl
  outside_all b (x ∷ xs) =
      elim (contains_box rank b x) as (λ t. suc (length xs) ≤ length (cond t (outside rank b xs) (x ∷ outside rank b xs)) → cond t (outside rank b xs) (x ∷ outside rank b xs) ≡ x ∷ xs) [ true ↦ λ h. absurd (omega (arith, outside_le b xs)) | false ↦ λ h. ap (λ l. x ∷ l) (outside_all b xs (omega arith)) ]

  pub add_stops : (xs left : Boxes S) (b : Sides S) → left ≡ outside rank b xs → empty_box rank b ≡ false → some_contains rank xs b ≡ false → 32 ≤ length left → length xs ≤ 32 → Err left ≡ added rank xs b
  add_stops xs left b e f g full few =
      let whole : outside rank b xs ≡ xs = outside_all b xs (omega (arith, ap length e)) in
      let past : ltb (length (outside rank b xs)) 32 ≡ false = grind (arith, nat_tests, ap length e) in
      ap Err (e ∙ whole)
      ∙ ap (λ t. cond t (Ok (outside rank b xs ++ (b ∷ []))) (Err xs)) (sym past)
      ∙ ap (λ t. cond t (Ok xs) (cond (ltb (length (outside rank b xs)) 32) (Ok (outside rank b xs ++ (b ∷ []))) (Err xs))) (sym ((λ i. f i || g i)))

  pub add_ends : (xs left more : Boxes S) (b : Sides S) → left ≡ outside rank b xs → empty_box rank b ≡ false → some_contains rank xs b ≡ false → length left < 32 → more ≡ left ++ (b ∷ []) → Ok more ≡ added rank xs b
  add_ends xs left more b e f g room put =
      let under : ltb (length (outside rank b xs)) 32 ≡ true = grind (arith, nat_tests, ap length e) in
      ap Ok (put ∙ ap (λ l. l ++ (b ∷ [])) e)
      ∙ ap (λ t. cond t (Ok (outside rank b xs ++ (b ∷ []))) (Err xs)) (sym under)
      ∙ ap (λ t. cond t (Ok xs) (cond (ltb (length (outside rank b xs)) 32) (Ok (outside rank b xs ++ (b ∷ []))) (Err xs))) (sym ((λ i. f i || g i)))

  -- one box of those to be joined: the list was stopped at it, or goes on without it
  pub join_stops : (x : Outcome S) (xs left ys rest : Boxes S) (y : Sides S) (r : Result (Unit {0}) Full) (f : Full) → x ≡ joined rank xs ys → ys ≡ y ∷ rest → reached r left ≡ added rank xs y → r ≡ Err f → Err left ≡ x
  join_stops x xs left ys rest y r f e next add err =
      ap (λ o. and_then o (λ zs. joined rank zs rest)) (ap (λ t. reached t left) (sym err) ∙ add) ∙ ap (joined rank xs) (sym next) ∙ sym e

  pub join_goes : (x : Outcome S) (xs left ys rest : Boxes S) (y : Sides S) (r : Result (Unit {0}) Full) (u : Unit {0}) → x ≡ joined rank xs ys → ys ≡ y ∷ rest → reached r left ≡ added rank xs y → r ≡ Ok u → x ≡ joined rank left rest
  join_goes x xs left ys rest y r u e next add ok =
      e ∙ ap (joined rank xs) next ∙ ap (λ o. and_then o (λ zs. joined rank zs rest)) (sym add ∙ ap (λ t. reached t left) ok)

  pub join_ends : (x : Outcome S) (xs ys : Boxes S) → x ≡ joined rank xs ys → ys ≡ [] → Ok xs ≡ x
  join_ends x xs ys e none = sym (e ∙ ap (joined rank xs) none)

  join_append : (xs ys zs : Boxes S) → joined rank xs (ys ++ zs) ≡ and_then (joined rank xs ys) (λ ws. joined rank ws zs)
  join_append xs [] zs = refl
  join_append xs (y ∷ ys) zs =
      elim (added rank xs y) as (λ o. and_then o (λ ws. joined rank ws (ys ++ zs)) ≡ and_then (and_then o (λ ws. joined rank ws ys)) (λ ws. joined rank ws zs)) [ Ok ws ↦ join_append ws ys zs | Err ws ↦ refl ]

  -- some boxes of those to be joined, in the same way
  pub joins_stop : (x : Outcome S) (xs left ys more rest : Boxes S) (r : Result (Unit {0}) Full) (f : Full) → x ≡ joined rank xs ys → ys ≡ more ++ rest → reached r left ≡ joined rank xs more → r ≡ Err f → Err left ≡ x
  joins_stop x xs left ys more rest r f e next join err =
      ap (λ o. and_then o (λ zs. joined rank zs rest)) (ap (λ t. reached t left) (sym err) ∙ join) ∙ sym (join_append xs more rest) ∙ ap (joined rank xs) (sym next) ∙ sym e

  pub joins_go : (x : Outcome S) (xs left ys more rest : Boxes S) (r : Result (Unit {0}) Full) (u : Unit {0}) → x ≡ joined rank xs ys → ys ≡ more ++ rest → reached r left ≡ joined rank xs more → r ≡ Ok u → x ≡ joined rank left rest
  joins_go x xs left ys more rest r u e next join ok =
      e ∙ ap (joined rank xs) next ∙ join_append xs more rest ∙ ap (λ o. and_then o (λ zs. joined rank zs rest)) (sym join ∙ ap (λ t. reached t left) ok)
