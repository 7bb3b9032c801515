-- A listing that was made step by step is the listing, and it has room. Assumes nothing.
use Rattle.std.proofs.Common.{◌≡◌, ℕ, ◌+◌, ◌*◌, ◌≤◌, Bool, true, false, List, [], ◌∷◌, ◌++◌, length, take, codes, decimal, sym, refl, ap, ◌∙◌, append_assoc, append-nil, arith, length-append, take_all}
use Rattle.std.specs.List.{AllByRecursion}
use Rattle.std.proofs.lemmas.Fmt.{length-decimal-le}
use Rattle.scale.specs.declared.cuts.Cut.{Cut}
use Rattle.scale.specs.declared.cuts.Cut.TheVariants.{LowerEnd, Below, Above, UpperEnd}
use Rattle.scale.specs.Marks.{RunText}
use Rattle.domain.specs.declared.sides.Interval.{Interval}
use Rattle.domain.specs.Added.{Boxes, Sides}
use Rattle.listing.specs.Growing.{bounded, boxed, compared, ended, headed, lined, sided, uppered}
use Rattle.listing.specs.Held.{State, behind}
use Rattle.listing.specs.Listings.{bounds, comparison, comparisons, further, joined, line, lines, listing_text, lowers, names, uppers}
use Rattle.listing.proofs.Behind.{behind_both}

-- comparisons that follow on a line, begun or not, and whether it is begun then
abbrev pub tail : Bool → List (List ℕ) → List ℕ
tail true xs = further xs
tail false [] = []
tail false (x ∷ xs) = x ++ further xs

abbrev pub more : Bool → List (List ℕ) → Bool
more f [] = f
more f (x ∷ xs) = true

pub further_append : (xs ys : List (List ℕ)) → further (xs ++ ys) ≡ further xs ++ further ys
further_append [] ys = refl
further_append (x ∷ xs) ys = ap (λ (l : List ℕ). 44 ∷ (x ++ l)) (further_append xs ys) ∙ ap (λ (l : List ℕ). 44 ∷ l) (sym (append_assoc x (further xs) (further ys)))

more_true : (xs : List (List ℕ)) → more true xs ≡ true
more_true [] = refl
more_true (x ∷ xs) = refl

tail_append : (f : Bool) (xs ys : List (List ℕ)) → tail f (xs ++ ys) ≡ tail f xs ++ tail (more f xs) ys
tail_append true [] ys = refl
tail_append true (x ∷ xs) ys = further_append (x ∷ xs) ys
tail_append false [] ys = refl
tail_append false (x ∷ xs) ys = ap (λ (l : List ℕ). x ++ l) (further_append xs ys) ∙ sym (append_assoc x (further xs) (further ys))

more_append : (f : Bool) (xs ys : List (List ℕ)) → more f (xs ++ ys) ≡ more (more f xs) ys
more_append f [] ys = refl
more_append f (x ∷ xs) ys = sym (more_true ys)

-- what stands after these comparisons, behind t and a
abbrev grown : List ℕ → List ℕ → Bool → List (List ℕ) → State
grown t a f xs = (behind t (a ++ tail f xs), more f xs)

grown_append : (t a : List ℕ) (f : Bool) (xs ys : List (List ℕ)) → grown t (a ++ tail f xs) (more f xs) ys ≡ grown t a f (xs ++ ys)
grown_append t a f xs ys =
    let text : (a ++ tail f xs) ++ tail (more f xs) ys ≡ a ++ tail f (xs ++ ys) = append_assoc a (tail f xs) (tail (more f xs) ys) ∙ ap (λ (l : List ℕ). a ++ l) (sym (tail_append f xs ys)) in
    λ i. (behind t (text i), sym (more_append f xs ys) i)

-- nothing more
grown_none : (t a : List ℕ) (f : Bool) → (behind t a, f) ≡ grown t a f []
grown_none t a true = ap (λ (l : List ℕ). (behind t l, true)) (sym (append-nil a))
grown_none t a false = ap (λ (l : List ℕ). (behind t l, false)) (sym (append-nil a))

three : (t a x y z : List ℕ) → behind (behind (behind (behind t a) x) y) z ≡ behind t (a ++ ((x ++ (y ++ z)) ++ []))
three t a x y z =
    ap (λ (l : List ℕ). behind (behind l y) z) (behind_both t a x)
    ∙ ap (λ (l : List ℕ). behind l z) (behind_both t (a ++ x) y)
    ∙ behind_both t ((a ++ x) ++ y) z
    ∙ ap (behind t) (simp (append_assoc, append-nil))

module _ {S : Type 0} (text : S → List ℕ) where
  compared_is : (t a : List ℕ) (f : Bool) (name sign : List ℕ) (m : S) → compared text (behind t a, f) name sign m ≡ grown t a f (comparison text name sign m ∷ [])
  compared_is t a false name sign m = ap (λ (l : List ℕ). (l, true)) (three t a name sign (text m))
  compared_is t a true name sign m =
      ap (λ (l : List ℕ). (behind (behind (behind l name) sign) (text m), true)) (behind_both t a (codes ","))
      ∙ ap (λ (l : List ℕ). (l, true)) (three t (a ++ codes ",") name sign (text m))
      ∙ ap (λ (l : List ℕ). (behind t l, true)) (append_assoc a (codes ",") (comparison text name sign m ++ []))

  bounded_is : (below above t a : List ℕ) (f : Bool) (name : List ℕ) (c : Cut S) → bounded text below above (behind t a, f) name c ≡ grown t a f (bounds text below above name c)
  bounded_is below above t a f name LowerEnd = grown_none t a f
  bounded_is below above t a f name (Below m) = compared_is t a f name below m
  bounded_is below above t a f name (Above m) = compared_is t a f name above m
  bounded_is below above t a f name UpperEnd = grown_none t a f

  sided_is : (t a : List ℕ) (f : Bool) (name : List ℕ) (i : Interval S) → sided text (behind t a, f) name i ≡ grown t a f (lowers text name i.lower ++ uppers text name i.upper)
  sided_is t a f name i =
      let ls = lowers text name i.lower in
      ap (λ (s : State). uppered text s name i.upper) (bounded_is (codes ">=") (codes ">") t a f name i.lower)
      ∙ bounded_is (codes "<") (codes "<=") t (a ++ tail f ls) (more f ls) name i.upper
      ∙ grown_append t a f ls (uppers text name i.upper)

  boxed_is : (t a : List ℕ) (f : Bool) (ns : List (List ℕ)) (b : Sides S) → boxed text (behind t a, f) ns b ≡ grown t a f (comparisons text ns b)
  boxed_is t a f [] b = grown_none t a f
  boxed_is t a f (n ∷ ns) [] = grown_none t a f
  boxed_is t a f (n ∷ ns) (i ∷ b) =
      let ls = lowers text n i.lower in
      let us = uppers text n i.upper in
      ap (λ (s : State). boxed text s ns b) (sided_is t a f n i)
      ∙ boxed_is t (a ++ tail f (ls ++ us)) (more f (ls ++ us)) ns b
      ∙ grown_append t a f (ls ++ us) (comparisons text ns b)
      ∙ ap (grown t a f) (append_assoc ls us (comparisons text ns b))

  ended_is : (t a : List ℕ) (xs : List (List ℕ)) → ended (grown t a false xs) ≡ (behind t (a ++ (joined xs ++ codes "\n")), false)
  ended_is t a [] =
      ap (λ (l : List ℕ). (behind l (codes "\n"), false)) (behind_both t (a ++ []) (codes "any"))
      ∙ ap (λ (l : List ℕ). (l, false)) (behind_both t ((a ++ []) ++ codes "any") (codes "\n"))
      ∙ ap (λ (l : List ℕ). (behind t l, false)) (append_assoc (a ++ []) (codes "any") (codes "\n") ∙ append_assoc a [] (codes "any\n"))
  ended_is t a (x ∷ xs) =
      ap (λ (l : List ℕ). (l, false)) (behind_both t (a ++ (x ++ further xs)) (codes "\n"))
      ∙ ap (λ (l : List ℕ). (behind t l, false)) (append_assoc a (x ++ further xs) (codes "\n"))

  lined_is : (t a : List ℕ) (bs : Boxes S) → lined text (behind t a, false) bs ≡ (behind t (a ++ lines text bs), false)
  lined_is t a [] = grown_none t a false
  lined_is t a (b ∷ bs) =
      ap (λ (s : State). lined text (ended s) bs) (boxed_is t a false names b)
      ∙ ap (λ (s : State). lined text s bs) (ended_is t a (comparisons text names b))
      ∙ lined_is t (a ++ line text b) bs
      ∙ ap (λ (l : List ℕ). (behind t l, false)) (append_assoc a (line text b) (lines text bs))

  -- the whole, as far as there is room
  whole : (bs : Boxes S) → lined text (headed [] (length bs), false) bs ≡ (take 4096 (listing_text text bs), false)
  whole bs =
      let a = codes "boxes " in
      let d = decimal (length bs) in
      let n = codes "\n" in
      ap (λ (l : List ℕ). lined text (behind l n, false) bs) (behind_both [] a d)
      ∙ ap (λ (l : List ℕ). lined text (l, false) bs) (behind_both [] (a ++ d) n)
      ∙ lined_is [] ((a ++ d) ++ n) bs
      ∙ ap (λ (l : List ℕ). (take 4096 l, false)) (append_assoc (a ++ d) n (lines text bs) ∙ append_assoc a d (n ++ lines text bs))

  module _ (run : (m : S) → RunText (text m)) where
    comparison_short : (name sign : List ℕ) (m : S) → length name ≤ 1 → length sign ≤ 2 → length (comparison text name sign m) ≤ 19
    comparison_short name sign m h k = omega (arith, length-append name (sign ++ text m), length-append sign (text m), (run m).short)

    one_short : (name sign : List ℕ) (m : S) → length name ≤ 1 → length sign ≤ 2 → length (further (comparison text name sign m ∷ [])) ≤ 20
    one_short name sign m h k = omega (arith, comparison_short name sign m h k, ap length (append-nil (comparison text name sign m)))

    bounds_short : (below above name : List ℕ) (c : Cut S) → length below ≤ 2 → length above ≤ 2 → length name ≤ 1 → length (further (bounds text below above name c)) ≤ 20
    bounds_short below above name LowerEnd k l h = omega arith
    bounds_short below above name (Below m) k l h = one_short name below m h k
    bounds_short below above name (Above m) k l h = one_short name above m h l
    bounds_short below above name UpperEnd k l h = omega arith

    box_short : (ns : List (List ℕ)) (b : Sides S) → AllByRecursion (λ n. length n ≤ 1) ns → length (further (comparisons text ns b)) ≤ 40 * length ns
    box_short [] b h = omega arith
    box_short (n ∷ ns) [] h = omega arith
    box_short (n ∷ ns) (i ∷ b) h =
        let ls = lowers text n i.lower in
        let us = uppers text n i.upper in
        let rest = comparisons text ns b in
        omega (arith, ap length (further_append ls (us ++ rest)), length-append (further ls) (further (us ++ rest)), ap length (further_append us rest), length-append (further us) (further rest), bounds_short (codes ">=") (codes ">") n i.lower (omega arith) (omega arith) h.0, bounds_short (codes "<") (codes "<=") n i.upper (omega arith) (omega arith) h.0, box_short ns b h.1)

    joined_short : (xs : List (List ℕ)) → length (joined xs) ≤ 3 + length (further xs)
    joined_short [] = omega arith
    joined_short (x ∷ xs) = omega arith

    line_short : (b : Sides S) → length (line text b) ≤ 124
    line_short b =
        let xs = comparisons text names b in
        omega (arith, length-append (joined xs) (codes "\n"), joined_short xs, box_short names b (omega arith, (omega arith, (omega arith, tt))))

    lines_short : (bs : Boxes S) → length (lines text bs) ≤ 124 * length bs
    lines_short [] = omega arith
    lines_short (b ∷ bs) = omega (arith, length-append (line text b) (lines text bs), line_short b, lines_short bs)

    pub listing_short : (bs : Boxes S) → length bs ≤ 32 → length (listing_text text bs) ≤ 4096
    listing_short bs few =
        omega (arith, length-append (decimal (length bs)) (codes "\n" ++ lines text bs), length-decimal-le 2 (length bs) (omega arith) (omega arith) (omega arith), lines_short bs)

    pub made_whole : (bs : Boxes S) → length bs ≤ 32 → lined text (headed [] (length bs), false) bs ≡ (listing_text text bs, false)
    made_whole bs few = whole bs ∙ ap (λ (l : List ℕ). (l, false)) (take_all 4096 (listing_text text bs) (listing_short bs few))
