-- Adding a box keeps what is covered, join covers the union and meet the intersection. Assumes nothing.
use Rattle.std.proofs.Common.{◌≡◌, ℕ, ◌<◌, ◌≤◌, min, max, Bool, true, false, cond, ◌&&◌, ◌||◌, ltb, ◌⊎◌, List, [], ◌∷◌, ◌++◌, map, length, Ok, Err, sym, refl, ap, ◌∙◌, subst, inl, inr, ⊎_elim, arith}
use Rattle.std.proofs.ByRecursion.{All-append, All-push}
use Rattle.std.proofs.lemmas.List.{length_push}
use Rattle.std.proofs.lemmas.Bool.Decides.{nat_tests}
use Rattle.scale.specs.declared.cuts.Cut.{Cut}
use Rattle.scale.specs.Cuts.{Between, place}
use Rattle.domain.specs.declared.sides.Interval.{Interval}
use Rattle.domain.specs.Added.{Boxes, Outcome, Sides, added, and_then, joined, met, outside, overlaps, some_contains}
use Rattle.domain.specs.Boxes.{contains_box, empty_box, overlap_box}
use Rattle.domain.specs.Covering.{Covered, Extends, In, Intersection, Union, Wide}
use Rattle.domain.specs.Sides.{contains_side, earlier_cut, empty_side, later_cut, overlap_side}

and_split : (x y : Bool) → (x && y) ≡ true → (x ≡ true) × (y ≡ true)
and_split true y e = (refl, e)
and_split false y e = let z : ◌≡◌ {A = ℕ} 0 1 = cc in absurd (omega arith)

or_split : (x y : Bool) → (x || y) ≡ true → (x ≡ true) ⊎ (y ≡ true)
or_split true y e = inl refl
or_split false y e = inr e

or_none : (x y : Bool) → (x || y) ≡ false → (x ≡ false) × (y ≡ false)
or_none true y e = let z : ◌≡◌ {A = ℕ} 0 1 = cc in absurd (omega arith)
or_none false y e = (refl, e)

never : false ≡ true → ⊥
never e = let z : ◌≡◌ {A = ℕ} 0 1 = cc in omega arith

module _ {S : Type 0} (rank : S → ℕ) where
  chosen_place : (t : Bool) (a b : Cut S) → place rank (cond t b a) ≡ cond t (place rank b) (place rank a)
  chosen_place true a b = refl
  chosen_place false a b = refl

  later_place : (a b : Cut S) → place rank (later_cut rank a b) ≡ max (place rank a) (place rank b)
  later_place a b = chosen_place (ltb (place rank a) (place rank b)) a b ∙ grind (arith, nat_tests)

  earlier_place : (a b : Cut S) → place rank (earlier_cut rank a b) ≡ min (place rank a) (place rank b)
  earlier_place a b = chosen_place (ltb (place rank b) (place rank a)) a b ∙ grind (arith, nat_tests)

  -- no mark lies in an empty side, and a side holds what a side that it contains holds
  side_empty : (i : Interval S) (m : S) → empty_side rank i ≡ true → Between rank i.lower i.upper m → ⊥
  side_empty i m e b = grind (arith, nat_tests, b.0, b.1)

  side_contains : (i j : Interval S) (m : S) → contains_side rank i j ≡ true → Between rank j.lower j.upper m → Between rank i.lower i.upper m
  side_contains i j m e b = grind (arith, nat_tests, b.0, b.1)

  side_overlap : (i j : Interval S) (m : S) → Between rank (overlap_side rank i j).lower (overlap_side rank i j).upper m → Between rank i.lower i.upper m × Between rank j.lower j.upper m
  side_overlap i j m b =
      let l = later_place i.lower j.lower in
      let u = earlier_place i.upper j.upper in
      ((omega (arith, b.0), omega (arith, b.1)), (omega (arith, b.0), omega (arith, b.1)))

  side_meets : (i j : Interval S) (m : S) → Between rank i.lower i.upper m → Between rank j.lower j.upper m → Between rank (overlap_side rank i j).lower (overlap_side rank i j).upper m
  side_meets i j m a b =
      let l = later_place i.lower j.lower in
      let u = earlier_place i.upper j.upper in
      (omega (arith, a.0, b.0), omega (arith, a.1, b.1))

  in_empty : (ms : List S) (b : Sides S) → empty_box rank b ≡ true → In rank ms b → ⊥
  in_empty [] [] e h = never e
  in_empty [] (i ∷ is) e h = h
  in_empty (m ∷ ms) [] e h = h
  in_empty (m ∷ ms) (i ∷ is) e h = ⊎_elim (λ x. side_empty i m x h.0) (λ x. in_empty ms is x h.1) (or_split (empty_side rank i) (empty_box rank is) e)

  in_contains : (ms : List S) (a b : Sides S) → length a ≡ length ms → contains_box rank a b ≡ true → In rank ms b → In rank ms a
  in_contains [] [] b l e h = tt
  in_contains [] (i ∷ a) b l e h = absurd (omega arith)
  in_contains (m ∷ ms) [] b l e h = absurd (omega arith)
  in_contains (m ∷ ms) (i ∷ a) [] l e h = absurd h
  in_contains (m ∷ ms) (i ∷ a) (j ∷ b) l e h =
      let both = and_split (contains_side rank i j) (contains_box rank a b) e in
      (side_contains i j m both.0 h.0, in_contains ms a b (omega arith) both.1 h.1)

  pub in_overlap : (ms : List S) (a b : Sides S) → In rank ms (overlap_box rank a b) → length a ≡ length ms → length b ≡ length ms → In rank ms a × In rank ms b
  in_overlap [] [] [] h l k = (tt, tt)
  in_overlap [] [] (j ∷ b) h l k = absurd (omega arith)
  in_overlap [] (i ∷ a) b h l k = absurd (omega arith)
  in_overlap (m ∷ ms) [] b h l k = absurd (omega arith)
  in_overlap (m ∷ ms) (i ∷ a) [] h l k = absurd (omega arith)
  in_overlap (m ∷ ms) (i ∷ a) (j ∷ b) h l k =
      let side = side_overlap i j m h.0 in
      let rest = in_overlap ms a b h.1 (omega arith) (omega arith) in
      ((side.0, rest.0), (side.1, rest.1))

  pub in_both : (ms : List S) (a b : Sides S) → In rank ms a → In rank ms b → In rank ms (overlap_box rank a b)
  in_both [] [] [] g h = tt
  in_both [] [] (j ∷ b) g h = absurd h
  in_both [] (i ∷ a) b g h = absurd g
  in_both (m ∷ ms) [] b g h = absurd g
  in_both (m ∷ ms) (i ∷ a) [] g h = absurd h
  in_both (m ∷ ms) (i ∷ a) (j ∷ b) g h = (side_meets i j m g.0 h.0, in_both ms a b g.1 h.1)

  -- what is covered by a list and by one box more
  covered_left : (ms : List S) (xs ys : Boxes S) → Covered rank ms xs → Covered rank ms (xs ++ ys)
  covered_left ms [] ys h = absurd h
  covered_left ms (x ∷ xs) ys h = ⊎_elim inl (λ c. inr (covered_left ms xs ys c)) h

  covered_right : (ms : List S) (xs ys : Boxes S) → Covered rank ms ys → Covered rank ms (xs ++ ys)
  covered_right ms [] ys h = h
  covered_right ms (x ∷ xs) ys h = inr (covered_right ms xs ys h)

  covered_split : (ms : List S) (xs ys : Boxes S) → Covered rank ms (xs ++ ys) → Covered rank ms xs ⊎ Covered rank ms ys
  covered_split ms [] ys h = inr h
  covered_split ms (x ∷ xs) ys h = ⊎_elim (λ a. inl (inl a)) (λ c. ⊎_elim (λ d. inl (inr d)) inr (covered_split ms xs ys c)) h

  contained_covered : (ms : List S) (xs : Boxes S) (b : Sides S) → Wide (length ms) xs → some_contains rank xs b ≡ true → In rank ms b → Covered rank ms xs
  contained_covered ms [] b w e h = never e
  contained_covered ms (x ∷ xs) b w e h = ⊎_elim (λ c. inl (in_contains ms x b w.0 c h)) (λ c. inr (contained_covered ms xs b w.1 c h)) (or_split (contains_box rank x b) (some_contains rank xs b) e)

  -- the boxes that b contains may leave where b comes
  split_one : (ms : List S) (b x : Sides S) (rest : Boxes S) (t : Bool) → contains_box rank b x ≡ t → length b ≡ length ms → In rank ms x ⊎ (Covered rank ms rest ⊎ In rank ms b) → Covered rank ms (cond t rest (x ∷ rest)) ⊎ In rank ms b
  split_one ms b x rest true e l h = ⊎_elim (λ i. inr (in_contains ms b x l e i)) (λ c. c) h
  split_one ms b x rest false e l h = ⊎_elim (λ i. inl (inl i)) (λ c. ⊎_elim (λ d. inl (inr d)) inr c) h

  outside_covered : (ms : List S) (b : Sides S) (xs : Boxes S) → length b ≡ length ms → Covered rank ms xs → Covered rank ms (outside rank b xs) ⊎ In rank ms b
  outside_covered ms b [] l h = absurd h
  outside_covered ms b (x ∷ xs) l h = split_one ms b x (outside rank b xs) (contains_box rank b x) refl l (⊎_elim inl (λ c. inr (outside_covered ms b xs l c)) h)

  outside_from : (ms : List S) (b : Sides S) (xs : Boxes S) → Covered rank ms (outside rank b xs) → Covered rank ms xs
  outside_from ms b [] h = h
  outside_from ms b (x ∷ xs) h = elim (contains_box rank b x) as (λ t. Covered rank ms (cond t (outside rank b xs) (x ∷ outside rank b xs)) → Covered rank ms (x ∷ xs)) [ true ↦ λ g. inr (outside_from ms b xs g) | false ↦ λ g. ⊎_elim inl (λ c. inr (outside_from ms b xs c)) g ] h

  outside_wide : (n : ℕ) (b : Sides S) (xs : Boxes S) → Wide n xs → Wide n (outside rank b xs)
  outside_wide n b [] w = tt
  outside_wide n b (x ∷ xs) w = elim (contains_box rank b x) as (λ t. Wide n (cond t (outside rank b xs) (x ∷ outside rank b xs))) [ true ↦ outside_wide n b xs w.1 | false ↦ (w.0, outside_wide n b xs w.1) ]

  skipped : (n : ℕ) (xs : Boxes S) (b : Sides S) → Wide n xs → (empty_box rank b || some_contains rank xs b) ≡ true → Extends rank n xs b xs
  skipped n xs b w e = record {
    wide = w;
    from = λ ms c. inl c;
    to_old = λ ms l c. c;
    to_new = λ ms l h. ⊎_elim (λ none. absurd (in_empty ms b none h)) (λ some. contained_covered ms xs b (subst (λ k. Wide k xs) (sym l) w) some h) (or_split (empty_box rank b) (some_contains rank xs b) e);
  }

  put_last : (n : ℕ) (xs : Boxes S) (b : Sides S) → Wide n xs → length b ≡ n → Extends rank n xs b (outside rank b xs ++ (b ∷ []))
  put_last n xs b w l = record {
    wide = All-push (λ x. length x ≡ n) (outside rank b xs) b (outside_wide n b xs w) l;
    from = λ ms c. ⊎_elim (λ d. inl (outside_from ms b xs d)) (λ d. ⊎_elim inr (λ never_there. absurd never_there) d) (covered_split ms (outside rank b xs) (b ∷ []) c);
    to_old = λ ms k c. ⊎_elim (λ d. covered_left ms (outside rank b xs) (b ∷ []) d) (λ i. covered_right ms (outside rank b xs) (b ∷ []) (inl i)) (outside_covered ms b xs (l ∙ sym k) c);
    to_new = λ ms k h. covered_right ms (outside rank b xs) (b ∷ []) (inl h);
  }

  added_by : (n : ℕ) (xs ys : Boxes S) (b : Sides S) (t u : Bool) → Wide n xs → length b ≡ n → (empty_box rank b || some_contains rank xs b) ≡ t → cond t (Ok xs) (cond u (Ok (outside rank b xs ++ (b ∷ []))) (Err xs)) ≡ Ok ys → Extends rank n xs b ys
  added_by n xs ys b true u w l e o = let same : xs ≡ ys = cc in subst (Extends rank n xs b) same (skipped n xs b w e)
  added_by n xs ys b false true w l e o = let same : outside rank b xs ++ (b ∷ []) ≡ ys = cc in subst (Extends rank n xs b) same (put_last n xs b w l)
  added_by n xs ys b false false w l e o = let z : ◌≡◌ {A = ℕ} 0 1 = cc in absurd (omega arith)

  -- a box that is added: the list covers what it did, and the box
  pub add_covers : (n : ℕ) (xs ys : Boxes S) (b : Sides S) → Wide n xs → length b ≡ n → added rank xs b ≡ Ok ys → Extends rank n xs b ys
  add_covers n xs ys b w l o = added_by n xs ys b (empty_box rank b || some_contains rank xs b) (ltb (length (outside rank b xs)) 32) w l refl o

  both_steps : (n : ℕ) (y : Sides S) (ys xs ws zs : Boxes S) → Extends rank n xs y ws → Union rank n ws ys zs → Union rank n xs (y ∷ ys) zs
  both_steps n y ys xs ws zs one more = record {
    wide = more.wide;
    from = λ ms c. ⊎_elim (λ d. ⊎_elim inl (λ i. inr (inl i)) (one.from ms d)) (λ d. inr (inr d)) (more.from ms c);
    to_one = λ ms l c. more.to_one ms l (one.to_old ms l c);
    to_two = λ ms l c. ⊎_elim (λ i. more.to_one ms l (one.to_new ms l i)) (λ d. more.to_two ms l d) c;
  }

  joined_by : (n : ℕ) (y : Sides S) (ys xs zs : Boxes S) (a : Outcome S) → ((ws : Boxes S) → added rank xs y ≡ Ok ws → Extends rank n xs y ws) → ((ws : Boxes S) → Wide n ws → joined rank ws ys ≡ Ok zs → Union rank n ws ys zs) → added rank xs y ≡ a → and_then a (λ ws. joined rank ws ys) ≡ Ok zs → Union rank n xs (y ∷ ys) zs
  joined_by n y ys xs zs (Ok ws) one more e o = both_steps n y ys xs ws zs (one ws e) (more ws (one ws e).wide o)
  joined_by n y ys xs zs (Err ws) one more e o = let z : ◌≡◌ {A = ℕ} 0 1 = cc in absurd (omega arith)

  -- a list that is joined: the union
  pub join_covers : (n : ℕ) (ys xs zs : Boxes S) → Wide n xs → Wide n ys → joined rank xs ys ≡ Ok zs → Union rank n xs ys zs
  join_covers n [] xs zs w v o = let same : xs ≡ zs = cc in subst (Union rank n xs []) same (record { wide = w; from = λ ms c. inl c; to_one = λ ms l c. c; to_two = λ ms l c. absurd c })
  join_covers n (y ∷ ys) xs zs w v o = joined_by n y ys xs zs (added rank xs y) (λ ws e. add_covers n xs ws y w v.0 e) (λ ws wide e. join_covers n ys ws zs wide v.1 e) refl o

  overlap_length : (a b : Sides S) (n : ℕ) → length a ≡ n → length b ≡ n → length (overlap_box rank a b) ≡ n
  overlap_length [] b n l k = l
  overlap_length (i ∷ a) [] n l k = absurd (omega arith)
  overlap_length (i ∷ a) (j ∷ b) n l k = omega (arith, overlap_length a b (length a) refl (omega arith))

  row_wide : (n : ℕ) (a : Sides S) (bs : Boxes S) → length a ≡ n → Wide n bs → Wide n (map (overlap_box rank a) bs)
  row_wide n a [] l w = tt
  row_wide n a (b ∷ bs) l w = (overlap_length a b n l w.0, row_wide n a bs l w.1)

  overlaps_wide : (n : ℕ) (ls bs : Boxes S) → Wide n ls → Wide n bs → Wide n (overlaps rank ls bs)
  overlaps_wide n [] bs w v = tt
  overlaps_wide n (a ∷ ls) bs w v = All-append (λ x. length x ≡ n) (map (overlap_box rank a) bs) (overlaps rank ls bs) (row_wide n a bs w.0 v) (overlaps_wide n ls bs w.1 v)

  row_from : (ms : List S) (a : Sides S) (bs : Boxes S) → length a ≡ length ms → Wide (length ms) bs → Covered rank ms (map (overlap_box rank a) bs) → In rank ms a × Covered rank ms bs
  row_from ms a [] l w h = absurd h
  row_from ms a (b ∷ bs) l w h =
      ⊎_elim (λ i. let both = in_overlap ms a b i l w.0 in (both.0, inl both.1)) (λ c. let rest = row_from ms a bs l w.1 c in (rest.0, inr rest.1)) h

  row_to : (ms : List S) (a : Sides S) (bs : Boxes S) → In rank ms a → Covered rank ms bs → Covered rank ms (map (overlap_box rank a) bs)
  row_to ms a [] i h = absurd h
  row_to ms a (b ∷ bs) i h = ⊎_elim (λ j. inl (in_both ms a b i j)) (λ c. inr (row_to ms a bs i c)) h

  overlaps_from : (ms : List S) (ls bs : Boxes S) → Wide (length ms) ls → Wide (length ms) bs → Covered rank ms (overlaps rank ls bs) → Covered rank ms ls × Covered rank ms bs
  overlaps_from ms [] bs w v h = absurd h
  overlaps_from ms (a ∷ ls) bs w v h =
      ⊎_elim (λ c. let both = row_from ms a bs w.0 v c in (inl both.0, both.1)) (λ c. let rest = overlaps_from ms ls bs w.1 v c in (inr rest.0, rest.1)) (covered_split ms (map (overlap_box rank a) bs) (overlaps rank ls bs) h)

  overlaps_to : (ms : List S) (ls bs : Boxes S) → Covered rank ms ls → Covered rank ms bs → Covered rank ms (overlaps rank ls bs)
  overlaps_to ms [] bs g h = absurd g
  overlaps_to ms (a ∷ ls) bs g h = ⊎_elim (λ i. covered_left ms (map (overlap_box rank a) bs) (overlaps rank ls bs) (row_to ms a bs i h)) (λ c. covered_right ms (map (overlap_box rank a) bs) (overlaps rank ls bs) (overlaps_to ms ls bs c h)) g

  -- lists that meet: the intersection
  pub meet_covers : (n : ℕ) (ls bs zs : Boxes S) → Wide n ls → Wide n bs → met rank ls bs ≡ Ok zs → Intersection rank n ls bs zs
  meet_covers n ls bs zs w v o =
      let u = join_covers n (overlaps rank ls bs) [] zs tt (overlaps_wide n ls bs w v) o in
      record {
        wide = u.wide;
        from = λ ms l c. ⊎_elim (λ none. absurd none) (λ d. overlaps_from ms ls bs (subst (λ k. Wide k ls) (sym l) w) (subst (λ k. Wide k bs) (sym l) v) d) (u.from ms c);
        to = λ ms l g h. u.to_two ms l (overlaps_to ms ls bs g h);
      }

  few_by : (xs ys : Boxes S) (b : Sides S) (t u : Bool) → length xs ≤ 32 → ltb (length (outside rank b xs)) 32 ≡ u → cond t (Ok xs) (cond u (Ok (outside rank b xs ++ (b ∷ []))) (Err xs)) ≡ Ok ys → length ys ≤ 32
  few_by xs ys b true u few e o = let same : xs ≡ ys = cc in omega (arith, ap length same)
  few_by xs ys b false true few e o =
      let same : outside rank b xs ++ (b ∷ []) ≡ ys = cc in
      let under : length (outside rank b xs) < 32 = grind (arith, nat_tests) in
      omega (arith, ap length same, length_push (outside rank b xs) b)
  few_by xs ys b false false few e o = let z : ◌≡◌ {A = ℕ} 0 1 = cc in absurd (omega arith)

  pub never_too_many : (xs ys : Boxes S) (b : Sides S) → length xs ≤ 32 → added rank xs b ≡ Ok ys → length ys ≤ 32
  never_too_many xs ys b few o = few_by xs ys b (empty_box rank b || some_contains rank xs b) (ltb (length (outside rank b xs)) 32) few refl o
