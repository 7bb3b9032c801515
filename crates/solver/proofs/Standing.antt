-- Where the parts of a formula stand in a list of parts, and which signs they have. Assumes nothing.
use Rattle.std.proofs.Common.{◌≡◌, ℕ, ◌+◌, ◌-◌, ◌<◌, ◌≤◌, Bool, false, List, [], ◌∷◌, ◌++◌, reverse, length, get_or, set, replicate, sym, refl, ap, ◌∙◌, subst, append_assoc, append-nil, arith, length-append, length-set, get_or-set_other, get_or-set_same}
use lib.ListN.{get_or-replicate, length-reverse}
use lib.Seq.{get_or-append_seam}
use Rattle.std.proofs.lemmas.List.{reverse-append}
use Rattle.formula.specs.declared.parts.Part.{Part}
use Rattle.formula.specs.declared.parts.Part.TheVariants.{Comparison, Unary, Binary}
use Rattle.formula.specs.Trees.{Tree, compares, numbered, one, root, size, two}
use Rattle.solver.specs.Signs.{handed, handed_down, left_sign, operand_sign, part_signs}

-- p is the part with the number k
pub record Has {S : Type 0} (parts : List (Part S)) (k : ℕ) (p : Part S) : Type 0 where
  pub within : k < length parts
  pub is : (d : Part S) → get_or parts k d ≡ p

module _ {S : Type 0} (parts : List (Part S)) where
  -- the parts of the formula stand in the list, the first at n
  abbrev pub Stands : ℕ → Tree S → Type 0
  Stands n (compares channel comparator operand) = Has parts (root n (compares channel comparator operand)) (Comparison channel comparator operand)
  Stands n (one op t) = Stands n t × Has parts (root n (one op t)) (Unary op (root n t))
  Stands n (two op l r) = Stands n l × Stands (n + size l) r × Has parts (root n (two op l r)) (Binary op (root n l) (root (n + size l) r))

-- the signs of its parts, where the whole of it has the one given
abbrev pub Signed : {S : Type 0} → List Bool → ℕ → Bool → Tree S → Type 0
Signed signs n turned (compares channel comparator operand) = get_or signs (n + 1 - 1) false ≡ turned
Signed signs n turned (one op t) = Signed signs n (operand_sign op turned) t × (get_or signs (root n (one op t)) false ≡ turned)
Signed signs n turned (two op l r) = Signed signs n (left_sign op turned) l × Signed signs (n + size l) turned r × (get_or signs (root n (two op l r)) false ≡ turned)

module _ {S : Type 0} where
  pub size_some : (t : Tree S) → 1 ≤ size t
  size_some (compares channel comparator operand) = omega arith
  size_some (one op t) = omega arith
  size_some (two op l r) = omega arith

  pub numbered_length : (n : ℕ) (t : Tree S) → length (numbered n t) ≡ size t
  numbered_length n (compares channel comparator operand) = refl
  numbered_length n (one op t) = length-append (numbered n t) (Unary op (root n t) ∷ []) ∙ ap (λ k. k + 1) (numbered_length n t)
  numbered_length n (two op l r) =
      let last = Binary op (root n l) (root (n + size l) r) ∷ [] in
      omega (arith, length-append (numbered n l) (numbered (n + size l) r ++ last), length-append (numbered (n + size l) r) last, numbered_length n l, numbered_length (n + size l) r)

  has_seam : (parts xs post : List (Part S)) (p : Part S) (k : ℕ) → parts ≡ xs ++ (p ∷ post) → length xs ≡ k → Has parts k p
  has_seam parts xs post p k e l = record {
    within = omega (arith, ap length e, length-append xs (p ∷ post));
    is = λ d. ap (λ (x : List (Part S)). get_or x k d) e ∙ ap (λ n. get_or (xs ++ (p ∷ post)) n d) (sym l) ∙ get_or-append_seam xs p post d;
  }

  pub stands : (t : Tree S) (n : ℕ) (parts pre post : List (Part S)) → parts ≡ pre ++ (numbered n t ++ post) → length pre ≡ n → Stands parts n t
  stands (compares channel comparator operand) n parts pre post e l = has_seam parts pre post (Comparison channel comparator operand) (n + 1 - 1) e (omega arith)
  stands (one op t) n parts pre post e l =
      let p = Unary op (root n t) in
      let flat : parts ≡ pre ++ (numbered n t ++ (p ∷ post)) = e ∙ ap (λ (x : List (Part S)). pre ++ x) (append_assoc (numbered n t) (p ∷ []) post) in (
        stands t n parts pre (p ∷ post) flat l,
        has_seam parts (pre ++ numbered n t) post p (n + (size t + 1) - 1) (flat ∙ sym (append_assoc pre (numbered n t) (p ∷ post))) (omega (arith, length-append pre (numbered n t), numbered_length n t)),
      )
  stands (two op l r) n parts pre post e len =
      let p = Binary op (root n l) (root (n + size l) r) in
      let nl = numbered n l in
      let nr = numbered (n + size l) r in
      let flat : parts ≡ pre ++ (nl ++ (nr ++ (p ∷ post))) = e ∙ ap (λ (x : List (Part S)). pre ++ x) (append_assoc nl (nr ++ (p ∷ [])) post ∙ ap (λ (x : List (Part S)). nl ++ x) (append_assoc nr (p ∷ []) post)) in
      let front : parts ≡ (pre ++ nl) ++ (nr ++ (p ∷ post)) = flat ∙ sym (append_assoc pre nl (nr ++ (p ∷ post))) in
      let long : length (pre ++ nl) ≡ n + size l = omega (arith, length-append pre nl, numbered_length n l) in (
        stands l n parts pre (nr ++ (p ∷ post)) flat len,
        stands r (n + size l) parts (pre ++ nl) (p ∷ post) front long,
        has_seam parts ((pre ++ nl) ++ nr) post p (n + (size l + size r + 1) - 1) (front ∙ sym (append_assoc (pre ++ nl) nr (p ∷ post))) (omega (arith, long, length-append (pre ++ nl) nr, numbered_length (n + size l) r)),
      )

  -- signs from n on are all that matters
  signed_kept : (t : Tree S) (n : ℕ) (turned : Bool) (signs more : List Bool) → ((k : ℕ) → n ≤ k → get_or more k false ≡ get_or signs k false) → Signed signs n turned t → Signed more n turned t
  signed_kept (compares channel comparator operand) n turned signs more kept s = kept (n + 1 - 1) (omega arith) ∙ s
  signed_kept (one op t) n turned signs more kept s = (signed_kept t n (operand_sign op turned) signs more kept s.0, kept (root n (one op t)) (omega arith) ∙ s.1)
  signed_kept (two op l r) n turned signs more kept s = (
    signed_kept l n (left_sign op turned) signs more kept s.0,
    signed_kept r (n + size l) turned signs more (λ k le. kept k (omega arith)) s.1,
    kept (root n (two op l r)) (omega arith) ∙ s.2,
  )

  -- what handing down the signs of a formula leaves for the parts before it
  pub record Handed (t : Tree S) (n : ℕ) (turned : Bool) (rest : List (Part S)) (signs : List Bool) : Type 0 where
    pub after : List Bool
    pub goes : handed_down (reverse (numbered n t) ++ rest) signs ≡ handed_down rest after
    pub signed : Signed after n turned t
    pub long : length after ≡ length signs
    pub below : (k : ℕ) → k < n → get_or after k false ≡ get_or signs k false
    pub above : (k : ℕ) → root n t ≤ k → get_or after k false ≡ get_or signs k false

  flat_reverse : (xs rest : List (Part S)) (p : Part S) → reverse (xs ++ (p ∷ [])) ++ rest ≡ p ∷ (reverse xs ++ rest)
  flat_reverse xs rest p = ap (λ (l : List (Part S)). l ++ rest) (reverse-append xs (p ∷ []))

  -- the part that comes first hands its sign down
  hand_first : (xs rest : List (Part S)) (p : Part S) (k : ℕ) (turned : Bool) (signs : List Bool) → length xs + length rest ≡ k → get_or signs k false ≡ turned → handed_down (reverse (xs ++ (p ∷ [])) ++ rest) signs ≡ handed_down (reverse xs ++ rest) (handed p turned signs)
  hand_first xs rest p k turned signs long sign =
      ap (λ (l : List (Part S)). handed_down l signs) (flat_reverse xs rest p)
      ∙ ap (λ n. handed_down (reverse xs ++ rest) (handed p (get_or signs n false) signs)) (omega (arith, length-append (reverse xs) rest, length-reverse xs))
      ∙ ap (λ b. handed_down (reverse xs ++ rest) (handed p b signs)) sign

  pub hands : (t : Tree S) (n : ℕ) (turned : Bool) (rest : List (Part S)) (signs : List Bool) → length rest ≡ n → n + size t ≤ length signs → get_or signs (root n t) false ≡ turned → Handed t n turned rest signs
  hands (compares channel comparator operand) n turned rest signs few fits sign = record { after = signs; goes = refl; signed = sign; long = refl; below = λ k lt. refl; above = λ k le. refl }
  hands (one op t) n turned rest signs few fits sign =
      let down = operand_sign op turned in
      let first = set signs (root n t) down in
      let some = size_some t in
      let inner = hands t n down rest first few (omega (arith, length-set signs (root n t) down)) (get_or-set_same signs (root n t) down false (omega arith)) in
      let over : (k : ℕ) → root n (one op t) ≤ k → get_or inner.after k false ≡ get_or signs k false = λ k le. inner.above k (omega arith) ∙ get_or-set_other signs (root n t) k down false (λ e. omega arith) in
      record {
        after = inner.after;
        goes = hand_first (numbered n t) rest (Unary op (root n t)) (root n (one op t)) turned signs (omega (arith, numbered_length n t)) sign ∙ inner.goes;
        signed = (inner.signed, over (root n (one op t)) (omega arith) ∙ sign);
        long = inner.long ∙ length-set signs (root n t) down;
        below = λ k lt. inner.below k lt ∙ get_or-set_other signs (root n t) k down false (λ e. omega arith);
        above = over;
      }
  hands (two op l r) n turned rest signs few fits sign =
      let down = left_sign op turned in
      let left = root n l in
      let right = root (n + size l) r in
      let somel = size_some l in
      let somer = size_some r in
      let one_set = set signs left down in
      let both_set = set one_set right turned in
      let long_one = length-set signs left down in
      let long_both = length-set one_set right turned in
      let whole = root n (two op l r) in
      let r_rest = reverse (numbered n l) ++ rest in
      let r_few : length r_rest ≡ n + size l = omega (arith, length-append (reverse (numbered n l)) rest, length-reverse (numbered n l), numbered_length n l) in
      let rs = hands r (n + size l) turned r_rest both_set r_few (omega arith) (get_or-set_same one_set right turned false (omega arith)) in
      let l_sign : get_or rs.after left false ≡ down = rs.below left (omega arith) ∙ get_or-set_other one_set right left turned false (λ e. omega arith) ∙ get_or-set_same signs left down false (omega arith) in
      let ls = hands l n down rest rs.after few (omega (arith, rs.long)) l_sign in
      let over : (k : ℕ) → whole ≤ k → get_or ls.after k false ≡ get_or signs k false = λ k le. ls.above k (omega arith) ∙ rs.above k (omega arith) ∙ get_or-set_other one_set right k turned false (λ e. omega arith) ∙ get_or-set_other signs left k down false (λ e. omega arith) in
      let p = Binary op left right in
      let nl = numbered n l in
      let nr = numbered (n + size l) r in
      let flat : reverse (nl ++ (nr ++ (p ∷ []))) ++ rest ≡ reverse ((nl ++ nr) ++ (p ∷ [])) ++ rest = ap (λ (x : List (Part S)). reverse x ++ rest) (sym (append_assoc nl nr (p ∷ []))) in
      let split : reverse (nl ++ nr) ++ rest ≡ reverse nr ++ (reverse nl ++ rest) = ap (λ (x : List (Part S)). x ++ rest) (reverse-append nl nr) ∙ append_assoc (reverse nr) (reverse nl) rest in
      record {
        after = ls.after;
        goes =
            ap (λ (x : List (Part S)). handed_down x signs) flat
            ∙ hand_first (nl ++ nr) rest p whole turned signs (omega (arith, length-append nl nr, numbered_length n l, numbered_length (n + size l) r)) sign
            ∙ ap (λ (x : List (Part S)). handed_down x both_set) split
            ∙ rs.goes
            ∙ ls.goes;
        signed = (ls.signed, signed_kept r (n + size l) turned rs.after ls.after (λ k le. ls.above k (omega arith)) rs.signed, over whole (omega arith) ∙ sign);
        long = ls.long ∙ rs.long ∙ long_both ∙ long_one;
        below = λ k lt. ls.below k lt ∙ rs.below k (omega arith) ∙ get_or-set_other one_set right k turned false (λ e. omega arith) ∙ get_or-set_other signs left k down false (λ e. omega arith);
        above = over;
      }

  -- the signs of a whole formula
  pub signs_stand : (t : Tree S) (parts : List (Part S)) → parts ≡ numbered 0 t → length parts ≤ 24 → Signed (part_signs parts) 0 false t
  signs_stand t parts e few =
      let made = hands t 0 false [] (replicate 24 false) refl (omega (arith, ap length e, numbered_length 0 t)) (get_or-replicate 24 (root 0 t) false false (omega (arith, ap length e, numbered_length 0 t, size_some t))) in
      let whole : part_signs parts ≡ made.after = ap part_signs e ∙ ap (λ (l : List (Part S)). handed_down l (replicate 24 false)) (sym (append-nil (reverse (numbered 0 t)))) ∙ made.goes in
      subst (λ signs. Signed signs 0 false t) (sym whole) made.signed
