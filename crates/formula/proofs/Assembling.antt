-- Parts assemble exactly where they are those of one formula, in their numbering. Assumes nothing.
use Rattle.std.proofs.Common.{◌≡◌, ℕ, ◌+◌, ◌≤◌, Bool, true, false, ◌&&◌, eqb, ◌⊎◌, List, [], ◌∷◌, ◌++◌, length, sym, refl, ap, ◌∙◌, subst, inl, inr, append_assoc, append-nil, arith, length-append, eq-eqb, eqb-true}
use Rattle.std.proofs.lemmas.List.{length_push}
use Rattle.formula.specs.Assembly.{assembles, wholly}
use Rattle.formula.specs.Trees.{Tree, compares, numbered, one, root, size, two}
use Rattle.formula.specs.declared.parts.Comparator.{Comparator}
use Rattle.formula.specs.declared.parts.Operand.{Operand}
use Rattle.formula.specs.declared.parts.Part.{Part}
use Rattle.formula.specs.declared.parts.Part.TheVariants.{Comparison, Unary, Binary}
use Rattle.formula.specs.declared.parts.UnaryOperator.{UnaryOperator}
use Rattle.formula.specs.declared.parts.BinaryOperator.{BinaryOperator}

same : (a : ℕ) (x : Bool) → (eqb a a && x) ≡ x
same a x = ap (λ b. b && x) (eq-eqb a a refl)

both : (x y : Bool) → (x && y) ≡ true → (x ≡ true) × (y ≡ true)
both true y e = (refl, e)
both false y e = let z : ◌≡◌ {A = ℕ} 0 1 = cc in absurd (omega arith)

module _ {K : Type 0} where
  pub size_some : (t : Tree K) → 1 ≤ size t
  size_some (compares channel comparator operand) = omega arith
  size_some (one op t) = omega arith
  size_some (two op l r) = omega arith

  pub numbered_length : (n : ℕ) (t : Tree K) → length (numbered n t) ≡ size t
  numbered_length n (compares channel comparator operand) = refl
  numbered_length n (one op t) = length-append (numbered n t) (Unary op (root n t) ∷ []) ∙ ap (λ k. k + 1) (numbered_length n t)
  numbered_length n (two op l r) =
      let end : List (Part K) = Binary op (root n l) (root (n + size l) r) ∷ [] in
      omega (arith, length-append (numbered n l) (numbered (n + size l) r ++ end), length-append (numbered (n + size l) r) end, numbered_length n l, numbered_length (n + size l) r)

  -- the parts of a formula come to one that stands alone
  pub numbered_assembles : (t : Tree K) (n : ℕ) (ps : List (Part K)) (rs : List ℕ) → assembles n (numbered n t ++ ps) rs ≡ assembles (n + size t) ps (root n t ∷ rs)
  numbered_assembles (compares channel comparator operand) n ps rs = ap (λ k. assembles (n + 1) ps (k ∷ rs)) (omega arith)
  numbered_assembles (one op t) n ps rs =
      let some = size_some t in
      let p = Unary op (root n t) in
      ap (λ (l : List (Part K)). assembles n l rs) (append_assoc (numbered n t) (p ∷ []) ps)
      ∙ numbered_assembles t n (p ∷ ps) rs
      ∙ same (root n t) (assembles (n + size t + 1) ps ((n + size t) ∷ rs))
      ∙ ap (λ k. assembles k ps ((n + size t) ∷ rs)) (omega arith)
      ∙ ap (λ k. assembles (n + (size t + 1)) ps (k ∷ rs)) (omega arith)
  numbered_assembles (two op l r) n ps rs =
      let p = Binary op (root n l) (root (n + size l) r) in
      let nl = numbered n l in
      let nr = numbered (n + size l) r in
      let top = n + size l + size r in
      ap (λ (x : List (Part K)). assembles n x rs) (append_assoc nl (nr ++ (p ∷ [])) ps ∙ ap (λ (x : List (Part K)). nl ++ x) (append_assoc nr (p ∷ []) ps))
      ∙ numbered_assembles l n (nr ++ (p ∷ ps)) rs
      ∙ numbered_assembles r (n + size l) (p ∷ ps) (root n l ∷ rs)
      ∙ same (root (n + size l) r) (eqb (root n l) (root n l) && assembles (top + 1) ps (top ∷ rs))
      ∙ same (root n l) (assembles (top + 1) ps (top ∷ rs))
      ∙ ap (λ k. assembles k ps (top ∷ rs)) (omega arith)
      ∙ ap (λ k. assembles (n + (size l + size r + 1)) ps (k ∷ rs)) (omega arith)

  -- formulas side by side, whose last parts have these numbers, the last of them first
  abbrev Forest : List (Part K) → List ℕ → Type 0
  Forest parts [] = parts ≡ []
  Forest parts (r ∷ rs) = (before : List (Part K)) × (t : Tree K) × Forest before rs × (parts ≡ before ++ numbered (length before) t) × (r ≡ root (length before) t)

  -- one part more, which stands alone
  with_comparison : (parts : List (Part K)) (rs : List ℕ) (channel : ℕ) (comparator : Comparator) (operand : Operand K) → Forest parts rs → Forest (parts ++ (Comparison channel comparator operand ∷ [])) (length parts ∷ rs)
  with_comparison parts rs channel comparator operand f = (parts, compares channel comparator operand, f, refl, omega arith)

  -- an operator over the last formula, or the last two
  with_unary : (parts : List (Part K)) (r : ℕ) (rs : List ℕ) (op : UnaryOperator) (a : ℕ) → a ≡ r → Forest parts (r ∷ rs) → Forest (parts ++ (Unary op a ∷ [])) (length parts ∷ rs)
  with_unary parts r rs op a e f =
      let before = f.0 in
      let t = f.1 in
      let n = length before in
      let at : a ≡ root n t = e ∙ f.4 in (
        before,
        one op t,
        f.2,
        ap (λ (l : List (Part K)). l ++ (Unary op a ∷ [])) f.3 ∙ append_assoc before (numbered n t) (Unary op a ∷ []) ∙ ap (λ k. before ++ (numbered n t ++ (Unary op k ∷ []))) at,
        omega (arith, ap length f.3, length-append before (numbered n t), numbered_length n t),
      )

  with_binary : (parts : List (Part K)) (r s : ℕ) (rs : List ℕ) (op : BinaryOperator) (a b : ℕ) → b ≡ r → a ≡ s → Forest parts (r ∷ s ∷ rs) → Forest (parts ++ (Binary op a b ∷ [])) (length parts ∷ rs)
  with_binary parts r s rs op a b e d f =
      let inner = f.2 in
      let before = inner.0 in
      let t = f.1 in
      let u = inner.1 in
      let n = length before in
      let middle : length f.0 ≡ n + size u = omega (arith, ap length inner.3, length-append before (numbered n u), numbered_length n u) in
      let right : b ≡ root (n + size u) t = e ∙ f.4 ∙ ap (λ k. root k t) middle in
      let left : a ≡ root n u = d ∙ inner.4 in
      let all : parts ≡ before ++ (numbered n u ++ numbered (n + size u) t) = f.3 ∙ ap (λ k. f.0 ++ numbered k t) middle ∙ ap (λ (l : List (Part K)). l ++ numbered (n + size u) t) inner.3 ∙ append_assoc before (numbered n u) (numbered (n + size u) t) in
      let end : List (Part K) = Binary op a b ∷ [] in (
        before,
        two op u t,
        inner.2,
        ap (λ (l : List (Part K)). l ++ end) all
            ∙ append_assoc before (numbered n u ++ numbered (n + size u) t) end
            ∙ ap (λ (l : List (Part K)). before ++ l) (append_assoc (numbered n u) (numbered (n + size u) t) end)
            ∙ (λ i. before ++ (numbered n u ++ (numbered (n + size u) t ++ (Binary op (left i) (right i) ∷ [])))),
        omega (arith, ap length all, length-append before (numbered n u ++ numbered (n + size u) t), length-append (numbered n u) (numbered (n + size u) t), numbered_length n u, numbered_length (n + size u) t),
      )

  -- what the rest of the parts makes of them
  assembled : (ps parts : List (Part K)) (n : ℕ) (rs : List ℕ) → length parts ≡ n → Forest parts rs → assembles n ps rs ≡ true → (t : Tree K) × (parts ++ ps ≡ numbered 0 t)
  assembled [] parts n [] l f e = let z : ◌≡◌ {A = ℕ} 0 1 = cc in absurd (omega arith)
  assembled [] parts n (r ∷ []) l f e =
      let none : f.0 ≡ [] = f.2 in
      (f.1, append-nil parts ∙ f.3 ∙ ap (λ (b : List (Part K)). b ++ numbered (length b) f.1) none)
  assembled [] parts n (r ∷ s ∷ rs) l f e = let z : ◌≡◌ {A = ℕ} 0 1 = cc in absurd (omega arith)
  assembled (Comparison channel comparator operand ∷ ps) parts n rs l f e =
      let p = Comparison channel comparator operand in
      let done = assembled ps (parts ++ (p ∷ [])) (n + 1) (n ∷ rs) (length_push parts p ∙ ap (λ k. k + 1) l) (subst (λ k. Forest (parts ++ (p ∷ [])) (k ∷ rs)) l (with_comparison parts rs channel comparator operand f)) e in
      (done.0, sym (append_assoc parts (p ∷ []) ps) ∙ done.1)
  assembled (Unary op a ∷ ps) parts n [] l f e = let z : ◌≡◌ {A = ℕ} 0 1 = cc in absurd (omega arith)
  assembled (Unary op a ∷ ps) parts n (r ∷ rs) l f e =
      let p = Unary op a in
      let h = both (eqb a r) (assembles (n + 1) ps (n ∷ rs)) e in
      let done = assembled ps (parts ++ (p ∷ [])) (n + 1) (n ∷ rs) (length_push parts p ∙ ap (λ k. k + 1) l) (subst (λ k. Forest (parts ++ (p ∷ [])) (k ∷ rs)) l (with_unary parts r rs op a (eqb-true a r h.0) f)) h.1 in
      (done.0, sym (append_assoc parts (p ∷ []) ps) ∙ done.1)
  assembled (Binary op a b ∷ ps) parts n [] l f e = let z : ◌≡◌ {A = ℕ} 0 1 = cc in absurd (omega arith)
  assembled (Binary op a b ∷ ps) parts n (r ∷ []) l f e = let z : ◌≡◌ {A = ℕ} 0 1 = cc in absurd (omega arith)
  assembled (Binary op a b ∷ ps) parts n (r ∷ s ∷ rs) l f e =
      let p = Binary op a b in
      let h = both (eqb b r) (eqb a s && assembles (n + 1) ps (n ∷ rs)) e in
      let k = both (eqb a s) (assembles (n + 1) ps (n ∷ rs)) h.1 in
      let done = assembled ps (parts ++ (p ∷ [])) (n + 1) (n ∷ rs) (length_push parts p ∙ ap (λ k. k + 1) l) (subst (λ k. Forest (parts ++ (p ∷ [])) (k ∷ rs)) l (with_binary parts r s rs op a b (eqb-true b r h.0) (eqb-true a s k.0) f)) k.1 in
      (done.0, sym (append_assoc parts (p ∷ []) ps) ∙ done.1)

  -- no parts, or those of one formula, in their numbering
  pub whole_tree : (parts : List (Part K)) → wholly parts ≡ true → (parts ≡ []) ⊎ ((t : Tree K) × (parts ≡ numbered 0 t))
  whole_tree [] e = inl refl
  whole_tree (p ∷ ps) e = inr (assembled (p ∷ ps) [] 0 [] refl refl e)

  -- the other way round
  numbered_some : (t : Tree K) (parts : List (Part K)) → parts ≡ numbered 0 t → assembles 0 parts [] ≡ true
  numbered_some t parts e = ap (λ (l : List (Part K)). assembles 0 l []) (e ∙ sym (append-nil (numbered 0 t))) ∙ numbered_assembles t 0 [] []

  pub tree_whole : (t : Tree K) (parts : List (Part K)) → parts ≡ numbered 0 t → wholly parts ≡ true
  tree_whole t [] e = refl
  tree_whole t (p ∷ ps) e = numbered_some t (p ∷ ps) e
