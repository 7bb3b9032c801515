-- Parts fitted one after another. Assumes nothing.
use Rattle.std.proofs.Common.{◌≡◌, ℕ, ◌+◌, Bool, true, false, cond, ◌&&◌, eqb, ltb, List, [], ◌∷◌, ◌++◌, Ok, Err, None, Some, Option, Result, sym, refl, ap, ◌∙◌, append_assoc, arith}
use Rattle.recording.specs.declared.faults.TapeFault.{TapeFault}
use Rattle.recording.specs.declared.faults.TapeFault.TheVariants.{NoChannel}
use Rattle.scale.specs.declared.faults.ScaleFault.TheVariants.{NoMark}
use Rattle.std.specs.Option.{ok_or}
use Rattle.formula.specs.declared.parts.Comparator.{Comparator}
use Rattle.formula.specs.declared.parts.Operand.{Operand}
use Rattle.formula.specs.declared.parts.Operand.TheVariants.{Limit, Channel, Constant}
use Rattle.formula.specs.declared.parts.Part.{Part}
use Rattle.formula.specs.declared.parts.Part.TheVariants.{Comparison, Unary, Binary}
use Rattle.formula.specs.Conversions.{ConvertsOperand, ConvertsPart}
use Rattle.formula.specs.Assembly.{assembles, wholly}
use Rattle.formula.specs.Orders.{reach}
use Rattle.bench.specs.Settings.{channels_checked, compared, fitted_from, fitted_operand, fitted_part, marked, onward, operand_checked}

-- what a check let pass
passed : (b : Bool) (r : Result (Unit {0}) TapeFault) (f : TapeFault) → cond b r (Err f) ≡ Ok tt → (b ≡ true) × (r ≡ Ok tt)
passed true r f e = (refl, e)
passed false r f e = let z : ◌≡◌ {A = ℕ} 0 1 = cc in absurd (omega arith)

-- what stands, and behind it what is to come
abbrev pub follow : {S E : Type 0} → List S → Result (List S) E → Result (List S) E
follow qs (Ok ps) = Ok (qs ++ ps)
follow qs (Err e) = Err e

nothing : (S : Type 0) (n : ℕ) (rs : List ℕ) → assembles {K = S} n [] rs ≡ assembles {K = ℕ} n [] rs
nothing S n [] = refl
nothing S n (r ∷ []) = refl
nothing S n (r ∷ s ∷ rs) = refl

module _ {S : Type 0} (named : ℕ → Option S) (channels : ℕ) where
  pub one_more : (k : ℕ) (qs : List (Part S)) (q : Part S) (r : Result (List (Part S)) (ℕ × TapeFault)) → follow qs (onward named channels k (Ok q) r) ≡ follow (qs ++ (q ∷ [])) r
  one_more k qs q (Ok ps) = ap Ok (sym (append_assoc qs (q ∷ []) ps))
  one_more k qs q (Err e) = refl

  marked_ok : (x : Option S) (m : S) → Ok m ≡ ok_or x NoMark → marked named channels x ≡ Ok (Constant m)
  marked_ok None m e = let z : ◌≡◌ {A = ℕ} 0 1 = cc in absurd (omega arith)
  marked_ok (Some n) m e = let same : n ≡ m = cc in ap (λ k. Ok (Constant k)) same

  operand_fits : (p : Operand ℕ) (q : Operand S) → operand_checked channels p ≡ Ok tt → ConvertsOperand (λ k out. out ≡ ok_or (named k) NoMark) p (Ok q) → fitted_operand named channels p ≡ Ok q
  operand_fits (Limit l) q e h = let same : Limit l ≡ q = cc in ap Ok same
  operand_fits (Channel c) q e h = ap (λ b. cond b (Ok (Channel c)) (Err NoChannel)) (passed (ltb c channels) (Ok tt) NoChannel e).0 ∙ (let same : Channel c ≡ q = cc in ap Ok same)
  operand_fits (Constant k) q e h = marked_ok (named k) h.0 h.1 ∙ ap Ok (sym h.2)

  -- a part whose channels there are and whose constant is converted is fitted
  pub part_fits : (p : Part ℕ) (q : Part S) → channels_checked channels p ≡ Ok tt → ConvertsPart (λ k out. out ≡ ok_or (named k) NoMark) p (Ok q) → fitted_part named channels p ≡ Ok q
  part_fits (Comparison channel c o) q e h =
      let known = passed (ltb channel channels) (operand_checked channels o) NoChannel e in
      ap (λ b. cond b (compared named channels channel c (fitted_operand named channels o)) (Err NoChannel)) known.0
      ∙ ap (compared named channels channel c) (operand_fits o h.0 known.1 h.1)
      ∙ ap Ok (sym h.2)
  part_fits (Unary op a) q e h = let same : Unary op a ≡ q = cc in ap Ok same
  part_fits (Binary op l r) q e h = let same : Binary op l r ≡ q = cc in ap Ok same

  compared_reach : (channel : ℕ) (c : Comparator) (r : Result (Operand S) TapeFault) (q : Part S) → compared named channels channel c r ≡ Ok q → reach q ≡ 0
  compared_reach channel c (Ok o) q e = let same : Comparison channel c o ≡ q = cc in ap reach (sym same)
  compared_reach channel c (Err f) q e = let z : ◌≡◌ {A = ℕ} 0 1 = cc in absurd (omega arith)

  known_reach : (t : Bool) (channel : ℕ) (c : Comparator) (r : Result (Operand S) TapeFault) (f : TapeFault) (q : Part S) → cond t (compared named channels channel c r) (Err f) ≡ Ok q → reach q ≡ 0
  known_reach true channel c r f q e = compared_reach channel c r q e
  known_reach false channel c r f q e = let z : ◌≡◌ {A = ℕ} 0 1 = cc in absurd (omega arith)

  -- a fitted part has the operands that it had
  pub same_reach : (p : Part ℕ) (q : Part S) → fitted_part named channels p ≡ Ok q → reach q ≡ reach p
  same_reach (Comparison channel c o) q e = known_reach (ltb channel channels) channel c (fitted_operand named channels o) _ q e
  same_reach (Unary op a) q e = let same : Unary op a ≡ q = cc in ap reach (sym same)
  same_reach (Binary op l r) q e = let same : Binary op l r ≡ q = cc in ap reach (sym same)

  -- a fitted part is of the kind that it was
  abbrev Alike : Part ℕ → Part S → Type 0
  Alike (Comparison channel c o) q = (d : ℕ) × (e : Comparator) × (x : Operand S) × (q ≡ Comparison d e x)
  Alike (Unary op a) q = q ≡ Unary op a
  Alike (Binary op l r) q = q ≡ Binary op l r

  compared_alike : (channel : ℕ) (c : Comparator) (r : Result (Operand S) TapeFault) (q : Part S) → compared named channels channel c r ≡ Ok q → (d : ℕ) × (e : Comparator) × (x : Operand S) × (q ≡ Comparison d e x)
  compared_alike channel c (Ok o) q e = let same : Comparison channel c o ≡ q = cc in (channel, c, o, sym same)
  compared_alike channel c (Err f) q e = let z : ◌≡◌ {A = ℕ} 0 1 = cc in absurd (omega arith)

  known_alike : (t : Bool) (channel : ℕ) (c : Comparator) (r : Result (Operand S) TapeFault) (f : TapeFault) (q : Part S) → cond t (compared named channels channel c r) (Err f) ≡ Ok q → (d : ℕ) × (e : Comparator) × (x : Operand S) × (q ≡ Comparison d e x)
  known_alike true channel c r f q e = compared_alike channel c r q e
  known_alike false channel c r f q e = let z : ◌≡◌ {A = ℕ} 0 1 = cc in absurd (omega arith)

  alike : (p : Part ℕ) (q : Part S) → fitted_part named channels p ≡ Ok q → Alike p q
  alike (Comparison channel c o) q e = known_alike (ltb channel channels) channel c (fitted_operand named channels o) _ q e
  alike (Unary op a) q e = let same : Unary op a ≡ q = cc in sym same
  alike (Binary op l r) q e = let same : Binary op l r ≡ q = cc in sym same

  pub onward_ok : (k : ℕ) (a : Result (Part S) TapeFault) (b : Result (List (Part S)) (ℕ × TapeFault)) (qs : List (Part S)) → onward named channels k a b ≡ Ok qs → (q : Part S) × (rest : List (Part S)) × (a ≡ Ok q) × (b ≡ Ok rest) × (qs ≡ q ∷ rest)
  onward_ok k (Ok q) (Ok rest) qs e = let same : q ∷ rest ≡ qs = cc in (q, rest, refl, refl, sym same)
  onward_ok k (Ok q) (Err f) qs e = let z : ◌≡◌ {A = ℕ} 0 1 = cc in absurd (omega arith)
  onward_ok k (Err f) b qs e = let z : ◌≡◌ {A = ℕ} 0 1 = cc in absurd (omega arith)

  -- the first part of a list goes the same way, whatever its constants
  first_alike : (p : Part ℕ) (q : Part S) (ps : List (Part ℕ)) (qs : List (Part S)) → Alike p q → ((n : ℕ) (rs : List ℕ) → assembles n qs rs ≡ assembles n ps rs) → (n : ℕ) (rs : List ℕ) → assembles n (q ∷ qs) rs ≡ assembles n (p ∷ ps) rs
  first_alike (Comparison channel c o) q ps qs a more n rs = ap (λ x. assembles n (x ∷ qs) rs) a.3 ∙ more (n + 1) (n ∷ rs)
  first_alike (Unary op x) q ps qs a more n [] = ap (λ y. assembles n (y ∷ qs) []) a
  first_alike (Unary op x) q ps qs a more n (r ∷ rs) = ap (λ y. assembles n (y ∷ qs) (r ∷ rs)) a ∙ ap (λ b. eqb x r && b) (more (n + 1) (n ∷ rs))
  first_alike (Binary op x y) q ps qs a more n [] = ap (λ z. assembles n (z ∷ qs) []) a
  first_alike (Binary op x y) q ps qs a more n (r ∷ []) = ap (λ z. assembles n (z ∷ qs) (r ∷ [])) a
  first_alike (Binary op x y) q ps qs a more n (r ∷ s ∷ rs) = ap (λ z. assembles n (z ∷ qs) (r ∷ s ∷ rs)) a ∙ ap (λ b. eqb y r && (eqb x s && b)) (more (n + 1) (n ∷ rs))

  fitted_assembles : (ps : List (Part ℕ)) (qs : List (Part S)) (k : ℕ) → fitted_from named channels k ps ≡ Ok qs → (n : ℕ) (rs : List ℕ) → assembles n qs rs ≡ assembles n ps rs
  fitted_assembles [] qs k e n rs = let same : [] ≡ qs = cc in ap (λ (l : List (Part S)). assembles n l rs) (sym same) ∙ nothing S n rs
  fitted_assembles (p ∷ ps) qs k e n rs =
      let h = onward_ok k (fitted_part named channels p) (fitted_from named channels (k + 1) ps) qs e in
      ap (λ (l : List (Part S)). assembles n l rs) h.4 ∙ first_alike p h.0 ps h.1 (alike p h.0 h.2) (fitted_assembles ps h.1 (k + 1) h.3) n rs

  -- fitted parts are those of one formula where the parts were
  pub fitted_whole : (ps : List (Part ℕ)) (qs : List (Part S)) → fitted_from named channels 0 ps ≡ Ok qs → wholly ps ≡ true → wholly qs ≡ true
  fitted_whole [] qs e w = let same : [] ≡ qs = cc in ap wholly (sym same)
  fitted_whole (p ∷ ps) qs e w =
      let h = onward_ok 0 (fitted_part named channels p) (fitted_from named channels 1 ps) qs e in
      ap wholly h.4 ∙ ap (λ (l : List (Part S)). assembles 0 l []) (sym h.4) ∙ fitted_assembles (p ∷ ps) qs 0 e 0 [] ∙ w
