-- A text says one formula at most.
use Rattle.std.proofs.Common.{◌≡◌, ℕ, List, [], ◌∷◌, ◌++◌, sym, refl, ap, ◌∙◌, arith}
use Rattle.std.specs.List.{AllByRecursion}
use Rattle.scale.specs.Marks.{Apart, RunByte, RunText}
use Rattle.formula.specs.declared.parts.LimitName.{LimitName}
use Rattle.formula.specs.declared.parts.Operand.{Operand}
use Rattle.formula.specs.declared.parts.Operand.TheVariants.{Limit, Channel, Constant}
use Rattle.formula.specs.declared.parts.Part.{Part}
use Rattle.reader.specs.Sayings.{Says, SaysOnly, Sayable, Spellable}
use Rattle.reader.specs.Spellings.{binary_text, channel_name, comparator_text, unary_text}
use Rattle.formula.specs.Trees.{Tree, compares, one, two, map_operand, map_tree, numbered}
use Rattle.reader.specs.Written.{operand_text, spelling}
use Rattle.reader.specs.Fronts.{Ends, Proper, ProperTree, Runny, spelled_out}
use Rattle.reader.proofs.Once.{once}

module _ {S : Type 0} (code : S → ℕ) (written : S → List ℕ) where
  -- the constants of a formula as their bytes are written as the formula is
  operand_out : (o : Operand S) → operand_text (λ x. x) (map_operand written o) ≡ operand_text written o
  operand_out (Limit l) = refl
  operand_out (Channel n) = refl
  operand_out (Constant m) = refl

  pub written_out : (t : Tree S) → spelled_out (map_tree written t) ≡ spelling written t
  written_out (compares c v o) = ap (λ (x : List ℕ). channel_name c ++ (comparator_text v ++ x)) (operand_out o)
  written_out (one op t) = ap (λ (x : List ℕ). unary_text op ++ (40 ∷ (x ++ (41 ∷ [])))) (written_out t)
  written_out (two op l r) =
      ap (λ (x : List ℕ). 40 ∷ (x ++ (41 ∷ (binary_text op ++ (40 ∷ (spelled_out (map_tree written r) ++ (41 ∷ []))))))) (written_out l)
      ∙ ap (λ (x : List ℕ). 40 ∷ (spelling written l ++ (41 ∷ (binary_text op ++ (40 ∷ (x ++ (41 ∷ []))))))) (written_out r)

  all_runny : (x : List ℕ) → AllByRecursion RunByte x → Runny x
  all_runny [] h = tt
  all_runny (b ∷ x) h = (h.0, all_runny x h.1)

  -- marks are written as runs
  module _ (runs : (m : S) → RunText (written m)) where
    proper_operand : (o : Operand S) → Sayable code written o → Proper (map_operand written o)
    proper_operand (Limit l) s = tt
    proper_operand (Channel n) s = s
    proper_operand (Constant m) s = ((runs m).some, all_runny (written m) (runs m).runs, s)

    pub proper : (t : Tree S) → Spellable code written t → ProperTree (map_tree written t)
    proper (compares c v o) s = (s.0, proper_operand o s.1)
    proper (one op t) s = proper t s
    proper (two op l r) s = (proper l s.0, proper r s.1)

    ends : (t : Tree (List ℕ)) → Ends t []
    ends (compares _ _ _) = tt
    ends (one _ _) = tt
    ends (two _ _ _) = tt

    -- and no two of them alike
    module _ (apart : Apart written) where
      same_operand : (o p : Operand S) → map_operand written o ≡ map_operand written p → o ≡ p
      same_operand (Limit l) (Limit m) e = let h : l ≡ m = cc in ap (λ (x : LimitName). Limit x) h
      same_operand (Limit l) (Channel m) e = let z : ◌≡◌ {A = ℕ} 0 1 = cc in absurd (omega arith)
      same_operand (Limit l) (Constant m) e = let z : ◌≡◌ {A = ℕ} 0 1 = cc in absurd (omega arith)
      same_operand (Channel l) (Limit m) e = let z : ◌≡◌ {A = ℕ} 0 1 = cc in absurd (omega arith)
      same_operand (Channel l) (Channel m) e = let h : l ≡ m = cc in ap (λ (x : ℕ). Channel x) h
      same_operand (Channel l) (Constant m) e = let z : ◌≡◌ {A = ℕ} 0 1 = cc in absurd (omega arith)
      same_operand (Constant l) (Limit m) e = let z : ◌≡◌ {A = ℕ} 0 1 = cc in absurd (omega arith)
      same_operand (Constant l) (Channel m) e = let z : ◌≡◌ {A = ℕ} 0 1 = cc in absurd (omega arith)
      same_operand (Constant l) (Constant m) e = let h : written l ≡ written m = cc in ap (λ (x : S). Constant x) (apart l m h)

      same_tree : (t u : Tree S) → map_tree written t ≡ map_tree written u → t ≡ u
      same_tree (compares c v o) (compares d w p) e =
          let h : c ≡ d = cc in
          let k : v ≡ w = cc in
          let q : map_operand written o ≡ map_operand written p = cc in
          let s = same_operand o p q in
          cc
      same_tree (compares c v o) (one op u) e = let z : ◌≡◌ {A = ℕ} 0 1 = cc in absurd (omega arith)
      same_tree (compares c v o) (two op l r) e = let z : ◌≡◌ {A = ℕ} 0 1 = cc in absurd (omega arith)
      same_tree (one op t) (compares d w p) e = let z : ◌≡◌ {A = ℕ} 0 1 = cc in absurd (omega arith)
      same_tree (one op t) (one op' u) e =
          let h : op ≡ op' = cc in
          let k : map_tree written t ≡ map_tree written u = cc in
          let s = same_tree t u k in
          cc
      same_tree (one op t) (two op' l r) e = let z : ◌≡◌ {A = ℕ} 0 1 = cc in absurd (omega arith)
      same_tree (two op l r) (compares d w p) e = let z : ◌≡◌ {A = ℕ} 0 1 = cc in absurd (omega arith)
      same_tree (two op l r) (one op' u) e = let z : ◌≡◌ {A = ℕ} 0 1 = cc in absurd (omega arith)
      same_tree (two op l r) (two op' l' r') e =
          let h : op ≡ op' = cc in
          let k : map_tree written l ≡ map_tree written l' = cc in
          let j : map_tree written r ≡ map_tree written r' = cc in
          let s = same_tree l l' k in
          let i = same_tree r r' j in
          cc

      pub says_only : (text : List ℕ) (parts : List (Part ℕ)) → Says code written text parts → SaysOnly code written text parts
      says_only text parts a =
          record {
            says = a;
            only = λ others b.
                let f = b.formula in
                let g = a.formula in
                let e : spelled_out (map_tree written f) ++ [] ≡ spelled_out (map_tree written g) ++ [] =
                ap (λ (x : List ℕ). x ++ []) (written_out f ∙ (b.spelled ∙ (sym a.spelled ∙ sym (written_out g)))) in
                let h = once (map_tree written f) (map_tree written g) [] [] (proper f b.spellable) (proper g a.spellable) (ends (map_tree written f)) (ends (map_tree written g)) e in
                b.listed ∙ (ap (λ (t : Tree S). numbered 0 (map_tree code t)) (same_tree f g h.0) ∙ sym a.listed);
          }
