-- What some spelling begins with.
use Rattle.std.proofs.Common.{ℕ, ◌<◌, List, [], ◌∷◌, ◌++◌, codes, sym, ap, ◌∙◌, append_assoc, append-nil, arith}
use Rattle.formula.specs.declared.parts.BinaryOperator.{BinaryOperator}
use Rattle.formula.specs.declared.parts.BinaryOperator.TheVariants.{And}
use Rattle.formula.specs.declared.parts.Comparator.{Comparator}
use Rattle.formula.specs.declared.parts.Comparator.TheVariants.{Less}
use Rattle.formula.specs.declared.parts.LimitName.TheVariants.{P}
use Rattle.formula.specs.declared.parts.Operand.TheVariants.{Limit}
use Rattle.formula.specs.declared.parts.UnaryOperator.{UnaryOperator}
use Rattle.formula.specs.Trees.{Tree, compares, one, two}
use Rattle.reader.specs.Blame.{Begun}
use Rattle.reader.specs.Fronts.{ProperTree, spelled_out}
use Rattle.reader.specs.Spellings.{binary_text, comparator_text, decimal, unary_text}

-- bytes of which more begin a spelling
pub begun_front : (x y : List ℕ) → Begun (x ++ y) → Begun x
begun_front x y b = record { tree = b.tree; proper = b.proper; after = y ++ b.after; spelled = b.spelled ∙ append_assoc x y b.after }

-- a spelling begins with itself
pub begun_whole : (t : Tree (List ℕ)) → ProperTree t → Begun (spelled_out t)
begun_whole t p = record { tree = t; proper = p; after = []; spelled = sym (append-nil (spelled_out t)) }

pub begun_sign : (c : ℕ) (v : Comparator) → c < 16 → Begun (99 ∷ (decimal c ++ comparator_text v))
begun_sign c v low =
    let p : List ℕ = codes "p" in
    record {
      tree = compares c v (Limit P);
      proper = (low, tt);
      after = p;
      spelled = ap (λ (l : List ℕ). 99 ∷ l) (sym (append_assoc (decimal c) (comparator_text v) p));
    }

pub begun_number : (c : ℕ) → c < 16 → Begun (99 ∷ decimal c)
begun_number c low = begun_front (99 ∷ decimal c) (comparator_text Less) (begun_sign c Less low)

pub begun_letter : Begun (99 ∷ [])
begun_letter = begun_front (99 ∷ []) (decimal 0) (begun_number 0 (omega arith))

pub begun_none : Begun []
begun_none = begun_front [] (99 ∷ []) begun_letter

-- an operator over one operand
pub begun_unary : (op : UnaryOperator) (d : List ℕ) → Begun d → Begun (unary_text op ++ (40 ∷ d))
begun_unary op d b =
    record {
      tree = one op b.tree;
      proper = b.proper;
      after = b.after ++ (41 ∷ []);
      spelled =
          ap (λ (l : List ℕ). unary_text op ++ (40 ∷ (l ++ (41 ∷ [])))) b.spelled
          ∙ (ap (λ (l : List ℕ). unary_text op ++ (40 ∷ l)) (append_assoc d b.after (41 ∷ []))
          ∙ sym (append_assoc (unary_text op) (40 ∷ d) (b.after ++ (41 ∷ []))));
    }

-- the right operand of an operator
abbrev pub up_to : BinaryOperator → Tree (List ℕ) → List ℕ → List ℕ
up_to op l d = 40 ∷ (spelled_out l ++ (41 ∷ (binary_text op ++ (40 ∷ d))))

pub begun_right : (op : BinaryOperator) (l : Tree (List ℕ)) (d : List ℕ) → ProperTree l → Begun d → Begun (up_to op l d)
begun_right op l d p b =
    let close : List ℕ = 41 ∷ [] in
    record {
      tree = two op l b.tree;
      proper = (p, b.proper);
      after = b.after ++ close;
      spelled =
          ap (λ (x : List ℕ). up_to op l (x ++ close)) b.spelled
          ∙ (ap (λ (x : List ℕ). up_to op l x) (append_assoc d b.after close)
          ∙ sym (ap (λ (x : List ℕ). 40 ∷ x)
          (append_assoc (spelled_out l) (41 ∷ (binary_text op ++ (40 ∷ d))) (b.after ++ close)
          ∙ ap (λ (x : List ℕ). spelled_out l ++ (41 ∷ x)) (append_assoc (binary_text op) (40 ∷ d) (b.after ++ close)))));
    }

-- the left operand, of an operator that is not there yet
pub begun_left : (d : List ℕ) → Begun d → Begun (40 ∷ d)
begun_left d b =
    let t = b.tree in
    let some = compares 0 Less (Limit P) in
    let back : List ℕ = binary_text And ++ (40 ∷ (spelled_out some ++ (41 ∷ []))) in
    record {
      tree = two And t some;
      proper = (b.proper, (omega arith, tt));
      after = b.after ++ (41 ∷ back);
      spelled = ap (λ (x : List ℕ). 40 ∷ (x ++ (41 ∷ back))) b.spelled ∙ ap (λ (x : List ℕ). 40 ∷ x) (append_assoc d b.after (41 ∷ back));
    }
