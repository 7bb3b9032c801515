-- No text begins two formulas: what spells one, and is not followed by more of a run, spells no other.
use Rattle.std.proofs.Common.{◌≡◌, ℕ, ◌<◌, ◌≤◌, List, [], ◌∷◌, ◌++◌, length, sym, refl, ap, ◌∙◌, append_assoc, arith, rules}
use Rattle.scale.specs.Marks.{RunByte}
use Rattle.formula.specs.declared.parts.BinaryOperator.{BinaryOperator}
use Rattle.formula.specs.declared.parts.Comparator.{Comparator}
use Rattle.formula.specs.declared.parts.Comparator.TheVariants.{Less, Greater, AtMost, AtLeast}
use Rattle.formula.specs.declared.parts.LimitName.TheVariants.{P, Q, R}
use Rattle.formula.specs.declared.parts.Operand.{Operand}
use Rattle.formula.specs.declared.parts.Operand.TheVariants.{Limit, Channel, Constant}
use Rattle.formula.specs.declared.parts.UnaryOperator.{UnaryOperator}
use Rattle.reader.specs.Fronts.{Ends, Proper, ProperTree, Runny, spelled_out, Stops}
use Rattle.reader.specs.Spellings.{binary_text, channel_name, comparator_text, decimal, unary_text}
use Rattle.formula.specs.Trees.{Tree, compares, one, two}
use Rattle.reader.specs.Written.{operand_text}
use Rattle.reader.proofs.Words.{binary_once, channel_once, comparator_once, first, operand_once, others, run_once, unary_apart, unary_once}

abbrev pub written : Operand (List ℕ) → List ℕ
written o = operand_text (λ x. x) o

-- spellings with what follows them, word by word
pub flat_comparison : (c : ℕ) (v : Comparator) (o : Operand (List ℕ)) (y : List ℕ) → spelled_out (compares c v o) ++ y ≡ 99 ∷ (decimal c ++ (comparator_text v ++ (written o ++ y)))
flat_comparison c v o y =
    ap (λ (l : List ℕ). 99 ∷ l)
    (append_assoc (decimal c) (comparator_text v ++ written o) y
    ∙ ap (λ (l : List ℕ). decimal c ++ l) (append_assoc (comparator_text v) (written o) y))

pub flat_one : (op : UnaryOperator) (t : Tree (List ℕ)) (y : List ℕ) → spelled_out (one op t) ++ y ≡ unary_text op ++ (40 ∷ (spelled_out t ++ (41 ∷ y)))
flat_one op t y =
    append_assoc (unary_text op) (40 ∷ (spelled_out t ++ (41 ∷ []))) y
    ∙ ap (λ (l : List ℕ). unary_text op ++ (40 ∷ l)) (append_assoc (spelled_out t) (41 ∷ []) y)

pub flat_two : (op : BinaryOperator) (l r : Tree (List ℕ)) (y : List ℕ) → spelled_out (two op l r) ++ y ≡ 40 ∷ (spelled_out l ++ (41 ∷ (binary_text op ++ (40 ∷ (spelled_out r ++ (41 ∷ y))))))
flat_two op l r y =
    let back = 40 ∷ (spelled_out r ++ (41 ∷ [])) in
    ap (λ (x : List ℕ). 40 ∷ x)
    (append_assoc (spelled_out l) (41 ∷ (binary_text op ++ back)) y
    ∙ ap (λ (x : List ℕ). spelled_out l ++ (41 ∷ x))
    (append_assoc (binary_text op) back y ∙ ap (λ (x : List ℕ). binary_text op ++ (40 ∷ x)) (append_assoc (spelled_out r) (41 ∷ []) y)))

-- a comparator begins with `<` or `>`
pub sign : (v : Comparator) (w : List ℕ) → (b : ℕ) × (u : List ℕ) × (comparator_text v ++ w ≡ b ∷ u) × (60 ≤ b)
sign Less w = (60, w, refl, omega arith)
sign Greater w = (62, w, refl, omega arith)
sign AtMost w = (60, 61 ∷ w, refl, omega arith)
sign AtLeast w = (62, 61 ∷ w, refl, omega arith)

name_runny : (n : ℕ) → n < 16 → Runny (channel_name n)
name_runny n low = search rules

-- an operand is a run
pub runny : (o : Operand (List ℕ)) → Proper o → Runny (written o)
runny (Limit P) p = search rules
runny (Limit Q) p = search rules
runny (Limit R) p = search rules
runny (Channel n) p = name_runny n p
runny (Constant x) p = p.1

begun : (x : List ℕ) → 1 ≤ length x → Runny x → (b : ℕ) × (u : List ℕ) × (x ≡ b ∷ u) × RunByte b
begun [] h r = absurd (omega arith)
begun (b ∷ u) h r = (b, u, refl, r.0)

long : (o : Operand (List ℕ)) → Proper o → 1 ≤ length (written o)
long (Limit P) p = omega arith
long (Limit Q) p = omega arith
long (Limit R) p = omega arith
long (Channel n) p = omega arith
long (Constant x) p = p.0

pub begins : (o : Operand (List ℕ)) → Proper o → (b : ℕ) × (u : List ℕ) × (written o ≡ b ∷ u) × RunByte b
begins o p = begun (written o) (long o p) (runny o p)

-- a closing bracket ends whatever comes before it
pub ends_close : (t : Tree (List ℕ)) (y : List ℕ) → Ends t (41 ∷ y)
ends_close (compares _ _ _) y = λ r. search rules
ends_close (one _ _) y = tt
ends_close (two _ _ _) y = tt

comparison_once : (c d : ℕ) (v v' : Comparator) (o o' : Operand (List ℕ)) (y z : List ℕ) → c < 16 → d < 16 → Proper o → Proper o' → Stops y → Stops z → decimal c ++ (comparator_text v ++ (written o ++ y)) ≡ decimal d ++ (comparator_text v' ++ (written o' ++ z)) → (c ≡ d) × (v ≡ v') × (o ≡ o') × (y ≡ z)
comparison_once c d v v' o o' y z low low' p p' s s' e =
    let a = sign v (written o ++ y) in
    let a' = sign v' (written o' ++ z) in
    let numbers = channel_once c d a.0 a'.0 a.1 a'.1 low low' a.3 a'.3
    (ap (λ (l : List ℕ). decimal c ++ l) (sym a.2) ∙ (e ∙ ap (λ (l : List ℕ). decimal d ++ l) a'.2)) in
    let b = begins o p in
    let b' = begins o' p' in
    let open_o : written o ++ y ≡ b.0 ∷ (b.1 ++ y) = ap (λ (l : List ℕ). l ++ y) b.2 in
    let open_o' : written o' ++ z ≡ b'.0 ∷ (b'.1 ++ z) = ap (λ (l : List ℕ). l ++ z) b'.2 in
    let signs = comparator_once v v' b.0 b'.0 (b.1 ++ y) (b'.1 ++ z) b.3 b'.3
    (ap (λ (l : List ℕ). comparator_text v ++ l) (sym open_o)
    ∙ ((a.2 ∙ (numbers.1 ∙ sym a'.2)) ∙ ap (λ (l : List ℕ). comparator_text v' ++ l) open_o')) in
    let runs = run_once (written o) (written o') y z (runny o p) (runny o' p') s s' (open_o ∙ (signs.1 ∙ sym open_o')) in
    (numbers.0, signs.0, operand_once o o' p p' runs.0, runs.1)

pub once : (t u : Tree (List ℕ)) (y z : List ℕ) → ProperTree t → ProperTree u → Ends t y → Ends u z → spelled_out t ++ y ≡ spelled_out u ++ z → (t ≡ u) × (y ≡ z)
once (compares c v o) (compares d v' o') y z p q s s' e =
    let f = sym (flat_comparison c v o y) ∙ (e ∙ flat_comparison d v' o' z) in
    let all = comparison_once c d v v' o o' y z p.0 q.0 p.1 q.1 s s' (ap others f) in (
      ap (λ (x : ℕ). compares x v o) all.0
          ∙ (ap (λ (x : Comparator). compares d x o) all.1 ∙ ap (λ (x : Operand (List ℕ)). compares d v' x) all.2),
      all.3,
    )
once (compares c v o) (one op u) y z p q s s' e =
    absurd ((unary_apart op 99 _ _ (sym (sym (flat_comparison c v o y) ∙ (e ∙ flat_one op u z)))).0 refl)
once (compares c v o) (two op l r) y z p q s s' e =
    absurd (omega (arith, ap first (sym (flat_comparison c v o y) ∙ (e ∙ flat_two op l r z))))
once (one op t) (compares d v' o') y z p q s s' e =
    absurd ((unary_apart op 99 _ _ (sym (flat_one op t y) ∙ (e ∙ flat_comparison d v' o' z))).0 refl)
once (one op t) (one op' u) y z p q s s' e =
    let words = unary_once op op' _ _ (sym (flat_one op t y) ∙ (e ∙ flat_one op' u z)) in
    let inner = once t u (41 ∷ y) (41 ∷ z) p q (ends_close t y) (ends_close u z) (ap others words.1) in
    (ap (λ (x : UnaryOperator). one x t) words.0 ∙ ap (λ (x : Tree (List ℕ)). one op' x) inner.0, ap others inner.1)
once (one op t) (two op' l r) y z p q s s' e =
    absurd ((unary_apart op 40 _ _ (sym (flat_one op t y) ∙ (e ∙ flat_two op' l r z))).1 refl)
once (two op l r) (compares d v' o') y z p q s s' e =
    absurd (omega (arith, ap first (sym (flat_two op l r y) ∙ (e ∙ flat_comparison d v' o' z))))
once (two op l r) (one op' u) y z p q s s' e =
    absurd ((unary_apart op' 40 _ _ (sym (sym (flat_two op l r y) ∙ (e ∙ flat_one op' u z)))).1 refl)
once (two op l r) (two op' l' r') y z p q s s' e =
    let f = ap others (sym (flat_two op l r y) ∙ (e ∙ flat_two op' l' r' z)) in
    let left = once l l' _ _ p.0 q.0 (ends_close l _) (ends_close l' _) f in
    let words = binary_once op op' _ _ (ap others left.1) in
    let right = once r r' (41 ∷ y) (41 ∷ z) p.1 q.1 (ends_close r y) (ends_close r' z) (ap others words.1) in (
      ap (λ (x : BinaryOperator). two x l r) words.0
          ∙ (ap (λ (x : Tree (List ℕ)). two op' x r) left.0 ∙ ap (λ (x : Tree (List ℕ)). two op' l' x) right.0),
      ap others right.1,
    )
