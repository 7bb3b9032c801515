-- Why no formula stands where a word of an operator, or an operand, is missing.
use Rattle.std.proofs.Common.{◌≡◌, ℕ, suc, ◌+◌, ◌-◌, ◌<◌, List, [], ◌∷◌, ◌++◌, length, get_or, drop, sym, refl, ap, ◌∙◌, subst, arith, length-drop}
use Rattle.std.proofs.lemmas.List.{drop_all, get_or-drop, get_or-take, length-take-le}
use Rattle.scale.specs.Marks.{RunByte}
use Rattle.formula.specs.declared.parts.BinaryOperator.{BinaryOperator}
use Rattle.formula.specs.declared.parts.Operand.{Operand}
use Rattle.formula.specs.declared.parts.Operand.TheVariants.{Limit, Channel, Constant}
use Rattle.formula.specs.declared.parts.UnaryOperator.{UnaryOperator}
use Rattle.formula.specs.declared.parts.UnaryOperator.TheVariants.{Not, Next, Finally, Globally}
use Rattle.reader.specs.declared.readers.Cursor.{Cursor}
use Rattle.reader.specs.declared.readers.Run.{Run}
use Rattle.reader.specs.Cursors.{Ahead, rest}
use Rattle.reader.specs.Fronts.{Ends, NoFront, Proper, ProperTree, Runny, spelled_out, Stops}
use Rattle.reader.specs.Reads.{Ended, Formed, Stands}
use Rattle.reader.specs.Runs.{bytes_in, IsRun}
use Rattle.reader.specs.Spellings.{binary_text, unary_text}
use Rattle.formula.specs.Trees.{Tree, compares, one, two, map_operand, map_tree, size}
use Rattle.reader.proofs.Missing.{ahead_of}
use Rattle.reader.proofs.Once.{flat_comparison, flat_one, flat_two}
use Rattle.reader.proofs.Words.{unary_apart, unary_once}

-- a run has bytes, and they are those of a run
runny_from : (x : List ℕ) → ((k : ℕ) → k < length x → RunByte (get_or x k 0)) → Runny x
runny_from [] f = tt
runny_from (b ∷ x) f = (f 0 (omega arith), runny_from x (λ k h. f (suc k) (omega arith)))

run_long : (text : List ℕ) (run : Run) → IsRun text run → length (bytes_in text run) ≡ run.end - run.start
run_long text run r = length-take-le (run.end - run.start) (drop run.start text) (omega (arith, length-drop run.start text, r.some, r.within))

run_runny : (text : List ℕ) (run : Run) → IsRun text run → Runny (bytes_in text run)
run_runny text run r =
    runny_from (bytes_in text run)
    (λ k h.
    let low : k < run.end - run.start = omega (arith, run_long text run r) in
    let same : get_or (bytes_in text run) k 0 ≡ get_or text (run.start + k) 0 =
    get_or-take (run.end - run.start) (drop run.start text) k 0 low ∙ get_or-drop run.start text k 0 in
    subst RunByte (sym same) (r.each (run.start + k) (omega arith) (omega (arith, r.some))))

-- what was read over the runs of a text, over their bytes
front_operand : (text : List ℕ) (o : Operand Run) → Stands text o → Proper (map_operand (bytes_in text) o)
front_operand text (Limit l) s = tt
front_operand text (Channel n) s = s
front_operand text (Constant run) s = (omega (arith, run_long text run s.0, s.0.some), run_runny text run s.0, s.1)

pub front_proper : (text : List ℕ) (t : Tree Run) → Formed text t → ProperTree (map_tree (bytes_in text) t)
front_proper text (compares c v o) f = (f.0, front_operand text o f.1)
front_proper text (one op t) f = front_proper text t f
front_proper text (two op l r) f = (front_proper text l f.0, front_proper text r f.1)

pub size_mapped : {K L : Type 0} (f : K → L) (t : Tree K) → size (map_tree f t) ≡ size t
size_mapped f (compares _ _ _) = refl
size_mapped f (one op t) = ap (λ (n : ℕ). n + 1) (size_mapped f t)
size_mapped f (two op l r) = ap (λ (n : ℕ). n + size (map_tree f r) + 1) (size_mapped f l) ∙ ap (λ (n : ℕ). size l + n + 1) (size_mapped f r)

stops_from : (c : Cursor) (r : List ℕ) → rest c ≡ r → ((b : ℕ) → RunByte b → Ahead c b → ⊥) → Stops r
stops_from c [] e f = tt
stops_from c (b ∷ r) e f = λ run. f b run (ahead_of c b r e)

pub front_ends : (e : Cursor) (text : List ℕ) (t : Tree Run) → Ended t e → Ends (map_tree (bytes_in text) t) (rest e)
front_ends e text (compares _ _ _) f = stops_from e (rest e) refl f
front_ends e text (one _ _) f = tt
front_ends e text (two _ _ _) f = tt

unary_some : (op : UnaryOperator) (u : List ℕ) → (b : ℕ) × (unary_text op ++ u ≡ b ∷ u) × (unary_text op ≡ b ∷ [])
unary_some Not u = (33, refl, refl)
unary_some Next u = (88, refl, refl)
unary_some Finally u = (70, refl, refl)
unary_some Globally u = (71, refl, refl)

nothing : (t : Tree (List ℕ)) (y : List ℕ) → [] ≡ spelled_out t ++ y → ⊥
nothing (compares c v o) y e = omega (arith, ap length (e ∙ flat_comparison c v o y))
nothing (one op t) y e = omega (arith, ap length (e ∙ (flat_one op t y ∙ (unary_some op _).1)))
nothing (two op l r) y e = omega (arith, ap length (e ∙ flat_two op l r y))

pub no_start : (c : Cursor) → c.at ≡ length c.text.now → NoFront (rest c)
no_start c end t y p ends e =
    let none : rest c ≡ [] = drop_all c.at c.text.now (omega (arith, end)) in
    nothing t y (sym none ∙ e)

-- what begins with an operator over one operand
pub only_unary : (op : UnaryOperator) (r : List ℕ) → ((t : Tree (List ℕ)) (y : List ℕ) → ProperTree t → r ≡ 40 ∷ (spelled_out t ++ (41 ∷ y)) → ⊥) → NoFront (unary_text op ++ r)
only_unary op r never (compares c v o) y p ends e = (unary_apart op 99 _ _ (e ∙ flat_comparison c v o y)).0 refl
only_unary op r never (one op' t) y p ends e = never t y p (unary_once op op' _ _ (e ∙ flat_one op' t y)).1
only_unary op r never (two op' l t) y p ends e = (unary_apart op 40 _ _ (e ∙ flat_two op' l t y)).1 refl

-- what begins neither as a comparison does nor as an operator over one operand
pub record Other (a : Cursor) : Type 0 where
  pub no_comparison : (w : List ℕ) → rest a ≡ 99 ∷ w → ⊥
  pub no_unary : (op : UnaryOperator) (w : List ℕ) → rest a ≡ unary_text op ++ w → ⊥

pub other : (a : Cursor) (byte : ℕ) → Ahead a byte → (byte ≡ 99 → ⊥) → ((op : UnaryOperator) → unary_text op ≡ byte ∷ [] → ⊥) → Other a
other a byte here low none =
    record {
      no_comparison = λ w e. low (sym here.1 ∙ (ahead_of a 99 w e).1);
      no_unary = λ op w e.
          let u = unary_some op w in
          let same : u.0 ≡ byte = sym (ahead_of a u.0 w (e ∙ u.1)).1 ∙ here.1 in
          none op (u.2 ∙ ap (λ (x : ℕ). x ∷ []) same);
    }

only_binary : (a : Cursor) → Other a → ((op : BinaryOperator) (l r : Tree (List ℕ)) (y : List ℕ) → ProperTree l → ProperTree r → rest a ≡ 40 ∷ (spelled_out l ++ (41 ∷ (binary_text op ++ (40 ∷ (spelled_out r ++ (41 ∷ y)))))) → ⊥) → NoFront (rest a)
only_binary a start never (compares c v o) y p ends e = start.no_comparison _ (e ∙ flat_comparison c v o y)
only_binary a start never (one op t) y p ends e = start.no_unary op _ (e ∙ flat_one op t y)
only_binary a start never (two op l r) y p ends e =
    never op l r y p.0 p.1 (e ∙ flat_two op l r y)

pub binary_unopened : (a : Cursor) → Other a → (Ahead a 40 → ⊥) → NoFront (rest a)
binary_unopened a start none = only_binary a start (λ op l r y p q e. none (ahead_of a 40 _ e))
