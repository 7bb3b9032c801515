-- From a formula over runs and its coded parts to the formula over marks.
use Rattle.std.proofs.Common.{◌≡◌, ℕ, suc, ◌+◌, ◌-◌, ◌<◌, ◌≤◌, max, List, [], ◌∷◌, ◌++◌, length, get_or, sym, refl, ap, ◌∙◌, subst, arith}
use Rattle.formula.specs.declared.parts.Operand.{Operand}
use Rattle.formula.specs.declared.parts.Operand.TheVariants.{Limit, Channel, Constant}
use Rattle.formula.specs.declared.parts.Part.{Part}
use Rattle.formula.specs.declared.parts.Part.TheVariants.{Comparison, Unary, Binary}
use Rattle.reader.specs.declared.readers.Run.{Run}
use Rattle.reader.specs.Codings.{AllCoded, CodedOperand, CodedPart}
use Rattle.reader.specs.Operands.{Unnamed}
use Rattle.reader.specs.Reads.{Formed, Spelt, Stands}
use Rattle.reader.specs.Sayings.{Sayable, Says, Spellable}
use Rattle.reader.specs.Runs.{bytes_in}
use Rattle.reader.specs.Spellings.{channel_name, comparator_text, unary_text, binary_text}
use Rattle.formula.specs.Trees.{Tree, compares, one, two, size, root, numbered, depth, map_operand, map_tree}
use Rattle.reader.specs.Written.{operand_text, spelling}

module _ {S : Type 0} (code : S → ℕ) (written : S → List ℕ) (text : List ℕ) where
  -- the parts of two lists, one beside the other
  abbrev Beside : List (Part Run) → List (Part ℕ) → Type 0
  Beside [] out = out ≡ []
  Beside (x ∷ xs) out = (y : Part ℕ) × (ys : List (Part ℕ)) × (out ≡ y ∷ ys) × CodedPart code written text x y × Beside xs ys

  beside : (xs : List (Part Run)) (out : List (Part ℕ)) → length out ≡ length xs → ((i : ℕ) (d : Part Run) (e : Part ℕ) → i < length xs → CodedPart code written text (get_or xs i d) (get_or out i e)) → Beside xs out
  beside [] [] h f = refl
  beside [] (y ∷ ys) h f = absurd (omega arith)
  beside (x ∷ xs) [] h f = absurd (omega arith)
  beside (x ∷ xs) (y ∷ ys) h f =
      (y, ys, refl, f 0 x y (omega arith), beside xs ys (omega arith) (λ i d e below. f (suc i) d e (omega arith)))

  -- what stands beside two lists in a row is two lists in a row
  record Parted (xs zs : List (Part Run)) (out : List (Part ℕ)) : Type 0 where
    front : List (Part ℕ)
    back : List (Part ℕ)
    whole : out ≡ front ++ back
    first : Beside xs front
    second : Beside zs back

  parted : (xs zs : List (Part Run)) (out : List (Part ℕ)) → Beside (xs ++ zs) out → Parted xs zs out
  parted [] zs out b = record { front = []; back = out; whole = refl; first = refl; second = b }
  parted (x ∷ xs) zs out b =
      let p = parted xs zs b.1 b.4 in
      record {
        front = b.0 ∷ p.front;
        back = p.back;
        whole = b.2 ∙ ap (λ (l : List (Part ℕ)). b.0 ∷ l) p.whole;
        first = (b.0, p.front, refl, b.3, p.first);
        second = p.second;
      }

  -- a formula over marks that is written and numbered as one over runs
  record Marked (t : Tree Run) (n : ℕ) (out : List (Part ℕ)) : Type 0 where
    tree : Tree S
    spellable : Spellable code written tree
    spelled : spelling written tree ≡ spelling (bytes_in text) t
    deep : depth tree ≡ depth t
    sized : size tree ≡ size t
    coded : size (map_tree code tree) ≡ size t
    listed : out ≡ numbered n (map_tree code tree)

  record MarkedOperand (o : Operand Run) (out : Operand ℕ) : Type 0 where
    operand : Operand S
    sayable : Sayable code written operand
    spelled : operand_text written operand ≡ operand_text (bytes_in text) o
    coded : out ≡ map_operand code operand

  marked_operand : (o : Operand Run) (out : Operand ℕ) → Stands text o → CodedOperand code written text o out → MarkedOperand o out
  marked_operand (Limit l) out stands c = record { operand = Limit l; sayable = tt; spelled = refl; coded = c }
  marked_operand (Channel n) out stands c = record { operand = Channel n; sayable = stands; spelled = refl; coded = c }
  marked_operand (Constant run) out stands c =
      record { operand = Constant c.0; sayable = subst Unnamed (sym c.1) stands.1; spelled = c.1; coded = c.2 }

  marked : (t : Tree Run) (n : ℕ) (out : List (Part ℕ)) → Formed text t → Beside (numbered n t) out → Marked t n out
  marked (compares channel comparator operand) n out formed b =
      let o = marked_operand operand b.3.0 formed.1 b.3.1 in
      record {
        tree = compares channel comparator o.operand;
        spellable = (formed.0, o.sayable);
        spelled = ap (λ (l : List ℕ). channel_name channel ++ (comparator_text comparator ++ l)) o.spelled;
        deep = refl;
        sized = refl;
        coded = refl;
        listed =
            b.2
            ∙ (ap (λ (l : List (Part ℕ)). b.0 ∷ l) b.4
            ∙ (ap (λ (p : Part ℕ). p ∷ []) b.3.2 ∙ ap (λ (x : Operand ℕ). Comparison channel comparator x ∷ []) o.coded));
      }
  marked (one op t) n out formed b =
      let p = parted (numbered n t) (Unary op (root n t) ∷ []) out b in
      let m = marked t n p.front formed p.first in
      let last = p.second in
      let rooted : root n t ≡ root n (map_tree code m.tree) = ap (λ (k : ℕ). n + k - 1) (sym m.coded) in
      let end : p.back ≡ Unary op (root n (map_tree code m.tree)) ∷ [] =
      last.2 ∙ (ap (λ (l : List (Part ℕ)). last.0 ∷ l) last.4 ∙ ap (λ (x : Part ℕ). x ∷ []) (last.3 ∙ ap (λ (k : ℕ). Unary op k) rooted)) in
      record {
        tree = one op m.tree;
        spellable = m.spellable;
        spelled = ap (λ (l : List ℕ). unary_text op ++ (40 ∷ (l ++ (41 ∷ [])))) m.spelled;
        deep = ap (λ (k : ℕ). k + 1) m.deep;
        sized = ap (λ (k : ℕ). k + 1) m.sized;
        coded = ap (λ (k : ℕ). k + 1) m.coded;
        listed =
            p.whole
            ∙ (ap (λ (l : List (Part ℕ)). l ++ p.back) m.listed
            ∙ ap (λ (l : List (Part ℕ)). numbered n (map_tree code m.tree) ++ l) end);
      }
  marked (two op l r) n out formed b =
      let after = numbered (n + size l) r ++ Binary op (root n l) (root (n + size l) r) ∷ [] in
      let p = parted (numbered n l) after out b in
      let q = parted (numbered (n + size l) r) (Binary op (root n l) (root (n + size l) r) ∷ []) p.back p.second in
      let m = marked l n p.front formed.0 p.first in
      let k = marked r (n + size l) q.front formed.1 q.first in
      let last = q.second in
      let a = map_tree code m.tree in
      let z = map_tree code k.tree in
      let from : n + size l ≡ n + size a = ap (λ (x : ℕ). n + x) (sym m.coded) in
      let left : root n l ≡ root n a = ap (λ (x : ℕ). n + x - 1) (sym m.coded) in
      let right : root (n + size l) r ≡ root (n + size a) z =
      ap (λ (x : ℕ). x + size r - 1) from ∙ ap (λ (x : ℕ). n + size a + x - 1) (sym k.coded) in
      let end : q.back ≡ Binary op (root n a) (root (n + size a) z) ∷ [] =
      last.2
      ∙ (ap (λ (x : List (Part ℕ)). last.0 ∷ x) last.4
      ∙ ap (λ (x : Part ℕ). x ∷ []) (last.3 ∙ (ap (λ (x : ℕ). Binary op x (root (n + size l) r)) left ∙ ap (λ (x : ℕ). Binary op (root n a) x) right))) in
      let second : q.front ≡ numbered (n + size a) z = k.listed ∙ ap (λ (x : ℕ). numbered x z) from in
      record {
        tree = two op m.tree k.tree;
        spellable = (m.spellable, k.spellable);
        spelled =
            ap (λ (x : List ℕ). 40 ∷ (x ++ (41 ∷ (binary_text op ++ (40 ∷ (spelling written k.tree ++ (41 ∷ []))))))) m.spelled
            ∙ ap (λ (x : List ℕ). 40 ∷ (spelling (bytes_in text) l ++ (41 ∷ (binary_text op ++ (40 ∷ (x ++ (41 ∷ []))))))) k.spelled;
        deep = ap (λ (x : ℕ). max x (depth k.tree) + 1) m.deep ∙ ap (λ (x : ℕ). max (depth l) x + 1) k.deep;
        sized = ap (λ (x : ℕ). x + size k.tree + 1) m.sized ∙ ap (λ (x : ℕ). size l + x + 1) k.sized;
        coded = ap (λ (x : ℕ). x + size z + 1) m.coded ∙ ap (λ (x : ℕ). size l + x + 1) k.coded;
        listed =
            p.whole
            ∙ (ap (λ (x : List (Part ℕ)). x ++ p.back) m.listed
            ∙ ap (λ (x : List (Part ℕ)). numbered n a ++ x)
            (q.whole ∙ (ap (λ (x : List (Part ℕ)). x ++ q.back) second ∙ ap (λ (x : List (Part ℕ)). numbered (n + size a) z ++ x) end)));
      }

  -- a text that was read, with its constants coded, says a formula
  pub says : (draft : List (Part Run)) (out : List (Part ℕ)) → 1 ≤ length text → length text ≤ 512 → Spelt text draft → AllCoded code written text draft out → Says code written text out
  says draft out some short s c =
      let all = beside draft out c.long c.each in
      let m = marked s.tree 0 out s.formed (subst (λ (x : List (Part Run)). Beside x out) s.listed all) in
      record {
        formula = m.tree;
        spellable = m.spellable;
        spelled = m.spelled ∙ s.spelled;
        sized = record { some = some; short = short };
        shallow = omega (arith, m.deep, s.shallow);
        few = omega (arith, m.sized, s.few);
        listed = m.listed;
      }
