-- An operator is read when its pieces and its operands are.
use Rattle.std.proofs.Common.{◌≡◌, ℕ, ◌+◌, ◌-◌, ◌<◌, List, [], ◌∷◌, ◌++◌, length, sym, ap, ◌∙◌, subst, append_assoc, arith, Bor}
use Rattle.formula.specs.declared.parts.BinaryOperator.{BinaryOperator}
use Rattle.formula.specs.declared.parts.UnaryOperator.{UnaryOperator}
use Rattle.formula.specs.declared.parts.Part.{Part}
use Rattle.formula.specs.declared.parts.Part.TheVariants.{Unary, Binary}
use Rattle.reader.specs.declared.readers.Cursor.{Cursor}
use Rattle.reader.specs.declared.readers.Run.{Run}
use Rattle.reader.specs.Cursors.{Meets, Passes}
use Rattle.reader.specs.Reads.{Reads, Formed}
use Rattle.reader.specs.Runs.{bytes_in}
use Rattle.reader.specs.Spellings.{unary_text, binary_text}
use Rattle.formula.specs.Trees.{one, two, size, root, numbered}
use Rattle.reader.specs.Written.{spelling}
use Rattle.reader.proofs.Numbering.{grown}
use Rattle.reader.proofs.Passing.{then, meeting}

-- the operand as the whole text has it
operand_in : {o e : Cursor} {k r : ℕ} {old new : List (Part Run)} (text : List ℕ) → o.text.now ≡ text → (q : Reads o e k old new r) → Passes o e (spelling (bytes_in text) q.tree) (size q.tree) × Formed text q.tree
operand_in {o} {e} text same q = (
  subst (λ (x : List ℕ). Passes o e (spelling (bytes_in x) q.tree) (size q.tree)) same q.spelled,
  subst (λ (x : List ℕ). Formed x q.tree) same q.formed,
)

pub unary_read :
    (a m b o e f : Cursor) (op : UnaryOperator) (byte left k r : ℕ) (old mid new : List (Part Run))
    → Meets a m → Passes m b (byte ∷ []) 0 → unary_text op ≡ byte ∷ [] → Passes b o (40 ∷ []) 0 → 0 < left
    → Reads o e (left - 1) old mid k → Passes e f (41 ∷ []) 0
    → new ≡ mid ++ Unary op k ∷ [] → r ≡ length mid → Reads a f left old new r
unary_read a m b o e f op byte left k r old mid new met first written enter some q close added last =
    let t = q.tree in
    let text : o.text.now ≡ a.text.now = enter.same ∙ (first.same ∙ ap (λ (x : Bor (List ℕ)). x.now) met.same) in
    let operand = operand_in a.text.now text q in
    let operator : Passes m b (unary_text op) 0 = subst (λ (x : List ℕ). Passes m b x 0) (sym written) first in
    let all : Passes a f (unary_text op ++ ((40 ∷ []) ++ (spelling (bytes_in a.text.now) t ++ (41 ∷ [])))) (0 + (0 + (size t + 0)) + 1) =
    meeting met (then operator (then enter (then operand.0 close))) in
    let counts : 0 + (0 + (size t + 0)) + 1 ≡ size t + 1 = omega arith in
    record {
      tree = one op t;
      spelled = subst (λ (n : ℕ). Passes a f (spelling (bytes_in a.text.now) (one op t)) n) counts all;
      formed = operand.1;
      ended = tt;
      shallow = omega (arith, q.shallow);
      added =
          added
          ∙ (ap (λ (x : List (Part Run)). x ++ Unary op k ∷ []) q.added
          ∙ (append_assoc old (numbered (length old) t) (Unary op k ∷ [])
          ∙ ap (λ (n : ℕ). old ++ (numbered (length old) t ++ Unary op n ∷ [])) q.last));
      last = omega (arith, grown q, last);
    }

pub binary_read :
    (a o e s p u g f : Cursor) (op : BinaryOperator) (left k j r : ℕ) (old mid more new : List (Part Run))
    → Passes a o (40 ∷ []) 0 → 0 < left → Reads o e (left - 1) old mid k → Passes e s (41 ∷ []) 0
    → Passes s p (binary_text op) 1 → Passes p u (40 ∷ []) 0 → Reads u g (left - 1) mid more j → Passes g f (41 ∷ []) 0
    → new ≡ more ++ Binary op k j ∷ [] → r ≡ length more → Reads a f left old new r
binary_read a o e s p u g f op left k j r old mid more new enter some q close operator enter' q' close' added last =
    let l = q.tree in
    let t = q'.tree in
    let text = a.text.now in
    let here : o.text.now ≡ text = enter.same in
    let there : u.text.now ≡ text = enter'.same ∙ (operator.same ∙ (close.same ∙ (q.spelled.same ∙ here))) in
    let first = operand_in text here q in
    let second = operand_in text there q' in
    let total = 0 + (size l + (0 + (1 + (0 + (size t + 0))))) in
    let all : Passes a f (spelling (bytes_in text) (two op l t)) total =
    then enter (then first.0 (then close (then operator (then enter' (then second.0 close'))))) in
    let counts : total ≡ size l + size t + 1 = omega arith in
    let n = length old in
    let from : length mid ≡ n + size l = grown q in
    let right : List (Part Run) = numbered (n + size l) t ++ Binary op k j ∷ [] in
    record {
      tree = two op l t;
      spelled = subst (λ (x : ℕ). Passes a f (spelling (bytes_in text) (two op l t)) x) counts all;
      formed = (first.1, second.1);
      ended = tt;
      shallow = omega (arith, q.shallow, q'.shallow);
      added =
          added
          ∙ (ap (λ (x : List (Part Run)). x ++ Binary op k j ∷ []) q'.added
          ∙ (append_assoc mid (numbered (length mid) t) (Binary op k j ∷ [])
          ∙ (ap (λ (x : ℕ). mid ++ (numbered x t ++ Binary op k j ∷ [])) from
          ∙ (ap (λ (x : List (Part Run)). x ++ right) q.added
          ∙ (append_assoc old (numbered n l) right
          ∙ (ap (λ (x : ℕ). old ++ (numbered n l ++ (numbered (n + size l) t ++ Binary op x j ∷ []))) q.last
          ∙ ap (λ (x : ℕ). old ++ (numbered n l ++ (numbered (n + size l) t ++ Binary op (root n l) x ∷ []))) (q'.last ∙ ap (λ (x : ℕ). root x t) from)))))));
      last = omega (arith, grown q, grown q', last);
    }
