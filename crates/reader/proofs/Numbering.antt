-- How many parts a tree has, and the number of the last one.
use Rattle.std.proofs.Common.{◌≡◌, ℕ, ◌+◌, ◌≤◌, List, [], ◌∷◌, ◌++◌, length, refl, ap, ◌∙◌, arith, length-append}
use Rattle.formula.specs.declared.parts.Part.{Part}
use Rattle.formula.specs.declared.parts.Part.TheVariants.{Binary}
use Rattle.reader.specs.declared.readers.Cursor.{Cursor}
use Rattle.reader.specs.declared.readers.Run.{Run}
use Rattle.reader.specs.Reads.{Reads}
use Rattle.formula.specs.Trees.{Tree, compares, one, two, size, root, numbered}

pub size_pos : {K : Type 0} (t : Tree K) → 1 ≤ size t
size_pos (compares _ _ _) = omega arith
size_pos (one op t) = omega arith
size_pos (two op l r) = omega arith

pub length_numbered : {K : Type 0} (n : ℕ) (t : Tree K) → length (numbered n t) ≡ size t
length_numbered n (compares _ _ _) = refl
length_numbered n (one op t) = length-append (numbered n t) _ ∙ ap (λ (k : ℕ). k + 1) (length_numbered n t)
length_numbered n (two op l r) =
    let whole = length-append (numbered n l) (numbered (n + size l) r ++ Binary op (root n l) (root (n + size l) r) ∷ []) in
    let back = length-append (numbered (n + size l) r) (Binary op (root n l) (root (n + size l) r) ∷ []) in
    omega (arith, whole, back, length_numbered n l, length_numbered (n + size l) r)

-- reading a formula adds its parts, and its last part is the last of all
pub grown : {a b : Cursor} {k : ℕ} {old new : List (Part Run)} {r : ℕ} (q : Reads a b k old new r) → length new ≡ length old + size q.tree
grown {old = old} q = ap length q.added ∙ (length-append old _ ∙ ap (λ (n : ℕ). length old + n) (length_numbered (length old) q.tree))

pub topped : {a b : Cursor} {k : ℕ} {old new : List (Part Run)} {r : ℕ} (q : Reads a b k old new r) → r + 1 ≡ length new
topped q = omega (arith, grown q, q.last, size_pos q.tree)
