-- A refused text says nothing.
use Rattle.std.proofs.Common.{◌≡◌, ℕ, zero, suc, ◌+◌, ◌<◌, max, List, [], ◌∷◌, ◌++◌, length, get_or, IfOk, IfErr, Ok, Err, Result, sym, refl, ap, ◌∙◌, subst, arith}
use Rattle.scale.specs.declared.faults.ScaleFault.{ScaleFault}
use Rattle.scale.specs.Marks.{RunText}
use Rattle.formula.specs.declared.parts.Comparator.TheVariants.{Less}
use Rattle.formula.specs.declared.parts.LimitName.TheVariants.{P}
use Rattle.formula.specs.declared.parts.Operand.{Operand}
use Rattle.formula.specs.declared.parts.Operand.TheVariants.{Limit, Channel, Constant}
use Rattle.formula.specs.declared.parts.Part.{Part}
use Rattle.formula.specs.declared.parts.Part.TheVariants.{Comparison, Unary, Binary}
use Rattle.text.specs.declared.faults.TextFault.{TextFault}
use Rattle.reader.specs.declared.readers.Run.{Run}
use Rattle.reader.specs.Codings.{FirstUnread, UnreadPart}
use Rattle.reader.specs.Fronts.{Ends, NoWhole, spelled_out}
use Rattle.reader.specs.Halts.{Fails}
use Rattle.reader.specs.Reads.{Spelt}
use Rattle.reader.specs.Sayings.{Unsaid}
use Rattle.reader.specs.Runs.{bytes_in}
use Rattle.formula.specs.Trees.{Tree, compares, one, two, depth, map_operand, map_tree, numbered, root, size}
use Rattle.reader.proofs.Absent.{front_proper, size_mapped}
use Rattle.reader.proofs.Once.{once}
use Rattle.reader.proofs.Blaming.{no_whole}
use Rattle.reader.proofs.Only.{proper, written_out}

pub depth_mapped : {K L : Type 0} (f : K → L) (t : Tree K) → depth (map_tree f t) ≡ depth t
depth_mapped f (compares _ _ _) = refl
depth_mapped f (one op t) = ap (λ (n : ℕ). n + 1) (depth_mapped f t)
depth_mapped f (two op l r) = ap (λ (n : ℕ). max n (depth (map_tree f r)) + 1) (depth_mapped f l) ∙ ap (λ (n : ℕ). max (depth l) n + 1) (depth_mapped f r)

pub ends_nothing : (t : Tree (List ℕ)) → Ends t []
ends_nothing (compares _ _ _) = tt
ends_nothing (one _ _) = tt
ends_nothing (two _ _ _) = tt

module _ {S : Type 0} (code : S → ℕ) (written : S → List ℕ) (text : List ℕ) (runs : (m : S) → RunText (written m)) where
  pub unsaid_whole : NoWhole text → Unsaid code written text
  unsaid_whole none parts a =
      let f = a.formula in
      none (map_tree written f) (proper code written runs f a.spellable) (omega (arith, depth_mapped written f, a.shallow)) (omega (arith, size_mapped written f, a.few)) (sym (written_out code written f ∙ a.spelled))

  -- some mark is written as each constant
  abbrev ReadOperand : Operand Run → Type 0
  ReadOperand (Limit l) = Unit {0}
  ReadOperand (Channel n) = Unit {0}
  ReadOperand (Constant run) = (m : S) × (written m ≡ bytes_in text run)

  abbrev ReadPart : Part Run → Type 0
  ReadPart (Comparison channel comparator operand) = ReadOperand operand
  ReadPart (Unary _ _) = Unit {0}
  ReadPart (Binary _ _ _) = Unit {0}

  abbrev AllRead : List (Part Run) → Type 0
  AllRead [] = Unit {0}
  AllRead (x ∷ xs) = ReadPart x × AllRead xs

  read_both : (xs ys : List (Part Run)) → AllRead xs → AllRead ys → AllRead (xs ++ ys)
  read_both [] ys p q = q
  read_both (x ∷ xs) ys p q = (p.0, read_both xs ys p.1 q)

  read_at : (xs : List (Part Run)) (i : ℕ) (d : Part Run) → i < length xs → AllRead xs → ReadPart (get_or xs i d)
  read_at [] i d h p = absurd (omega arith)
  read_at (x ∷ xs) zero d h p = p.0
  read_at (x ∷ xs) (suc i) d h p = read_at xs i d (omega arith) p.1

  read_operand : (o : Operand Run) (q : Operand S) → map_operand (bytes_in text) o ≡ map_operand written q → ReadOperand o
  read_operand (Limit l) q e = tt
  read_operand (Channel n) q e = tt
  read_operand (Constant run) (Limit l) e = let z : ◌≡◌ {A = ℕ} 0 1 = cc in absurd (omega arith)
  read_operand (Constant run) (Channel l) e = let z : ◌≡◌ {A = ℕ} 0 1 = cc in absurd (omega arith)
  read_operand (Constant run) (Constant m) e = let h : bytes_in text run ≡ written m = cc in (m, sym h)

  read_all : (t : Tree Run) (f : Tree S) (n : ℕ) → map_tree (bytes_in text) t ≡ map_tree written f → AllRead (numbered n t)
  read_all (compares c v o) (compares d w q) n e = let h : map_operand (bytes_in text) o ≡ map_operand written q = cc in (read_operand o q h, tt)
  read_all (compares c v o) (one op u) n e = let z : ◌≡◌ {A = ℕ} 0 1 = cc in absurd (omega arith)
  read_all (compares c v o) (two op l r) n e = let z : ◌≡◌ {A = ℕ} 0 1 = cc in absurd (omega arith)
  read_all (one op t) (compares d w q) n e = let z : ◌≡◌ {A = ℕ} 0 1 = cc in absurd (omega arith)
  read_all (one op t) (one op' u) n e =
      let h : map_tree (bytes_in text) t ≡ map_tree written u = cc in
      read_both (numbered n t) (Unary op (root n t) ∷ []) (read_all t u n h) (tt, tt)
  read_all (one op t) (two op' l r) n e = let z : ◌≡◌ {A = ℕ} 0 1 = cc in absurd (omega arith)
  read_all (two op l r) (compares d w q) n e = let z : ◌≡◌ {A = ℕ} 0 1 = cc in absurd (omega arith)
  read_all (two op l r) (one op' u) n e = let z : ◌≡◌ {A = ℕ} 0 1 = cc in absurd (omega arith)
  read_all (two op l r) (two op' l' r') n e =
      let h : map_tree (bytes_in text) l ≡ map_tree written l' = cc in
      let k : map_tree (bytes_in text) r ≡ map_tree written r' = cc in
      let last = Binary op (root n l) (root (n + size l) r) ∷ [] in
      read_both (numbered n l) (numbered (n + size l) r ++ last) (read_all l l' n h)
      (read_both (numbered (n + size l) r) last (read_all r r' (n + size l) k) (tt, tt))

  unread_not_read : (p : Part Run) (fault : ScaleFault) → UnreadPart code written text p fault → ReadPart p → ⊥
  unread_not_read (Comparison channel comparator (Limit l)) fault u r = u
  unread_not_read (Comparison channel comparator (Channel n)) fault u r = u
  unread_not_read (Comparison channel comparator (Constant run)) fault u r = u.1 r.0 r.1
  unread_not_read (Unary op x) fault u r = u
  unread_not_read (Binary op x y) fault u r = u

  unsaid_unread : (draft : List (Part Run)) (fault : ScaleFault) → Spelt text draft → FirstUnread code written text draft fault → Unsaid code written text
  unsaid_unread draft fault s u parts a =
      let t = s.tree in
      let f = a.formula in
      let some : Part Run = Comparison 0 Less (Limit P) in
      let e : spelled_out (map_tree (bytes_in text) t) ++ [] ≡ spelled_out (map_tree written f) ++ [] =
      ap (λ (x : List ℕ). x ++ []) (written_out (λ _. 0) (bytes_in text) t ∙ (s.spelled ∙ (sym a.spelled ∙ sym (written_out code written f)))) in
      let same = once (map_tree (bytes_in text) t) (map_tree written f) [] [] (front_proper text t s.formed) (proper code written runs f a.spellable) (ends_nothing (map_tree (bytes_in text) t)) (ends_nothing (map_tree written f)) e in
      let all : AllRead draft = subst AllRead (sym s.listed) (read_all t f 0 same.0) in
      unread_not_read (get_or draft u.at some) fault (u.unread some) (read_at draft u.at some u.within all)

  -- a run that no mark is written as, whether or not the rest of the text was read
  pub unsaid_run : {X : Type 0} (r : Result X TextFault) (draft : List (Part Run)) (fault : ScaleFault) → IfOk r (λ _. Spelt text draft) → IfErr r (Fails text) → FirstUnread code written text draft fault → Unsaid code written text
  unsaid_run (Ok x) draft fault s fails u = unsaid_unread draft fault s u
  unsaid_run (Err e) draft fault s fails u = unsaid_whole (no_whole text e fails)
