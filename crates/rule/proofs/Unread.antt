-- Runs that no mark is written as, among those that the parts tell of.
use Rattle.std.proofs.Common.{◌≡◌, ℕ, zero, suc, ◌+◌, ◌-◌, ◌<◌, ◌≤◌, List, [], ◌∷◌, length, get_or, take, drop, sym, ap, ◌∙◌, subst, ⊎_elim, arith}
use Rattle.std.proofs.lemmas.Bool.{cases_lt}
use Rattle.scale.specs.declared.faults.ScaleFault.{ScaleFault}
use Rattle.scale.specs.declared.faults.ScaleFault.TheVariants.{Unread}
use Rattle.scale.specs.Marks.{RunByte}
use Rattle.formula.specs.declared.parts.Comparator.{Comparator}
use Rattle.formula.specs.declared.parts.Operand.{Operand}
use Rattle.formula.specs.declared.parts.Operand.TheVariants.{Limit, Channel, Constant}
use Rattle.formula.specs.declared.parts.Part.{Part}
use Rattle.formula.specs.declared.parts.Part.TheVariants.{Comparison, Unary, Binary}
use Rattle.formula.specs.declared.parts.UnaryOperator.TheVariants.{Not}
use Rattle.reader.specs.declared.readers.Run.{Run}
use Rattle.reader.specs.Blame.{UnreadAt}
use Rattle.reader.specs.Codings.{AllCoded, CodedOperand, CodedPart, FirstUnread, UnreadPart}
use Rattle.reader.specs.Runs.{bytes_in, IsRun}
use Rattle.reader.specs.Told.{Means, operands_of, Quiet, TellOf}

-- runs that start together end together
run_end : (text : List ℕ) (r s : Run) → IsRun text r → IsRun text s → r.start ≡ s.start → s.end ≤ r.end
run_end text r s p q same =
    ⊎_elim
    (λ (h : r.end < s.end). absurd (p.longest (omega (arith, q.within)) (q.each r.end (omega (arith, p.some)) h)))
    (λ (h : s.end ≤ r.end). h)
    (cases_lt r.end s.end)

run_same : (text : List ℕ) (r s : Run) → IsRun text r → IsRun text s → r.start ≡ s.start → bytes_in text r ≡ bytes_in text s
run_same text r s p q same =
    let ends : r.end ≡ s.end = omega (arith, run_end text r s p q same, run_end text s r q p (sym same)) in
    ap (λ (n : ℕ). take (n - r.start) (drop r.start text)) ends ∙ ap (λ (n : ℕ). take (s.end - n) (drop n text)) same

module _ {S : Type 0} (code : S → ℕ) (written : S → List ℕ) (text : List ℕ) where
  run_byte : (k : ℕ) (u : UnreadAt written text k) → RunByte (get_or text k 0)
  run_byte k u = u.runs.each k (omega (arith, u.starts)) (omega (arith, u.starts, u.runs.some))

  not_quiet : (from to k : ℕ) → Quiet text from to → UnreadAt written text k → from ≤ k → k < to → ⊥
  not_quiet from to k quiet u low high = quiet k low high u.signed (run_byte k u)

  -- a run that is coded is no such run
  clash : (k end : ℕ) (o : Operand Run) (out : Operand ℕ) → UnreadAt written text k → Means text k end o → CodedOperand code written text o out → ⊥
  clash k end (Limit l) out u m c = u.unnamed.no_limit l (m.meant ∙ run_same text m.run u.run m.runs u.runs (m.starts ∙ sym u.starts))
  clash k end (Channel n) out u m c = u.unnamed.no_channel n m.meant.0 (m.meant.1 ∙ run_same text m.run u.run m.runs u.runs (m.starts ∙ sym u.starts))
  clash k end (Constant run) out u m c =
      u.unwritten c.0
      (c.1 ∙ (ap (λ (r : Run). bytes_in text r) m.meant.0 ∙ run_same text m.run u.run m.runs u.runs (m.starts ∙ sym u.starts)))

  -- the parts before a place are coded
  abbrev Coded : List (Part Run) → ℕ → Type 0
  Coded parts n = (i : ℕ) (d : Part Run) → i < n → (out : Part ℕ) × CodedPart code written text (get_or parts i d) out

  coded_operand : (c : ℕ) (v : Comparator) (o : Operand Run) (out : Part ℕ) → CodedPart code written text (Comparison c v o) out → (x : Operand ℕ) × CodedOperand code written text o x
  coded_operand c v o out p = (p.0, p.1)

  pub told_coded : (parts : List (Part Run)) (from to : ℕ) → TellOf text from to (operands_of parts) → Coded parts (length parts) → (k : ℕ) → from ≤ k → k < to → UnreadAt written text k → ⊥
  told_coded [] from to quiet coded k low high u = not_quiet from to k quiet u low high
  told_coded (Comparison c v o ∷ parts) from to (j, end, le, lt, quiet, sign, means, more) coded k low high u =
      ⊎_elim
      (λ (h : k < j). not_quiet from j k quiet u low h)
      (λ (h : j ≤ k).
      ⊎_elim
      (λ (h' : j < k). told_coded parts (j + 1) to more (λ i d below. coded (suc i) d (omega arith)) k (omega arith) high u)
      (λ (h' : k ≤ j).
      let same : k ≡ j = omega arith in
      let first = coded 0 (Comparison c v o) (omega arith) in
      let x = coded_operand c v o first.0 first.1 in
      clash j end o x.0 (subst (UnreadAt written text) same u) means x.1)
      (cases_lt j k))
      (cases_lt k j)
  told_coded (Unary op n ∷ parts) from to told coded k low high u = told_coded parts from to told (λ i d below. coded (suc i) d (omega arith)) k low high u
  told_coded (Binary op n m ∷ parts) from to told coded k low high u = told_coded parts from to told (λ i d below. coded (suc i) d (omega arith)) k low high u

  -- every part is coded
  pub all_coded : (parts : List (Part Run)) (out : List (Part ℕ)) → AllCoded code written text parts out → Coded parts (length parts)
  all_coded parts out a i d below = let o : Part ℕ = Unary Not 0 in (get_or out i o, a.each i d o below)

  -- the first run that no mark is written as
  pub record First (from to : ℕ) (fault : ScaleFault) : Type 0 where
    pub place : ℕ
    pub blamed : fault ≡ Unread place
    pub low : from ≤ place
    pub high : place < to
    pub unread : UnreadAt written text place
    pub least : (k : ℕ) → from ≤ k → UnreadAt written text k → place ≤ k

  first_operand : (from to : ℕ) (c : ℕ) (v : Comparator) (o : Operand Run) (os : List (Operand Run)) (fault : ScaleFault) → TellOf text from to (o ∷ os) → UnreadPart code written text (Comparison c v o) fault → First from to fault
  first_operand from to c v (Limit l) os fault told u = absurd u
  first_operand from to c v (Channel n) os fault told u = absurd u
  first_operand from to c v (Constant run) os fault (j, end, le, lt, quiet, sign, means, more) u =
      record {
        place = j;
        blamed = u.0 ∙ ap (λ (n : ℕ). Unread n) (ap (λ (r : Run). r.start) means.meant.0 ∙ means.starts);
        low = le;
        high = lt;
        unread =
            record {
              run = means.run;
              starts = means.starts;
              runs = means.runs;
              signed = sign;
              unnamed = means.meant.1;
              unwritten = λ m e. u.1 m (e ∙ ap (λ (r : Run). bytes_in text r) (sym means.meant.0));
            };
        least = λ k low x. ⊎_elim (λ (h : k < j). absurd (not_quiet from j k quiet x low h)) (λ (h : j ≤ k). h) (cases_lt k j);
      }

  -- one that comes behind a part that is coded
  first_behind : (from to c : ℕ) (v : Comparator) (o : Operand Run) (out : Operand ℕ) (j end : ℕ) (fault : ScaleFault) → from ≤ j → Quiet text from j → Means text j end o → CodedOperand code written text o out → First (j + 1) to fault → First from to fault
  first_behind from to c v o out j end fault le quiet means coded f =
      record {
        place = f.place;
        blamed = f.blamed;
        low = omega (arith, f.low);
        high = f.high;
        unread = f.unread;
        least = λ k low x.
            ⊎_elim
            (λ (h : k < j). absurd (not_quiet from j k quiet x low h))
            (λ (h : j ≤ k).
            ⊎_elim
            (λ (h' : j < k). f.least k (omega arith) x)
            (λ (h' : k ≤ j). let same : k ≡ j = omega arith in absurd (clash j end o out (subst (UnreadAt written text) same x) means coded))
            (cases_lt j k))
            (cases_lt k j);
      }

  first_told : (parts : List (Part Run)) (at from to : ℕ) (fault : ScaleFault) → at < length parts → ((d : Part Run) → UnreadPart code written text (get_or parts at d) fault) → Coded parts at → TellOf text from to (operands_of parts) → First from to fault
  first_told [] at from to fault within u coded told = absurd (omega arith)
  first_told (Comparison c v o ∷ parts) zero from to fault within u coded told = first_operand from to c v o (operands_of parts) fault told (u (Comparison c v o))
  first_told (Unary op n ∷ parts) zero from to fault within u coded told = absurd (u (Unary op n))
  first_told (Binary op n m ∷ parts) zero from to fault within u coded told = absurd (u (Binary op n m))
  first_told (Comparison c v o ∷ parts) (suc at) from to fault within u coded (j, end, le, lt, quiet, sign, means, more) =
      let head = coded 0 (Comparison c v o) (omega arith) in
      let x = coded_operand c v o head.0 head.1 in
      first_behind from to c v o x.0 j end fault le quiet means x.1
      (first_told parts at (j + 1) to fault (omega arith) u (λ i d below. coded (suc i) d (omega arith)) more)
  first_told (Unary op n ∷ parts) (suc at) from to fault within u coded told = first_told parts at from to fault (omega arith) u (λ i d below. coded (suc i) d (omega arith)) told
  first_told (Binary op n m ∷ parts) (suc at) from to fault within u coded told = first_told parts at from to fault (omega arith) u (λ i d below. coded (suc i) d (omega arith)) told

  pub first_unread_run : (parts : List (Part Run)) (to : ℕ) (fault : ScaleFault) → FirstUnread code written text parts fault → TellOf text 0 to (operands_of parts) → First 0 to fault
  first_unread_run parts to fault f told = first_told parts f.at 0 to fault f.within f.unread f.before told
