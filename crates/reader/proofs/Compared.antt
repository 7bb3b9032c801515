-- A comparison is read when its pieces are.
use Rattle.std.proofs.Common.{◌≡◌, ℕ, ◌<◌, List, [], ◌∷◌, ◌++◌, length, ap, ◌∙◌, subst, zero-le, arith, Bor}
use Rattle.scale.specs.Marks.{RunByte}
use Rattle.formula.specs.declared.parts.Comparator.{Comparator}
use Rattle.formula.specs.declared.parts.Operand.{Operand}
use Rattle.formula.specs.declared.parts.Part.{Part}
use Rattle.formula.specs.declared.parts.Part.TheVariants.{Comparison}
use Rattle.reader.specs.declared.readers.Cursor.{Cursor}
use Rattle.reader.specs.declared.readers.Run.{Run}
use Rattle.reader.specs.Cursors.{Ahead, Meets, Passes}
use Rattle.reader.specs.Runs.{bytes_in}
use Rattle.reader.specs.Reads.{Reads, Stands}
use Rattle.reader.specs.Spellings.{decimal, comparator_text}
use Rattle.formula.specs.Trees.{compares}
use Rattle.reader.specs.Written.{operand_text}
use Rattle.reader.proofs.Passing.{then, meeting}

pub compared :
    (a m b c d e : Cursor) (channel : ℕ) (v : Comparator) (o : Operand Run) (old new : List (Part Run)) (r : ℕ)
    → Meets a m → Passes m b (99 ∷ []) 0 → channel < 16 → Passes b c (decimal channel) 0
    → Passes c d (comparator_text v) 0 → Stands d.text.now o
    → Passes d e (operand_text (bytes_in d.text.now) o) 0 → ((x : ℕ) → RunByte x → Ahead e x → ⊥)
    → new ≡ old ++ Comparison channel v o ∷ [] → r ≡ length old → Reads a e 0 old new r
compared a m b c d e channel v o old new r met first low name sign stands meant ended added last =
    let text : d.text.now ≡ a.text.now = sign.same ∙ (name.same ∙ (first.same ∙ ap (λ (t : Bor (List ℕ)). t.now) met.same)) in
    let operand : Passes d e (operand_text (bytes_in a.text.now) o) 0 = subst (λ (t : List ℕ). Passes d e (operand_text (bytes_in t) o) 0) text meant in
    record {
      tree = compares channel v o;
      spelled = meeting met (then (then first name) (then sign operand));
      formed = (low, subst (λ (t : List ℕ). Stands t o) text stands);
      ended = ended;
      shallow = zero-le;
      added = added;
      last = omega arith;
    }
