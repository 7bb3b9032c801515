-- Readings one after the other.
use Rattle.std.proofs.Common.{ℕ, ◌+◌, List, ◌++◌, drop, sym, ap, ◌∙◌, append_assoc, arith, Bor}
use Rattle.reader.specs.declared.readers.Cursor.{Cursor}
use Rattle.reader.specs.Cursors.{rest, Meets, Passes}

-- what was read after what was read before
pub then : {a b c : Cursor} {x y : List ℕ} {m n : ℕ} → Passes a b x m → Passes b c y n → Passes a c (x ++ y) (m + n)
then {a} {b} {c} {x} {y} p q =
    record {
      same = q.same ∙ p.same;
      over = p.over ∙ (ap (λ (t : List ℕ). x ++ t) q.over ∙ sym (append_assoc x y (rest c)));
      counts = omega (arith, p.counts, q.counts);
    }

-- a part that is met before counts with what is read
pub meeting : {a b c : Cursor} {x : List ℕ} {n : ℕ} → Meets a b → Passes b c x n → Passes a c x (n + 1)
meeting {a} {b} {c} {x} p q =
    record {
      same = q.same ∙ ap (λ (t : Bor (List ℕ)). t.now) p.same;
      over =
          ap (λ (t : Bor (List ℕ)). drop a.at t.now) (sym p.same)
          ∙ (ap (λ (k : ℕ). drop k b.text.now) (sym p.here) ∙ q.over);
      counts = omega (arith, p.counts, q.counts);
    }
