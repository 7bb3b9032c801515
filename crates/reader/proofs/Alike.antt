-- Texts that go on alike: what refuses one of them refuses the other.
use Rattle.std.proofs.Common.{◌≡◌, ℕ, ◌+◌, ◌<◌, List, [], ◌∷◌, length, get_or, drop, sym, ap, ◌∙◌, subst, zero-le, arith, length-append, length-drop}
use Rattle.std.proofs.lemmas.List.{drop_more}
use Rattle.scale.specs.Marks.{RunByte}
use Rattle.formula.specs.Trees.{Tree, compares, one, two}
use Rattle.reader.specs.declared.readers.Cursor.{Cursor}
use Rattle.reader.specs.Cursors.{Ahead, Passes, rest}
use Rattle.reader.specs.Fronts.{Ends, Stops}
use Rattle.reader.specs.Halts.{first_only}
use Rattle.reader.proofs.Missing.{ahead_of}
use Rattle.reader.proofs.Words.{first}

-- a cursor at the start of some bytes
abbrev pub before : List ℕ → Cursor
before w = record { text = record { ref_ptr = (0, 0); now = w }; at = 0; met = 0; within = zero-le; counted = zero-le }

alike_first : (w r : List ℕ) (x : ℕ) → first_only w ≡ first_only r → (0 < length w) → get_or w 0 0 ≡ x → (u : List ℕ) × (r ≡ x ∷ u)
alike_first [] r x e some is = absurd (omega arith)
alike_first (b ∷ w) [] x e some is = let z : ◌≡◌ {A = ℕ} 0 1 = cc in absurd (omega arith)
alike_first (b ∷ w) (d ∷ r) x e some is = (r, ap (λ (y : ℕ). y ∷ r) (sym (ap first e) ∙ is))

-- the next byte is the same
pub alike_ahead : (c : Cursor) (w : List ℕ) (x : ℕ) → first_only w ≡ first_only (rest c) → Ahead (before w) x → Ahead c x
alike_ahead c w x e ahead = let a = alike_first w (rest c) x e ahead.0 ahead.1 in ahead_of c x a.0 a.1

alike_stops : (w r : List ℕ) → first_only w ≡ first_only r → Stops r → Stops w
alike_stops [] r e s = tt
alike_stops (b ∷ w) [] e s = let z : ◌≡◌ {A = ℕ} 0 1 = cc in absurd (omega arith)
alike_stops (b ∷ w) (d ∷ r) e s = λ run. s (subst RunByte (ap first e) run)

pub alike_ends : (t : Tree (List ℕ)) (w r : List ℕ) → first_only w ≡ first_only r → Ends t r → Ends t w
alike_ends (compares _ _ _) w r e s = alike_stops w r e s
alike_ends (one _ _) w r e s = tt
alike_ends (two _ _ _) w r e s = tt

pub first_in_both : (c : Cursor) (x : ℕ) → Ahead c x → (u : List ℕ) × (rest c ≡ x ∷ u)
first_in_both c x a =
    let text = c.text.now in
    (drop (c.at + 1) text, drop_more text c.at 0 a.0 ∙ ap (λ (b : ℕ). b ∷ drop (c.at + 1) text) a.1)

-- how far the bytes go that were read
pub passed_at : {a b : Cursor} {x : List ℕ} {n : ℕ} → Passes a b x n → b.at ≡ a.at + length x
passed_at {a} {b} {x} p =
    omega (arith, length-drop a.at a.text.now, length-drop b.at b.text.now, length-append x (rest b), ap length p.over, ap length p.same, a.within, b.within)
