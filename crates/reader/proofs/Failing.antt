-- Where the reading of a whole text fails.
use Rattle.std.proofs.Common.{◌≡◌, ℕ, ◌<◌, List, [], ◌∷◌, ◌++◌, length, drop, sym, ap, ◌∙◌, subst, append-nil, arith, length-drop}
use Rattle.text.specs.declared.faults.TextFault.{TextFault}
use Rattle.text.specs.declared.faults.TextFault.TheVariants.{Length, Form, Brackets, Parts, Scale}
use Rattle.reader.specs.declared.readers.Cursor.{Cursor}
use Rattle.reader.specs.Blame.{Unspelled}
use Rattle.reader.specs.Cursors.{rest}
use Rattle.reader.specs.Fronts.{NoFront, spelled_out}
use Rattle.reader.specs.Halts.{Fails, first_only, Found, Halts, Within}
use Rattle.reader.proofs.Alike.{alike_ends, passed_at}
use Rattle.reader.proofs.Begins.{begun_whole}
use Rattle.reader.proofs.Once.{once}
use Rattle.reader.proofs.Stopping.{Took, took_clear}
use Rattle.reader.proofs.Unsaid.{ends_nothing}

-- what begins with no formula is none
unspelled : (bytes : List ℕ) → NoFront bytes → Unspelled bytes
unspelled bytes none t p e = none t [] p (ends_nothing t) (sym e ∙ sym (append-nil (spelled_out t)))

found_whole : (done after : List ℕ) (e : TextFault) → Found NoFront 12 0 done after e → Found Unspelled 12 0 done after e
found_whole done after Length f = f
found_whole done after (Form at) f = record { begun = f.begun; stuck = λ other same. unspelled (done ++ other) (f.stuck other same) }
found_whole done after (Brackets at) f = f
found_whole done after (Parts at) f = f
found_whole done after (Scale fault) f = f

-- a formula at the start of the text halts
pub fails_inside : (a : Cursor) (e : TextFault) → a.at ≡ 0 → a.met ≡ 0 → Halts a 12 e → Fails a.text.now e
fails_inside a e start unmet h =
    record {
      done = h.done;
      after = h.after;
      read = ap (λ (n : ℕ). drop n a.text.now) (sym start) ∙ h.read;
      place = omega (arith, h.place, start);
      within = subst (λ (n : ℕ). Within 12 n 40 h.done) unmet h.within;
      found = found_whole h.done h.after e (subst (λ (n : ℕ). Found NoFront 12 n h.done h.after e) unmet h.found);
    }

more_same : (w r : List ℕ) → first_only w ≡ first_only r → 0 < length r → w ≡ [] → ⊥
more_same [] [] same more none = omega arith
more_same [] (b ∷ r) same more none = let z : ◌≡◌ {A = ℕ} 0 1 = cc in omega arith
more_same (b ∷ w) r same more none = let z : ◌≡◌ {A = ℕ} 0 1 = cc in omega arith

-- a formula was read, and the text goes on
pub fails_more : (a b : Cursor) (e : TextFault) → a.at ≡ 0 → a.met ≡ 0 → Took a b 12 → e ≡ Form b.at → b.at < length b.text.now → Fails a.text.now e
fails_more a b e start unmet t is more =
    let x = spelled_out t.tree in
    let left : 0 < length (rest b) = omega (arith, length-drop b.at b.text.now) in
    subst (Fails a.text.now) (sym is)
    (record {
      done = x;
      after = rest b;
      read = ap (λ (n : ℕ). drop n a.text.now) (sym start) ∙ t.over.over;
      place = omega (arith, passed_at t.over, start);
      within = subst (λ (n : ℕ). Within 12 n 40 x) unmet (took_clear t).within;
      found = record {
        begun = begun_whole t.tree t.proper;
        stuck = λ w same u p s.
            more_same w (rest b) same left
            (once t.tree u w [] t.proper p (alike_ends t.tree w (rest b) same t.ends) (ends_nothing u) (sym s ∙ sym (append-nil (spelled_out u)))).1;
      };
    })
