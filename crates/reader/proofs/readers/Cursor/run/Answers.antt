use Rattle.std.proofs.Common.{◌≡◌, ℕ, ◌+◌, ◌-◌, List, length, get_or, take, drop, sym, refl, ap, ◌∙◌, subst, arith, take_all}
use Rattle.std.proofs.lemmas.List.{get_or-drop, length-drop}
use Rattle.scale.specs.Marks.{RunByte}
use Rattle.reader.proofs.Stretches.{stretch}
use Rattle.reader.proofs.readers.Cursor.run.Goals as goal

pub returns : goal.returns
returns c =
    let from = c.args.self.now.at in
    let count = c.run_length-length.result in
    let text = c.args.self.now.text.now in
    let told = c.run_length-length.ensures in
    let left = take (length text - from) (drop from text) in
    let all : left ≡ drop from text = take_all (length text - from) (drop from text) (omega (arith, length-drop from text)) in
    let at : (j : ℕ) → get_or left j 0 ≡ get_or text (from + j) 0 = λ j. ap (λ (l : List ℕ). get_or l j 0) all ∙ get_or-drop from text j 0 in
    let long : length left ≡ length text - from = ap length all ∙ length-drop from text in (
      record {
        some = omega arith;
        within = omega (arith, c.args.self.now.within);
        each = λ k low high.
            let back : from + (k - from) ≡ k = omega arith in
            subst (λ (n : ℕ). RunByte (get_or text n 0)) back (subst RunByte (at (k - from)) (told.each (k - from) (omega arith)));
        longest = λ below b. told.longest (omega (arith, long)) (subst RunByte (sym (at count)) b);
      },
      refl,
      refl,
      record { same = refl; over = stretch text from (from + count) (omega arith); counts = omega arith },
    )
