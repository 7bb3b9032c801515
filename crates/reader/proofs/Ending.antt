-- A formula that ends where the text does is the whole text.
use Rattle.std.proofs.Common.{◌≡◌, ℕ, List, [], ◌++◌, length, drop, IfOk, IfErr, Ok, Err, Result, sym, ap, ◌∙◌, subst, append-nil, arith, MatchResult}
use Rattle.std.proofs.lemmas.List.{drop_all}
use Rattle.formula.specs.declared.parts.Part.{Part}
use Rattle.reader.specs.declared.readers.Cursor.{Cursor}
use Rattle.reader.specs.declared.readers.Run.{Run}
use Rattle.reader.specs.Cursors.{rest}
use Rattle.reader.specs.Reads.{Reads, Spelt}
use Rattle.reader.specs.Runs.{bytes_in}
use Rattle.formula.specs.Trees.{numbered}
use Rattle.reader.specs.Written.{spelling}

-- what holds where a call succeeded
pub made_from : {X E : Type 0} (r : Result X E) (P : X → Type 0) (Q : E → Type 0) (G : X → Type 0) → MatchResult r P Q → ((x : X) → P x → G x) → IfOk r G
made_from (Ok x) P Q G h f = f x h
made_from (Err e) P Q G h f = tt

-- what holds where it was refused
pub refused_from : {X E : Type 0} (r : Result X E) (P : X → Type 0) (Q : E → Type 0) (G : E → Type 0) → MatchResult r P Q → ((e : E) → Q e → G e) → IfErr r G
refused_from (Ok x) P Q G h f = tt
refused_from (Err e) P Q G h f = f e h

-- what holds either way
pub cases_from : {X E : Type 0} (r : Result X E) (P : X → Type 0) (Q : E → Type 0) (F : X → Type 0) (G : E → Type 0) → MatchResult r P Q → ((x : X) → P x → F x) → ((e : E) → Q e → G e) → MatchResult r F G
cases_from (Ok x) P Q F G h f g = f x h
cases_from (Err e) P Q F G h f g = g e h

pub spelt : (a b : Cursor) (old new : List (Part Run)) (r : ℕ) → a.at ≡ 0 → a.met ≡ 0 → old ≡ [] → Reads a b 12 old new r → b.at ≡ length b.text.now → Spelt a.text.now new
spelt a b old new r start unmet blank q end =
    let text = a.text.now in
    let words = spelling (bytes_in text) q.tree in
    let none : rest b ≡ [] = drop_all b.at b.text.now (omega (arith, end)) in
    let whole : drop 0 text ≡ words ++ [] =
    ap (λ (n : ℕ). drop n text) (sym start) ∙ (q.spelled.over ∙ ap (λ (x : List ℕ). words ++ x) none) in
    record {
      tree = q.tree;
      spelled = sym (append-nil words) ∙ sym whole;
      formed = q.formed;
      shallow = q.shallow;
      few = omega (arith, q.spelled.counts, b.counted);
      listed = subst (λ (x : List (Part Run)). new ≡ x ++ numbered (length x) q.tree) blank q.added;
    }
