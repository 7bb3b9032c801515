-- What a bench stands for after each call that may change it. Assumes nothing.
use Rattle.std.proofs.Common.{◌≡◌, ℕ, ◌<◌, ◌≤◌, true, List, [], ◌∷◌, length, Some, None, Ok, Err, Option, Result, sym, refl, ap, ◌∙◌, subst, ⊎_elim, arith}
use Rattle.recording.specs.Changes.{Added, Withdrawn}
use Rattle.recording.specs.Meaning.{Meaning}
use Rattle.recording.specs.declared.faults.TapeFault.{TapeFault}
use Rattle.recording.specs.declared.faults.TapeFault.TheVariants.{NoChannel, NoPoint, NotGiven, Full as full_tape, TickNotLater, Scale}
use Rattle.scale.specs.declared.faults.ScaleFault.TheVariants.{Unread, NoMark}
use Rattle.formula.specs.Assembly.{wholly}
use Rattle.formula.specs.Formulas.{parts_of}
use Rattle.formula.specs.Trees.{Tree, numbered}
use Rattle.formula.specs.declared.parts.Part.{Part}
use Rattle.formula.proofs.Assembling.{numbered_length, size_some, whole_tree}
use Rattle.domain.specs.Listed.{boxes_of}
use Rattle.solver.specs.Derived.{Solves, derived}
use Rattle.solver.specs.declared.solvers.SolveFault.{SolveFault}
use Rattle.solver.specs.declared.solvers.SolveFault.TheVariants.{Blank, NoPoint as past_point, Full as full_list}
use Rattle.recording.specs.declared.recordings.Recording.{Ghosts as RecordingGhosts}
use Rattle.scale.specs.declared.scales.Scale.{Ghosts as ScaleGhosts}
use Rattle.bench.specs.declared.benches.Bench.{Bench}
use Rattle.bench.specs.declared.faults.BenchFault.{BenchFault}
use Rattle.bench.specs.declared.faults.BenchFault.TheVariants.{Tape, Record, Part as part_fault, NoRule, Unsolved, Full, Ragged, Room}
use Rattle.bench.specs.Changes.{Changes, CodeAmended}
use Rattle.bench.specs.Faults.{solve_fault}
use Rattle.bench.specs.Laws.{ChangeLaw, SetLaw, SolveLaw, SolveRight}
use Rattle.bench.specs.Sets.{Sets}
use Rattle.bench.specs.Settings.{fitted_from, fitted_part}
use Rattle.bench.specs.Solved.{Solved}
use Rattle.bench.specs.Views.{Agrees, View, parts_in_force}
use Rattle.bench.proofs.Fitting.{onward_ok}

-- a refused change leaves what the tape tells
pub add_refused : {S : Type 0} (rest : S) (m n : Meaning S) (tick : ℕ) (f : TapeFault) → Added rest m {X = Unit {0}} tick (Err f) n → n ≡ m
add_refused rest m n tick full_tape h = h.1
add_refused rest m n tick TickNotLater h = h.3
add_refused rest m n tick NoChannel h = absurd h
add_refused rest m n tick NoPoint h = absurd h
add_refused rest m n tick NotGiven h = absurd h
add_refused rest m n tick (Scale f) h = absurd h

pub withdraw_refused : {S : Type 0} (m n : Meaning S) (f : TapeFault) → Withdrawn m {X = Unit {0}} (Err f) n → n ≡ m
withdraw_refused m n NoPoint h = h.1
withdraw_refused m n full_tape h = absurd h
withdraw_refused m n TickNotLater h = absurd h
withdraw_refused m n NoChannel h = absurd h
withdraw_refused m n NotGiven h = absurd h
withdraw_refused m n (Scale f) h = absurd h

pub amend_refused : {S : Type 0} (named : ℕ → Option S) (m n : Meaning S) (point channel code : ℕ) (f : TapeFault) → CodeAmended named m point channel code (Err f) n → n ≡ m
amend_refused named m n point channel code NoPoint h = h.1
amend_refused named m n point channel code NoChannel h = h.2
amend_refused named m n point channel code NotGiven h = h.3
amend_refused named m n point channel code (Scale NoMark) h = h.3
amend_refused named m n point channel code (Scale (Unread at)) h = absurd h
amend_refused named m n point channel code full_tape h = absurd h
amend_refused named m n point channel code TickNotLater h = absurd h

-- the formula in force, where there are parts
in_force : {S : Type 0} (rule : Option (Tree S)) (parts : List (Part S)) → parts ≡ parts_in_force rule → 0 < length parts → (t : Tree S) × (rule ≡ Some t) × (parts ≡ numbered 0 t)
in_force None parts e some = absurd (omega (arith, ap length e))
in_force (Some t) parts e some = (t, refl, e)

no_force : {S : Type 0} (rule : Option (Tree S)) (parts : List (Part S)) → parts ≡ parts_in_force rule → length parts ≡ 0 → rule ≡ None
no_force None parts e none = refl
no_force (Some t) parts e none = absurd (omega (arith, ap length e, numbered_length 0 t, size_some t))

same_derived : {S : Type 0} (rank : S → ℕ) (m n : Meaning S) (ps qs : List (Part S)) (point : ℕ) → n ≡ m → qs ≡ ps → derived rank m.mark m.points ps point ≡ derived rank n.mark n.points qs point
same_derived rank m n ps qs point e f = ap (λ x. derived rank x.mark x.points ps point) (sym e) ∙ ap (λ x. derived rank n.mark n.points x point) (sym f)

set_ok : {S : Type 0} (named : ℕ → Option S) (channels : ℕ) (rule : List (Part ℕ)) (parts : List (Part S)) → 0 < length rule → fitted_from named channels 0 rule ≡ Ok parts → wholly parts ≡ true → (t : Tree S) × (parts ≡ numbered 0 t)
set_ok named channels [] parts some e w = absurd (omega arith)
set_ok named channels (p ∷ ps) parts some e w =
    ⊎_elim
    (λ none. let h = onward_ok named channels 0 (fitted_part named channels p) (fitted_from named channels 1 ps) parts e in absurd (omega (arith, ap length (sym none ∙ h.4))))
    (λ tree. tree)
    (whole_tree parts w)

module _ {S R : Type 0} {telling : RecordingGhosts R S} {scale : ScaleGhosts S} (rank : S → ℕ) (meaning : R → Meaning S) where
  -- a bench that changed in nothing that a view tells
  pub agrees_still : (v : View S) (before after : Bench R S telling scale) → meaning after.recording ≡ meaning before.recording → parts_of after.formula ≡ parts_of before.formula → after.solved ≡ before.solved → Agrees meaning v before → Agrees meaning v after
  agrees_still v before after tells rule solved a = record {
    told = tells ∙ a.told;
    rule = rule ∙ a.rule;
    solved = solved ∙ a.solved;
  }

  pub change_law : (does : Meaning S → Result (Unit {0}) TapeFault → Meaning S → Type 0) → ((m n : Meaning S) (f : TapeFault) → does m (Err f) n → n ≡ m) → (before after : Bench R S telling scale) (answer : Result (Unit {0}) BenchFault) → Changes (λ a. does (meaning before.recording) a (meaning after.recording)) answer before.solved after.solved → after.formula ≡ before.formula → ChangeLaw rank meaning does before answer after
  change_law does refused before after (Ok u) h rule v a = (meaning after.recording, subst (λ m. does m (Ok u) (meaning after.recording)) a.told h.0, record { told = refl; rule = ap parts_of rule ∙ a.rule; solved = h.1 })
  change_law does refused before after (Err fault) h rule v a =
      let f = h.0 in
      let same : meaning after.recording ≡ meaning before.recording = refused (meaning before.recording) (meaning after.recording) f h.2 in
      let was = subst (λ m. does (meaning before.recording) (Err f) m) same h.2 in
      (f, h.1, subst (λ m. does m (Err f) m) a.told was, agrees_still v before after same (ap parts_of rule) h.3 a)

  -- a refused solve
  refused_solve : (before after : Bench R S telling scale) (point : ℕ) (v : View S) → Agrees meaning v before → meaning after.recording ≡ meaning before.recording → parts_of after.formula ≡ parts_of before.formula → (f : SolveFault) → Solves rank (meaning before.recording).mark (meaning before.recording).points (parts_of before.formula) (Err f) point (boxes_of before.standing) (boxes_of after.standing) → after.solved ≡ before.solved → SolveRight rank v point (Err (solve_fault f)) × Agrees meaning v after
  refused_solve before after point v a tells rule Blank h solved = (no_force v.rule (parts_of before.formula) a.rule h.0, agrees_still v before after tells rule solved a)
  refused_solve before after point v a tells rule past_point h solved =
      let f = in_force v.rule (parts_of before.formula) a.rule h.0 in
      ((f.0, f.1, subst (λ x. x.points ≤ point) a.told h.1, refl), agrees_still v before after tells rule solved a)
  refused_solve before after point v a tells rule (full_list at k) h solved =
      let f = in_force v.rule (parts_of before.formula) a.rule h.0 in
      ((f.0, f.1, subst (λ x. point < x.points) a.told h.1, same_derived rank v.told (meaning before.recording) (numbered 0 f.0) (parts_of before.formula) point a.told f.2 ∙ h.2), agrees_still v before after tells rule solved a)

  pub solve_law : (before after : Bench R S telling scale) (point : ℕ) (answer : Result ℕ BenchFault) → Solved rank (meaning before.recording) (parts_of before.formula) answer point (boxes_of before.standing) (boxes_of after.standing) before.solved after.solved → after.recording ≡ before.recording → after.formula ≡ before.formula → SolveLaw rank meaning before point answer after
  solve_law before after point (Ok count) h recording rule v a =
      let m = meaning before.recording in
      let parts = parts_of before.formula in
      let list = boxes_of after.standing in
      let f = in_force v.rule parts a.rule h.0.0 in
      let t = f.0 in
      let below : point < v.told.points = subst (λ x. point < x.points) a.told h.0.1 in
      let is : derived rank v.told.mark v.told.points (numbered 0 t) point ≡ Ok list = same_derived rank v.told (meaning before.recording) (numbered 0 f.0) (parts_of before.formula) point a.told f.2 ∙ h.0.2 in (
        (t, list, f.1, below, is, h.0.3),
        record {
          told = ap meaning recording ∙ a.told;
          rule = ap parts_of rule ∙ a.rule;
          solved = h.1;
        },
      )
  solve_law before after point (Err fault) h recording rule v a =
      subst (λ f. SolveRight rank v point (Err f) × Agrees meaning v after) (sym h.1) (refused_solve before after point v a (ap meaning recording) (ap parts_of rule) h.0 h.2 h.3)

  pub set_law : (named : ℕ → Option S) (before after : Bench R S telling scale) (rule : List (Part ℕ)) (answer : Result (Unit {0}) BenchFault) → Sets named (meaning before.recording).channels rule answer (parts_of before.formula) (parts_of after.formula) before.solved after.solved → after.recording ≡ before.recording → SetLaw rank meaning named before rule answer after
  set_law named before after rule (Ok u) h recording v a =
      let t = set_ok named (meaning before.recording).channels rule (parts_of after.formula) h.0 h.1 after.whole in
      (t.0, ap (λ m. fitted_from named m.channels 0 rule) (sym a.told) ∙ h.1 ∙ ap Ok t.1, record { told = ap meaning recording ∙ a.told; rule = t.1; solved = h.2 })
  set_law named before after rule (Err NoRule) h recording v a = (h.0, agrees_still v before after (ap meaning recording) h.1 h.2 a)
  set_law named before after rule (Err (part_fault k fault)) h recording v a = (h.0, ap (λ m. fitted_from named m.channels 0 rule) (sym a.told) ∙ h.1, agrees_still v before after (ap meaning recording) h.2 h.3 a)
  set_law named before after rule (Err (Tape f)) h recording v a = absurd h
  set_law named before after rule (Err (Record k f)) h recording v a = absurd h
  set_law named before after rule (Err Unsolved) h recording v a = absurd h
  set_law named before after rule (Err (Full at k)) h recording v a = absurd h
  set_law named before after rule (Err Ragged) h recording v a = absurd h
  set_law named before after rule (Err (Room n)) h recording v a = absurd h
