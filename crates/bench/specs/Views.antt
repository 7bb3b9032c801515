-- What a bench stands for: what its recording tells, the formula in force and the point of the solve that stands.
-- Assumes nothing.
use Rattle.std.specs.Prelude.{◌≡◌, ℕ, List, [], Some, None, Option}
use Rattle.recording.specs.Meaning.{Meaning}
use Rattle.formula.specs.declared.parts.LimitName.{LimitName}
use Rattle.formula.specs.declared.parts.LimitName.TheVariants.{P, Q, R}
use Rattle.formula.specs.declared.parts.Part.{Part}
use Rattle.formula.specs.Formulas.{parts_of}
use Rattle.formula.specs.Trees.{Tree, numbered}
use Rattle.solver.specs.Truth.{Holds}
use Rattle.recording.specs.declared.recordings.Recording.{Ghosts as RecordingGhosts}
use Rattle.scale.specs.declared.scales.Scale.{Ghosts as ScaleGhosts}
use Rattle.bench.specs.declared.benches.Bench.{Bench}

pub record View (S : Type 0) : Type 0 where
  pub told : Meaning S
  pub rule : Option (Tree S)
  pub solved : Option ℕ

-- the parts of the formula in force
abbrev pub parts_in_force : {S : Type 0} → Option (Tree S) → List (Part S)
parts_in_force None = []
parts_in_force (Some t) = numbered 0 t

-- three marks in the place of the limits
abbrev pub limits_of : {S : Type 0} → S → S → S → LimitName → S
limits_of p q r P = p
limits_of p q r Q = q
limits_of p q r R = r

-- the bench stands for the view; that its list belongs to the view is true of every bench
pub record Agrees {R S : Type 0} {telling : RecordingGhosts R S} {scale : ScaleGhosts S} (meaning : R → Meaning S) (v : View S) (b : Bench R S telling scale) : Type 0 where
  pub told : meaning b.recording ≡ v.told
  pub rule : parts_of b.formula ≡ parts_in_force v.rule
  pub solved : b.solved ≡ v.solved

module _ {S : Type 0} (rank : S → ℕ) where
  -- the formula in force is true with these limits, at the point of the solve, of the recording as it tells now
  abbrev pub TrueAt : Meaning S → Option (Tree S) → Option ℕ → (LimitName → S) → Type 0
  TrueAt m rule None limits = ⊥
  TrueAt m None (Some point) limits = ⊥
  TrueAt m (Some t) (Some point) limits = Holds rank m.mark m.points limits t point

  abbrev pub TrueNow : View S → (LimitName → S) → Type 0
  TrueNow v limits = TrueAt v.told v.rule v.solved limits
