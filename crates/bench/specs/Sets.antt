-- What setting a rule answers, and what it leaves of the bench. Assumes nothing.
use Rattle.std.specs.Prelude.{◌≡◌, ℕ, ◌<◌, List, length, None, Ok, Err, Option, Result}
use Rattle.formula.specs.declared.parts.Part.{Part}
use Rattle.bench.specs.declared.faults.BenchFault.{BenchFault}
use Rattle.bench.specs.declared.faults.BenchFault.TheVariants.{Tape, Record, Part as part_fault, NoRule, Unsolved, Full, Ragged, Room}
use Rattle.bench.specs.Settings.{fitted_from}

-- the rule's parts, the bench's before and after, and the point of its solve before and after
module _ {S : Type 0} (named : ℕ → Option S) (channels : ℕ) (rule : List (Part ℕ)) where
  abbrev pub Sets : Result (Unit {0}) BenchFault → List (Part S) → List (Part S) → Option ℕ → Option ℕ → Type 0
  Sets (Ok _) before after was is = (0 < length rule) × (fitted_from named channels 0 rule ≡ Ok after) × (is ≡ None)
  Sets (Err NoRule) before after was is = (length rule ≡ 0) × (after ≡ before) × (is ≡ was)
  Sets (Err (part_fault k fault)) before after was is = (0 < length rule) × (fitted_from named channels 0 rule ≡ Err (k, fault)) × (after ≡ before) × (is ≡ was)
  Sets (Err (Tape fault)) before after was is = ⊥
  Sets (Err (Record k fault)) before after was is = ⊥
  Sets (Err Unsolved) before after was is = ⊥
  Sets (Err (Full point k)) before after was is = ⊥
  Sets (Err Ragged) before after was is = ⊥
  Sets (Err (Room needed)) before after was is = ⊥
