-- What printing answers on a bench, and what it leaves in the output. Assumes nothing.
use Rattle.std.specs.Prelude.{◌≡◌, ℕ, ◌<◌, ◌≤◌, true, List, ◌++◌, length, drop, is_some, None, Ok, Err, Option, Result}
use Rattle.domain.specs.Added.{Boxes}
use Rattle.listing.specs.Listings.{listing_text}
use Rattle.bench.specs.declared.faults.BenchFault.{BenchFault}
use Rattle.bench.specs.declared.faults.BenchFault.TheVariants.{Tape, Record, Part, NoRule, Unsolved, Full, Ragged, Room}

-- the point of the solve that stands, its boxes, and the output before and after
module _ {S : Type 0} (text : S → List ℕ) where
  abbrev pub Prints : Result ℕ BenchFault → Option ℕ → Boxes S → List ℕ → List ℕ → Type 0
  Prints (Ok n) solved boxes before after = (is_some solved ≡ true) × (length (listing_text text boxes) ≤ length before) × (n ≡ length (listing_text text boxes)) × (after ≡ listing_text text boxes ++ drop (length (listing_text text boxes)) before)
  Prints (Err Unsolved) solved boxes before after = (solved ≡ None) × (after ≡ before)
  Prints (Err (Room needed)) solved boxes before after = (is_some solved ≡ true) × (length before < length (listing_text text boxes)) × (needed ≡ length (listing_text text boxes)) × (after ≡ before)
  Prints (Err (Tape fault)) solved boxes before after = ⊥
  Prints (Err (Record k fault)) solved boxes before after = ⊥
  Prints (Err (Part k fault)) solved boxes before after = ⊥
  Prints (Err NoRule) solved boxes before after = ⊥
  Prints (Err (Full point k)) solved boxes before after = ⊥
  Prints (Err Ragged) solved boxes before after = ⊥
