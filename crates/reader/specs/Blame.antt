-- Which fault a refused text has, said of the text alone. Assumes nothing.
use Rattle.std.specs.Prelude.{◌≡◌, ℕ, ◌+◌, ◌<◌, ◌≤◌, true, ◌⊎◌, List, ◌∷◌, ◌++◌, length, take, ◌≢◌, slice_index, slice_index_or}
use Rattle.formula.specs.Trees.{Tree}
use Rattle.scale.specs.declared.faults.ScaleFault.TheVariants.{Unread, NoMark}
use Rattle.text.specs.declared.faults.TextFault.{TextFault}
use Rattle.text.specs.declared.faults.TextFault.TheVariants.{Length, Form, Brackets, Parts, Scale}
use Rattle.reader.specs.declared.readers.Run.{Run}
use Rattle.reader.specs.Counts.{meets, met_in, times}
use Rattle.text.specs.Faults.{text_number}
use Rattle.reader.specs.Fronts.{ProperTree, spelled_out}
use Rattle.reader.specs.Operands.{Unnamed}
use Rattle.reader.specs.Sayings.{Sized}
use Rattle.reader.specs.Runs.{bytes_in, IsRun}

-- some spelling begins with the bytes, whatever its length, brackets and parts, and with any run as an operand
pub record Begun (bytes : List ℕ) : Type 0 where
  pub tree : Tree (List ℕ)
  pub proper : ProperTree tree
  pub after : List ℕ
  pub spelled : spelled_out tree ≡ bytes ++ after

-- the bytes are no spelling
abbrev pub Unspelled : List ℕ → Type 0
Unspelled bytes = (t : Tree (List ℕ)) → ProperTree t → spelled_out t ≢ bytes

-- the text is no spelling, and so many of its bytes are the most that some spelling begins with
pub record FormAt (text : List ℕ) (at : ℕ) : Type 0 where
  pub within : at ≤ length text
  pub begun : Begun (take at text)
  pub longest : (k : ℕ) → k ≤ length text → Begun (take k text) → k ≤ at
  pub unspelled : Unspelled text

-- the byte before a place, where the start counts as behind an opening bracket
abbrev pub before : List ℕ → ℕ → ℕ
before text at = slice_index (40 ∷ text) at

-- an opening bracket before which twelve more were opened than closed
pub record BracketAt (text : List ℕ) (at : ℕ) : Type 0 where
  pub within : at < length text
  pub opens : slice_index_or text at 0 ≡ 40
  pub thirteenth : times 40 (take at text) ≡ times 41 (take at text) + 12

-- a part is met, and 24 were met before
pub record PartAt (text : List ℕ) (at : ℕ) : Type 0 where
  pub within : at < length text
  pub met : meets (before text at) (slice_index text at) ≡ true
  pub last : met_in 40 (take at text) ≡ 24

-- a byte that ends a comparison sign
abbrev pub Sign : ℕ → Type 0
Sign b = (b ≡ 60) ⊎ ((b ≡ 61) ⊎ (b ≡ 62))

-- the place of a fault, where a fault of length counts as at the start
abbrev pub placed : TextFault → ℕ
placed Length = 0
placed (Form at) = at
placed (Brackets at) = at
placed (Parts at) = at
placed (Scale (Unread at)) = at
placed (Scale NoMark) = 0

-- an earlier place, or the same place and no higher number
abbrev pub NoLater : TextFault → TextFault → Type 0
NoLater e f = (placed e < placed f) ⊎ ((placed e ≡ placed f) × (text_number e ≤ text_number f))

-- over the texts of a scale's marks
module _ {S : Type 0} (written : S → List ℕ) where
  -- a run behind a comparison sign that names no limit and no channel, and that no mark is written as
  pub record UnreadAt (text : List ℕ) (at : ℕ) : Type 0 where
    pub run : Run
    pub starts : run.start ≡ at
    pub runs : IsRun text run
    pub signed : Sign (before text at)
    pub unnamed : Unnamed (bytes_in text run)
    pub unwritten : (m : S) → written m ≢ bytes_in text run

  -- a fault that the text has
  abbrev pub Faulty : List ℕ → TextFault → Type 0
  Faulty text Length = Sized text → ⊥
  Faulty text (Form at) = FormAt text at
  Faulty text (Brackets at) = BracketAt text at
  Faulty text (Parts at) = PartAt text at
  Faulty text (Scale (Unread at)) = UnreadAt text at
  Faulty text (Scale NoMark) = ⊥

  -- the text has the fault, and no other comes before it
  pub record Blamed (text : List ℕ) (fault : TextFault) : Type 0 where
    pub faulty : Faulty text fault
    pub first : (other : TextFault) → Faulty text other → NoLater fault other

  -- and so it is the only one that comes before all others
  pub record BlamedOnly (text : List ℕ) (fault : TextFault) : Type 0 where
    pub blamed : Blamed text fault
    pub only : (other : TextFault) → Blamed text other → other ≡ fault

  -- the text has no fault
  abbrev pub Faultless : List ℕ → Type 0
  Faultless text = (fault : TextFault) → Faulty text fault → ⊥
