-- Where reading one formula comes to a halt. Assumes nothing.
use Rattle.std.specs.Prelude.{◌≡◌, ℕ, ◌+◌, ◌-◌, ◌<◌, true, cond, List, [], ◌∷◌, ◌++◌, length, ◌==◌}
use Rattle.text.specs.declared.faults.TextFault.{TextFault}
use Rattle.text.specs.declared.faults.TextFault.TheVariants.{Length, Form, Brackets, Parts, Scale}
use Rattle.reader.specs.declared.readers.Cursor.{Cursor}
use Rattle.reader.specs.Blame.{Begun, Unspelled}
use Rattle.reader.specs.Counts.{meets, met_in}
use Rattle.reader.specs.Cursors.{rest}
use Rattle.reader.specs.Fronts.{NoFront}

-- how many brackets may be opened behind a byte, of those that may before it
abbrev pub leaves : ℕ → ℕ → ℕ
leaves left byte = cond (byte == 40) (left - 1) (cond (byte == 41) (left + 1) left)

-- the same behind some bytes
abbrev pub left_by : ℕ → List ℕ → ℕ
left_by left [] = left
left_by left (b ∷ bs) = left_by (leaves left b) bs

-- the last of some bytes, or else the one before them
abbrev pub last_of : ℕ → List ℕ → ℕ
last_of before [] = before
last_of before (b ∷ bs) = last_of b bs

-- no bracket among the bytes is one too many, and no part
abbrev pub Within : ℕ → ℕ → ℕ → List ℕ → Type 0
Within left met before [] = Unit {0}
Within left met before (b ∷ bs) = (b ≡ 40 → 0 < left) × (meets before b ≡ true → met < 24) × Within (leaves left b) (met + cond (meets before b) 1 0) b bs

-- the first of some bytes, if any
abbrev pub first_only : List ℕ → List ℕ
first_only [] = []
first_only (b ∷ bs) = b ∷ []

-- a spelling can begin with the first bytes, and what goes on with the next one, or ends there as well, is none
pub record Misfit (None : List ℕ → Type 0) (done after : List ℕ) : Type 0 where
  pub begun : Begun done
  pub stuck : (other : List ℕ) → first_only other ≡ first_only after → None (done ++ other)

-- an opening bracket could follow, and none is left
pub record Unopened (left : ℕ) (done after : List ℕ) : Type 0 where
  pub next : first_only after ≡ 40 ∷ []
  pub begun : Begun (done ++ 40 ∷ [])
  pub none : left_by left done ≡ 0

-- a part could follow, and none is left
pub record Unmet (met : ℕ) (done after : List ℕ) : Type 0 where
  pub byte : ℕ
  pub next : first_only after ≡ byte ∷ []
  pub begun : Begun (done ++ byte ∷ [])
  pub starts : meets (last_of 40 done) byte ≡ true
  pub all : met + met_in 40 done ≡ 24

-- what is found behind the bytes that were read
abbrev pub Found : (List ℕ → Type 0) → ℕ → ℕ → List ℕ → List ℕ → TextFault → Type 0
Found None left met done after Length = ⊥
Found None left met done after (Form at) = Misfit None done after
Found None left met done after (Brackets at) = Unopened left done after
Found None left met done after (Parts at) = Unmet met done after
Found None left met done after (Scale fault) = ⊥

-- the place of a fault of a plain reading
abbrev pub halt : TextFault → ℕ
halt Length = 0
halt (Form at) = at
halt (Brackets at) = at
halt (Parts at) = at
halt (Scale fault) = 0

-- reading a formula, with so many brackets left, was refused behind some bytes
pub record Halts (start : Cursor) (left : ℕ) (fault : TextFault) : Type 0 where
  pub done : List ℕ
  pub after : List ℕ
  pub read : rest start ≡ done ++ after
  pub place : halt fault ≡ start.at + length done
  pub within : Within left start.met 40 done
  pub found : Found NoFront left start.met done after fault

-- reading a whole text was refused behind some bytes
pub record Fails (text : List ℕ) (fault : TextFault) : Type 0 where
  pub done : List ℕ
  pub after : List ℕ
  pub read : text ≡ done ++ after
  pub place : halt fault ≡ length done
  pub within : Within 12 0 40 done
  pub found : Found Unspelled 12 0 done after fault
