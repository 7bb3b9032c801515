-- What a text says as a rule. Assumes nothing.
use Rattle.std.specs.Prelude.{◌≡◌, ℕ, ◌<◌, ◌≤◌, List, length, ◌≢◌}
use Rattle.formula.specs.declared.parts.Operand.{Operand}
use Rattle.formula.specs.declared.parts.Operand.TheVariants.{Limit, Channel, Constant}
use Rattle.formula.specs.declared.parts.Part.{Part}
use Rattle.scale.specs.declared.faults.ScaleFault.{ScaleFault}
use Rattle.scale.specs.declared.faults.ScaleFault.TheVariants.{Unread}
use Rattle.text.specs.declared.faults.TextFault.{TextFault}
use Rattle.text.specs.declared.faults.TextFault.TheVariants.{Length, Form, Brackets, Parts, Scale}
use Rattle.text.specs.Faults.{Blames}
use Rattle.reader.specs.declared.readers.Run.{Run}
use Rattle.reader.specs.Operands.{Unnamed}
use Rattle.reader.specs.Runs.{bytes_in, IsRun}
use Rattle.formula.specs.Trees.{Tree, compares, one, two, size, numbered, depth, map_tree}
use Rattle.reader.specs.Written.{spelling}

-- a text of a length that a rule can have
pub record Sized (text : List ℕ) : Type 0 where
  pub some : 1 ≤ length text
  pub short : length text ≤ 512

-- over the codes and the texts of a scale's marks
module _ {S : Type 0} (code : S → ℕ) (written : S → List ℕ) where
  -- a channel that there is, or a mark whose text does not name a limit or a channel
  abbrev pub Sayable : Operand S → Type 0
  Sayable (Limit l) = Unit {0}
  Sayable (Channel n) = n < 16
  Sayable (Constant m) = Unnamed (written m)

  -- the same of every comparison in a formula
  abbrev pub Spellable : Tree S → Type 0
  Spellable (compares channel comparator operand) = (channel < 16) × Sayable operand
  Spellable (one op t) = Spellable t
  Spellable (two op l r) = Spellable l × Spellable r

  -- the text spells a formula over the scale's marks, and these are its parts, with the marks' codes
  pub record Says (text : List ℕ) (parts : List (Part ℕ)) : Type 0 where
    pub formula : Tree S
    pub spellable : Spellable formula
    pub spelled : spelling written formula ≡ text
    pub sized : Sized text
    pub shallow : depth formula ≤ 12
    pub few : size formula ≤ 24
    pub listed : parts ≡ numbered 0 (map_tree code formula)

  -- the text says a formula with these parts, and none with others
  pub record SaysOnly (text : List ℕ) (parts : List (Part ℕ)) : Type 0 where
    pub says : Says text parts
    pub only : (others : List (Part ℕ)) → Says text others → others ≡ parts

  -- the text says nothing
  abbrev pub Unsaid : List ℕ → Type 0
  Unsaid text = (parts : List (Part ℕ)) → Says text parts → ⊥

  -- a run of the text that names no limit and no channel, and that no mark is written as
  pub record UnreadRun (text : List ℕ) (fault : ScaleFault) : Type 0 where
    pub run : Run
    pub blamed : fault ≡ Unread run.start
    pub runs : IsRun text run
    pub unnamed : Unnamed (bytes_in text run)
    pub unwritten : (m : S) → written m ≢ bytes_in text run

  -- a scale's fault blames such a run, and any other fault of a text of the right length is one of a plain reading
  abbrev pub Refuses : List ℕ → TextFault → Type 0
  Refuses text Length = Sized text → ⊥
  Refuses text (Form at) = Sized text × Blames text (Form at)
  Refuses text (Brackets at) = Sized text × Blames text (Brackets at)
  Refuses text (Parts at) = Sized text × Blames text (Parts at)
  Refuses text (Scale fault) = Sized text × UnreadRun text fault
