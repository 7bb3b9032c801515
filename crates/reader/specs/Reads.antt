-- What reading one formula comes to. Assumes nothing.
use Rattle.std.specs.Prelude.{◌≡◌, ℕ, ◌<◌, ◌≤◌, List, ◌++◌, length, slice_index_or}
use Rattle.formula.specs.declared.parts.Part.{Part}
use Rattle.formula.specs.declared.parts.Part.TheVariants.{Comparison, Unary, Binary}
use Rattle.formula.specs.declared.parts.Operand.{Operand}
use Rattle.formula.specs.declared.parts.Operand.TheVariants.{Limit, Channel, Constant}
use Rattle.reader.specs.declared.readers.Cursor.{Cursor}
use Rattle.reader.specs.declared.readers.Run.{Run}
use Rattle.scale.specs.Marks.{RunByte}
use Rattle.reader.specs.Cursors.{Ahead, Passes}
use Rattle.reader.specs.Operands.{Unnamed}
use Rattle.reader.specs.Runs.{IsRun, bytes_in}
use Rattle.formula.specs.Trees.{Tree, compares, one, two, size, root, numbered, depth}
use Rattle.reader.specs.Written.{spelling}

-- an operand that the text has: a channel that there is, or a constant that is a run of the text and names nothing else
abbrev pub Stands : List ℕ → Operand Run → Type 0
Stands text (Limit l) = Unit {0}
Stands text (Channel n) = n < 16
Stands text (Constant run) = IsRun text run × Unnamed (bytes_in text run)

-- the same of a comparison among the parts
abbrev pub Drawn : List ℕ → Part Run → Type 0
Drawn text (Comparison channel comparator operand) = Stands text operand
Drawn text (Unary _ _) = Unit {0}
Drawn text (Binary _ _ _) = Unit {0}

-- every operand among the parts is one that the text has
abbrev pub AllDrawn : List ℕ → List (Part Run) → Type 0
AllDrawn text parts = (i : ℕ) (d : Part Run) → i < length parts → Drawn text (slice_index_or parts i d)

-- the same of every comparison in a tree
abbrev pub Formed : List ℕ → Tree Run → Type 0
Formed text (compares channel comparator operand) = (channel < 16) × Stands text operand
Formed text (one op t) = Formed text t
Formed text (two op l r) = Formed text l × Formed text r

-- a comparison ends where its run cannot go on
abbrev pub Ended : Tree Run → Cursor → Type 0
Ended (compares _ _ _) c = (b : ℕ) → RunByte b → Ahead c b → ⊥
Ended (one _ _) c = Unit {0}
Ended (two _ _ _) c = Unit {0}

-- one formula was read, whose parts were added to the old ones and whose last part has the number r
pub record Reads (before after : Cursor) (brackets : ℕ) (old new : List (Part Run)) (r : ℕ) : Type 0 where
  pub tree : Tree Run
  pub spelled : Passes before after (spelling (bytes_in before.text.now) tree) (size tree)
  pub formed : Formed before.text.now tree
  pub ended : Ended tree after
  pub shallow : depth tree ≤ brackets
  pub added : new ≡ old ++ numbered (length old) tree
  pub last : r ≡ root (length old) tree

-- the whole text spells one formula, with at most 12 brackets open at once and at most 24 parts, which are these
pub record Spelt (text : List ℕ) (parts : List (Part Run)) : Type 0 where
  pub tree : Tree Run
  pub spelled : spelling (bytes_in text) tree ≡ text
  pub formed : Formed text tree
  pub shallow : depth tree ≤ 12
  pub few : size tree ≤ 24
  pub listed : parts ≡ numbered 0 tree
