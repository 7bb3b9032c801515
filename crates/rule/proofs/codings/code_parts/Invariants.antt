use Rattle.std.proofs.Common.{◌≡◌, ℕ, ◌<◌, length, get_or}
use Rattle.formula.specs.declared.parts.Part.{Part}
use Rattle.reader.specs.declared.readers.Run.{Run}
use Rattle.reader.specs.Codings.{CodedPart}
use Rattle.formula.specs.Formulas.{parts_of}
use Rattle.rule.proofs.codings.code_parts.Given as goal

-- the parts before this one are coded
abbrev pub invariant-loop-part : goal.invariant-loop-part
invariant-loop-part g l =
    (length (parts_of l.fresh) ≡ l.part-index)
    × ((i : ℕ) (d : Part Run) (e : Part ℕ) → i < l.part-index → CodedPart g.S.Scale.code g.S.Scale.text l.text (get_or l.part-items i d) (get_or (parts_of l.fresh) i e))
