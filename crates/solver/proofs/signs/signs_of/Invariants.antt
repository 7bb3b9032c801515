use Rattle.std.proofs.Common.{◌≡◌, reverse, length}
use Rattle.formula.specs.Formulas.{parts_of}
use Rattle.solver.specs.Signs.{handed_down, part_signs}
use Rattle.solver.proofs.signs.signs_of.Given as goal

-- the parts that are left have yet to hand their signs down
abbrev pub invariant-loop-number : goal.invariant-loop-number
invariant-loop-number g l =
    let left = l.number-iterator.iter in
    (left.count ≡ 0) × (length l.signs ≡ 24) × (part_signs (parts_of l.formula) ≡ handed_down (reverse left.iter.rest.now) l.signs)
