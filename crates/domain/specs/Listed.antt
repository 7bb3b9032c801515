-- What a domain holds. Assumes nothing.
use Rattle.std.specs.Prelude.{List, map, Ok, Err, vec_items, Result}
use Rattle.domain.specs.declared.lists.Domain.{Domain}
use Rattle.domain.specs.declared.lists.Full.{Full}
use Rattle.domain.specs.declared.shapes.Orthotope.{Orthotope}
use Rattle.domain.specs.Boxes.{sides_of}
use Rattle.domain.specs.Added.{Boxes, Outcome}

abbrev pub sides_in : {S : Type 0} → List (Orthotope S) → Boxes S
sides_in bs = map sides_of bs

abbrev pub boxes_of : {S : Type 0} → Domain S → Boxes S
boxes_of d = sides_in (vec_items d.boxes)

-- a call's answer with the list that it left
abbrev pub reached : {S : Type 0} → Result (Unit {0}) Full → Boxes S → Outcome S
reached (Ok _) xs = Ok xs
reached (Err _) xs = Err xs
