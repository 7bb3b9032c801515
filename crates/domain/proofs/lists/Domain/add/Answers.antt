use Rattle.std.proofs.Common.{vec_items, vec_len, sym, ap, ◌∙◌, arith}
use borrow.Author.Tests.{false-ltb, true-ltb}
use Rattle.std.proofs.lemmas.List.{map_push}
use Rattle.domain.specs.Boxes.{sides_of}
use Rattle.domain.specs.Listed.{boxes_of, sides_in}
use Rattle.domain.proofs.Growing.{length_boxes, add_stops, add_ends}
use Rattle.domain.proofs.lists.Domain.add.Goals as goal

pub returns-then-not-has_room : goal.returns-then-not-has_room
returns-then-not-has_room g c =
    add_stops g.S.Scale.rank (boxes_of c.args.self.now) (boxes_of c.drop_contained.new.self) (sides_of c.args.b) c.drop_contained.ensures (sym c.if-is_empty.ensures) (sym c.if-has_container.ensures) (omega (arith, length_boxes c.drop_contained.new.self, false-ltb (vec_len c.drop_contained.new.self.boxes) 32 c.if-not-has_room.ensures)) (omega (arith, length_boxes c.args.self.now, c.args.self.now.few))

pub returns : goal.returns
returns g c =
    add_ends g.S.Scale.rank (boxes_of c.args.self.now) (boxes_of c.drop_contained.new.self) _ (sides_of c.args.b) c.drop_contained.ensures (sym c.if-is_empty.ensures) (sym c.if-has_container.ensures) (omega (arith, length_boxes c.drop_contained.new.self, true-ltb (vec_len c.drop_contained.new.self.boxes) 32 c.if-not-has_room.ensures)) (ap sides_in c.push_reserved.ensures.items ∙ map_push sides_of (vec_items c.drop_contained.new.self.boxes) c.args.b)
