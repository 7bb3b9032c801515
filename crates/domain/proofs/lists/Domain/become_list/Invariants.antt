use Rattle.std.proofs.Common.{◌≡◌, take, vec_items, vec_len}
use Rattle.domain.proofs.lists.Domain.become_list.Given as goal

abbrev pub invariant-loop-each : goal.invariant-loop-each
invariant-loop-each g l = (vec_len l.self.boxes ≡ l.each-index) × (vec_items l.self.boxes ≡ take l.each-index l.boxes)
