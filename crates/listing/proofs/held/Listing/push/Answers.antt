use Rattle.std.proofs.Common.{◌≡◌, ◌++◌, length, take, ◌∙◌, length-take-le, arith}
use Rattle.listing.proofs.Behind.{pushed, taken}
use Rattle.listing.proofs.held.Listing.push.Goals as goal

pub returns-clause-text : goal.returns-clause-text
returns-clause-text c =
    let held = c.args.self.now.text in
    let bytes = c.args.bytes.now in
    let count = c.min-count.result in
    let added = c.try_extend_from_slice in
    let part : length (take count bytes) ≡ count = length-take-le count bytes (omega (arith, c.min-count.ensures)) in
    taken added.result (added.new.self.items ≡ held.items ++ take count bytes) (added.ensures.variant.1 (omega (arith, part, c.min-count.ensures, c.remaining_capacity.ensures))) added.ensures.ok
    ∙ pushed held.items bytes c.remaining_capacity.result count c.remaining_capacity.ensures c.min-count.ensures
