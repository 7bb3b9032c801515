-- Labels read off a row of domains. Assumes nothing.
use Rattle.std.proofs.Common.{◌≡◌, ℕ, ◌<◌, false, List, [], length, get_or, is_err, Ok, Err, Result, sym, ap, ◌∙◌, arith}
use Rattle.std.proofs.lemmas.List.{get_or-map}
use Rattle.domain.specs.declared.lists.Domain.{Domain}
use Rattle.domain.specs.declared.lists.Full.{Full}
use Rattle.domain.specs.Added.{Boxes, Outcome}
use Rattle.solver.specs.Labels.{at, lists_in, Ends}
use Rattle.domain.specs.Listed.{boxes_of, reached}

-- the list of one part is that of the domain with its number
pub list_at : {S : Type 0} (ds : List (Domain S)) (i : ℕ) (d : Domain S) → i < length ds → d ≡ get_or ds i d → boxes_of d ≡ at (lists_in ds) i
list_at ds i d h e = ap boxes_of e ∙ sym (get_or-map boxes_of ds i d [] h)
