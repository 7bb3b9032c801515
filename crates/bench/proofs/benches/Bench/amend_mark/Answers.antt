use Rattle.std.proofs.Common.{subst}
use Rattle.formula.specs.Formulas.{parts_of}
use Rattle.domain.specs.Listed.{boxes_of}
use Rattle.bench.specs.Changes.{CodeAmended}
use Rattle.bench.proofs.Changing.{amend_refused}
use Rattle.bench.proofs.Freshness.{tells_alike}
use Rattle.bench.proofs.benches.Bench.amend_mark.Goals as goal

-- a refused change leaves what the tape tells
pub invariant_of-self : goal.invariant_of-self
invariant_of-self g c =
    let meaning = g.R.Recording.meaning in
    let b = c.args.self.now in
    let n = meaning c.amend_by_code.new.tape in
    let named = g.R.Mark.Scale.named in
    let same = amend_refused named (meaning b.recording) n c.args.point c.args.channel c.args.code _ (subst (λ a. CodeAmended named (meaning b.recording) c.args.point c.args.channel c.args.code a n) c.in_err-amend_by_code.was c.amend_by_code.ensures) in
    record { whole = b.whole; stands = tells_alike g.R.Mark.Scale.rank (meaning b.recording) n (parts_of b.formula) b.solved (boxes_of b.standing) same b.stands }
