use Rattle.std.proofs.Common.{subst}
use Rattle.formula.specs.Formulas.{parts_of}
use Rattle.domain.specs.Listed.{boxes_of}
use Rattle.recording.specs.Changes.{Withdrawn}
use Rattle.bench.proofs.Changing.{withdraw_refused}
use Rattle.bench.proofs.Freshness.{tells_alike}
use Rattle.bench.proofs.benches.Bench.withdraw_point.Goals as goal

-- a refused change leaves what the tape tells
pub invariant_of-self : goal.invariant_of-self
invariant_of-self g c =
    let meaning = g.R.Recording.meaning in
    let b = c.args.self.now in
    let n = meaning c.withdraw.new.self in
    let same = withdraw_refused (meaning b.recording) n _ (subst (λ a. Withdrawn (meaning b.recording) a n) c.in_err-withdraw.was c.withdraw.ensures) in
    record { whole = b.whole; stands = tells_alike g.R.Mark.Scale.rank (meaning b.recording) n (parts_of b.formula) b.solved (boxes_of b.standing) same b.stands }
