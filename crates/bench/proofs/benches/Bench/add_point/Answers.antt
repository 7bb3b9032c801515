use Rattle.std.proofs.Common.{subst}
use Rattle.formula.specs.Formulas.{parts_of}
use Rattle.domain.specs.Listed.{boxes_of}
use Rattle.recording.specs.Changes.{Added}
use Rattle.bench.proofs.Changing.{add_refused}
use Rattle.bench.proofs.Freshness.{tells_alike}
use Rattle.bench.proofs.benches.Bench.add_point.Goals as goal

-- a refused change leaves what the tape tells
pub invariant_of-self : goal.invariant_of-self
invariant_of-self g c =
    let meaning = g.R.Recording.meaning in
    let b = c.args.self.now in
    let n = meaning c.add.new.self in
    let rest = g.R.Mark.Scale.resting in
    let same = add_refused rest (meaning b.recording) n c.args.tick _ (subst (λ a. Added rest (meaning b.recording) c.args.tick a n) c.in_err-add.was c.add.ensures) in
    record { whole = b.whole; stands = tells_alike g.R.Mark.Scale.rank (meaning b.recording) n (parts_of b.formula) b.solved (boxes_of b.standing) same b.stands }
