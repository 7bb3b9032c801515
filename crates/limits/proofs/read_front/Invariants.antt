use Rattle.std.proofs.Common.{◌≤◌, length}
use Rattle.limits.proofs.read_front.Given as goal

abbrev pub invariant-loop-turn : goal.invariant-loop-turn
invariant-loop-turn l = l.filled ≤ length l.buffer
