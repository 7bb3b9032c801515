use Rattle.std.proofs.Common.{◌≡◌, ◌≤◌, [], replicate, vec_len, vec_capacity}
use Rattle.solver.specs.Labels.{row_of}
use Rattle.solver.proofs.solvers.rows.row.Given as goal

-- as many empty lists as were made
abbrev pub invariant-loop-made : goal.invariant-loop-made
invariant-loop-made g l = (vec_len l.domains ≡ l._made) × (24 ≤ vec_capacity l.domains) × (row_of l.domains ≡ replicate l._made [])
