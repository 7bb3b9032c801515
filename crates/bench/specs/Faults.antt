-- The number and the layer of each fault of a bench. Assumes nothing.
use Rattle.std.specs.Prelude.{ℕ}
use Rattle.scale.specs.declared.faults.Layer.{Layer}
use Rattle.scale.specs.declared.faults.Layer.TheVariants.{Bench as bench_own}
use Rattle.recording.specs.Faults.{tape_number, tape_layer}
use Rattle.recording.specs.declared.faults.TapeFault.TheVariants.{NoPoint}
use Rattle.recording.specs.declared.faults.RecordsFault.{RecordsFault}
use Rattle.recording.specs.declared.faults.RecordsFault.TheVariants.{Ragged as ragged_records, Record as one_record}
use Rattle.solver.specs.declared.solvers.SolveFault.{SolveFault}
use Rattle.solver.specs.declared.solvers.SolveFault.TheVariants.{Blank, NoPoint as past_point, Full as full_list}
use Rattle.bench.specs.declared.faults.BenchFault.{BenchFault}
use Rattle.bench.specs.declared.faults.BenchFault.TheVariants.{Tape, Record, Part, NoRule, Unsolved, Full, Ragged, Room}

abbrev pub bench_number : BenchFault → ℕ
bench_number (Tape fault) = tape_number fault
bench_number (Record _ fault) = tape_number fault
bench_number (Part _ fault) = tape_number fault
bench_number NoRule = 12
bench_number Unsolved = 13
bench_number (Full _ _) = 14
bench_number Ragged = 15
bench_number (Room _) = 16

-- a lower fault keeps its layer, however far up it is carried
abbrev pub bench_layer : BenchFault → Layer
bench_layer (Tape fault) = tape_layer fault
bench_layer (Record _ fault) = tape_layer fault
bench_layer (Part _ fault) = tape_layer fault
bench_layer NoRule = bench_own
bench_layer Unsolved = bench_own
bench_layer (Full _ _) = bench_own
bench_layer Ragged = bench_own
bench_layer (Room _) = bench_own

-- the faults of records and of a solve, as the bench gives them
abbrev pub records_fault : RecordsFault → BenchFault
records_fault ragged_records = Ragged
records_fault (one_record k fault) = Record k fault

abbrev pub solve_fault : SolveFault → BenchFault
solve_fault Blank = NoRule
solve_fault past_point = Tape NoPoint
solve_fault (full_list point part) = Full point part
