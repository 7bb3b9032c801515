-- The number of each fault of the call for hosts. Assumes nothing.
use Rattle.std.specs.Prelude.{ℕ}
use Rattle.bench.specs.Faults as bench
use Rattle.bench.specs.Faults.{bench_number}
use Rattle.bench.specs.declared.faults.BenchFault.{BenchFault}
use Rattle.recording.specs.declared.faults.RecordsFault.{RecordsFault}
use Rattle.text.specs.Faults.{text_number}
use Rattle.host.specs.declared.faults.HostFault.{HostFault}
use Rattle.host.specs.declared.faults.HostFault.TheVariants.{Memory, Text, Bench}

abbrev pub host_number : HostFault → ℕ
host_number Memory = 99
host_number (Text fault) = text_number fault
host_number (Bench fault) = bench_number fault

abbrev pub records_fault : RecordsFault → BenchFault
records_fault fault = bench.records_fault fault
