-- The number that stands for each fault outside the program, and the layer that raised it. Assumes nothing.
use Rattle.std.specs.Prelude.{ℕ}
use Rattle.scale.specs.Faults.{scale_number}
use Rattle.scale.specs.declared.faults.Layer.{Layer}
use Rattle.scale.specs.declared.faults.Layer.TheVariants.{Scale as ScaleLayer, Tape, Bench}
use Rattle.recording.specs.declared.faults.TapeFault.{TapeFault}
use Rattle.recording.specs.declared.faults.TapeFault.TheVariants.{NoChannel, NoPoint, NotGiven, Full, TickNotLater, Scale}
use Rattle.recording.specs.declared.faults.RecordsFault.{RecordsFault}
use Rattle.recording.specs.declared.faults.RecordsFault.TheVariants.{Ragged, Record}

-- a tape passes the scale's faults on
abbrev pub tape_number : TapeFault → ℕ
tape_number NoChannel = 6
tape_number NoPoint = 8
tape_number NotGiven = 9
tape_number Full = 10
tape_number TickNotLater = 11
tape_number (Scale fault) = scale_number fault

abbrev pub tape_layer : TapeFault → Layer
tape_layer NoChannel = Tape
tape_layer NoPoint = Tape
tape_layer NotGiven = Tape
tape_layer Full = Tape
tape_layer TickNotLater = Tape
tape_layer (Scale fault) = ScaleLayer

-- bytes that are no whole number of records have a number of their own
abbrev pub records_number : RecordsFault → ℕ
records_number Ragged = 15
records_number (Record number fault) = tape_number fault

abbrev pub records_layer : RecordsFault → Layer
records_layer Ragged = Bench
records_layer (Record number fault) = tape_layer fault
