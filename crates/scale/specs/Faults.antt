-- The number of each fault of a scale. Assumes nothing.
use Rattle.std.specs.Prelude.{ℕ}
use Rattle.scale.specs.declared.faults.ScaleFault.{ScaleFault}
use Rattle.scale.specs.declared.faults.ScaleFault.TheVariants.{Unread, NoMark}

abbrev pub scale_number : ScaleFault → ℕ
scale_number (Unread place) = 5
scale_number NoMark = 7
