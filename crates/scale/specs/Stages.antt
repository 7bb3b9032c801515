-- Stages of a slider on its way. Assumes nothing.
use Rattle.std.specs.Prelude.{ℕ, cond, List, ℤ, pos, negsuc, Some, None, codes, Option, ◌==◌, nat_lt}
use Rattle.std.specs.Option.{option_map}
use Rattle.scale.specs.declared.cuts.Cut.{Cut}
use Rattle.scale.specs.declared.numbered.Row.{Row}
use Rattle.scale.specs.declared.stages.Stage.{Stage}
use Rattle.scale.specs.declared.stages.Stage.TheVariants.{Off, Leaving, Travel, Arriving, On}
use Rattle.scale.specs.Numbered.{picked_number}

-- codes count from 0, in the order of the stages
abbrev pub stage_code : Stage → ℕ
stage_code Off = 0
stage_code Leaving = 1
stage_code Travel = 2
stage_code Arriving = 3
stage_code On = 4

abbrev pub stage_at : ℕ → Stage
stage_at n = cond (n == 0) Off (cond (n == 1) Leaving (cond (n == 2) Travel (cond (n == 3) Arriving On)))

abbrev pub stage_named : ℕ → Option Stage
stage_named n = cond (nat_lt n 5) (Some (stage_at n)) None

abbrev pub stage_text : Stage → List ℕ
stage_text Off = codes "off"
stage_text Leaving = codes "leaving"
stage_text Travel = codes "travel"
stage_text Arriving = codes "arriving"
stage_text On = codes "on"

abbrev pub stage_number : Stage → ℤ
stage_number m = pos (stage_code m)

abbrev pub stage_of : ℤ → Stage
stage_of (pos n) = stage_at n
stage_of (negsuc n) = On

abbrev pub stages : Row
stages = record { least = pos 0; past = pos 5; rest = pos 0 }

abbrev pub stage_picked : Cut Stage → Cut Stage → Option Stage
stage_picked l u = option_map stage_of (picked_number stage_number stages l u)
