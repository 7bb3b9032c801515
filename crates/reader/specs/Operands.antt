-- What a run stands for. Assumes nothing.
use Rattle.std.specs.Prelude.{◌≡◌, ℕ, ◌<◌, List, ◌≢◌}
use Rattle.formula.specs.declared.parts.LimitName.{LimitName}
use Rattle.formula.specs.declared.parts.Operand.{Operand}
use Rattle.formula.specs.declared.parts.Operand.TheVariants.{Limit, Channel, Constant}
use Rattle.reader.specs.Spellings.{limit_text, channel_name}

-- the bytes name no limit and no channel
pub record Unnamed (bytes : List ℕ) : Type 0 where
  pub no_limit : (l : LimitName) → limit_text l ≢ bytes
  pub no_channel : (n : ℕ) → n < 16 → channel_name n ≢ bytes

-- a run of these bytes is the limit or the channel that they name, and else a constant
abbrev pub MeantBy : {K : Type 0} → List ℕ → K → Operand K → Type 0
MeantBy bytes run (Limit l) = limit_text l ≡ bytes
MeantBy bytes run (Channel n) = (n < 16) × (channel_name n ≡ bytes)
MeantBy bytes run (Constant k) = (k ≡ run) × Unnamed bytes
