-- One test of several decides, or leaves it to the others. Assumes nothing.
use Rattle.std.proofs.Common.{◌≡◌, Bool, true, false, ◌||◌, ap, ◌∙◌}

pub or_holds : (x b rest : Bool) → x ≡ (b || rest) → b ≡ true → x ≡ true
or_holds x b rest e f = e ∙ ap (λ t. t || rest) f

pub or_leaves : (x b rest : Bool) → x ≡ (b || rest) → b ≡ false → x ≡ rest
or_leaves x b rest e f = e ∙ ap (λ t. t || rest) f
