-- The bytes of a short text. Assumes nothing.
use Rattle.std.specs.Prelude.{ℕ, List, take}
use Rattle.scale.specs.declared.held.Word.{Word}

abbrev pub bytes_of : Word → List ℕ
bytes_of w = take w.len w.bytes
