-- Brackets and parts among the bytes of a text. Assumes nothing.
use Rattle.std.specs.Prelude.{ℕ, ◌+◌, Bool, cond, ◌&&◌, ◌||◌, List, [], ◌∷◌, ◌==◌}

-- how often a byte stands among these
abbrev pub times : ℕ → List ℕ → ℕ
times b [] = 0
times b (x ∷ xs) = cond (x == b) 1 0 + times b xs

-- one of X, F, G and !
abbrev pub unary_byte : ℕ → Bool
unary_byte b = (b == 88 || b == 70) || (b == 71 || b == 33)

-- one of &, |, U, W and =
abbrev pub binary_byte : ℕ → Bool
binary_byte b = (b == 38 || b == 124) || ((b == 85 || b == 87) || b == 61)

-- whether a part is met at a byte: a comparison at a c behind an opening bracket, an operator over one operand at its
-- byte, and one between two operands at its first byte, behind a closing bracket
abbrev pub meets : ℕ → ℕ → Bool
meets before byte = (byte == 99 && before == 40) || (unary_byte byte || (binary_byte byte && before == 41))

-- how many parts are met in bytes that stand behind the given one
abbrev pub met_in : ℕ → List ℕ → ℕ
met_in before [] = 0
met_in before (b ∷ bs) = cond (meets before b) 1 0 + met_in b bs
