-- What the marks of a scale have in common. Assumes nothing.
use Rattle.std.specs.Prelude.{◌≡◌, ℕ, ◌≤◌, ◌⊎◌, List, length, Some, Option}
use Rattle.std.specs.List.{AllByRecursion}

-- no two marks share what f says of them
abbrev pub Apart : {S B : Type 0} → (S → B) → Type 0
Apart {S} f = (m n : S) → f m ≡ f n → m ≡ n

-- the mark of a code is the one that has it
pub record Names {S : Type 0} (code : S → ℕ) (named : ℕ → Option S) : Type 0 where
  pub found : (m : S) → named (code m) ≡ Some m
  pub true_to : (n : ℕ) (m : S) → named n ≡ Some m → code m ≡ n

-- a byte of a run: a small letter, a digit or a minus
abbrev pub RunByte : ℕ → Type 0
RunByte b = ((97 ≤ b) × (b ≤ 122)) ⊎ (((48 ≤ b) × (b ≤ 57)) ⊎ (b ≡ 45))

-- what a mark is written as
pub record RunText (bytes : List ℕ) : Type 0 where
  pub some : 1 ≤ length bytes
  pub short : length bytes ≤ 16
  pub runs : AllByRecursion RunByte bytes
