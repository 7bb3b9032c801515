-- Short texts by their bytes, and the names of channels by their digits.
use Rattle.std.proofs.Common.{◌≡◌, ℕ, ◌+◌, ◌-◌, ◌≤◌, List, [], ◌∷◌, length, get_or, sym, ap, arith, rules}
use Rattle.reader.specs.Spellings.{channel_name}

pub one_byte : (xs : List ℕ) (a : ℕ) → length xs ≡ 1 → get_or xs 0 0 ≡ a → a ∷ [] ≡ xs
one_byte [] a h e = absurd (omega arith)
one_byte (x ∷ []) a h e = ap (λ (y : ℕ). y ∷ []) (sym e)
one_byte (x ∷ y ∷ xs) a h e = absurd (omega arith)

pub two_bytes : (xs : List ℕ) (a b : ℕ) → length xs ≡ 2 → get_or xs 0 0 ≡ a → get_or xs 1 0 ≡ b → a ∷ b ∷ [] ≡ xs
two_bytes [] a b h e f = absurd (omega arith)
two_bytes (x ∷ xs) a b h e f = let t = one_byte xs b (omega arith) f in cc

pub low_name : (x : ℕ) → 48 ≤ x → x ≤ 57 → channel_name (x - 48) ≡ 99 ∷ x ∷ []
low_name x h k = search rules

pub high_name : (x : ℕ) → 48 ≤ x → x ≤ 53 → channel_name (10 + (x - 48)) ≡ 99 ∷ 49 ∷ x ∷ []
high_name x h k = search rules
