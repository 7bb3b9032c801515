-- Text put behind text, as far as there is room. Assumes nothing.
use Rattle.std.proofs.Common.{◌≡◌, ℕ, zero, suc, ◌+◌, min, List, [], ◌∷◌, ◌++◌, length, take, Ok, Err, IsOk, OnOk, Result, sym, refl, ap, ◌∙◌, ⊎_elim, append_assoc, arith, take_all}
use lib.Seq.{take-append-add}
use Rattle.std.proofs.str.Laws.{order}
use Rattle.listing.specs.Held.{behind}

cut : (n : ℕ) (x y : List ℕ) → take n (take n x ++ y) ≡ take n (x ++ y)
cut zero x y = refl
cut (suc n) [] y = refl
cut (suc n) (b ∷ x) y = ap (λ (l : List ℕ). b ∷ l) (cut n x y)

-- one after another is both at once
pub behind_both : (t a b : List ℕ) → behind (behind t a) b ≡ behind t (a ++ b)
behind_both t a b = cut 4096 (t ++ a) b ∙ ap (take 4096) (append_assoc t a b)

-- the front that has room
front : (bs : List ℕ) (n k : ℕ) → k ≡ min (length bs) n → take k bs ≡ take n bs
front bs n k is =
    ⊎_elim
    (λ less. ap (λ m. take m bs) (let same : k ≡ length bs = omega (arith, less) in same) ∙ take_all (length bs) bs (omega arith) ∙ sym (take_all n bs (omega (arith, less))))
    (λ most. ap (λ m. take m bs) (let same : k ≡ n = omega (arith, most) in same))
    (order (length bs) n)

-- what is put behind the text is the front that has room
pub pushed : (t bs : List ℕ) (room count : ℕ) → room + length t ≡ 4096 → count ≡ min (length bs) room → t ++ take count bs ≡ behind t bs
pushed t bs room count all few =
    ap (λ (l : List ℕ). t ++ l) (front bs room count few)
    ∙ sym (take-append-add t bs room)
    ∙ ap (λ n. take n (t ++ bs)) (let same : length t + room ≡ 4096 = omega (arith, all) in same)

pub taken : {T E : Type 0} (r : Result T E) (P : Type 0) → IsOk r → OnOk r P → P
taken (Ok t) P good h = h
taken (Err e) P good h = let z : ◌≡◌ {A = ℕ} 0 1 = cc in absurd (omega arith)
