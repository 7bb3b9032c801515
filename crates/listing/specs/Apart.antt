-- No two lists of boxes have one listing. Assumes nothing.
use Rattle.std.specs.Prelude.{◌≡◌, ℕ, ◌≤◌, false, List, length}
use Rattle.std.specs.List.{AllByRecursion}
use Rattle.domain.specs.Added.{Boxes}
use Rattle.domain.specs.Boxes.{empty_box}
use Rattle.listing.specs.Listings.{listing_text}

module _ {S : Type 0} (rank : S → ℕ) where
  -- at most 32 boxes of three limits, of which none is empty
  pub record Listable (bs : Boxes S) : Type 0 where
    pub few : length bs ≤ 32
    pub wide : AllByRecursion (λ b. length b ≡ 3) bs
    pub filled : AllByRecursion (λ b. empty_box rank b ≡ false) bs

  -- whose listings are the same, they are the same, box for box and in order
  abbrev pub ListingsApart : (S → List ℕ) → Type 0
  ListingsApart text = (xs ys : Boxes S) → Listable xs → Listable ys → listing_text text xs ≡ listing_text text ys → xs ≡ ys
