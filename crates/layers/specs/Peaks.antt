-- The last in order of the marks so far. Assumes nothing.
use Rattle.std.specs.Prelude.{◌≡◌, ℕ, zero, suc, ◌<◌, ◌≤◌, cond, nat_lt}
use Rattle.layers.specs.Layers.{Overlaid}
use Rattle.recording.specs.Meaning.{Meaning}

-- the order of the marks, each told by its rank
module _ {M : Type 0} (rank : M → ℕ) where
  -- the later in order of two marks
  abbrev pub later : M → M → M
  later a b = cond (nat_lt (rank a) (rank b)) b a

  -- the last in order of the marks 0 to i
  abbrev pub peak : (ℕ → M) → ℕ → M
  peak marks zero = marks zero
  peak marks (suc i) = later (peak marks i) (marks (suc i))

  -- what a peak layer of channel c works out
  abbrev pub peak_of : ℕ → Meaning M → ℕ → M
  peak_of c m = peak (λ i. m.mark i c)

  -- p is one of the marks 0 to i, and none of them is after it
  pub record LastOf (marks : ℕ → M) (i : ℕ) (p : M) : Type 0 where
    pub among : (k : ℕ) × (k ≤ i) × (p ≡ marks k)
    pub none_after : (k : ℕ) → k ≤ i → rank (marks k) ≤ rank p

  -- told over m is the peak of channel c, and rest where m has no such channel
  pub record PeakOver (rest : M) (c : ℕ) (m told : Meaning M) : Type 0 where
    pub over : Overlaid m told
    pub last : (i : ℕ) → m.channels < 16 → i < m.points → LastOf (λ k. m.mark k c) i (told.mark i m.channels)
    pub absent : (i : ℕ) → m.channels ≤ c → told.mark i m.channels ≡ rest
