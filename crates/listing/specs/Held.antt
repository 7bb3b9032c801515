-- What a listing holds while it is made. Assumes nothing.
use Rattle.std.specs.Prelude.{ℕ, Bool, List, ◌++◌, take}
use Rattle.listing.specs.declared.held.Listing.{Listing}

abbrev pub text_of : Listing → List ℕ
text_of l = l.text.items

-- more text behind what stands; there is room for 4096 bytes
abbrev pub behind : List ℕ → List ℕ → List ℕ
behind t more = take 4096 (t ++ more)

-- the text, and whether a comparison stands on its last line
abbrev pub State : Type 0
State = List ℕ × Bool

abbrev pub state_of : Listing → State
state_of l = (text_of l, l.begun)
