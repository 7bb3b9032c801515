-- When a formula is true, with marks in the place of its limits: on the endless path that a recording makes when its last
-- point repeats for ever. Nothing here knows of boxes. Assumes nothing.
use Rattle.std.specs.Prelude.{ℕ, ◌+◌, ◌-◌, ◌<◌, ◌≤◌, min, ◌⊎◌, List, [], ◌∷◌}
use Rattle.formula.specs.declared.parts.BinaryOperator.TheVariants.{And, Or, Implies, Until, WeakUntil}
use Rattle.formula.specs.declared.parts.Comparator.{Comparator}
use Rattle.formula.specs.declared.parts.Comparator.TheVariants.{Less, Greater, AtMost, AtLeast}
use Rattle.formula.specs.declared.parts.LimitName.{LimitName}
use Rattle.formula.specs.declared.parts.LimitName.TheVariants.{P, Q, R}
use Rattle.formula.specs.declared.parts.Operand.{Operand}
use Rattle.formula.specs.declared.parts.Operand.TheVariants.{Limit, Channel, Constant}
use Rattle.formula.specs.declared.parts.UnaryOperator.TheVariants.{Not, Next, Finally, Globally}
use Rattle.formula.specs.Trees.{Tree, compares, one, two}

-- one exactly when the other
abbrev pub Exactly : Type 0 → Type 0 → Type 0
Exactly A B = (A → B) × (B → A)

-- of what holds at the places of a path
abbrev pub Sometime : (ℕ → Type 0) → ℕ → Type 0
Sometime A i = (j : ℕ) × (i ≤ j) × A j

abbrev pub Always : (ℕ → Type 0) → ℕ → Type 0
Always A i = (j : ℕ) → i ≤ j → A j

-- B at some place, and A at all before it
abbrev pub HoldsUntil : (ℕ → Type 0) → (ℕ → Type 0) → ℕ → Type 0
HoldsUntil A B i = (j : ℕ) × (i ≤ j) × B j × ((k : ℕ) → i ≤ k → k < j → A k)

-- A at all places, or up to one where B holds too
abbrev pub HoldsUnless : (ℕ → Type 0) → (ℕ → Type 0) → ℕ → Type 0
HoldsUnless A B i = Always A i ⊎ ((j : ℕ) × (i ≤ j) × B j × ((k : ℕ) → i ≤ k → k ≤ j → A k))

-- a mark for each limit, in the order of the limits
abbrev pub choice_of : {S : Type 0} → (LimitName → S) → List S
choice_of limits = limits P ∷ limits Q ∷ limits R ∷ []

-- mark m compares so with mark n
abbrev pub Compares : {S : Type 0} → (S → ℕ) → S → Comparator → S → Type 0
Compares rank m Less n = rank m < rank n
Compares rank m Greater n = rank n < rank m
Compares rank m AtMost n = rank m ≤ rank n
Compares rank m AtLeast n = rank n ≤ rank m

module _ {S : Type 0} (rank : S → ℕ) (marks : ℕ → ℕ → S) (points : ℕ) (limits : LimitName → S) where
  -- the point that stands at place i of the path
  abbrev pub on_path : ℕ → ℕ
  on_path i = min i (points - 1)

  abbrev pub against : ℕ → Operand S → S
  against i (Limit limit) = limits limit
  against i (Channel channel) = marks (on_path i) channel
  against i (Constant mark) = mark

  abbrev pub Holds : Tree S → ℕ → Type 0
  Holds (compares channel comparator operand) i = Compares rank (marks (on_path i) channel) comparator (against i operand)
  Holds (one Not t) i = Holds t i → ⊥
  Holds (one Next t) i = Holds t (i + 1)
  Holds (one Finally t) i = Sometime (Holds t) i
  Holds (one Globally t) i = Always (Holds t) i
  Holds (two And l r) i = Holds l i × Holds r i
  Holds (two Or l r) i = Holds l i ⊎ Holds r i
  Holds (two Implies l r) i = Holds l i → Holds r i
  Holds (two Until l r) i = HoldsUntil (Holds l) (Holds r) i
  Holds (two WeakUntil l r) i = HoldsUnless (Holds l) (Holds r) i
