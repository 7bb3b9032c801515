-- The pick among marks that are numbers in a row, proved once for every such scale. Assumes nothing.
use Rattle.std.specs.Prelude.{◌≡◌, ℕ, ◌+◌, ◌*◌, ◌^◌, ◌≤◌, Bool, true, false, cond, ℤ, pos, ◌+ℤ◌, ◌-ℤ◌, ◌≤ℤ◌, ◌<ℤ◌, Some, None, ◌≢◌, int_lt, refl}
use Rattle.std.proofs.Common.{sym, subst, arith}
use Rattle.std.specs.Option.{option_map}
use Rattle.std.proofs.lemmas.Int.{ints, by_lt_z}
use Rattle.scale.specs.declared.cuts.Cut.{Cut}
use Rattle.scale.specs.declared.cuts.Cut.TheVariants.{LowerEnd, Below, Above, UpperEnd}
use Rattle.scale.specs.declared.numbered.Row.{Row}
use Rattle.scale.specs.Cuts.{place, Between}
use Rattle.scale.specs.Numbered.{edge, choice, picked_number, Leaned, Leans}

-- the marks of a row: each has its number, and each number of the row its mark
pub record InRow {S : Type 0} (rank : S → ℕ) (number : S → ℤ) (row : Row) (mark : ℤ → S) (rest : S) : Type 0 where
  pub link : (m : S) → number m ≡ row.least +ℤ pos (rank m)
  pub inside : (m : S) → number m <ℤ row.past
  pub short : row.past ≤ℤ (row.least +ℤ pos (2 ^ 32))
  pub marked : (z : ℤ) → row.least ≤ℤ z → z <ℤ row.past → number (mark z) ≡ z
  pub rests : mark row.rest ≡ rest
  pub rest_number : number rest ≡ row.rest

module _ {S : Type 0} {rank : S → ℕ} {number : S → ℤ} {row : Row} {mark : ℤ → S} {rest : S} (r : InRow rank number row mark rest) where
  from_lower : (l : Cut S) (m : S) → place rank l ≤ 2 * rank m + 1 → edge number row l ≤ℤ number m
  from_lower LowerEnd m h = omega (arith, ints, r.link m)
  from_lower (Below k) m h = omega (arith, ints, r.link m, r.link k)
  from_lower (Above k) m h = omega (arith, ints, r.link m, r.link k)
  from_lower UpperEnd m h = omega (arith, ints, r.link m, r.short, r.inside m)

  to_lower : (l : Cut S) (m : S) → edge number row l ≤ℤ number m → place rank l ≤ 2 * rank m + 1
  to_lower LowerEnd m h = omega (arith, ints)
  to_lower (Below k) m h = omega (arith, ints, r.link m, r.link k)
  to_lower (Above k) m h = omega (arith, ints, r.link m, r.link k)
  to_lower UpperEnd m h = omega (arith, ints, r.link m, r.inside m)

  from_upper : (u : Cut S) (m : S) → 2 * rank m + 2 ≤ place rank u → number m <ℤ edge number row u
  from_upper LowerEnd m h = omega (arith, ints)
  from_upper (Below k) m h = omega (arith, ints, r.link m, r.link k)
  from_upper (Above k) m h = omega (arith, ints, r.link m, r.link k)
  from_upper UpperEnd m h = r.inside m

  to_upper : (u : Cut S) (m : S) → number m <ℤ edge number row u → 2 * rank m + 2 ≤ place rank u
  to_upper LowerEnd m h = omega (arith, ints, r.link m)
  to_upper (Below k) m h = omega (arith, ints, r.link m, r.link k)
  to_upper (Above k) m h = omega (arith, ints, r.link m, r.link k)
  to_upper UpperEnd m h = omega (arith, ints, r.link m, r.inside m, r.short)

  edge_low : (l : Cut S) → (row.least ≤ℤ row.past) → row.least ≤ℤ edge number row l
  edge_low LowerEnd h = omega (arith, ints)
  edge_low (Below k) h = omega (arith, ints, r.link k)
  edge_low (Above k) h = omega (arith, ints, r.link k)
  edge_low UpperEnd h = h

  edge_high : (u : Cut S) → (row.least ≤ℤ row.past) → edge number row u ≤ℤ row.past
  edge_high LowerEnd h = h
  edge_high (Below k) h = omega (arith, ints, r.inside k)
  edge_high (Above k) h = omega (arith, ints, r.inside k)
  edge_high UpperEnd h = omega (arith, ints)

  wide : row.least ≤ℤ row.past
  wide = omega (arith, ints, r.link rest, r.inside rest)

  -- the mark of the first number behind a lower cut that is no end
  leaned_least : (l u : Cut S) → (l ≢ LowerEnd) → edge number row l <ℤ edge number row u → Leaned rank rest l u (mark (edge number row l))
  leaned_least l u no_end h =
      let is = r.marked (edge number row l) (edge_low l wide) (omega (arith, ints, edge_high u wide)) in
      let m = mark (edge number row l) in
      record {
        between = (to_lower l m (omega (arith, ints)), to_upper u m (omega (arith, ints)));
        least = λ _ n b. omega (arith, ints, from_lower l n b.0, r.link m, r.link n);
        greatest = λ end. absurd (no_end end);
        resting = λ end. absurd (no_end end);
      }

  -- the mark of the last number before an upper cut that is no end
  leaned_greatest : (u : Cut S) (z : ℤ) → (u ≢ UpperEnd) → edge number row u ≡ z +ℤ pos 1 → edge number row LowerEnd <ℤ edge number row u → Leaned rank rest LowerEnd u (mark z)
  leaned_greatest u z no_end e h =
      let is = r.marked z (omega (arith, ints)) (omega (arith, ints, edge_high u wide)) in
      let m = mark z in
      record {
        between = (to_lower LowerEnd m (omega (arith, ints)), to_upper u m (omega (arith, ints)));
        least = λ no_low. absurd (no_low refl);
        greatest = λ _ _ n b. omega (arith, ints, from_upper u n b.1, r.link m, r.link n);
        resting = λ _ end. absurd (no_end end);
      }

  leaned_rest : Leaned rank rest LowerEnd UpperEnd (mark row.rest)
  leaned_rest =
      let is = r.rest_number in
      subst (Leaned rank rest LowerEnd UpperEnd) (sym r.rests) (record {
        between = (to_lower LowerEnd rest (omega (arith, ints, r.link rest)), to_upper UpperEnd rest (r.inside rest));
        least = λ no_low. absurd (no_low refl);
        greatest = λ _ no_end. absurd (no_end refl);
        resting = λ _ _. refl;
      })

  no_below : (m : S) → Below m ≢ LowerEnd
  no_below m e = let z : ◌≡◌ {A = ℕ} 0 1 = cc in omega arith

  no_above : (m : S) → Above m ≢ LowerEnd
  no_above m e = let z : ◌≡◌ {A = ℕ} 0 1 = cc in omega arith

  no_upper : ◌≡◌ {A = Cut S} UpperEnd LowerEnd → ⊥
  no_upper e = let z : ◌≡◌ {A = ℕ} 0 1 = cc in omega arith

  below_no_end : (m : S) → Below m ≢ UpperEnd
  below_no_end m e = let z : ◌≡◌ {A = ℕ} 0 1 = cc in omega arith

  above_no_end : (m : S) → Above m ≢ UpperEnd
  above_no_end m e = let z : ◌≡◌ {A = ℕ} 0 1 = cc in omega arith

  leaned : (l u : Cut S) → edge number row l <ℤ edge number row u → Leaned rank rest l u (mark (choice number row l u))
  leaned LowerEnd LowerEnd h = absurd (omega (arith, ints))
  leaned LowerEnd (Below m) h = leaned_greatest (Below m) (number m -ℤ pos 1) (below_no_end m) (omega (arith, ints)) h
  leaned LowerEnd (Above m) h = leaned_greatest (Above m) (number m) (above_no_end m) refl h
  leaned LowerEnd UpperEnd h = leaned_rest
  leaned (Below m) u h = leaned_least (Below m) u (no_below m) h
  leaned (Above m) u h = leaned_least (Above m) u (no_above m) h
  leaned UpperEnd u h = leaned_least UpperEnd u no_upper h

  none_between : (l u : Cut S) → edge number row u ≤ℤ edge number row l → (m : S) → Between rank l u m → ⊥
  none_between l u h m b = omega (arith, ints, from_lower l m b.0, from_upper u m b.1)

  pub leans : (l u : Cut S) → Leans rank rest l u (option_map mark (picked_number number row l u))
  leans l u =
      let P : Bool → Type 0 = λ b. Leans rank rest l u (option_map mark (cond b (Some (choice number row l u)) None)) in
      by_lt_z (edge number row l) (edge number row u)
      (λ h. let yes_b : true ≡ int_lt (edge number row l) (edge number row u) = grind (arith, ints) in subst P yes_b (leaned l u h))
      (λ h. let no_b : false ≡ int_lt (edge number row l) (edge number row u) = grind (arith, ints) in subst P no_b (none_between l u h))
