-- Rule 4's answer is by rule 4 and nothing else is: ids are placed in order of rank, and a choice of offsets by rule 4 is settled rank by rank.
-- Assumes nothing.
use lib.ListN.{length}
use mathlib.Core.Bool.{true}
use mathlib.Core.List.{List}
use mathlib.Core.Logic.{◌≢◌, ◌⊎◌, inl, inr}
use mathlib.Core.Option.{some}
use mathlib.Core.Path.{◌≡◌, sym, ap}
use native.Mathlib.Decide.{dec_lt}
use native.Mathlib.Nat.{mod-eq_of_lt}
use native.Mathlib.Omega.{arith}
use Prim.Native.Nat.{ℕ, zero, suc, ◌≤◌, ◌<◌}
use Rattle.placement.proofs.Asked.{last_inside}
use Rattle.placement.proofs.Complete.{settle_last, settle_largest, placement_some}
use Rattle.placement.proofs.Last.{range_kept, last_range}
use Rattle.placement.proofs.Ranking.{rank_of}
use Rattle.placement.specs.Any.{Lists, CyclicPlacement, chosen}
use Rattle.placement.specs.Placement.{Place, demand_of, placement, settle}
use Rattle.placement.specs.RuleFour.{PlacedBefore, MeetsNone, ByRuleFour}
use Rattle.slots.specs.Limits.{IDS, WHOLE}
use Rattle.timetable.proofs.Cycle.{cyclic_own}
use Rattle.timetable.proofs.Ranges.{InRange, period_le}
use Rattle.timetable.proofs.Sound.{Ranged}
use Rattle.timetable.specs.declared.Entry.{Entry}
use Rattle.timetable.specs.Timetable.{entry_of, last_offset, with_offset, cyclic}

-- The rank of an id's demand.
abbrev rank : List Entry → ℕ → ℕ
rank es i = rank_of (demand_of es i)

module _ (es : List Entry) (r : Ranged es) where
  -- The last offset of a listed id is below its period, so below 256.
  last_small : (i : ℕ) → Lists es i → last_offset (entry_of es i) < WHOLE
  last_small i l =
      let e : InRange (entry_of es i) = r.listed i l.0 l.1 in
      omega (arith, last_inside (entry_of es i) e, period_le (entry_of es i).period e.period)

  module _ (i j : ℕ) (li : Lists es i) (lj : Lists es j) where
    -- An id that is placed before another has the smaller rank,
    placed_rank : PlacedBefore es i j → rank es i < rank es j
    unfolding demand_of
    placed_rank (inl h) = omega (arith, last_small i li)
    placed_rank (inr (inl h)) = omega arith
    placed_rank (inr (inr h)) = omega arith

    -- and the one of the smaller rank is placed before.
    rank_placed : rank es i < rank es j → PlacedBefore es i j
    unfolding demand_of
    rank_placed h = at (dec_lt (entry_of es i).period (entry_of es j).period) (dec_lt (last_offset (entry_of es i)) (last_offset (entry_of es j)))
      where
        at : Dec ((entry_of es i).period < (entry_of es j).period) → Dec (last_offset (entry_of es i) < last_offset (entry_of es j)) → PlacedBefore es i j
        at (yes p) d = inl p
        at (no p) (yes l) = inr (inl (omega (arith, last_small j lj), l))
        at (no p) (no l) = inr (inr (omega (arith, last_small j lj)))

  -- Of two listed ids one is placed before the other.
  one_before : (i j : ℕ) → Lists es i → Lists es j → i ≢ j → PlacedBefore es i j ⊎ PlacedBefore es j i
  unfolding demand_of
  one_before i j li lj ne = at (dec_lt (rank es i) (rank es j))
    where
      at : Dec (rank es i < rank es j) → PlacedBefore es i j ⊎ PlacedBefore es j i
      at (yes h) = inl (rank_placed i j li lj h)
      at (no h) = inr (rank_placed j i lj li (omega arith))

  -- Offsets by rule 4 are a cyclic placement.
  pub rule_four_placement : (a : ℕ → ℕ) → ByRuleFour es a → CyclicPlacement es a
  rule_four_placement a f = record {
    below = λ i l. (range i l).inside;
    apart = λ i j li lj ne. apart i j li lj (one_before i j li lj ne);
    kept = λ i l. range_kept (chosen es a i) (range i l);
  }
    where
      range : (i : ℕ) → Lists es i → InRange (chosen es a i)
      range i l = last_range (entry_of es i) (r.listed i l.0 l.1) (a i) (f i l).within

      apart : (i j : ℕ) → Lists es i → Lists es j → PlacedBefore es i j ⊎ PlacedBefore es j i
          → (n : ℕ) → cyclic (chosen es a i) n ≡ true → cyclic (chosen es a j) n ≡ true → ⊥
      apart i j li lj (inl h) n c d = (f j lj).clear i li h n d c
      apart i j li lj (inr h) n c d = (f i li).clear j lj h n c d

  -- Where two choices are alike on all that are placed before, what meets none in the one meets none in the other.
  meets_alike : (a b : ℕ → ℕ) (i o : ℕ) → ((j : ℕ) → Lists es j → PlacedBefore es j i → a j ≡ b j) → MeetsNone es a i o → MeetsNone es b i o
  meets_alike a b i o e f j l p n c d = f j l p n c (rw (e j l p) d)

  -- So two choices by rule 4 are alike below every rank.
  alike : (a b : ℕ → ℕ) → ByRuleFour es a → ByRuleFour es b → (m i : ℕ) → Lists es i → rank es i < m → a i ≡ b i
  alike a b f g zero i l h = absurd (omega arith)
  alike a b f g (suc m) i l h =
      let e : (j : ℕ) → Lists es j → PlacedBefore es j i → a j ≡ b j =
      λ j k p. alike a b f g m j k (omega (arith, placed_rank j i k l p)) in
      let u : a i ≤ b i = (g i l).largest (a i) (f i l).within (meets_alike a b i (a i) e (f i l).clear) in
      let v : b i ≤ a i = (f i l).largest (b i) (g i l).within (meets_alike b a i (b i) (λ j k p. sym (e j k p)) (g i l).clear) in
      omega arith

  -- One choice of offsets is by rule 4.
  pub rule_four_one : (a b : ℕ → ℕ) → ByRuleFour es a → ByRuleFour es b → (i : ℕ) → Lists es i → a i ≡ b i
  rule_four_one a b f g i l = alike a b f g (suc (rank es i)) i l (omega arith)

-- Rule 4's answer is by rule 4.
pub rule_four_is : (es : List Entry) → Ranged es → length es ≡ IDS → (ps : List Place) → placement es ≡ some ps
    → ByRuleFour es (λ i. (entry_of (settle es ps) i).offset)
rule_four_is es r size ps h i l = record {
  within = settle_last es r size ps h i l;
  clear = λ j k p. c.apart i j l k (λ z. omega (arith, ap (rank es) z, placed_rank es r j i k l p));
  largest = λ o le free.
      settle_largest es r size ps h i l o le (λ j k s z.
      let inside : o < (entry_of es i).period = omega (arith, last_inside (entry_of es i) (r.listed i l.0 l.1)) in
      free j k (rank_placed es r j i k l s) o
      (cyclic_own (with_offset o (entry_of es i)) inside o (mod-eq_of_lt inside))
      (cyclic_own (chosen es offsets j) (c.below j k) o z));
}
  where
    offsets : ℕ → ℕ
    offsets i = (entry_of (settle es ps) i).offset

    c : CyclicPlacement es offsets
    c = placement_some es r size ps h
