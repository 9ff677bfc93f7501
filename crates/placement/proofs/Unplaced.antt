-- Entries of which none is placed yet: they are in range where the entries are, and list the same ids with the same demands. Assumes nothing.
use lib.ListN.{length}
use mathlib.Core.Bool.{true, false}
use mathlib.Core.List.{List}
use mathlib.Core.Path.{◌≡◌, refl, sym, ap, ◌∙◌, subst}
use native.Mathlib.Omega.{arith}
use Prim.Native.Nat.{ℕ, zero, suc, ◌≤◌, ◌<◌}
use Rattle.placement.proofs.Last.{last_range}
use Rattle.placement.proofs.Sorting.{listing_same}
use Rattle.placement.specs.Placed.{unplaced, InOrderOfSome, Listing, Ranked}
use Rattle.placement.specs.Placement.{Demand, demand_of, insert, ordered}
use Rattle.slots.specs.Limits.{IDS}
use Rattle.timetable.proofs.Absent.{Absent}
use Rattle.timetable.proofs.Entries.{each_at}
use Rattle.timetable.proofs.Ranges.{InRange}
use Rattle.timetable.proofs.Sound.{Ranged, ranged_from, ranged_is}
use Rattle.timetable.specs.declared.Entry.{Entry}
use Rattle.timetable.specs.Sound.{entries_in_range}
use Rattle.timetable.specs.Timetable.{entry_of, is_listed, last_offset, with_offset}

module _ (es : List Entry) (size : length es ≡ IDS) where
  -- Each is the entry at offset 0.
  pub unplaced_at : (i : ℕ) → i < IDS → entry_of (unplaced es) i ≡ with_offset 0 (entry_of es i)
  unplaced_at i k = each_at (λ _ e. with_offset 0 e) IDS es (omega (arith, size)) i k

  -- It is listed where the entry is.
  same_listed : (i : ℕ) → i < IDS → is_listed (entry_of (unplaced es) i) ≡ is_listed (entry_of es i)
  same_listed i k = ap is_listed (unplaced_at i k)

  -- Entries in range stay so.
  pub unplaced_ranged : entries_in_range es ≡ true → entries_in_range (unplaced es) ≡ true
  unplaced_ranged h =
      ranged_is _ (record {
        listed = λ i k l.
            subst InRange (sym (unplaced_at i k)) (last_range (entry_of es i) (r.listed i k (sym (same_listed i k) ∙ l)) 0 (omega arith));
        absent = λ i k l. subst Absent (sym (unplaced_at i k)) (at (entry_of es i) (r.absent i k (sym (same_listed i k) ∙ l)));
      })
    where
      r : Ranged es
      r = ranged_from es h

      at : (e : Entry) → Absent e → Absent (with_offset 0 e)
      at e a = record { zero = ap (with_offset 0) a.zero; below = a.below }

  -- They list the same ids,
  pub unplaced_listing : (ranks : List ℕ) (count : ℕ) → Listing es ranks count → Listing (unplaced es) ranks count
  unplaced_listing = listing_same es (unplaced es) (λ i k. ap (λ (e : Entry). e.period) (unplaced_at i k))

  -- with the same demands,
  pub unplaced_demand : (i : ℕ) → i < IDS → demand_of (unplaced es) i ≡ demand_of es i
  unfolding demand_of
  unplaced_demand i k = ap of (unplaced_at i k)
    where
      of : Entry → Demand
      of e = record { id = i; period = e.period; last = last_offset e }

  -- in the same order.
  unplaced_ordered : (n : ℕ) → n ≤ IDS → ordered (unplaced es) n ≡ ordered es n
  unfolding ordered
  unplaced_ordered zero h = refl
  unplaced_ordered (suc n) h =
      let k : n < IDS = omega arith in
      let d : demand_of (unplaced es) n ≡ demand_of es n = unplaced_demand n k in
      let r : ordered (unplaced es) n ≡ ordered es n = unplaced_ordered n (omega arith) in
      λ j. elim (same_listed n k j) [ true ↦ insert (d j) (r j) | false ↦ r j ]

  -- So the ranks of the ones are those of the others.
  pub unplaced_ranked : (ranks : List ℕ) (count : ℕ) → Ranked (unplaced es) ranks count → Ranked es ranks count
  unplaced_ranked ranks count k = record { size = k.size; demands = k.demands ∙ unplaced_ordered IDS (omega arith) }

  -- and the ranks that are in order of the ones are in order of some in range, whatever the offsets of the others.
  pub unplaced_in_order : entries_in_range (unplaced es) ≡ true → (ranks : List ℕ) (count : ℕ) → Ranked es ranks count → InOrderOfSome ranks count
  unplaced_in_order h ranks count k = record {
    entries = unplaced es;
    ranged = h;
    ranked = record { size = k.size; demands = k.demands ∙ sym (unplaced_ordered IDS (omega arith)) };
  }
