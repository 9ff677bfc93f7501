-- Rule 4 places wherever any cyclic placement does, and its placement is one: an offset for each listed id that keeps its bound for ever and meets
-- no other serves the demands in order, and the other way round. Assumes nothing.
use lib.ListN.{length}
use mathlib.Core.Bool.{true, false}
use mathlib.Core.List.{List, []}
use mathlib.Core.Logic.{◌≢◌, ◌⊎◌, inl, inr}
use mathlib.Core.Option.{none, some}
use mathlib.Core.Path.{◌≡◌, sym, ap, ◌∙◌, subst}
use native.Mathlib.Omega.{arith}
use Prim.Native.Nat.{ℕ, ◌%◌, ◌≤◌, ◌<◌}
use Rattle.placement.proofs.Asked.{last_inside}
use Rattle.placement.proofs.Exchange.{Fair, Later, Serves}
use Rattle.placement.proofs.Free.{In}
use Rattle.placement.proofs.Greedy.{Right, Ahead, laid_none, place_right}
use Rattle.placement.proofs.Last.{range_kept, kept_last, last_range}
use Rattle.placement.proofs.Ordered.{ordered_from, ordered_all, ordered_in_order}
use Rattle.placement.proofs.Ranking.{rank_of}
use Rattle.placement.proofs.Settle.{settle_at, settle_other}
use Rattle.placement.specs.Any.{Lists, CyclicPlacement, chosen}
use Rattle.placement.specs.Placement.{Demand, Place, demand_of, ordered, placement, settle}
use Rattle.slots.proofs.Below.{decided, true_false}
use Rattle.slots.specs.Limits.{IDS}
use Rattle.timetable.proofs.Cycle.{cyclic_residue}
use Rattle.timetable.proofs.Meet.{entries_meet}
use Rattle.timetable.proofs.Ranges.{InRange, period_dvd}
use Rattle.timetable.proofs.Sound.{Apart, Ranged, cyclic_listed}
use Rattle.timetable.proofs.Absent.{Absent}
use Rattle.timetable.specs.declared.Entry.{Entry}
use Rattle.timetable.specs.Timetable.{entry_of, is_listed, last_offset, with_offset, cyclic}

-- The demands of all the listed ids, in order.
abbrev demands : List Entry → List Demand
demands es = ordered es IDS

-- A demand as the entries ask it: a listed id's, at its period, up to its last offset.
record Asked (es : List Entry) (d : Demand) : Type 0 where
  listed : Lists es d.id
  period : d.period ≡ (entry_of es d.id).period
  last : d.last ≡ last_offset (entry_of es d.id)

-- Each of the demands in order is such a one.
asked : (es : List Entry) (d : Demand) → In d (demands es) → Asked es d
unfolding demand_of
asked es d m =
    let k = ordered_from es IDS d m in
    record { listed = (k.0, k.1); period = ap (λ (x : Demand). x.period) k.2; last = ap (λ (x : Demand). x.last) k.2 }

module _ (es : List Entry) (r : Ranged es) where
  -- A listed id's demand is fair.
  demand_fair : (i : ℕ) → i < IDS → is_listed (entry_of es i) ≡ true → Fair (demand_of es i)
  unfolding demand_of
  demand_fair i k l =
      let e = r.listed i k l in
      (e.period, last_inside (entry_of es i) e, k)

  -- Rule 4's answer for the entries is right.
  placement_right : Right (demands es) [] (demands es) (placement es)
  unfolding placement
  placement_right =
      place_right (demands es) [] (demands es) (laid_none (demands es)) (λ q e m. absurd m) (ordered_in_order es IDS demand_fair) (λ d m. m)

  -- A cyclic placement serves the demands.
  placed_serves : (offsets : ℕ → ℕ) → CyclicPlacement es offsets → Serves [] (demands es) offsets
  placed_serves offsets c = record { in_time = in_time; beside = λ d m q n. absurd n; apart = apart }
    where
      in_time : (d : Demand) → In d (demands es) → offsets d.id ≤ d.last
      in_time d m =
          let a = asked es d m in
          let l : Lists es d.id = a.listed in
          rw a.last
          (kept_last (entry_of es d.id) (r.listed d.id l.0 l.1) (offsets d.id) (c.below d.id l) (c.kept d.id l))

      apart : (d f : Demand) → In d (demands es) → In f (demands es) → Later d f → offsets f.id % d.period ≢ offsets d.id
      apart d f m n l z =
          let a = asked es d m in
          let b = asked es f n in
          let i : ℕ = d.id in
          let j : ℕ = f.id in
          let p : ℕ = (entry_of es i).period in
          let q : ℕ = (entry_of es j).period in
          let le : p ≤ q = omega (arith, a.period, b.period, l.1) in
          let dvd = period_dvd p q (r.listed i a.listed.0 a.listed.1).period (r.listed j b.listed.0 b.listed.1).period le in
          let w =
          (entries_meet (chosen es offsets i) (chosen es offsets j) (c.below i a.listed) (c.below j b.listed) dvd).1 (rw a.period at z) in
          c.apart i j a.listed b.listed l.0 w.0 w.1 w.2

  -- Where rule 4 fails there is no cyclic placement at all.
  pub placement_none : placement es ≡ none → (offsets : ℕ → ℕ) → CyclicPlacement es offsets → ⊥
  placement_none h offsets c = subst (Right (demands es) [] (demands es)) h placement_right offsets (placed_serves offsets c)

-- The place that a listed id has got, its entry at that place's offset, and that no larger offset is free beside those ahead.
record Settled (es : List Entry) (ps : List Place) (i : ℕ) : Type 0 where
  place : Place
  inside : In place ps
  id : place.id ≡ i
  period : place.period ≡ (entry_of es i).period
  last : place.offset ≤ last_offset (entry_of es i)
  entry : entry_of (settle es ps) i ≡ with_offset place.offset (entry_of es i)
  largest : (o : ℕ) → o ≤ last_offset (entry_of es i)
      → ((q : Place) → In q ps → Ahead (demands es) q (demand_of es i) → o % q.period ≢ q.offset) → o ≤ place.offset

module _ (es : List Entry) (r : Ranged es) (size : length es ≡ IDS) (ps : List Place) (h : placement es ≡ some ps) where
  -- What rule 4 has placed is right.
  right : Right (demands es) [] (demands es) (some ps)
  right = subst (Right (demands es) [] (demands es)) h (placement_right es r)

  -- Each listed id has got a place.
  settled : (i : ℕ) → Lists es i → Settled es ps i
  unfolding demand_of
  settled i l =
      let w = right.2 (demand_of es i) (ordered_all es IDS i l.0 l.1) in
      let q : Place = w.place in
      let d = right.0.of q w.inside in
      let a = asked es d.0 d.1 in
      let e : d.0.id ≡ i = sym d.2.0 ∙ w.id in
      let same : (x : Place) → In x ps → x.id ≡ q.id → x.offset ≡ q.offset = λ x m. right.0.same x q m w.inside in
      record {
        place = q;
        inside = w.inside;
        id = w.id;
        period = d.2.1 ∙ a.period ∙ ap (λ (x : ℕ). (entry_of es x).period) e;
        last = subst (λ (x : ℕ). q.offset ≤ last_offset (entry_of es x)) e (subst (λ (x : ℕ). q.offset ≤ x) a.last d.2.2);
        entry = rw w.id at (settle_at es ps q w.inside (omega (arith, w.id, l.0)) same);
        largest = w.largest;
      }

  -- A listed id's settled offset is that of its place.
  settled_offset : (i : ℕ) (l : Lists es i) → (entry_of (settle es ps) i).offset ≡ (settled i l).place.offset
  settled_offset i l = ap (λ (e : Entry). e.offset) (settled i l).entry

  -- It is at most the last offset,
  pub settle_last : (i : ℕ) → Lists es i → (entry_of (settle es ps) i).offset ≤ last_offset (entry_of es i)
  settle_last i l = rw (settled_offset i l) (settled i l).last

  -- and the largest up to there that lies in the class of no id of a smaller rank.
  pub settle_largest : (i : ℕ) → Lists es i → (o : ℕ) → o ≤ last_offset (entry_of es i)
      → ((j : ℕ) → Lists es j → rank_of (demand_of es j) < rank_of (demand_of es i) → o % (entry_of es j).period ≢ (entry_of (settle es ps) j).offset)
      → o ≤ (entry_of (settle es ps) i).offset
  settle_largest i l o le free = rw (settled_offset i l) ((settled i l).largest o le beside)
    where
      beside : (q : Place) → In q ps → Ahead (demands es) q (demand_of es i) → o % q.period ≢ q.offset
      beside q m w z =
          let k = ordered_from es IDS w.0 w.1 in
          let j : ℕ = w.0.id in
          let t = settled j (k.0, k.1) in
          let p : q.period ≡ (entry_of es j).period = w.2.1 ∙ (asked es w.0 w.1).period in
          free j (k.0, k.1) (subst (λ (d : Demand). rank_of d < rank_of (demand_of es i)) k.2 w.3)
          (rw p at z ∙ right.0.same q t.place m t.inside (w.2.0 ∙ sym t.id) ∙ sym (settled_offset j (k.0, k.1)))

  -- Settling changes nothing but the offset of a listed id,
  pub settle_entry : (i : ℕ) → i < IDS → is_listed (entry_of es i) ≡ true → entry_of (settle es ps) i ≡ with_offset (entry_of (settle es ps) i).offset (entry_of es i)
  settle_entry i k l =
      (settled i (k, l)).entry ∙ ap (λ (o : ℕ). with_offset o (entry_of es i)) (sym (settled_offset i (k, l)))

  -- and nothing of another id.
  pub settle_unlisted : (i : ℕ) → i < IDS → is_listed (entry_of es i) ≡ false → entry_of (settle es ps) i ≡ entry_of es i
  settle_unlisted i k l = settle_other es ps i ne
    where
      ne : (q : Place) → In q ps → q.id ≢ i
      ne q m e =
          let d = right.0.of q m in
          let z : d.0.id ≡ i = sym d.2.0 ∙ e in
          true_false (subst (λ (x : ℕ). is_listed (entry_of es x) ≡ true) z (asked es d.0 d.1).listed.1) l

  -- So of every id nothing but the offset changes.
  pub settle_kept : (i : ℕ) → i < IDS → entry_of (settle es ps) i ≡ with_offset (entry_of (settle es ps) i).offset (entry_of es i)
  settle_kept i k = at (decided (is_listed (entry_of es i)))
    where
      at : (is_listed (entry_of es i) ≡ true) ⊎ (is_listed (entry_of es i) ≡ false) → entry_of (settle es ps) i ≡ with_offset (entry_of (settle es ps) i).offset (entry_of es i)
      at (inl l) = settle_entry i k l
      at (inr l) = let z = settle_unlisted i k l in z ∙ ap (λ (e : Entry). with_offset e.offset (entry_of es i)) (sym z)

  -- A listed id's entry is in range at its settled offset.
  settled_range : (i : ℕ) → Lists es i → InRange (chosen es (λ j. (entry_of (settle es ps) j).offset) i)
  settled_range i l =
      last_range (entry_of es i) (r.listed i l.0 l.1) (entry_of (settle es ps) i).offset (settle_last i l)

  -- Rule 4's answer is a cyclic placement.
  pub placement_some : CyclicPlacement es (λ i. (entry_of (settle es ps) i).offset)
  placement_some = record {
    below = λ i l. (settled_range i l).inside;
    apart = apart;
    kept = λ i l. range_kept (chosen es offsets i) (settled_range i l);
  }
    where
      offsets : ℕ → ℕ
      offsets i = (entry_of (settle es ps) i).offset

      in_class : (i : ℕ) (l : Lists es i) (n : ℕ) → cyclic (chosen es offsets i) n ≡ true → n % (settled i l).place.period ≡ (settled i l).place.offset
      in_class i l n c =
          rw (settled i l).period (cyclic_residue (chosen es offsets i) n c ∙ settled_offset i l)

      apart : (i j : ℕ) → Lists es i → Lists es j → i ≢ j → (n : ℕ) → cyclic (chosen es offsets i) n ≡ true → cyclic (chosen es offsets j) n ≡ true → ⊥
      apart i j li lj ne n c d =
          let s = settled i li in
          let t = settled j lj in
          right.0.apart s.place t.place s.inside t.inside (λ e. ne (sym s.id ∙ e ∙ t.id)) n (in_class i li n c) (in_class j lj n d)

  -- Settling lists the same ids.
  pub settle_listed : (i : ℕ) → i < IDS → is_listed (entry_of (settle es ps) i) ≡ is_listed (entry_of es i)
  settle_listed i k = ap (λ (e : Entry). is_listed e) (settle_kept i k)

  -- The settled entries are in range,
  pub settle_ranged : Ranged (settle es ps)
  settle_ranged = record {
    listed = λ i k l. let m = sym (settle_listed i k) ∙ l in subst InRange (sym (settle_entry i k m)) (settled_range i (k, m));
    absent = λ i k l. let m = sym (settle_listed i k) ∙ l in subst Absent (sym (settle_unlisted i k m)) (r.absent i k m);
  }

  -- and no two of them share a cyclic slot.
  pub settle_apart : Apart (settle es ps)
  settle_apart i j ki kj ne n c d =
      let li = sym (settle_listed i ki) ∙ cyclic_listed (entry_of (settle es ps) i) n c in
      let lj = sym (settle_listed j kj) ∙ cyclic_listed (entry_of (settle es ps) j) n d in
      placement_some.apart i j (ki, li) (kj, lj) ne n
      (subst (λ (e : Entry). cyclic e n ≡ true) (settle_entry i ki li) c)
      (subst (λ (e : Entry). cyclic e n ≡ true) (settle_entry j kj lj) d)
