-- An accepted change continues the timetable before it: its plan was reached slot by slot with every bound kept, and then placed. Assumes nothing.
use lib.ListN.{get_or, length, get_or-eq_default}
use mathlib.Core.Bool.{true, false}
use mathlib.Core.List.{List}
use mathlib.Core.Option.{some}
use mathlib.Core.Path.{◌≡◌, refl, sym, ap, ap₂, ◌∙◌, subst}
use native.Mathlib.Decide.{ℕ_discrete, dec_lt}
use native.Mathlib.Omega.{arith}
use Prim.Native.Nat.{ℕ, ◌+◌, ◌-◌, ◌*◌, ◌≤◌, ◌<◌}
use Rattle.change.proofs.Start.{start_fit, start_of_lem, start_shortfall}
use Rattle.change.specs.Change.{new_timetable, start_plan, starts_of}
use Rattle.change.specs.Refused.{Behind}
use Rattle.change.specs.Stages.{start_entries}
use Rattle.placement.proofs.Complete.{settle_apart, settle_kept, settle_listed, settle_ranged}
use Rattle.placement.proofs.Settle.{length_settle}
use Rattle.placement.specs.Placement.{Place, placement, settle}
use Rattle.records.proofs.ReadLaws.{RequestRange}
use Rattle.records.specs.declared.Request.{Request}
use Rattle.slots.proofs.Below.{true_false}
use Rattle.slots.specs.Limits.{IDS, LONGEST, WHOLE}
use Rattle.timetable.proofs.Ranges.{InRange}
use Rattle.timetable.proofs.InForce.{Continues}
use Rattle.timetable.proofs.Since.{shortfall_before}
use Rattle.timetable.proofs.Sound.{Sound}
use Rattle.timetable.specs.declared.Entry.{Entry}
use Rattle.timetable.specs.declared.Timetable.{Timetable}
use Rattle.timetable.specs.Timetable.{no_entry, entry_of, start_of, is_listed, lists, weight, with_offset, with_shortfall, shortfall_at, shortfall_since, transition_shortfall}
use Rattle.transition.proofs.Plans.{Fit}
use Rattle.transition.proofs.Reach.{fit_reached}
use Rattle.transition.proofs.Search.{PassedFirst}
use Rattle.transition.proofs.Walk.{owners_stay, walk_agree, walked, walked_absent}
use Rattle.transition.specs.declared.Plan.{Plan}
use Rattle.transition.specs.Reach.{reach}
use Rattle.transition.specs.Transition.{placed}

-- A listed entry stands at an id.
listed_below_lem : (es : List Entry) → length es ≡ IDS → (u : ℕ) → is_listed (entry_of es u) ≡ true → u < IDS
listed_below_lem es len u l = at (dec_lt u IDS)
  where
    at : Dec (u < IDS) → u < IDS
    at (yes k) = k
    at (no k) = absurd (true_false l (ap is_listed (get_or-eq_default es no_entry {n = u} (omega (arith, len)))))

module _ (t : Timetable) (r : Request) (sound : Sound t) (q : RequestRange r) (later : t.base.0 ≤ r.slot.0)
    (fine : (i : ℕ) → i < IDS → Behind (entry_of (start_entries t r.slot r.asks) i) → ⊥)
    (k : ℕ) (kl : k ≤ r.limit) (before : PassedFirst k 0 (start_plan t r))
    (p : Plan) (here : reach (start_plan t r) k ≡ some p) (ps : List Place) (rule4 : placement p.entries ≡ some ps) where
  plan : Plan
  plan = start_plan t r

  fit : Fit 0 plan
  unfolding plan
  fit = start_fit t r sound later q fine

  -- The new timetable.
  new : Timetable
  new = new_timetable r (starts_of t r) k (placed p ps)

  small : k ≤ LONGEST
  small = omega (arith, q.limit)

  -- Each length on the way, with its plan.
  on_the_way : (n : ℕ) → n ≤ k → (x : Plan) × (reach plan n ≡ some x)
  unfolding plan
  on_the_way n l = at (ℕ_discrete n k)
    where
      at : Dec (n ≡ k) → (x : Plan) × (reach plan n ≡ some x)
      at (yes e) = (p, ap (reach plan) e ∙ here)
      at (no e) = let w = before n (omega arith) in (w.0, w.1)

  fit_at : (n : ℕ) → n ≤ k → (x : Plan) → reach plan n ≡ some x → Fit n x
  fit_at n l x e = fit_reached plan fit n (omega (arith, small)) x e

  at_k : Fit k p
  unfolding plan
  at_k = fit_at k (omega arith) p here

  module _ (i : ℕ) (ik : i < IDS) where
    -- Id i at the request slot, and at the base.
    s : Entry
    s = entry_of plan.entries i

    abbrev e : Entry
    e = entry_of (settle p.entries ps) i

    -- The walk of id i over the transition's owners.
    walk : ℕ → ℕ
    walk n = transition_shortfall p.owners i (weight s) s.shortfall n

    walks : (n : ℕ) → n ≤ k → (x : Plan) → reach plan n ≡ some x → entry_of x.entries i ≡ with_shortfall (walk n) s
    unfolding walk plan s
    walks n l x e =
        let w = walked plan fit n (omega (arith, small)) x e i ik in
        let j : ℕ = k - n in
        let z : reach plan (n + j) ≡ some p = ap (reach plan) (omega arith) ∙ here in
        w
        ∙ ap (λ (y : ℕ). with_shortfall y s)
        (walk_agree x.owners p.owners i (weight s) s.shortfall n (λ m h. sym (owners_stay plan fit n j x p e z m h)))

    -- The settled entry is the one reached, at its offset.
    settled : e ≡ with_offset e.offset (with_shortfall (walk k) s)
    unfolding plan
    settled = settle_kept p.entries at_k.ranged at_k.entries ps rule4 i ik ∙ ap (with_offset e.offset) (walks k (omega arith) p here)

    -- It starts with the shortfall at the request slot,
    starts : start_of new i ≡ s.shortfall
    unfolding new s plan
    starts = start_of_lem t r i

    enters : start_of new i ≡ shortfall_at t i r.slot
    unfolding s plan start_plan
    enters = starts ∙ start_shortfall t r.slot r.asks i ik

    -- keeps its bound on the way,
    bears : is_listed e ≡ true → (n : ℕ) → n ≤ k → walk n < WHOLE * e.bound
    bears il n l =
        let w = on_the_way n l in
        let f = fit_at n l w.0 w.1 in
        let x = walks n l w.0 w.1 in
        let li : is_listed (entry_of w.0.entries i) ≡ true = ap is_listed x ∙ sym (ap is_listed settled) ∙ il in
        let g : InRange (with_shortfall (walk n) s) = subst InRange x (f.ranged.listed i ik li) in
        omega (arith, g.kept, ap (λ (y : Entry). y.bound) settled)

    -- and arrives at the shortfall that is kept for the base.
    transition : (n : ℕ) → transition_shortfall p.owners i (weight e) (start_of new i) n ≡ walk n
    unfolding walk
    transition n = ap₂ (λ (w x : ℕ). transition_shortfall p.owners i w x n) (ap weight settled) starts

    arrives : transition_shortfall p.owners i (weight e) (start_of new i) k ≡ e.shortfall
    arrives = transition k ∙ sym (ap (λ (y : Entry). y.shortfall) settled)

    -- Of an id that is not listed the two are the same.
    start_same : is_listed e ≡ false → start_of new i ≡ e.shortfall
    unfolding s plan
    start_same il =
        starts
        ∙ sym (ap (λ (y : Entry). y.shortfall) (walked_absent plan fit k small p here i ik (sym (ap is_listed settled) ∙ il)))
        ∙ ap (λ (y : Entry). y.shortfall) (walks k (omega arith) p here)
        ∙ sym (ap (λ (y : Entry). y.shortfall) settled)

  new_sound : Sound new
  unfolding new placed walk transition_shortfall
  new_sound = record {
    request = q.slot;
    size = small;
    base = refl;
    owners = λ n l.
        let u : ℕ = get_or p.owners n 0 in
        let s = at_k.served n l in
        settle_listed p.entries at_k.ranged at_k.entries ps rule4 u (listed_below_lem p.entries at_k.entries u s) ∙ s;
    ranged = settle_ranged p.entries at_k.ranged at_k.entries ps rule4;
    apart = settle_apart p.entries at_k.ranged at_k.entries ps rule4;
    unused = λ n _ l. at_k.unused n l;
    start_kept = λ i ik il. omega (arith, starts i ik, bears i ik il 0 (omega arith));
    start_same = start_same;
    arrives = arrives;
  }

  new_kept : (i : ℕ) → i < IDS → lists new i ≡ true → (n : ℕ) → n ≤ k → shortfall_since new i n < WHOLE * (entry_of new.entries i).bound
  unfolding new placed
  new_kept i ik il n l = omega (arith, shortfall_before new new_sound i n l, transition i ik n, bears i ik il n l)

  -- The new timetable continues the one before.
  pub found_continues : Continues t (new_timetable r (starts_of t r) k (placed p ps))
  unfolding new placed
  found_continues = record {
    sound = new_sound;
    shape = length_settle p.entries ps ∙ at_k.entries;
    later = later;
    starts = enters;
    kept = new_kept;
  }
