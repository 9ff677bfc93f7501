-- The entries with the offsets of their places differ from the entries in those offsets only: a place sets its own id's entry. Assumes nothing.
use lib.ListN.{length, length-set}
use lib.Seq.{get_or-set_same, get_or-set_other}
use mathlib.Core.List.{List, [], ◌∷◌}
use mathlib.Core.Logic.{◌≢◌, inl, inr}
use mathlib.Core.Path.{◌≡◌, refl, sym, ap, ◌∙◌}
use native.Mathlib.Decide.{ℕ_discrete}
use native.Mathlib.Omega.{arith}
use Prim.Native.Nat.{ℕ, ◌<◌}
use Rattle.placement.proofs.Free.{In}
use Rattle.placement.specs.Placement.{Place, settle}
use Rattle.timetable.specs.declared.Entry.{Entry}
use Rattle.timetable.specs.Timetable.{entry_of, no_entry, with_offset}

module _ (es : List Entry) where
  -- As many entries as before.
  pub length_settle : (ps : List Place) → length (settle es ps) ≡ length es
  unfolding settle
  length_settle [] = refl
  length_settle (p ∷ ps) = length-set (settle es ps) p.id _ ∙ length_settle ps

  -- A place's id has its offset, where no other place of that id has another.
  pub settle_at : (ps : List Place) (q : Place) → In q ps → q.id < length es → ((r : Place) → In r ps → r.id ≡ q.id → r.offset ≡ q.offset)
      → entry_of (settle es ps) q.id ≡ with_offset q.offset (entry_of es q.id)
  unfolding settle
  settle_at [] q m h same = absurd m
  settle_at (p ∷ ps) q m h same = at (ℕ_discrete p.id q.id) m (λ n. settle_at ps q n h (λ r k. same r (inr k)))
    where
      at : Dec (p.id ≡ q.id) → In q (p ∷ ps) → (In q ps → entry_of (settle es ps) q.id ≡ with_offset q.offset (entry_of es q.id))
          → entry_of (settle es (p ∷ ps)) q.id ≡ with_offset q.offset (entry_of es q.id)
      at (yes e) n ih =
          rw (← e, ← same p (inl refl) e) (get_or-set_same (settle es ps) p.id _ no_entry (omega (arith, length_settle ps)))
      at (no e) (inl z) ih = absurd (e (ap (λ (x : Place). x.id) (sym z)))
      at (no e) (inr n) ih = get_or-set_other (settle es ps) p.id q.id _ no_entry (λ k. e (sym k)) ∙ ih n

  -- An id of no place keeps its entry.
  pub settle_other : (ps : List Place) (i : ℕ) → ((q : Place) → In q ps → q.id ≢ i) → entry_of (settle es ps) i ≡ entry_of es i
  unfolding settle
  settle_other [] i ne = refl
  settle_other (p ∷ ps) i ne =
      get_or-set_other (settle es ps) p.id i _ no_entry (λ k. ne p (inl refl) (sym k))
      ∙ settle_other ps i (λ q m. ne q (inr m))
