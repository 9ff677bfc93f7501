-- The owner of a slot, before the base and from it on. Assumes nothing.
use borrow.Author.Tests.{eq-eqb, ne_eqb}
use lib.ListN.{get_or, length}
use mathlib.Core.Bool.{Bool, true}
use mathlib.Core.List.{List}
use mathlib.Core.Option.{some}
use mathlib.Core.Path.{◌≡◌, refl, ap, ◌∙◌}
use native.Mathlib.Decide.{dec_lt}
use native.Mathlib.Omega.{arith}
use Prim.Native.Nat.{ℕ, ◌-◌, ◌≤◌, ◌<◌}
use Rattle.slots.proofs.Below.{some_first, true_false}
use Rattle.slots.specs.Below.{first}
use Rattle.slots.specs.declared.CoreSlot.{CoreSlot}
use Rattle.slots.specs.Limits.{IDS, LONGEST}
use Rattle.timetable.proofs.Owner.{serves_before, serves_from}
use Rattle.timetable.proofs.Sound.{sound_from}
use Rattle.timetable.proofs.SoundLaws.{past_end}
use Rattle.timetable.specs.declared.Entry.{Entry}
use Rattle.timetable.specs.declared.Timetable.{Timetable}
use Rattle.timetable.specs.Sound.{is_sound}
use Rattle.timetable.specs.Timetable.{entry_of, is_listed, cyclic, serves, owner_at}

-- A listed id has an entry.
pub listed_small : (es : List Entry) (i : ℕ) → is_listed (entry_of es i) ≡ true → i < length es
listed_small es i h = at (dec_lt i (length es))
  where
    at : Dec (i < length es) → i < length es
    at (yes l) = l
    at (no n) = absurd (true_false h (ap is_listed (past_end es i (omega arith))))

-- Whether the slot n slots after the base is id i's.
abbrev pub owns : List Entry → ℕ → ℕ → Bool
owns es n i = cyclic (entry_of es i) n

module _ (t : Timetable) (x : CoreSlot) (h : is_sound t ≡ true) (r : t.request.0 ≤ x.0) where
  -- A transition slot has an owner.
  pub place_small : x.0 < t.base.0 → x.0 - t.request.0 < t.length
  place_small l = let s = sound_from t h in omega (arith, s.base)

  pub place_fits : x.0 < t.base.0 → x.0 - t.request.0 < LONGEST
  place_fits l = let s = sound_from t h in omega (arith, place_small l, s.size)

  pub owner_before : length t.entries ≡ IDS → x.0 < t.base.0 → owner_at t x ≡ some (get_or t.owners (x.0 - t.request.0) 0)
  unfolding owner_at
  owner_before k l =
      let o : ℕ = get_or t.owners (x.0 - t.request.0) 0 in
      let small : o < IDS = omega (arith, listed_small t.entries o ((sound_from t h).owners (x.0 - t.request.0) (place_small l))) in
      some_first
      (serves t x)
      IDS
      o
      small
      (serves_before t x.0 o l ∙ eq-eqb o o refl)
      (λ m b. serves_before t x.0 m l ∙ ne_eqb m o (λ e. omega arith))

-- From the base on the cyclic slots tell.
pub owner_from : (t : Timetable) (x : CoreSlot) → t.base.0 ≤ x.0 → owner_at t x ≡ first IDS (owns t.entries (x.0 - t.base.0))
unfolding owner_at
owner_from t x h = λ i. first IDS (λ j. serves_from t x.0 j h i)
