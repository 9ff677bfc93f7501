-- The most urgent id as the code finds it, one id at a time. Assumes nothing.
use borrow.Author.Tests.{lt-ltb, le-ltb}
use lib.Dec.{ltb}
use mathlib.Core.Bool.{Bool, true, false, cond}
use mathlib.Core.List.{List}
use mathlib.Core.Logic.{◌⊎◌}
use mathlib.Core.Option.{none, some}
use mathlib.Core.Path.{◌≡◌, refl, ap, ◌∙◌}
use native.Mathlib.Numerals.{add-one}
use native.Mathlib.Omega.{arith}
use Prim.Native.Nat.{ℕ, ◌+◌, ◌≤◌, ◌<◌}
use Rattle.slots.specs.Limits.{IDS}
use Rattle.std.specs.Prelude.{Option as Answer, Some, None}
use Rattle.timetable.specs.declared.Entry.{Entry}
use Rattle.timetable.specs.Timetable.{entry_of, is_listed, room}
use Rattle.transition.specs.Transition.{more_urgent, most_urgent}

-- What a scan that has come to id n holds: nobody is listed so far, whom the largest room stands for, or the most urgent with its room.
abbrev pub Best : List Entry → ℕ → Answer ℕ → ℕ → Type 0
Best es n None least = (most_urgent es n ≡ none) × (least ≡ 65535)
Best es n (Some u) least = (most_urgent es n ≡ some u) × (u < IDS) × (least ≡ room (entry_of es u))

module _ (es : List Entry) where
  -- At the start nobody is.
  pub best_start : Best es 0 None 65535
  unfolding most_urgent
  best_start = (refl, refl)

  -- An id that is not listed, the first that is, and one beside another.
  pub urgent_unlisted : (n : ℕ) → is_listed (entry_of es n) ≡ false → most_urgent es (n + 1) ≡ most_urgent es n
  unfolding most_urgent
  urgent_unlisted n h = rw (add-one, most_urgent, h) refl

  pub urgent_first : (n : ℕ) → is_listed (entry_of es n) ≡ true → most_urgent es n ≡ none → most_urgent es (n + 1) ≡ some n
  unfolding most_urgent more_urgent
  urgent_first n l e = rw (add-one, most_urgent, l, e) refl

  pub urgent_beside : (n u : ℕ) → is_listed (entry_of es n) ≡ true → most_urgent es n ≡ some u
      → most_urgent es (n + 1) ≡ cond (ltb (room (entry_of es n)) (room (entry_of es u))) (some n) (some u)
  unfolding most_urgent more_urgent
  urgent_beside n u l e = rw (add-one, most_urgent, l, e) refl

  module _ (n least : ℕ) where
    -- An id that is not listed leaves it.
    pub best_unlisted : (u : Answer ℕ) → is_listed (entry_of es n) ≡ false → Best es n u least → Best es (n + 1) u least
    best_unlisted None h b = (urgent_unlisted n h ∙ b.0, b.1)
    best_unlisted (Some u) h b = (urgent_unlisted n h ∙ b.0, b.1, b.2)

    module _ (l : is_listed (entry_of es n) ≡ true) (r : ℕ) (q : r ≡ room (entry_of es n)) where
      -- One with less room takes its place, as the first does,
      pub best_less : (u : Answer ℕ) → n < IDS → r < least → Best es n u least → Best es (n + 1) (Some n) r
      best_less None k h b = (urgent_first n l b.0, k, q)
      best_less (Some u) k h b =
          let t = lt-ltb (room (entry_of es n)) (room (entry_of es u)) (omega (arith, q, b.2)) in
          (urgent_beside n u l b.0 ∙ ap (λ (x : Bool). cond x (some n) (some u)) t, k, q)

      -- and one with as much or more does not.
      pub best_kept : (u : Answer ℕ) → r < 65535 → least ≤ r → Best es n u least → Best es (n + 1) u least
      best_kept None k h b = absurd (omega (arith, b.1))
      best_kept (Some u) k h b =
          let t = le-ltb (room (entry_of es n)) (room (entry_of es u)) (omega (arith, q, b.2)) in
          (urgent_beside n u l b.0 ∙ ap (λ (x : Bool). cond x (some n) (some u)) t, b.1, b.2)

-- Id n with room r takes the place of the most urgent, or does not, and they are then v and m.
abbrev pub Beside : ℕ → ℕ → ℕ → Answer ℕ → Answer ℕ → ℕ → Type 0
Beside r least n urgent v m = ((r < least) × (v ≡ Some n) × (m ≡ r)) ⊎ ((least ≤ r) × (v ≡ urgent) × (m ≡ least))
