-- Helpers of the contracts in src/soundness.rt: the slots of one cycle that are taken, as the soundness test looks at them.
use Rattle.std.specs.Prelude.{Bool, true, not, ◌&&◌, ◌||◌, ◌≡◌, ℕ, ◌<◌}
use Rattle.slots.specs.Below.{every}
use Rattle.slots.specs.Limits.{WHOLE}
use Rattle.timetable.specs.declared.Entry.{Entry}
use Rattle.timetable.specs.Marks.{Marks, OfCycle, is_marked}
use Rattle.timetable.specs.Timetable.{cyclic}

-- None of an entry's slots is taken.
unfoldable pub are_free : Marks → Entry → Bool
are_free taken e = every WHOLE (λ n. not (cyclic e n && is_marked taken n))

-- An entry takes its slots: the answer is whether they were free, and if so they are taken then, besides those before.
pub record Takes (before : Marks) (e : Entry) (answer : Bool) (after : Marks) : Type 0 where
  pub free : answer ≡ are_free before e
  pub size : OfCycle before → OfCycle after
  pub slot : answer ≡ true → (n : ℕ) → n < WHOLE → is_marked after n ≡ cyclic e n || is_marked before n
