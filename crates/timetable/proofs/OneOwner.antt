-- The contracts that give an owner, or a timetable that is known to be sound, or nothing, leave one possible result: any two that meet one are equal. Assumes nothing.
use mathlib.Core.Bool.{false, true≢false}
use mathlib.Core.Option.{none, some, some-injective, some-ne-none}
use mathlib.Core.Path.{◌≡◌, refl, sym, ap, ◌∙◌}
use Prim.Native.Nat.{ℕ}
use Rattle.std.specs.Prelude.{MatchOption, Some, None}
use Rattle.std.specs.declared.option.Option.{Option}
use Rattle.slots.specs.declared.CoreSlot.{CoreSlot}
use Rattle.timetable.specs.declared.SoundTimetable.{SoundTimetable}
use Rattle.timetable.specs.declared.Timetable.{Timetable}
use Rattle.timetable.specs.Sound.{is_sound}
use Rattle.timetable.specs.Timetable.{owner_at}

-- `owner_at`: the owner, or none.
pub owner_at_unique : (t : Timetable) (x : CoreSlot) (r r' : Option ℕ) → MatchOption r (owner_at t x ≡ none) (λ i. owner_at t x ≡ some i)
    → MatchOption r' (owner_at t x ≡ none) (λ i. owner_at t x ≡ some i) → r ≡ r'
owner_at_unique t x None None p q = refl
owner_at_unique t x None (Some j) p q = absurd (some-ne-none j (sym q ∙ p))
owner_at_unique t x (Some i) None p q = absurd (some-ne-none i (sym p ∙ q))
owner_at_unique t x (Some i) (Some j) p q = ap Some (some-injective i j (sym p ∙ q))

-- The timetable that is lent, where one is.
abbrev lent : Option SoundTimetable → Option Timetable
lent None = None
lent (Some s) = Some s.timetable.now

-- `sound`: the timetable as one that is known to be sound, or nothing.
pub sound_unique : (t : Timetable) (r r' : Option SoundTimetable) → MatchOption r (is_sound t ≡ false) (λ s. s.timetable.now ≡ t)
    → MatchOption r' (is_sound t ≡ false) (λ s. s.timetable.now ≡ t) → lent r ≡ lent r'
sound_unique t None None p q = refl
sound_unique t None (Some s) p q = absurd (true≢false (sym s.sound ∙ ap is_sound q ∙ p))
sound_unique t (Some s) None p q = absurd (true≢false (sym s.sound ∙ ap is_sound p ∙ q))
sound_unique t (Some s) (Some z) p q = ap Some (p ∙ sym q)
