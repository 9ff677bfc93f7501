-- `owner_at` reads the owner that stands for a transition slot; from the base on the cyclic slots tell. Assumes nothing.
use Rattle.std.proofs.Common.{Option, Some, None, MatchOption, ℕ, ◌≡◌, ◌∙◌, ◌≤◌, ◌-◌}
use Rattle.std.proofs.Math.Option.{none, some}
use Rattle.slots.specs.Below.{first}
use Rattle.slots.specs.declared.CoreSlot.{CoreSlot}
use Rattle.slots.specs.Limits.{IDS}
use Rattle.timetable.proofs.OwnerLaws.{place_fits, owner_before, owner_from, owns}
use Rattle.timetable.proofs.Sound.{ranged_is, sound_from}
use Rattle.timetable.specs.declared.Timetable.{Timetable}
use Rattle.timetable.specs.Timetable.{owner_at}
use Rattle.timetable.proofs.SoundTimetable.owner_at.Goals as goal

pub bounds-t-n : goal.bounds-t-n
bounds-t-n c = let s = c.args.self in place_fits s.timetable.now c.args.x s.sound c.requires c.if-x-t.true

pub returns-then-x-t : goal.returns-then-x-t
returns-then-x-t c = let s = c.args.self in owner_before s.timetable.now c.args.x s.sound c.requires s.entries c.if-x-t.true

pub cyclic_owner-requires : goal.cyclic_owner-requires
cyclic_owner-requires c = let s = c.args.self in ranged_is s.timetable.now.entries (sound_from s.timetable.now s.sound).ranged

-- From the base on the owner is that of the cyclic slot.
told : (t : Timetable) (x : CoreSlot) (r : Option ℕ) → t.base.0 ≤ x.0
    → MatchOption r (first IDS (owns t.entries (x.0 - t.base.0)) ≡ none) (λ i. first IDS (owns t.entries (x.0 - t.base.0)) ≡ some i)
    → MatchOption r (owner_at t x ≡ none) (λ i. owner_at t x ≡ some i)
told t x None b h = owner_from t x b ∙ h
told t x (Some i) b h = owner_from t x b ∙ h

pub returns : goal.returns
returns c = told c.args.self.timetable.now c.args.x c.cyclic_owner.result c.if-x-t.false c.cyclic_owner.ensures
