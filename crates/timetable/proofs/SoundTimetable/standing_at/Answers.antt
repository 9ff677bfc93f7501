-- `standing_at` walks the transition, and counts its own slots, up to a slot before the base; from the base on the entry tells, and all of the transition's own slots count. Assumes nothing.
use Rattle.std.proofs.Common.{ℕ, eqb, get_or, length, take, refl, ap₂, ◌≡◌, ◌+◌, ◌-◌, ◌≤◌, ap, ◌∙◌, arith}
use Rattle.slots.specs.Clocks.{slice_count}
use Rattle.slots.specs.Below.{count}
use Rattle.slots.specs.declared.CoreSlot.{CoreSlot}
use Rattle.slots.specs.declared.SliceCount.{SliceCount}
use Rattle.slots.specs.Limits.{LONGEST}
use Rattle.timetable.specs.declared.SoundTimetable.{SoundTimetable}
use Rattle.timetable.proofs.WalkLaws.{first_small, slices_first, walk_first}
use Rattle.timetable.proofs.ListedRange.{listed_in_range}
use Rattle.timetable.proofs.OwnerLaws.{place_fits}
use Rattle.timetable.proofs.Ranges.{in_range_from, period_is}
use Rattle.timetable.proofs.Since.{shortfall_cycle, shortfall_transition, slices_cycle, slices_most, slices_transition, start_small}
use Rattle.timetable.proofs.Sound.{sound_from}
use Rattle.timetable.specs.Timetable.{entry_of, slices_after, start_of, transition_shortfall}
use Rattle.timetable.proofs.SoundTimetable.standing_at.Goals as goal

pub shared_ref_as_front-owners : goal.shared_ref_as_front-owners
shared_ref_as_front-owners c =
    let s = c.args.self in omega (arith, place_fits s.timetable.now c.args.x s.sound c.requires.2 c.if-x-t.true)

pub weight_of-requires : goal.weight_of-requires
weight_of-requires c =
    let s = c.args.self in
    λ h. period_is _ (in_range_from _ (listed_in_range s.timetable.now s.sound c.args.id c.requires.0 c.requires.1)).period

-- The transition slots before a slot are there.
there : (s : SoundTimetable) (n : ℕ) → n ≤ LONGEST → n ≤ length s.timetable.now.owners
there s n h = omega (arith, s.owners)

pub transition_shortfall-requires : goal.transition_shortfall-requires
transition_shortfall-requires c =
    let s = c.args.self in
    let t = s.timetable.now in
    let n = c.args.x.0 - t.request.0 in
    let fits : n ≤ LONGEST = omega (arith, place_fits t c.args.x s.sound c.requires.2 c.if-x-t.true) in
    first_small t.owners c.args.id n (there s n fits) c.weight_of.result (start_of t c.args.id)
    (start_small t (sound_from t s.sound) c.args.id c.requires.0 c.requires.1 c.weight_of.result c.weight_of.ensures n fits)

pub returns-then-x-t : goal.returns-then-x-t
returns-then-x-t c =
    let s = c.args.self in
    let t = s.timetable.now in
    let i = c.args.id in
    let n = c.args.x.0 - t.request.0 in
    let fits : n ≤ LONGEST = omega (arith, place_fits t c.args.x s.sound c.requires.2 c.if-x-t.true) in (
      c.transition_shortfall.ensures
          ∙ walk_first t.owners i n (there s n fits) c.weight_of.result (start_of t i)
          ∙ ap (λ (v : ℕ). transition_shortfall t.owners i v (start_of t i) n) c.weight_of.ensures
          ∙ shortfall_transition t (sound_from t s.sound) i c.args.x c.if-x-t.true,
      ap slice_count (c.transition_slices.ensures ∙ slices_first t.owners i n (there s n fits)) ∙ slices_transition t (sound_from t s.sound) i c.args.x c.if-x-t.true,
    )

pub shared_ref_as_front-owners-2 : goal.shared_ref_as_front-owners-2
shared_ref_as_front-owners-2 c = let s = c.args.self in (sound_from s.timetable.now s.sound).size

pub slices_after-slices-requires : goal.slices_after-slices-requires
slices_after-slices-requires c = let s = c.args.self in listed_in_range s.timetable.now s.sound c.args.id c.requires.0 c.requires.1

pub shortfall_after-requires : goal.shortfall_after-requires
shortfall_after-requires c = let s = c.args.self in λ l. listed_in_range s.timetable.now s.sound c.args.id c.requires.0 c.requires.1

-- All the slices from the request slot on, as they are counted: those of the transition, and those of the cycles.
counted : (s : SoundTimetable) (i : ℕ) (x : CoreSlot) (before after : ℕ) (cycles : SliceCount)
    → before ≡ count (length (take s.timetable.now.length s.timetable.now.owners)) (λ k. eqb i (get_or (take s.timetable.now.length s.timetable.now.owners) k 0))
    → cycles ≡ slice_count (slices_after (entry_of s.timetable.now.entries i) (x.0 - s.timetable.now.base.0)) → after ≡ cycles.0
    → before + after ≡ count s.timetable.now.length (λ k. eqb i (get_or s.timetable.now.owners k 0)) + slices_after (entry_of s.timetable.now.entries i) (x.0 - s.timetable.now.base.0)
counted s i x before after cycles b c a =
    let t = s.timetable.now in
    ap₂ ◌+◌ (b ∙ slices_first t.owners i t.length (there s t.length (sound_from t s.sound).size)) (a ∙ ap (λ (k : SliceCount). k.0) c)

pub overflow_add-result : goal.overflow_add-result
overflow_add-result c =
    let s = c.args.self in
    let t = s.timetable.now in
    let e = counted s c.args.id c.args.x c.transition_slices-before.result c.slices_after-slices.result.0 c.slices_after-slices.result c.transition_slices-before.ensures c.slices_after-slices.ensures refl in
    omega (arith, e, slices_most t (sound_from t s.sound) c.args.id c.args.x.0 c.if-x-t.false)

pub returns : goal.returns
returns c =
    let s = c.args.self in
    let t = s.timetable.now in
    let e = counted s c.args.id c.args.x c.transition_slices-before.result c.slices_after-slices.result.0 c.slices_after-slices.result c.transition_slices-before.ensures c.slices_after-slices.ensures refl in (
      c.shortfall_after.ensures ∙ shortfall_cycle t (sound_from t s.sound) c.args.id c.requires.0 c.args.x c.if-x-t.false,
      ap slice_count e ∙ slices_cycle t (sound_from t s.sound) c.args.id c.args.x c.if-x-t.false,
    )
