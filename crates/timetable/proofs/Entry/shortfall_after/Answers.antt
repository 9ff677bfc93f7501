-- `shortfall_after` leaves the shortfall of an entry that is not listed, and else follows the closed form: nothing is paid before the first own slot; after it, what it leaves and the slots since the last own one are owed.
-- Every sum is below 256 x 10, and so fits. Assumes nothing.
use mathlib.Core.Bool.{true}
use mathlib.Core.Path.{◌≡◌, ap, sym}
use native.Mathlib.Omega.{arith}
use Prim.Native.Nat.{ℕ, ◌+◌, ◌-◌, ◌*◌, ◌%◌, ◌≤◌, ◌<◌}
use Rattle.slots.specs.Limits.{WHOLE, LARGEST_BOUND}
use Rattle.timetable.proofs.EntryLaws.{after_absent, listed, before_small, before_is, owed_small, since_small, after_is}
use Rattle.timetable.proofs.Ranges.{in_range_from, period_is}
use Rattle.timetable.specs.declared.Entry.{Entry}
use Rattle.timetable.specs.Sound.{entry_in_range}
use Rattle.timetable.proofs.Entry.shortfall_after.Goals as goal

pub returns-then-self-eq0 : goal.returns-then-self-eq0
returns-then-self-eq0 c =
    let self : Entry =
    c.args.self in
    let n : ℕ =
    c.args.n in
    let a = c.args in sym (after_absent a.self a.n c.if-self-eq0.true)

pub weight_of-w-requires : goal.weight_of-w-requires
weight_of-w-requires c =
    let self : Entry =
    c.args.self in
    let range : entry_in_range c.args.self ≡ true =
    c.requires (listed c.args.self.period c.if-self-eq0.false) in
    λ h. period_is c.args.self.period (in_range_from c.args.self range).period

pub overflow_mul-result : goal.overflow_mul-result
overflow_mul-result c =
    let self : Entry =
    c.args.self in
    let range : entry_in_range c.args.self ≡ true =
    c.requires (listed c.args.self.period c.if-self-eq0.false) in
    let n : ℕ =
    c.args.n in
    let w : ℕ =
    c.weight_of-w.result in
    let early : n ≤ self.offset → self.shortfall + n * w < WHOLE * LARGEST_BOUND =
    before_small self range w c.weight_of-w.ensures n in
    omega (arith, early c.if-n-offset.true)

pub overflow_add-result : goal.overflow_add-result
overflow_add-result c =
    let self : Entry =
    c.args.self in
    let range : entry_in_range c.args.self ≡ true =
    c.requires (listed c.args.self.period c.if-self-eq0.false) in
    let n : ℕ =
    c.args.n in
    let w : ℕ =
    c.weight_of-w.result in
    let early : n ≤ self.offset → self.shortfall + n * w < WHOLE * LARGEST_BOUND =
    before_small self range w c.weight_of-w.ensures n in
    omega (arith, early c.if-n-offset.true)

pub returns-then-n-offset : goal.returns-then-n-offset
returns-then-n-offset c =
    let self : Entry =
    c.args.self in
    let range : entry_in_range c.args.self ≡ true =
    c.requires (listed c.args.self.period c.if-self-eq0.false) in
    let n : ℕ =
    c.args.n in
    let w : ℕ =
    c.weight_of-w.result in
    before_is self range w c.weight_of-w.ensures n c.if-n-offset.true

pub phase-since-requires : goal.phase-since-requires
phase-since-requires c =
    let self : Entry =
    c.args.self in
    let range : entry_in_range c.args.self ≡ true =
    c.requires (listed c.args.self.period c.if-self-eq0.false) in
    period_is self.period (in_range_from self range).period

pub overflow_mul-owed : goal.overflow_mul-owed
overflow_mul-owed c =
    let self : Entry =
    c.args.self in
    let range : entry_in_range c.args.self ≡ true =
    c.requires (listed c.args.self.period c.if-self-eq0.false) in
    let w : ℕ =
    c.weight_of-w.result in
    let owed : self.shortfall + self.offset * w + w < WHOLE * (LARGEST_BOUND + 1) =
    owed_small self range w c.weight_of-w.ensures in
    omega (arith, owed)

pub overflow_add-owed : goal.overflow_add-owed
overflow_add-owed c =
    let self : Entry =
    c.args.self in
    let range : entry_in_range c.args.self ≡ true =
    c.requires (listed c.args.self.period c.if-self-eq0.false) in
    let w : ℕ =
    c.weight_of-w.result in
    let owed : self.shortfall + self.offset * w + w < WHOLE * (LARGEST_BOUND + 1) =
    owed_small self range w c.weight_of-w.ensures in
    omega (arith, owed)

pub overflow_add-owed-2 : goal.overflow_add-owed-2
overflow_add-owed-2 c =
    let self : Entry =
    c.args.self in
    let range : entry_in_range c.args.self ≡ true =
    c.requires (listed c.args.self.period c.if-self-eq0.false) in
    let w : ℕ =
    c.weight_of-w.result in
    let owed : self.shortfall + self.offset * w + w < WHOLE * (LARGEST_BOUND + 1) =
    owed_small self range w c.weight_of-w.ensures in
    omega (arith, owed)

pub overflow_mul-since : goal.overflow_mul-since
overflow_mul-since c =
    let w : ℕ =
    c.weight_of-w.result in
    let self : Entry =
    c.args.self in
    let range : entry_in_range c.args.self ≡ true =
    c.requires (listed c.args.self.period c.if-self-eq0.false) in
    let n : ℕ =
    c.args.n in
    let since : (n - self.offset - 1) % self.period * w < WHOLE =
    since_small self range w c.weight_of-w.ensures (n - self.offset - 1) in
    let after : c.phase-since.result * w < WHOLE =
    omega (arith, since, ap (λ (x : ℕ). x * w) c.phase-since.ensures) in
    omega (arith, after)

pub after_own-requires : goal.after_own-requires
after_own-requires c =
    let self : Entry =
    c.args.self in
    let range : entry_in_range c.args.self ≡ true =
    c.requires (listed c.args.self.period c.if-self-eq0.false) in
    let w : ℕ =
    c.weight_of-w.result in
    let owed : self.shortfall + self.offset * w + w < WHOLE * (LARGEST_BOUND + 1) =
    owed_small self range w c.weight_of-w.ensures in
    let n : ℕ =
    c.args.n in
    let since : (n - self.offset - 1) % self.period * w < WHOLE =
    since_small self range w c.weight_of-w.ensures (n - self.offset - 1) in
    let after : c.phase-since.result * w < WHOLE =
    omega (arith, since, ap (λ (x : ℕ). x * w) c.phase-since.ensures) in
    omega (arith, owed, after)

pub returns : goal.returns
returns c =
    let self : Entry =
    c.args.self in
    let range : entry_in_range c.args.self ≡ true =
    c.requires (listed c.args.self.period c.if-self-eq0.false) in
    let n : ℕ =
    c.args.n in
    let w : ℕ =
    c.weight_of-w.result in
    let a = after_is self range w c.weight_of-w.ensures n c.if-n-offset.false in
    omega (arith, c.after_own.ensures, a, ap (λ (x : ℕ). x * w) c.phase-since.ensures)
