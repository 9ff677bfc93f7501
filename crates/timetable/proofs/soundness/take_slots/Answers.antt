-- `take_slots` takes the entry's slots word by word, or stops at one that is taken. Assumes nothing.
use Rattle.std.proofs.Common.{Bool, true, ℕ, get_or, set, bit_and, bit_or, rules, arith, ltb-false, sym, ◌≡◌, ◌∙◌, ◌+◌, ◌<◌}
use Rattle.timetable.proofs.Marks.{stride}
use Rattle.timetable.proofs.Ranges.{InRange, in_range_from}
use Rattle.timetable.proofs.TakenLaws.{Taking, takes_none, taking_none, taking_more, taking_stops, taking_all}
use Rattle.timetable.specs.declared.Entry.{Entry}
use Rattle.timetable.specs.Marks.{Marks, WORDS, AreSlots, with_bits}
use Rattle.timetable.specs.Sound.{entry_in_range}
use Rattle.timetable.specs.Timetable.{is_listed}
use Rattle.timetable.proofs.soundness.take_slots.Goals as goal

-- What is known of an entry that is listed.

own : (e : Entry) (r : Bool) → r ≡ is_listed e → r ≡ true → (is_listed e ≡ true → entry_in_range e ≡ true) → InRange e
own e r q h f = in_range_from e (f (sym q ∙ h))

pub returns-then-not-is_listed : goal.returns-then-not-is_listed
returns-then-not-is_listed c =
    let a = c.args in takes_none a.taken.now a.e (omega (arith, ltb-false 0 a.e.period (sym c.is_listed.ensures ∙ c.if-not-is_listed.true)))

pub slots_in_word-slots-requires : goal.slots_in_word-slots-requires
slots_in_word-slots-requires c = (own c.args.e c.is_listed.result c.is_listed.ensures c.if-not-is_listed.false c.requires.e_value).inside

pub loop-word-init : goal.loop-word-init
loop-word-init c =
    let range = own c.args.e c.is_listed.result c.is_listed.ensures c.if-not-is_listed.false c.requires.e_value in
    let a = c.args in
    taking_none a.taken.now a.e range.period range.inside

pub returns-then-taken-word-ne0 : goal.returns-then-taken-word-ne0
returns-then-taken-word-ne0 c =
    let range = own c.args.e c.is_listed.result c.is_listed.ensures c.if-not-is_listed.false c.requires.e_value in
    let w = c.slots_in_word-slots in
    let a = c.args in
    taking_stops a.taken.now a.e range.period range.inside w.result w.ensures c.loop-word.taken c.loop-word.word c.loop-word-test.true c.loop-word.invariant (omega (arith, c.if-taken-word-ne0.true)) (search rules)

-- One word more is taken.
taken_more : (before : Marks) (e : Entry) (range : InRange e) (bits : ℕ) → AreSlots e.period e.offset bits → (after : Marks) (word : ℕ)
    → word < WORDS → Taking before e.period e.offset after word → bit_and (get_or after word 0) bits ≡ 0
    → Taking before e.period e.offset (set after word (bit_or (get_or after word 0) bits)) (word + stride e.period)
unfolding with_bits
taken_more before e range bits slots after word l t z = taking_more before e range.period range.inside bits slots after word l t z

pub loop-word-preserved : goal.loop-word-preserved
loop-word-preserved c =
    let range = own c.args.e c.is_listed.result c.is_listed.ensures c.if-not-is_listed.false c.requires.e_value in
    let w = c.slots_in_word-slots in
    let l = c.loop-word in
    taken_more c.args.taken.now c.args.e range w.result w.ensures l.taken l.word c.loop-word-test.true l.invariant c.if-taken-word-ne0.false

pub returns-else-not-is_listed : goal.returns-else-not-is_listed
returns-else-not-is_listed c =
    let range = own c.args.e c.is_listed.result c.is_listed.ensures c.if-not-is_listed.false c.requires.e_value in
    let l = c.loop-word in
    taking_all c.args.taken.now c.args.e range.period range.inside l.taken l.word c.loop-word-test.false c.requires.of_cycle l.invariant

pub returns-else-taken-word-ne0 : goal.returns-else-taken-word-ne0
returns-else-taken-word-ne0 c =
    let range = own c.args.e c.is_listed.result c.is_listed.ensures c.if-not-is_listed.false c.requires.e_value in
    let w = c.slots_in_word-slots in
    let l = c.loop-word in
    let more = taken_more c.args.taken.now c.args.e range w.result w.ensures l.taken l.word c.loop-word-test.true l.invariant c.if-taken-word-ne0.false in
    taking_all c.args.taken.now c.args.e range.period range.inside _ (l.word + stride c.args.e.period) (omega arith) c.requires.of_cycle more
