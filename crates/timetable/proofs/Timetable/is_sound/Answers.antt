-- `is_sound` asks for the clauses one after the other, each where the ones before it hold, and walks the transition where all others do. Assumes nothing.
use Rattle.std.proofs.Common.{true, ◌≡◌, ◌≤◌, sym, ◌∙◌, arith}
use Rattle.slots.specs.Limits.{LONGEST}
use Rattle.timetable.proofs.FitLaws.{all_fit, transition_owners, walk_tells, walkable}
use Rattle.timetable.proofs.SoundLaws.{placed, placed_length, sound_fits, sound_owners, sound_placed, sound_unused, sound_walk, unused, unused_tell}
use Rattle.timetable.specs.declared.Timetable.{Timetable}
use Rattle.timetable.proofs.Timetable.is_sound.Goals as goal

-- The length of a timetable that is placed.

short : (t : Timetable) → placed t ≡ true → t.length ≤ LONGEST
short t h = placed_length t.request.0 t.length t.base.0 h

pub returns-then-not-is_placed : goal.returns-then-not-is_placed
returns-then-not-is_placed c = sym (sound_placed c.args.self.now (sym c.is_placed.ensures ∙ c.if-not-is_placed.true))

pub returns-then-not-entries_fit : goal.returns-then-not-entries_fit
returns-then-not-entries_fit c =
    let first = sym c.is_placed.ensures ∙ c.if-not-is_placed.false in
    sym (sound_fits c.args.self.now first (sym c.entries_fit.ensures.tells ∙ c.if-not-entries_fit.true))

pub returns-then-not-owners_listed : goal.returns-then-not-owners_listed
returns-then-not-owners_listed c =
    let t = c.args.self.now in
    let first = sym c.is_placed.ensures ∙ c.if-not-is_placed.false in
    let f = c.entries_fit.ensures in
    let h = c.if-not-entries_fit.false in
    let tells = c.owners_listed.ensures ∙ transition_owners t _ _ _ f h _ c.split_at.ensures.front (omega arith) (short t first) (omega arith) in
    sym (sound_owners t first (all_fit t _ _ _ f h) (sym tells ∙ c.if-not-owners_listed.true))

pub returns-then-not-are_zero : goal.returns-then-not-are_zero
returns-then-not-are_zero c =
    let t = c.args.self.now in
    let first = sym c.is_placed.ensures ∙ c.if-not-is_placed.false in
    let f = c.entries_fit.ensures in
    let h = c.if-not-entries_fit.false in
    let tells = c.owners_listed.ensures ∙ transition_owners t _ _ _ f h _ c.split_at.ensures.front (omega arith) (short t first) (omega arith) in
    let rest : c.are_zero.result ≡ unused t = c.are_zero.ensures ∙ unused_tell t.owners t.length _ c.split_at.ensures.back (omega arith) (short t first) in
    sym (sound_unused t first (all_fit t _ _ _ f h) (sym tells ∙ c.if-not-owners_listed.false) (sym rest ∙ c.if-not-are_zero.true))

pub walk-requires : goal.walk-requires
walk-requires c =
    let t = c.args.self.now in
    let first = sym c.is_placed.ensures ∙ c.if-not-is_placed.false in
    walkable t _ _ _ c.entries_fit.ensures c.if-not-entries_fit.false _ c.split_at.ensures.front (omega arith) (short t first) (sym c.owners_listed.ensures ∙ c.if-not-owners_listed.false)

pub returns : goal.returns
returns c =
    let t = c.args.self.now in
    let first = sym c.is_placed.ensures ∙ c.if-not-is_placed.false in
    let f = c.entries_fit.ensures in
    let h = c.if-not-entries_fit.false in
    let tells = c.owners_listed.ensures ∙ transition_owners t _ _ _ f h _ c.split_at.ensures.front (omega arith) (short t first) (omega arith) in
    let rest : c.are_zero.result ≡ unused t = c.are_zero.ensures ∙ unused_tell t.owners t.length _ c.split_at.ensures.back (omega arith) (short t first) in
    c.are_shortfalls.ensures
    ∙ walk_tells t _ _ _ f h _ c.split_at.ensures.front (omega arith) (short t first) c.walk.new.owed c.walk.ensures
    ∙ sym (sound_walk t first (all_fit t _ _ _ f h) (sym tells ∙ c.if-not-owners_listed.false) (sym rest ∙ c.if-not-are_zero.false))
