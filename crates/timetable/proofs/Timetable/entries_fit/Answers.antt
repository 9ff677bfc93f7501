-- `entries_fit` tests one id after the other, and puts in its figures. Assumes nothing.
use Rattle.std.proofs.Common.{Bool, ℕ, get_or, true, ◌≤◌, lt-ltb, ◌≡◌, ◌+◌, ◌*◌, ◌<◌, refl, sym, ◌∙◌, arith}
use Rattle.timetable.proofs.FitLaws.{fit_all, fit_shared, fit_unborne, fit_unformed, fitting_next, fitting_none, unserved_small}
use Rattle.timetable.proofs.Ranges.{in_range_from, period_is}
use Rattle.timetable.proofs.ScanLaws.{passed}
use Rattle.timetable.proofs.SoundLaws.{formed, formed_listed}
use Rattle.slots.specs.Limits.{LONGEST}
use Rattle.timetable.specs.declared.Entry.{Entry}
use Rattle.timetable.specs.Marks.{no_marks}
use Rattle.timetable.specs.Sound.{start_in_range}
use Rattle.timetable.specs.Timetable.{entry_of, weight}
use Rattle.timetable.proofs.Timetable.entries_fit.Goals as goal

pub loop-id-init : goal.loop-id-init
unfolding no_marks
loop-id-init c = let t = c.args.self.now in fitting_none t.entries t.starts t.length c.args.weights.now c.args.owed.now c.told-weights c.told-owed

pub returns-then-not-is_well_formed : goal.returns-then-not-is_well_formed
returns-then-not-is_well_formed c =
    let t = c.args.self.now in
    let l = c.loop-id in
    fit_unformed t.entries t.starts t.length l.id c.loop-id-test.true (entry_of t.entries l.id) refl l.taken l.weights l.owed l.invariant _ c.is_well_formed.ensures c.if-not-is_well_formed.true

pub returns-then-not-bears : goal.returns-then-not-bears
returns-then-not-bears c =
    let t = c.args.self.now in
    let l = c.loop-id in
    fit_unborne t.entries t.starts t.length l.id c.loop-id-test.true (entry_of t.entries l.id) refl l.taken l.weights l.owed l.invariant _ c.bears.ensures c.if-not-bears.true

pub returns-then-not-take_slots : goal.returns-then-not-take_slots
returns-then-not-take_slots c =
    let t = c.args.self.now in
    let l = c.loop-id in
    fit_shared t.entries t.starts t.length l.id c.loop-id-test.true (entry_of t.entries l.id) refl l.taken l.weights l.owed l.invariant _ _ c.take_slots.ensures c.if-not-take_slots.true

pub weight_of-w-requires : goal.weight_of-w-requires
weight_of-w-requires c =
    let e = entry_of c.args.self.now.entries c.loop-id.id in
    let well : formed e ≡ true = passed _ _ c.is_well_formed.ensures c.if-not-is_well_formed.false in
    λ h. period_is e.period (in_range_from e (sym (formed_listed e (lt-ltb 0 e.period h)) ∙ well)).period

-- What the id would be owed fits.
small : (e : Entry) (start size v : ℕ) (a b : Bool) → a ≡ formed e → a ≡ true → b ≡ start_in_range e start → b ≡ true → size ≤ LONGEST → v ≡ weight e
    → start + v * size < 65536
small e start size v a b p h q k l z = unserved_small e start size v (sym p ∙ h) (sym q ∙ k) l z

pub overflow_mul-owed : goal.overflow_mul-owed
overflow_mul-owed c =
    omega (arith, small (entry_of c.args.self.now.entries c.loop-id.id) (get_or c.args.self.now.starts c.loop-id.id 0) c.args.self.now.length c.weight_of-w.result _ _ c.is_well_formed.ensures c.if-not-is_well_formed.false c.bears.ensures c.if-not-bears.false c.requires c.weight_of-w.ensures)

pub overflow_add-owed : goal.overflow_add-owed
overflow_add-owed c =
    omega (arith, small (entry_of c.args.self.now.entries c.loop-id.id) (get_or c.args.self.now.starts c.loop-id.id 0) c.args.self.now.length c.weight_of-w.result _ _ c.is_well_formed.ensures c.if-not-is_well_formed.false c.bears.ensures c.if-not-bears.false c.requires c.weight_of-w.ensures)

pub loop-id-preserved : goal.loop-id-preserved
loop-id-preserved c =
    let t = c.args.self.now in
    let l = c.loop-id in
    fitting_next t.entries t.starts t.length l.id c.loop-id-test.true (entry_of t.entries l.id) refl l.taken l.weights l.owed l.invariant _ _ c.take_slots.ensures _ _ c.is_well_formed.ensures c.if-not-is_well_formed.false c.bears.ensures c.if-not-bears.false c.if-not-take_slots.false _ c.weight_of-w.ensures

pub returns : goal.returns
returns c =
    let t = c.args.self.now in
    let l = c.loop-id in
    fit_all t.entries t.starts t.length l.id (omega arith) (omega arith) l.taken l.weights l.owed l.invariant
