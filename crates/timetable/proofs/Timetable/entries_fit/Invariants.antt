-- The loop's invariant of `entries_fit` is that each id below `id` passes every test, and that its figures are put in. Assumes nothing.
use Rattle.timetable.proofs.FitLaws.{Fitting}
use Rattle.timetable.proofs.Timetable.entries_fit.Given as goal

abbrev pub invariant-loop-id : goal.invariant-loop-id
invariant-loop-id l = Fitting l.self.entries l.self.starts l.self.length l.id l.taken l.weights l.owed
