-- `most_urgent` meets its contract. The loop's invariant: of the ids below id the most urgent and its room are known, and how many have none. Assumes nothing.
use Rattle.transition.proofs.StepLaws.{Scanned}
use Rattle.transition.proofs.Plan.most_urgent.Given as goal

abbrev pub invariant-loop-id : goal.invariant-loop-id
invariant-loop-id l = Scanned l.self.entries l.urgent l.least l.pressed l.id
