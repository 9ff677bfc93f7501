-- The invariant: whether each id below `id` is listed is stored. Assumes nothing.
use borrow.Author.Rules.{rules}
use lib.ListN.{length-set}
use mathlib.Core.Path.{◌≡◌, refl, ◌∙◌}
use native.Mathlib.Omega.{arith}
use Rattle.board.proofs.ScheduleLaws.{byte_next, bytes_all}
use Rattle.board.specs.Archive.{LISTED_AT, listed_byte}
use Rattle.slots.specs.Limits.{IDS}
use Rattle.board.proofs.schedule.put_listed.Goals as goal

pub loop-id-init : goal.loop-id-init
loop-id-init c = (refl, refl)

pub loop-id-preserved : goal.loop-id-preserved
loop-id-preserved c =
    let l = c.loop-id in (
      simp length-set l.invariant.0,
      byte_next listed_byte refl c.args.area.now LISTED_AT c.args.offsets.now (search rules) l.area l.id _ (omega arith) l.invariant.1 (search rules),
    )

pub returns-clause-listed : goal.returns-clause-listed
returns-clause-listed c =
    let l = c.loop-id in
    let n : l.id ≡ IDS = omega arith in
    (rw n at l.invariant.1) ∙ bytes_all listed_byte refl c.args.area.now LISTED_AT c.args.offsets.now (search rules)

pub returns-clause-ids : goal.returns-clause-ids
returns-clause-ids c = search rules
