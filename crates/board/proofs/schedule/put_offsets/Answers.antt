-- The invariant: the offsets of the ids below `id` are stored. Assumes nothing.
use borrow.Author.Rules.{rules}
use lib.ListN.{length-set}
use mathlib.Core.Path.{◌≡◌, refl, ◌∙◌}
use native.Mathlib.Omega.{arith}
use Rattle.board.proofs.ScheduleLaws.{byte_next, bytes_all}
use Rattle.board.specs.Archive.{OFFSETS_AT, offset_byte}
use Rattle.slots.specs.Limits.{IDS}
use Rattle.board.proofs.schedule.put_offsets.Goals as goal

pub loop-id-init : goal.loop-id-init
loop-id-init c = (refl, refl)

pub loop-id-preserved : goal.loop-id-preserved
loop-id-preserved c =
    let l = c.loop-id in (
      simp length-set l.invariant.0,
      byte_next offset_byte refl c.args.area.now OFFSETS_AT c.args.offsets.now (search rules) l.area l.id _ (omega arith) l.invariant.1 (search rules),
    )

pub returns : goal.returns
returns c =
    let l = c.loop-id in
    let n : l.id ≡ IDS = omega arith in
    (rw n at l.invariant.1) ∙ bytes_all offset_byte refl c.args.area.now OFFSETS_AT c.args.offsets.now (search rules)
