-- The invariant: the entries and the starts of the ids below `id` are stored one behind the other. Assumes nothing.
use lib.Seq.{sets}
use mathlib.Core.Path.{◌≡◌, refl, ap, ◌∙◌}
use native.Mathlib.Omega.{arith}
use Prim.Native.Nat.{◌+◌, ◌*◌}
use Rattle.board.proofs.StoreLaws.{ids_next}
use Rattle.records.specs.Answer.{rising}
use Rattle.records.specs.Written.{number_bytes}
use Rattle.slots.specs.Limits.{IDS}
use Rattle.board.proofs.image.put_ids.Goals as goal

pub loop-id-init : goal.loop-id-init
unfolding rising
loop-id-init c = refl

pub loop-id-preserved : goal.loop-id-preserved
unfolding number_bytes
loop-id-preserved c =
    let t = c.args.t.now in
    let n = c.loop-id.id in
    ids_next c.args.image.now c.loop-id.image c.put_bytes.new.image _ t.entries t.starts n (omega arith) c.loop-id.invariant
    (c.put_bytes.ensures ∙ ap (sets c.loop-id.image (81 + 6 * n)) c.entry_bytes.ensures)
    (c.put_bytes-in-loop-id.ensures ∙ ap (sets c.put_bytes.new.image (273 + 2 * n)) c.to_be_bytes.ensures)

pub returns : goal.returns
returns c =
    let n : c.loop-id.id ≡ IDS = omega arith in
    rw n at c.loop-id.invariant
