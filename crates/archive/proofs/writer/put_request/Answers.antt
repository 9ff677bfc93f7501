-- The fields are stored one behind the other, each from where the one before ends, and no store changes the area's length. Assumes nothing.
use lib.ListN.{length, length-set}
use mathlib.Core.Path.{◌≡◌, ◌∙◌}
use native.Mathlib.Omega.{arith}
use Rattle.archive.proofs.RequestStores.{request_stored}
use Rattle.archive.proofs.writer.put_request.Goals as goal

pub put_entries-requires : goal.put_entries-requires
put_entries-requires c =
    let kept : length c.put_head-2.new.area
    ≡ length c.args.area.now =
    c.put_head-2.auto.area ∙ c.put_number.auto.area
    ∙ c.put_head.auto.area in
    (omega arith, simp length-set (omega (arith, kept)))

pub returns : goal.returns
returns c =
    request_stored _ _ _ _ _ _ _ _ _ c.put_head.ensures c.put_number.ensures c.put_head-2.ensures c.put_entries.ensures
