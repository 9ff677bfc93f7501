-- The fields are stored one behind the other. Assumes nothing.
use borrow.Author.Rules.{rules}
use lib.ListN.{length}
use lib.Seq.{sets}
use mathlib.Core.Path.{◌≡◌, ap, ◌∙◌}
use Rattle.board.proofs.StoreLaws.{image_stored, slot_bytes}
use Rattle.slots.specs.Limits.{LONGEST}
use Rattle.board.proofs.image.put_image.Goals as goal

pub returns : goal.returns
returns c =
    let t = c.args.t.now in
    let owners-count : length t.owners ≡ LONGEST =
    search rules in
    image_stored t owners-count c.args.image.now c.put_bytes.new.image c.put_bytes-2.new.image c.put_bytes-3.new.image c.put_ids.new.image
    c.told-image
    (c.put_bytes.ensures ∙ ap (sets c.args.image.now 0) (c.to_be_bytes.ensures ∙ slot_bytes t.request.0))
    c.put_bytes-2.ensures
    (c.put_bytes-3.ensures ∙ ap (sets c.put_bytes-2.new.image 73) (c.to_be_bytes-2.ensures ∙ slot_bytes t.base.0))
    c.put_ids.ensures
