-- `frames::output::Output::put_text` meets its contract: the part of the buffer behind what waits becomes the text.
-- Assumes nothing.
use lib.ListN.{length}
use mathlib.Core.Path.{refl}
use native.Mathlib.Omega.{arith}
use Prim.Native.Nat.{◌+◌, ◌-◌}
use Rattle.frames.proofs.CopyLaws.{part_sets}
use Rattle.frames.proofs.output.Output.put_text.Goals as goal

pub returns : goal.returns
returns g c =
    let text = c.args.text.now in
    let room = rw (← c.self.view_is) at c.requires in
    rw (← c.self.view_is)
    (record {
      end = refl;
      bytes = part_sets c.self.inside.bytes.now c.self.inside.put (c.self.inside.put + length text - c.self.inside.put) c.copy_from_slice.new.self text c.copy_from_slice.ensures.after (omega arith) room;
    })
