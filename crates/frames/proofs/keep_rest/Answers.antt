-- `frames::keep_rest` meets its contract: the bytes that are copied over the front are those between the places.
-- Assumes nothing.
use lib.ListN.{length-drop, drop}
use mathlib.Core.Path.{refl, ◌∙◌}
use native.Mathlib.Omega.{arith}
use Prim.Native.Nat.{◌-◌}
use Rattle.frames.proofs.CopyLaws.{paste_sets}
use Rattle.frames.proofs.keep_rest.Goals as goal

pub returns : goal.returns
returns c =
    let a = c.args in
    let few = length-drop a.from a.buf.now in
    (refl, c.copy_within.ensures.after ∙ paste_sets a.buf.now 0 (drop a.from a.buf.now) (a.to - a.from) (omega arith) (omega arith))
