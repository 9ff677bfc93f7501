-- `frames::stream::Input::read_behind` meets its contract: the part that is lent to the read starts behind the bytes that were moved to the front.
-- Assumes nothing.
use borrow.Author.Rules.{rules}
use borrow.Rule.Slice.PartMut.{take_put}
use lib.ListN.{length}
use Prim.Native.Nat.{◌-◌}
use Rattle.frames.proofs.BufferLaws.{kept_front}
use Rattle.frames.proofs.stream.Input.read_behind.Goals as goal

pub returns-clause-kept : goal.returns-clause-kept
returns-clause-kept c =
    let i = c.self.inside in
    let k = c.keep_rest-kept in
    rw (← c.self.view_is)
    (kept_front i.bytes.now k.new.buf _ i.from i.to k.result c.self.invariant.0 c.self.invariant.1 k.ensures.0 k.ensures.1
    (take_put k.result (length k.new.buf - k.result) k.new.buf c.read.new.buf (search rules)))
