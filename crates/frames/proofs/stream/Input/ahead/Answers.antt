-- `frames::stream::Input::ahead` meets its contract: the header that it reads is that of what is unread, and its two tests tell whether the header and the content are cut off.
-- Assumes nothing.
use Rattle.frames.proofs.InputLaws.{head_cut, stands_frame, stands_none, stands_part}
use Rattle.frames.proofs.stream.Input.ahead.Goals as goal

pub returns-then-there-lt-HEADER-clause-next : goal.returns-then-there-lt-HEADER-clause-next
returns-then-there-lt-HEADER-clause-next c =
    let i = c.self.inside in
    rw (← c.self.view_is) (head_cut i.bytes.now i.from i.to c.self.invariant.0 c.self.invariant.1 c.if-there-lt-HEADER.true)

pub returns-in-Some-clause-next : goal.returns-in-Some-clause-next
returns-in-Some-clause-next c =
    let i = c.self.inside in
    rw (← c.self.view_is) (stands_frame i.bytes.now i.from i.to c.self.invariant.0 c.self.invariant.1 c.if-there-lt-HEADER.false c.frame_head.result c.frame_head.ensures _ c.in-Some.is c.if-size-there.true)

pub returns-in-Some-2-clause-next : goal.returns-in-Some-2-clause-next
returns-in-Some-2-clause-next c =
    let i = c.self.inside in
    rw (← c.self.view_is) (stands_part i.bytes.now i.from i.to c.self.invariant.0 c.self.invariant.1 c.if-there-lt-HEADER.false c.frame_head.result c.frame_head.ensures _ c.in-Some.is c.if-size-there.false)

pub returns-in-None-clause-next : goal.returns-in-None-clause-next
returns-in-None-clause-next c =
    let i = c.self.inside in
    rw (← c.self.view_is) (stands_none i.bytes.now i.from i.to c.self.invariant.0 c.self.invariant.1 c.if-there-lt-HEADER.false c.frame_head.result c.frame_head.ensures c.in-None.is)
