-- `frames::stream::next_frame` meets its contract. The invariant: nothing was put, and the program waits as it stood or with more read behind a part of a frame. The measure is how much longer that part may grow.
-- Assumes nothing.
use mathlib.Core.Logic.{inr}
use mathlib.Core.Path.{◌≡◌, refl, sym, ◌∙◌}
use native.Mathlib.Omega.{arith}
use Prim.Native.Nat.{◌-◌, ◌≤◌}
use Rattle.frames.proofs.BufferLaws.{bad_awaited, frame_awaited, nothing_read, over_awaited, reads_on}
use Rattle.frames.proofs.InputLaws.{frame_ahead}
use Rattle.frames.proofs.stream.next_frame.Goals as goal

pub returns-in-Frame : goal.returns-in-Frame
returns-in-Frame c =
    let q = c.loop-size in
    let next = c.ahead.ensures.next in
    let held = c.ahead.ensures.held in
    let room = c.make_room.ensures in
    record {
      inside = record {
        whole = frame_ahead q.input.bytes q.input.from q.input.to held.0 held.1 c.ahead.result next c.in-Frame.size c.in-Frame.is;
        read = held.1;
        room = room.room;
      };
      awaited = frame_awaited c.args.input.now c.args.out.now.put q.input q.out.put c.args.out.now c.make_room.new.self refl
          q.invariant.waiting c.in-Frame.size (sym next ∙ c.in-Frame.is) (rw q.invariant.bytes at room.put) (room.bytes ∙ q.invariant.bytes);
      kept = q.invariant.long;
    }

pub returns-in-Bad-clause-awaited : goal.returns-in-Bad-clause-awaited
returns-in-Bad-clause-awaited c =
    let q = c.loop-size in
    let held = c.ahead.ensures.held in
    rw c.ended.ensures.none
    (bad_awaited c.args.input.now c.args.out.now.put q.input q.out.put c.args.out.now c.ended.new.out refl
    (rw q.invariant.bytes at c.ended.ensures.waits) held.0 held.1 q.invariant.waiting (sym c.ahead.ensures.next ∙ c.in-Bad.is))

pub returns-then-read_behind-eq0-clause-awaited : goal.returns-then-read_behind-eq0-clause-awaited
returns-then-read_behind-eq0-clause-awaited c =
    let q = c.loop-size in
    let start = c.args.input.now in
    let put = c.args.out.now.put in
    let on = c.read_behind.new.self in
    let read = c.read_behind.ensures in
    let part = sym c.ahead.ensures.next ∙ c.in-Part.is in
    let longer : q.input.to - q.input.from ≤ on.to = omega (arith, read.front.1) in
    let same : on.to ≡ q.input.to - q.input.from = omega (arith, read.front.1, c.if-read_behind-eq0.true) in
    let order : on.from ≤ on.to = omega (arith, read.front.0) in
    let more = reads_on start put q.input q.out.put on read.front.0 longer read.kept q.invariant.waiting part in
    let printed = rw (c.flush.ensures.1, q.invariant.bytes) at c.ended-then-read_behind-eq0.ensures.waits in
    rw c.ended-then-read_behind-eq0.ensures.none
    (over_awaited start put on c.flush.new.self.put c.args.out.now c.ended-then-read_behind-eq0.new.out refl printed order read.bytes.1
    (rw (more.0, c.flush.ensures.0) more.1)
    (nothing_read start put q.input q.out.put on read.front.0 longer read.kept part same))

pub loop-size-preserved : goal.loop-size-preserved
loop-size-preserved c =
    let q = c.loop-size in
    let read = c.read_behind.ensures in
    let part = sym c.ahead.ensures.next ∙ c.in-Part.is in
    record {
      bytes = c.flush.ensures.1 ∙ q.invariant.bytes;
      long = read.bytes.0 ∙ q.invariant.long;
      waiting = rw c.flush.ensures.0
          (inr (reads_on c.args.input.now c.args.out.now.put q.input q.out.put c.read_behind.new.self read.front.0 (omega (arith, read.front.1)) read.kept q.invariant.waiting part));
    }
