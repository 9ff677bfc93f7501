-- `frames::serving::serve` meets its contract. The invariant: what stands ahead lies inside the buffers, the input's buffer has its length, as many frames were answered as the loop counts, and as many as are left to count can be answered still.
-- Assumes nothing.
use mathlib.Core.Path.{◌∙◌, subst}
use native.Mathlib.Numerals.{add-one}
use native.Mathlib.Omega.{arith}
use Prim.Native.Nat.{ℕ}
use Rattle.frames.proofs.RunLaws.{begins, one_more}
use Rattle.frames.specs.Buffers.{AheadInside, Inside}
use Rattle.std.specs.Prelude.{Option}
use Rattle.frames.proofs.serving.serve.Goals as goal
use Rattle.frames.proofs.serving.serve.Goals.{else-loop-test, then-loop-test+in_default}

pub loop-init : goal.loop-init
loop-init g c = record {
  inside = c.next_frame-ahead.ensures.inside;
  long = c.next_frame-ahead.ensures.kept;
  left = omega arith;
  stood = begins _ g.A.Answerer.gives g.A.Answerer.puts c.args.answerer.now;
}

pub loop-preserved : goal.loop-preserved
loop-preserved g c =
    let q = c.loop in
    let inside : Inside q.input q.out c.in-Some.size = subst (λ (a : Option ℕ). AheadInside a q.input q.out) c.in-Some.is q.invariant.inside in
    let answered = rw c.content.ensures at c.answer.ensures.answered in
    let awaited = rw c.pass.ensures at c.next_frame-ahead-in-loop.ensures.awaited in
    record {
      inside = c.next_frame-ahead-in-loop.ensures.inside;
      long = rw c.pass.ensures at c.next_frame-ahead-in-loop.ensures.kept ∙ q.invariant.long;
      left = omega (arith, q.invariant.left, c.answer.ensures.counted);
      stood = one_more _ g.A.Answerer.gives g.A.Answerer.puts c.args.answerer.now q.invariant.stood c.in-Some.is inside answered.1 answered.2 awaited _ (add-one q.counter);
    }

pub returns : goal.returns
returns g c =
    let q = c.loop in (
      c.flush.ensures.0,
      q.invariant.long,
      record {
        begin = c.next_frame-ahead.result;
        held = _;
        waiting = _;
        awaited = c.next_frame-ahead.ensures.awaited;
        state = q.answerer;
        ahead = q.ahead;
        put = q.out.put;
        read = q.invariant.stood.0;
        answers = q.invariant.stood.1;
        frames = q.counter;
        runs = rw c.flush.ensures.1 q.invariant.stood.2;
        over = elim c.loop-test.branch [ else-loop-test w ↦ λ h. absurd (omega (arith, w.loop-test.false)) | then-loop-test+in_default w ↦ λ h. w.in_default.is ];
      },
    )
