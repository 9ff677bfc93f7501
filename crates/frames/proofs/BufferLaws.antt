-- What a program's buffers hold while it waits for a frame. Assumes nothing.
use lib.Dec.{ltb}
use lib.ListN.{drop, length, length-drop, take}
use lib.Seq.{length-take-le, sets, take-take}
use mathlib.Core.Bool.{true, false, and-false, and-true}
use mathlib.Core.List.{List, [], append-nil}
use mathlib.Core.Logic.{◌⊎◌, inl, inr}
use mathlib.Core.Path.{◌≡◌, refl, sym, ap, ◌∙◌}
use native.Mathlib.Omega.{arith}
use Prim.Native.Nat.{ℕ, ◌-◌, ◌≤◌}
use Rattle.frames.proofs.InputLaws.{between_length, stands}
use Rattle.frames.specs.Buffers.{Awaited, More, ReadOn, Still, Waits, between, line_at, next_of, unread}
use Rattle.frames.specs.declared.stream.Next.{Next}
use Rattle.frames.specs.declared.stream.Next.TheVariants.{Frame, Part, Bad}
use Rattle.frames.specs.Places.{InputBuffer, OutputBuffer}
use Rattle.frames.specs.Program.{is_bad, is_frame}
use Rattle.records.proofs.SetsLaws.{sets_taken}
use Rattle.std.specs.Prelude.{Some, None}

-- What was unread stands at the front once it was moved there and the input was read behind it.
pub kept_front : (input moved then : List ℕ) (from to kept : ℕ) → from ≤ to → to ≤ length input → kept ≡ to - from
    → moved ≡ sets input 0 (take kept (drop from input)) → take kept then ≡ take kept moved
    → take (to - from) then ≡ between input from to
kept_front input moved then from to kept order inside count front still =
    let l : length (take kept (drop from input)) ≡ kept = length-take-le kept (drop from input) (simp length-drop (omega arith)) in
    rw count at (still ∙ ap (take kept) front ∙ sets_taken input (take kept (drop from input)) kept l (omega arith))

-- While a program waits: it stands as it stood, or a part of a frame stood ahead, and more was read.
abbrev pub Waiting : (i : InputBuffer) (put : ℕ) (then : InputBuffer) (waits : ℕ) → Type 0
Waiting i put then waits = Still i put then waits ⊎ ((next_of (unread i) ≡ Part) × More i then waits)

module _ (s : List ℕ) where
  -- A frame is no bad frame, and anything else is one if it is something.
  frame_good : is_frame s ≡ true → is_bad s ≡ false
  unfolding is_bad
  frame_good e = rw e (and-false (ltb 0 (length s)))

  frame_bad : is_frame s ≡ false → is_bad s ≡ ltb 0 (length s)
  unfolding is_bad
  frame_bad e = rw e (and-true (ltb 0 (length s)))

module _ (i : InputBuffer) (put : ℕ) (then : InputBuffer) (waits : ℕ) where
  -- Once no part of a frame stands ahead, the input was read on.
  settled : Waiting i put then waits → (next : Next) → (next ≡ Part → ⊥) → next_of (unread then) ≡ next → ReadOn (next_of (unread i)) i put then waits
  settled (inl h) (Frame size) whole e = let stood : next_of (unread i) ≡ Frame size = ap (λ (k : InputBuffer). next_of (unread k)) (sym h.0) ∙ e in rw stood h
  settled (inl h) Part whole e = absurd (whole refl)
  settled (inl h) Bad whole e = let stood : next_of (unread i) ≡ Bad = ap (λ (k : InputBuffer). next_of (unread k)) (sym h.0) ∙ e in rw stood h
  settled (inr h) next whole e = rw h.0 h.1

  module _ (on : InputBuffer) (front : on.from ≡ 0) (longer : then.to - then.from ≤ on.to) (kept : take (then.to - then.from) on.bytes ≡ unread then) where
    -- Where a part stands ahead and the input is read behind it, more was read.
    pub reads_on : Waiting i put then waits → next_of (unread then) ≡ Part → (next_of (unread i) ≡ Part) × More i on 0
    reads_on (inl h) e =
        let part : next_of (unread i) ≡ Part = ap (λ (k : InputBuffer). next_of (unread k)) (sym h.0) ∙ e in
        let more : More then on 0 = (front, refl, longer, kept) in
        (part, rw h.0 at more)
    reads_on (inr h) e =
        let m = h.1 in
        let n : then.to - then.from ≡ then.to = omega (arith, m.0) in
        let all : take then.to on.bytes ≡ take then.to then.bytes = rw (n, m.0) at kept in (
          h.0,
          (
            front,
            refl,
            omega (arith, m.2),
            sym (take-take (i.to - i.from) then.to on.bytes m.2) ∙ ap (take (i.to - i.from)) all ∙ take-take (i.to - i.from) then.to then.bytes m.2 ∙ m.3,
          ),
        )

    -- If nothing was read, no frame stands there still.
    pub nothing_read : next_of (unread then) ≡ Part → on.to ≡ then.to - then.from → is_frame (unread on) ≡ false
    nothing_read e none =
        let n : on.to - on.from ≡ then.to - then.from = omega arith in
        rw (n, front) (ap is_frame kept ∙ stands (unread then) Part e)

  module _ (o : OutputBuffer) (out : OutputBuffer) (here : put ≡ o.put) where
    -- A whole frame was awaited.
    pub frame_awaited : Waiting i put then waits → (size : ℕ) → next_of (unread then) ≡ Frame size → out.put ≡ line_at waits (length o.bytes) → out.bytes ≡ o.bytes
        → Awaited i o then out (Some size)
    frame_awaited waited size e at same =
        let whole = stands (unread then) (Frame size) e in
        record {
          waiting = waits;
          read = rw (← here) (settled waited (Frame size) (λ z. cc) e);
          frame = whole;
          waits = rw (frame_good (unread then) whole.0) (at, same);
        }

    module _ (printed : Waits (ltb 0 (then.to - then.from)) (line_at waits (length o.bytes)) o.bytes out.bytes out.put) (order : then.from ≤ then.to) (inside : then.to ≤ length then.bytes) where
      -- The input is over.
      pub over_awaited : ReadOn (next_of (unread i)) i put then waits → is_frame (unread then) ≡ false → Awaited i o then out None
      over_awaited read none =
          record {
            waiting = waits;
            read = rw (← here) read;
            frame = none;
            waits = rw (frame_bad (unread then) none, between_length then.bytes then.from then.to order inside) printed;
          }

      -- It ends at a bad frame.
      pub bad_awaited : Waiting i put then waits → next_of (unread then) ≡ Bad → Awaited i o then out None
      bad_awaited waited e =
          over_awaited (settled waited Bad (λ z. cc) e) (ap is_frame (sym (append-nil (unread then))) ∙ stands (unread then) Bad e [])
