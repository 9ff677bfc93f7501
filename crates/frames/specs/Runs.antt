-- docs/RULES.md 9.6: a run of a program over frames, for any program: what the content of a frame gives from a state of it, and how a text is put into the output.
use Rattle.std.specs.Prelude.{true, false, List, Option, Some, None, [], ◌++◌, ◌≡◌, ℕ, zero, suc, ◌+◌, ◌-◌, ◌<◌}
use Rattle.frames.specs.Buffers.{Awaited, Inside, behind, between, content_of, unread}
use Rattle.frames.specs.Places.{InputBuffer, OutputBuffer}
use Rattle.frames.specs.Program.{frame_content, frame_rest, is_frame, last_line}

-- A run starts with nothing read, and with nothing put that waits.
abbrev pub AtStart : InputBuffer → OutputBuffer → Type 0
AtStart input out = (input.from ≡ 0) × (input.to ≡ 0) × (out.put ≡ 0)

module _ (State : Type 0) (Gives : State → List ℕ → List ℕ → State → Type 0) where
  -- What a program prints for the input ahead, from a state on: the text of each frame's content, in order, and a line for a bad frame at the end.
  pub data Prints : State → List ℕ → List ℕ → Type 0 where
    last : {s : State} {input : List ℕ} → is_frame input ≡ false → Prints s input (last_line input)
    next : {s r : State} {input text rest : List ℕ} → is_frame input ≡ true → Gives s (frame_content input) text r → Prints r (frame_rest input) rest → Prints s input (text ++ rest)

  module _ (Put : List ℕ → ℕ → List ℕ → List ℕ → ℕ → Type 0) (first : State) where
    -- From where a program stands once the first frame was awaited: where it stands once some frames were answered, which frame stands ahead then, all that it read, and all that its answers put.
    pub data Runs (begin : Option ℕ) (input : InputBuffer) (out : OutputBuffer) : State → Option ℕ → InputBuffer → OutputBuffer → List ℕ → List ℕ → ℕ → Type 0 where
      start : Runs begin input out first begin input out (unread input) [] zero
      frame : {s r : State} {a b : Option ℕ} {i i' : InputBuffer} {o o' o'' : OutputBuffer} {read text put : List ℕ} {size n : ℕ} → Runs begin input out s a i o read put n → a ≡ Some size → Inside i o size
          → Gives s (content_of i size) text r → Put o.bytes o.put text o'.bytes o'.put → Awaited (behind i size) o' i' o'' b
          → Runs begin input out r b i' o'' (read ++ between i'.bytes (i'.from + ((behind i size).to - (behind i size).from)) i'.to) (put ++ text) (suc n)

    -- From where its input and output stood the first frame was awaited, and frames were answered until the input was over, or as many as the program counts. What waited then was printed.
    pub record Ran (most : ℕ) (input : InputBuffer) (out : OutputBuffer) (input-after : InputBuffer) (out-after : OutputBuffer) : Type 0 where
      pub begin : Option ℕ
      pub held : InputBuffer
      pub waiting : OutputBuffer
      pub awaited : Awaited input out held waiting begin
      pub state : State
      pub ahead : Option ℕ
      pub put : ℕ
      pub read : List ℕ
      pub answers : List ℕ
      pub frames : ℕ
      pub runs : Runs begin held waiting state ahead input-after (record { bytes = out-after.bytes; put = put }) read answers frames
      pub over : frames < most → ahead ≡ None

    -- All that a run put into the output.
    abbrev pub put_in : {most : ℕ} {input : InputBuffer} {out : OutputBuffer} {input-after : InputBuffer} {out-after : OutputBuffer} → Ran most input out input-after out-after → List ℕ
    put_in {most} {input} {out} {input-after} ran = ran.answers ++ last_line (unread input-after)
