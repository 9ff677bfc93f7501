-- Helpers of the contracts in src/output.rt and src/stream.rt: where a program stands in its two buffers, and what stands next in its input.
use Rattle.std.specs.Prelude.{leb, ltb, drop, get_or, length, take, Bool, true, false, cond, List, Option, Some, None, ◌++◌, ◌≡◌, ℕ, ◌+◌, ◌-◌, ◌≤◌}
use Rattle.frames.specs.Coded.{LINE_ROOM, Puts, head_of}
use Rattle.frames.specs.declared.stream.Next.{Next}
use Rattle.frames.specs.declared.stream.Next.TheVariants.{Frame, Part, Bad}
use Rattle.frames.specs.Places.{InputBuffer, OutputBuffer}
use Rattle.frames.specs.Program.{bad_frame, is_bad, is_frame}
use Rattle.records.specs.Request.{length_at}

-- What stands in a buffer between two places.
abbrev pub between : List ℕ → ℕ → ℕ → List ℕ
between bytes from to = take (to - from) (drop from bytes)

-- What is unread in an input.
abbrev pub unread : InputBuffer → List ℕ
unread i = between i.bytes i.from i.to

-- The content of the frame of that length ahead, behind its header.
abbrev pub content_of : InputBuffer → ℕ → List ℕ
content_of i size = between i.bytes (i.from + 3) (i.from + 3 + size)

-- The input behind that frame.
abbrev pub behind : InputBuffer → ℕ → InputBuffer
behind i size = record { bytes = i.bytes; from = i.from + 3 + size; to = i.to }

-- A frame of that length stands whole in the input, and its line has room in the output.
pub record Inside (i : InputBuffer) (o : OutputBuffer) (size : ℕ) : Type 0 where
  pub whole : i.from + 3 + size ≤ i.to
  pub read : i.to ≤ length i.bytes
  pub room : o.put + LINE_ROOM ≤ length o.bytes

-- A frame ahead stands inside.
abbrev pub AheadInside : Option ℕ → InputBuffer → OutputBuffer → Type 0
AheadInside (Some size) i o = Inside i o size
AheadInside None i o = Unit {0}

-- What stands there: a whole frame; a part of one, which is none if the input ends; or none, whatever follows.
abbrev pub Stands : Next → List ℕ → Type 0
Stands (Frame size) s = (is_frame s ≡ true) × (length_at s 0 ≡ size)
Stands Part s = is_frame s ≡ false
Stands Bad s = (more : List ℕ) → is_frame (s ++ more) ≡ false

-- What stands behind a header that is there, by the length that it says and how many bytes follow it.
abbrev pub behind_head : Option ℕ → ℕ → Next
behind_head (Some size) there = cond (leb size there) (Frame size) Part
behind_head None there = Bad

-- Which of the three stands there: a part while the header is not there, and else what the header says.
unfoldable pub next_of : List ℕ → Next
next_of s = cond (ltb (length s) 3) Part (behind_head (head_of (get_or s 0 0) (get_or s 1 0) (get_or s 2 0)) (length s - 3))

-- Where the next line is put into an output buffer of a length: behind what waits, or at the front once that is printed.
unfoldable pub line_at : ℕ → ℕ → ℕ
line_at put room = cond (leb LINE_ROOM (room - put)) put 0

-- What was put at a place of the output: `bad frame` for a bad frame, and else nothing.
abbrev pub Waits : Bool → ℕ → List ℕ → List ℕ → ℕ → Type 0
Waits true at before after put = Puts before at bad_frame after put
Waits false at before after put = (put ≡ at) × (after ≡ before)

-- A program that waits for a frame stands as it stood.
abbrev pub Still : (i : InputBuffer) (put : ℕ) (then : InputBuffer) (waits : ℕ) → Type 0
Still i put then waits = (then ≡ i) × (waits ≡ put)

-- It read more: what was unread stands at the front of its input, more behind it, and nothing waits in the output.
abbrev pub More : (i then : InputBuffer) (waits : ℕ) → Type 0
More i then waits = (then.from ≡ 0) × (waits ≡ 0) × (i.to - i.from ≤ then.to) × (take (i.to - i.from) then.bytes ≡ unread i)

-- Which of the two, by what stood next: more is read behind a part of a frame only.
abbrev pub ReadOn : Next → (i : InputBuffer) (put : ℕ) (then : InputBuffer) (waits : ℕ) → Type 0
ReadOn (Frame size) i put then waits = Still i put then waits
ReadOn Part i put then waits = More i then waits
ReadOn Bad i put then waits = Still i put then waits

-- A whole frame of that length stands ahead, or none.
abbrev pub StandsAhead : Option ℕ → List ℕ → Type 0
StandsAhead (Some size) s = Stands (Frame size) s
StandsAhead None s = is_frame s ≡ false

-- A frame was awaited: a whole one stands ahead, or the input is over, and what is left of it is none; `bad frame` was put if that is something, where a line goes behind what was still waiting.
pub record Awaited (input : InputBuffer) (out : OutputBuffer) (then : InputBuffer) (out-then : OutputBuffer) (ahead : Option ℕ) : Type 0 where
  pub waiting : ℕ
  pub read : ReadOn (next_of (unread input)) input out.put then waiting
  pub frame : StandsAhead ahead (unread then)
  pub waits : Waits (is_bad (unread then)) (line_at waiting (length out.bytes)) out.bytes out-then.bytes out-then.put
