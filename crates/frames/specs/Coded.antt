-- Helpers of the contracts in src/: what the code over frames and lines answers, in the words of Program: a frame's first three bytes, and a text put into a buffer.
use Rattle.std.specs.Prelude.{eqb, leb, length, cond, ◌&&◌, List, Option, Some, None, ◌≡◌, ℕ, ◌+◌, ◌*◌}
use Rattle.std.proofs.lemmas.List.Edits.{sets}
use Rattle.frames.specs.Program.{FRAME_TAG, LONGEST_FRAME}

-- A line, also `bad frame`, needs at most this many bytes of room.
abbrev pub LINE_ROOM : ℕ
LINE_ROOM = 128

-- A number of a line and the byte after it need at most this many.
abbrev pub NUMBER_ROOM : ℕ
NUMBER_ROOM = 21

-- What a frame's first three bytes say: the length of its content, or none if they can start no frame.
unfoldable pub head_of : ℕ → ℕ → ℕ → Option ℕ
head_of tag high low =
    cond (eqb tag FRAME_TAG && leb (256 * high + low) LONGEST_FRAME) (Some (256 * high + low)) None

-- A text was put into a buffer from a position on: the position after it, and what the buffer has then.
pub record Puts (buffer : List ℕ) (at : ℕ) (text : List ℕ) (then : List ℕ) (next : ℕ) : Type 0 where
  pub end : next ≡ at + length text
  pub bytes : then ≡ sets buffer at text
