-- docs/RULES.md 9, the program: frames of requests in, a line per request out.
use Rattle.std.specs.Prelude.{eqb, leb, ltb, drop, get_or, length, take, Bool, true, false, cond, not, ◌&&◌, List, [], ◌∷◌, ◌++◌, ℕ, zero, suc, ◌+◌, ◌/◌, ◌%◌}
use Rattle.change.specs.Change.{answer}
use Rattle.change.specs.declared.Answer.{Answer}
use Rattle.numbers.specs.Numbers.{ACCEPTED}
use Rattle.records.specs.Request.{length_at}
use Rattle.slots.specs.Limits.{AREA}
use Rattle.timetable.specs.declared.Timetable.{Timetable}
use Rattle.timetable.specs.Timetable.{empty_timetable}

-- A frame has tag 40 hex.
abbrev pub FRAME_TAG : ℕ
FRAME_TAG = 0x40

-- A frame's content has at most this many bytes.
abbrev pub LONGEST_FRAME : ℕ
LONGEST_FRAME = 4096

-- The input begins with a frame: the tag, a two-byte length at most 4,096, and as many bytes, not cut off.
unfoldable pub is_frame : List ℕ → Bool
is_frame s = leb 3 (length s) && eqb (get_or s 0 0) FRAME_TAG && leb (length_at s 0) LONGEST_FRAME && leb (3 + length_at s 0) (length s)

-- The request inside the frame.
unfoldable pub frame_content : List ℕ → List ℕ
frame_content s = take (length_at s 0) (drop 3 s)

-- The input after the frame.
unfoldable pub frame_rest : List ℕ → List ℕ
frame_rest s = drop (3 + length_at s 0) s

-- Helper of decimal: a number in decimal, as bytes of text, of at most as many digits as given.
unfoldable pub digits : ℕ → ℕ → List ℕ
digits zero n = []
digits (suc most) n = elim (ltb n 10) [ true ↦ (48 + n) ∷ [] | false ↦ digits most (n / 10) ++ ((48 + n % 10) ∷ []) ]

-- A number in decimal. (Every number printed is below 10^20.)
unfoldable pub decimal : ℕ → List ℕ
decimal n = digits 20 n

-- The transition length that a line tells, by the number of its answer: 0 if refused.
unfoldable pub answered_length : ℕ → ℕ → ℕ
answered_length number size = cond (eqb number ACCEPTED) size 0

-- A line: ordinal, number, place, tries, transition length, one space apart.
unfoldable pub line_of : ℕ → ℕ → ℕ → ℕ → ℕ → List ℕ
line_of ordinal number place tries size =
    decimal ordinal ++ (32 ∷ decimal number) ++ (32 ∷ decimal place) ++ (32 ∷ decimal tries) ++ (32 ∷ decimal size) ++ (10 ∷ [])

-- The line of an answer.
unfoldable pub line : ℕ → Answer → List ℕ
line ordinal a = line_of ordinal a.number a.place a.tries (answered_length a.number a.timetable.length)

-- The text `bad frame` on a line.
abbrev pub bad_frame : List ℕ
bad_frame = 98 ∷ 97 ∷ 100 ∷ 32 ∷ 102 ∷ 114 ∷ 97 ∷ 109 ∷ 101 ∷ 10 ∷ []

-- Something is ahead, and it begins with no frame: a bad frame.
unfoldable pub is_bad : List ℕ → Bool
is_bad s = ltb 0 (length s) && not (is_frame s)

-- What is printed where no frame is ahead.
abbrev pub last_line : List ℕ → List ℕ
last_line s = cond (is_bad s) bad_frame []

-- What is printed for the input ahead, from an ordinal and a timetable on; a bad frame ends it. (As many frames as there are bytes are enough.)
unfoldable pub lines_from : ℕ → List ℕ → ℕ → Timetable → List ℕ
lines_from zero s ordinal t = []
lines_from (suc most) s ordinal t =
    elim (eqb (length s) 0) [
      | true ↦ []
      | false ↦
          elim (is_frame s) [
            | true ↦
                line ordinal (answer t (frame_content s) AREA)
                ++ lines_from most (frame_rest s) (suc ordinal) (answer t (frame_content s) AREA).timetable
            | false ↦ bad_frame
          ]
    ]

-- What the program prints for its whole input. It starts empty, and its first request is number 1.
unfoldable pub program_lines : List ℕ → List ℕ
program_lines input = lines_from (length input) input 1 empty_timetable
