-- The parts of the frame ahead, what is unread once more was read, and what the program prints by what is ahead. Assumes nothing.
use borrow.Author.Tests.{lt-ltb, ne_eqb}
use lib.ListN.{get_or-append, drop, length, length-append, length-drop, take}
use lib.Seq.{drop_at, drop-drop, take-add, take_at}
use mathlib.Core.Bool.{true, false}
use mathlib.Core.List.{List, [], ◌∷◌, ◌++◌, append_assoc, append-nil}
use mathlib.Core.Path.{◌≡◌, refl, sym, ap, ◌∙◌}
use native.Mathlib.Omega.{arith}
use Prim.Native.Nat.{ℕ, zero, suc, ◌+◌, ◌-◌, ◌≤◌, ◌<◌, zero-le}
use Rattle.change.specs.Change.{answer}
use Rattle.frames.proofs.FrameLaws.{framed_head, head_framed}
use Rattle.frames.proofs.InputLaws.{between_length}
use Rattle.frames.specs.Buffers.{Awaited, More, ReadOn, Still, between, next_of, unread}
use Rattle.frames.specs.declared.stream.Next.{Next}
use Rattle.frames.specs.declared.stream.Next.TheVariants.{Frame, Part, Bad}
use Rattle.frames.specs.Places.{InputBuffer, OutputBuffer}
use Rattle.std.specs.Prelude.{Option}
use Rattle.frames.specs.Program.{frame_content, frame_rest, is_bad, is_frame, last_line, line, lines_from}
use Rattle.records.specs.Request.{length_at}
use Rattle.slots.specs.Limits.{AREA}
use Rattle.timetable.specs.declared.Timetable.{Timetable}

-- What lies between two places is what lies before a place between them, and then what lies behind it.
between_split : (l : List ℕ) (from mid to : ℕ) → from ≤ mid → mid ≤ to → between l from to ≡ between l from mid ++ between l mid to
between_split l from mid to a b =
    let n : to - from ≡ (mid - from) + (to - mid) = omega arith in
    let m : from + (mid - from) ≡ mid = omega arith in
    ap (λ (k : ℕ). take k (drop from l)) n
    ∙ take-add (mid - from) (to - mid) (drop from l)
    ∙ ap (λ (r : List ℕ). between l from mid ++ take (to - mid) r) (drop-drop (mid - from) from l ∙ ap (λ (k : ℕ). drop k l) m)

-- A frame stays one, of the same length, whatever follows.
framed_more : (s more : List ℕ) → is_frame s ≡ true → (is_frame (s ++ more) ≡ true) × (length_at (s ++ more) 0 ≡ length_at s 0)
framed_more s more f =
    let p = framed_head s f in
    let a = get_or-append s more 0 0 (omega (arith, p.1)) in
    let b = get_or-append s more 0 1 (omega (arith, p.1)) in
    let c = get_or-append s more 0 2 (omega (arith, p.1)) in
    head_framed (s ++ more) (length_at s 0) (rw (a, b, c) p.0) (simp length-append (omega (arith, p.1)))

module _ (s head content rest : List ℕ) (split : s ≡ head ++ (content ++ rest)) (three : length head ≡ 3) (stated : length content ≡ length_at s 0) where
  -- A frame's content stands behind its header.
  content_part : frame_content s ≡ content
  unfolding frame_content
  content_part =
      ap (λ (x : List ℕ). take (length_at s 0) (drop 3 x)) split
      ∙ ap (take (length_at s 0)) (drop_at head (content ++ rest) 3 three)
      ∙ take_at content rest (length_at s 0) stated

  -- The rest stands behind both.
  rest_part : frame_rest s ≡ rest
  unfolding frame_rest
  rest_part =
      ap (drop (3 + length_at s 0)) (split ∙ sym (append_assoc head content rest))
      ∙ drop_at (head ++ content) rest (3 + length_at s 0) (simp length-append (omega arith))

module _ (l : List ℕ) (from end to : ℕ) (fits : end ≤ to) (inside : to ≤ length l) (whole : is_frame (between l from to) ≡ true) (size : end ≡ from + 3 + length_at (between l from to) 0) (more : List ℕ) where
  -- A whole frame ahead is the header, the content, and what is behind them.
  parts : between l from to ++ more ≡ between l from (from + 3) ++ (between l (from + 3) end ++ (between l end to ++ more))
  parts =
      let all : between l from to ≡ between l from (from + 3) ++ (between l (from + 3) end ++ between l end to) =
      between_split l from (from + 3) to (omega arith) (omega arith)
      ∙ ap (λ (s : List ℕ). between l from (from + 3) ++ s) (between_split l (from + 3) end to (omega arith) fits) in
      ap (λ (s : List ℕ). s ++ more) all ∙ simp append_assoc

  -- So it stands there, whatever follows, with that content, and that behind it.
  pub frame_parts : (is_frame (between l from to ++ more) ≡ true) × (frame_content (between l from to ++ more) ≡ between l (from + 3) end) × (frame_rest (between l from to ++ more) ≡ between l end to ++ more)
  frame_parts =
      let s = between l from to ++ more in
      let framed = framed_more (between l from to) more whole in
      let three : length (between l from (from + 3)) ≡ 3 = between_length l from (from + 3) (omega arith) (omega arith) ∙ omega arith in
      let stated : length (between l (from + 3) end) ≡ length_at s 0 = between_length l (from + 3) end (omega arith) (omega arith) ∙ omega (arith, framed.1) in (
        framed.0,
        content_part s (between l from (from + 3)) (between l (from + 3) end) (between l end to ++ more) parts three stated,
        rest_part s (between l from (from + 3)) (between l (from + 3) end) (between l end to ++ more) parts three stated,
      )

-- Once a frame was awaited, what was unread stands first in what is unread then.
pub awaited_more : (i then : InputBuffer) (o out-then : OutputBuffer) (ahead : Option ℕ) → i.from ≤ i.to → Awaited i o then out-then ahead
    → unread then ≡ unread i ++ between then.bytes (then.from + (i.to - i.from)) then.to
awaited_more i then o out-then ahead order a = by_next (next_of (unread i)) a.read
  where
    still : Still i o.put then a.waiting → unread then ≡ unread i ++ between then.bytes (then.from + (i.to - i.from)) then.to
    still h =
        let n : i.to - (i.from + (i.to - i.from)) ≡ 0 = omega arith in
        rw h.0 (sym (ap (λ (k : ℕ). unread i ++ take k (drop (i.from + (i.to - i.from)) i.bytes)) n ∙ append-nil (unread i)))

    more : More i then a.waiting → unread then ≡ unread i ++ between then.bytes (then.from + (i.to - i.from)) then.to
    more h =
        let z : 0 + (i.to - i.from) ≡ i.to - i.from = omega arith in
        let n : i.to - i.from - 0 ≡ i.to - i.from = omega arith in
        let front : between then.bytes 0 (i.to - i.from) ≡ unread i = ap (λ (k : ℕ). take k then.bytes) n ∙ h.3 in
        rw (h.0, z) (between_split then.bytes 0 (i.to - i.from) then.to zero-le h.2 ∙ ap (λ (l : List ℕ). l ++ between then.bytes (i.to - i.from) then.to) front)

    by_next : (next : Next) → ReadOn next i o.put then a.waiting → unread then ≡ unread i ++ between then.bytes (then.from + (i.to - i.from)) then.to
    by_next (Frame size) h = still h
    by_next Part h = more h
    by_next Bad h = still h

-- Behind a frame less is left.
pub rest_less : (s : List ℕ) → is_frame s ≡ true → length (frame_rest s) < length s
unfolding frame_rest
rest_less s f = simp length-drop (omega (arith, (framed_head s f).1))

module _ (s : List ℕ) (most ordinal : ℕ) (t : Timetable) where
  -- A frame ahead: the line of its request, and then what is printed for the rest.
  pub line_first : is_frame s ≡ true → lines_from (suc most) s ordinal t
      ≡ line ordinal (answer t (frame_content s) AREA) ++ lines_from most (frame_rest s) (suc ordinal) (answer t (frame_content s) AREA).timetable
  unfolding lines_from
  line_first f = rw (ne_eqb (length s) 0 (λ e. omega (arith, (framed_head s f).1)), lines_from) (rw f refl)

-- No frame ahead: a line for a bad frame, and nothing more.
pub last_line_lem : (s : List ℕ) (most ordinal : ℕ) (t : Timetable) → length s ≤ most → is_frame s ≡ false → lines_from most s ordinal t ≡ last_line s
unfolding lines_from is_bad
last_line_lem [] zero ordinal t few f = refl
last_line_lem [] (suc most) ordinal t few f = refl
last_line_lem (x ∷ s) zero ordinal t few f = absurd (omega arith)
last_line_lem (x ∷ s) (suc most) ordinal t few f =
    let some : 0 < length (x ∷ s) = omega arith in
    rw (lt-ltb 0 (length (x ∷ s)) some, ne_eqb (length (x ∷ s)) 0 (λ e. omega arith), lines_from) (rw f refl)
