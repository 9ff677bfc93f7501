-- What stands next in the input is what `next_of` tells of it. Assumes nothing.
use borrow.Author.Tests.{le-leb, le-ltb, leb-false, leb-true, lt-leb, lt-ltb, ltb-false, ltb-true}
use lib.Dec.{leb, ltb}
use lib.ListN.{drop, get_or, length, length-drop, length-take}
use lib.Seq.{get_or-drop, get_or-take}
use mathlib.Core.Bool.{Bool, true, false, cond}
use mathlib.Core.List.{List}
use mathlib.Core.Path.{◌≡◌, refl, ap, ◌∙◌, sym, subst}
use native.Mathlib.Omega.{arith}
use Prim.Native.Nat.{ℕ, ◌+◌, ◌-◌, ◌≤◌, ◌<◌}
use Rattle.frames.specs.declared.stream.Next.{Next}
use Rattle.frames.specs.declared.stream.Next.TheVariants.{Frame, Part, Bad}
use Rattle.frames.specs.Buffers.{Stands, behind_head, between, next_of}
use Rattle.frames.proofs.FrameLaws.{bad_head, cut_content, cut_head, framed_head, head_framed}
use Rattle.frames.specs.Coded.{head_of}
use Rattle.std.specs.Prelude.{Option, Some, None}

module _ (s : List ℕ) where
  -- What stands behind a header that is there.
  behind_stands : (h : Option ℕ) → head_of (get_or s 0 0) (get_or s 1 0) (get_or s 2 0) ≡ h → 3 ≤ length s → Stands (behind_head h (length s - 3)) s
  behind_stands (Some n) e there = content (leb n (length s - 3)) refl
    where
      content : (b : Bool) → leb n (length s - 3) ≡ b → Stands (cond b (Frame n) Part) s
      content true f = head_framed s n e (omega (arith, leb-true n (length s - 3) f))
      content false f = cut_content s n e (omega (arith, leb-false n (length s - 3) f))
  behind_stands None e there = bad_head s there e

  -- What `next_of` tells of some bytes stands there.
  next_stands : Stands (next_of s) s
  unfolding next_of
  next_stands = header (ltb (length s) 3) refl
    where
      header : (b : Bool) → ltb (length s) 3 ≡ b → Stands (cond b Part (behind_head (head_of (get_or s 0 0) (get_or s 1 0) (get_or s 2 0)) (length s - 3))) s
      header true e = cut_head s (ltb-true (length s) 3 e)
      header false e = behind_stands (head_of (get_or s 0 0) (get_or s 1 0) (get_or s 2 0)) refl (ltb-false (length s) 3 e)

  pub stands : (next : Next) → next_of s ≡ next → Stands next s
  stands next e = subst (λ (n : Next). Stands n s) e next_stands

module _ (l : List ℕ) (from to : ℕ) (order : from ≤ to) (inside : to ≤ length l) where
  -- As many bytes stand between two places as they say.
  pub between_length : length (between l from to) ≡ to - from
  between_length = simp (length-take, length-drop) (omega arith)

  -- They are the input's.
  between_byte : (i : ℕ) → i < to - from → get_or (between l from to) i 0 ≡ get_or l (from + i) 0
  between_byte i h = get_or-take (to - from) (drop from l) i 0 h ∙ get_or-drop from l i 0

  -- A header that is cut off.
  pub head_cut : to - from < 3 → Part ≡ next_of (between l from to)
  unfolding next_of
  head_cut h = simp (lt-ltb (length (between l from to)) 3 (omega (arith, between_length)))

  -- A whole frame has its bytes between the places.
  pub frame_inside : (size : ℕ) → Stands (Frame size) (between l from to) → from + 3 + size ≤ to
  frame_inside size s = omega (arith, (framed_head (between l from to) s.0).1, s.1, between_length)

  -- So has the frame that stands next.
  pub frame_ahead : (r : Next) → r ≡ next_of (between l from to) → (size : ℕ) → r ≡ Frame size → from + 3 + size ≤ to
  frame_ahead r e size f =
      frame_inside size (stands (between l from to) (Frame size) (sym e ∙ f))

  module _ (whole : 3 ≤ to - from) (r : Option ℕ) (answer : r ≡ head_of (get_or l from 0) (get_or l (from + 1) 0) (get_or l (from + 2) 0)) where
    -- The header that was read is that of what stands there.
    head_here : head_of (get_or (between l from to) 0 0) (get_or (between l from to) 1 0) (get_or (between l from to) 2 0) ≡ r
    head_here =
        let z : from + 0 ≡ from = omega arith in
        let a : get_or (between l from to) 0 0 ≡ get_or l from 0 = between_byte 0 (omega arith) ∙ ap (λ (n : ℕ). get_or l n 0) z in
        let b = between_byte 1 (omega arith) in
        let c = between_byte 2 (omega arith) in
        cc

    -- So it decides what stands next.
    head_next : next_of (between l from to) ≡ behind_head r (to - from - 3)
    unfolding next_of
    head_next = rw (le-ltb (length (between l from to)) 3 (omega (arith, between_length)), head_here, between_length) refl

    pub stands_frame : (n : ℕ) → r ≡ Some n → n ≤ to - from - 3 → Frame n ≡ next_of (between l from to)
    stands_frame n e h = rw (head_next, e, le-leb n (to - from - 3) h)

    pub stands_part : (n : ℕ) → r ≡ Some n → to - from - 3 < n → Part ≡ next_of (between l from to)
    stands_part n e h = rw (head_next, e, lt-leb n (to - from - 3) h)

    pub stands_none : r ≡ None → Bad ≡ next_of (between l from to)
    stands_none e = rw (head_next, e)
