-- A header's answer is Program's test of a frame, and what moving bytes to the front does to a buffer. Assumes nothing.
use borrow.Author.Tests.{eq-eqb, eqb-true, le-leb, leb-true}
use lib.Dec.{eqb, leb}
use lib.ListN.{get_or-append, get_or, length}
use mathlib.Core.Bool.{Bool, true, false, cond, ◌&&◌}
use mathlib.Core.List.{List, ◌++◌}
use mathlib.Core.Path.{◌≡◌, refl, sym, ap, ◌∙◌}
use native.Mathlib.Omega.{arith}
use Prim.Native.Nat.{ℕ, ◌+◌, ◌*◌, ◌≤◌, ◌<◌}
use Rattle.frames.specs.Coded.{head_of}
use Rattle.std.specs.Prelude.{Some, None}
use Rattle.frames.specs.Program.{FRAME_TAG, LONGEST_FRAME, is_frame}
use Rattle.records.specs.Request.{length_at, number_at}
use Rattle.slots.proofs.Below.{and_both}

module _ (tag high low : ℕ) where
  -- A header with its tag and a length that is short enough is taken.
  pub fitting : tag ≡ FRAME_TAG → 256 * high + low ≤ LONGEST_FRAME → Some (256 * high + low) ≡ head_of tag high low
  unfolding head_of
  fitting e h = simp (eq-eqb _ _ e, le-leb _ _ h)

  -- Only such a header is taken.
  pub taken : (n : ℕ) → head_of tag high low ≡ Some n → (tag ≡ FRAME_TAG) × (256 * high + low ≤ LONGEST_FRAME) × (256 * high + low ≡ n)
  unfolding head_of
  taken n = at (eqb tag FRAME_TAG) (leb (256 * high + low) LONGEST_FRAME) refl refl
    where
      at : (a b : Bool) → eqb tag FRAME_TAG ≡ a → leb (256 * high + low) LONGEST_FRAME ≡ b
          → cond (a && b) (Some (256 * high + low)) None ≡ Some n
          → (tag ≡ FRAME_TAG) × (256 * high + low ≤ LONGEST_FRAME) × (256 * high + low ≡ n)
      at true true e f h = (eqb-true _ _ e, leb-true _ _ f, cc)
      at true false e f h = let z : ◌≡◌ {A = ℕ} 0 1 = cc in absurd (omega arith)
      at false b e f h = let z : ◌≡◌ {A = ℕ} 0 1 = cc in absurd (omega arith)

module _ (s : List ℕ) where
  -- The length that a frame states, from its second and third byte.
  pub stated : length_at s 0 ≡ 256 * get_or s 1 0 + get_or s 2 0
  unfolding length_at number_at
  stated = omega arith

  -- If the header is taken and the content is there, a frame stands there, of that length.
  pub head_framed : (n : ℕ) → head_of (get_or s 0 0) (get_or s 1 0) (get_or s 2 0) ≡ Some n → 3 + n ≤ length s
      → (is_frame s ≡ true) × (length_at s 0 ≡ n)
  unfolding is_frame
  head_framed n e h =
      let t = taken (get_or s 0 0) (get_or s 1 0) (get_or s 2 0) n e in
      let l : length_at s 0 ≡ n = stated ∙ t.2 in
      (simp (le-leb 3 (length s) (omega arith), eq-eqb _ _ t.0, l, le-leb n LONGEST_FRAME (omega arith), le-leb (3 + n) (length s) h), l)

  -- If a frame stands there, the header is taken and the content is there.
  pub framed_head : is_frame s ≡ true
      → (head_of (get_or s 0 0) (get_or s 1 0) (get_or s 2 0) ≡ Some (length_at s 0)) × (3 + length_at s 0 ≤ length s)
  unfolding is_frame
  framed_head f =
      let here = eqb (get_or s 0 0) FRAME_TAG in
      let small = leb (length_at s 0) LONGEST_FRAME in
      let p = and_both (leb 3 (length s) && here && small) (leb (3 + length_at s 0) (length s)) f in
      let q = and_both (leb 3 (length s) && here) small p.0 in
      let r = and_both (leb 3 (length s)) here q.0 in
      let l = leb-true (length_at s 0) LONGEST_FRAME q.1 in
      let e = stated in
      (sym (fitting _ _ _ (eqb-true _ _ r.1) (omega arith)) ∙ ap Some (sym e), leb-true _ _ p.1)

-- A test that cannot hold does not.
refuted : (b : Bool) → (b ≡ true → ⊥) → b ≡ false
refuted true h = absurd (h refl)
refuted false h = refl

module _ (s : List ℕ) where
  -- Where the header is cut off, no frame stands.
  pub cut_head : length s < 3 → is_frame s ≡ false
  cut_head h = refuted (is_frame s) (λ f. omega (arith, (framed_head s f).1))

  -- Where the content is cut off, no frame stands.
  pub cut_content : (n : ℕ) → head_of (get_or s 0 0) (get_or s 1 0) (get_or s 2 0) ≡ Some n → length s < 3 + n → is_frame s ≡ false
  cut_content n e h =
      refuted (is_frame s) (λ f. let p = framed_head s f in let same : length_at s 0 ≡ n = cc in omega (arith, p.1))

  -- Where the header is bad, no frame stands, whatever follows.
  pub bad_head : 3 ≤ length s → head_of (get_or s 0 0) (get_or s 1 0) (get_or s 2 0) ≡ None → (more : List ℕ) → is_frame (s ++ more) ≡ false
  bad_head h e more =
      refuted (is_frame (s ++ more))
      (λ f.
      let p = framed_head (s ++ more) f in
      let a = get_or-append s more 0 0 (omega arith) in
      let b = get_or-append s more 0 1 (omega arith) in
      let c = get_or-append s more 0 2 (omega arith) in
      let z : ◌≡◌ {A = ℕ} 0 1 = cc in omega arith)
