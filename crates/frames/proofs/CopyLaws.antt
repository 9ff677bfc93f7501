-- Bytes that are copied into a buffer, as bytes put in from a place on. Assumes nothing.
use lib.ListN.{length, take}
use lib.Seq.{length-take-le, paste, sets, sets-eq, take-length}
use mathlib.Core.List.{List}
use mathlib.Core.Path.{◌≡◌, refl, sym, ◌∙◌}
use native.Mathlib.Omega.{arith}
use Prim.Native.Nat.{ℕ, ◌+◌, ◌≤◌}
use borrow.Rule.Slice.PartMut.{put_mid}
use Rattle.std.proofs.lemmas.Slice.{put_mid-paste}

-- A part of a list pasted over another one is that part put in.
pub paste_sets : (l : List ℕ) (at : ℕ) (s : List ℕ) (n : ℕ) → n ≤ length s → at + n ≤ length l → paste l at s n ≡ sets l at (take n s)
paste_sets l at s n few fits =
    let many : length (take n s) ≡ n = length-take-le n s few in
    sym (sets-eq (take n s) l at (omega arith) ∙ rw many refl)

-- A part of a buffer that a text was copied over holds the text.
pub part_sets : (l : List ℕ) (at n : ℕ) (part text : List ℕ) → part ≡ text → n ≡ length text → at + length text ≤ length l → put_mid at n l part ≡ sets l at text
part_sets l at n part text copied whole fits =
    put_mid-paste at n l part text n copied refl whole ∙ paste_sets l at text n (omega arith) (omega arith) ∙ rw (whole, take-length text) refl
