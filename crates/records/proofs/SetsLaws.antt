-- Bytes put at a place, one by one: a run behind another, one byte more, and what stands in and behind the run. Assumes nothing.
use borrow.Rule.Slice.PartMut.{put_mid}
use lib.ListN.{drop, get_or, length, set, take}
use lib.Seq.{drop-drop, drop-length, get_or-set_other, set_comm, sets, sets-eq, take_at}
use mathlib.Core.List.{List, [], ◌∷◌, ◌++◌, append_assoc, append-nil}
use mathlib.Core.Path.{◌≡◌, refl, sym, ap, ◌∙◌}
use native.Mathlib.Nat.{add-zero, zero-add}
use native.Mathlib.Omega.{arith}
use Prim.Native.Nat.{ℕ, suc, ◌+◌, ◌≤◌}

-- A run, then one that starts where it ends, is one run.
pub sets_then : (l : List ℕ) (i k : ℕ) (vs ws : List ℕ) → k ≡ i + length vs → sets (sets l i vs) k ws ≡ sets l i (vs ++ ws)
sets_then l i k [] ws e = rw (e, add-zero i)
sets_then l i k (v ∷ vs) ws e = sets_then (set l i v) (suc i) k vs ws (omega arith)

-- A run, then one byte behind it.
pub set_then : (l : List ℕ) (i k : ℕ) (vs : List ℕ) (v : ℕ) → k ≡ i + length vs → set (sets l i vs) k v ≡ sets l i (vs ++ v ∷ [])
set_then l i k vs v e = sets_then l i k vs (v ∷ []) e

-- A byte behind a run may be put before it.
pub sets_behind : (l : List ℕ) (i k : ℕ) (vs : List ℕ) (v : ℕ) → i + length vs ≤ k → sets (set l k v) i vs ≡ set (sets l i vs) k v
sets_behind l i k [] v h = refl
sets_behind l i k (w ∷ vs) v h =
    ap (λ (x : List ℕ). sets x (suc i) vs) (set_comm l k i v w (omega arith)) ∙ sets_behind (set l i w) (suc i) k vs v (omega arith)

-- A run that is copied into a part of the list.
pub sets_copied : (l vs copied : List ℕ) (i k : ℕ) → copied ≡ vs → k ≡ length vs → i + length vs ≤ length l → put_mid i k l copied ≡ sets l i vs
sets_copied l vs copied i k e n h =
    ap (λ (x : List ℕ). take i l ++ (x ++ drop k (drop i l))) e
    ∙ ap (λ (x : List ℕ). take i l ++ (vs ++ x)) (drop-drop k i l ∙ ap (λ (m : ℕ). drop (i + m) l) n)
    ∙ sym (append_assoc (take i l) vs (drop (i + length vs) l))
    ∙ sym (sets-eq vs l i h)

-- What stands behind a run stays.
pub sets_rest : (l : List ℕ) (i n : ℕ) (vs : List ℕ) → i + length vs ≤ n → get_or (sets l i vs) n 0 ≡ get_or l n 0
sets_rest l i n [] h = refl
sets_rest l i n (v ∷ vs) h = sets_rest (set l i v) (suc i) n vs (omega arith) ∙ get_or-set_other l i n v 0 (omega arith)

-- A run from the start on, then what stands behind it.
pub sets_front : (l vs : List ℕ) → length vs ≤ length l → sets l 0 vs ≡ vs ++ drop (length vs) l
sets_front l vs h = rw zero-add at (sets-eq vs l 0 (omega arith))

-- It stands at the front.
pub sets_taken : (l vs : List ℕ) (n : ℕ) → length vs ≡ n → n ≤ length l → take n (sets l 0 vs) ≡ vs
sets_taken l vs n e h = ap (take n) (sets_front l vs (omega arith)) ∙ take_at vs (drop (length vs) l) n e

-- A run over the whole of a list leaves nothing of it.
pub sets_all : (l vs : List ℕ) → length vs ≡ length l → sets l 0 vs ≡ vs
sets_all l vs e = sets_front l vs (omega arith) ∙ rw (e, drop-length l) (append-nil vs)
