-- A list of entries, one by one. Assumes nothing.
use lib.ListN.{length, length-set, set}
use lib.Seq.{get_or-set_same, get_or-set_other}
use mathlib.Core.List.{List}
use mathlib.Core.Path.{◌≡◌, refl, ◌∙◌}
use native.Mathlib.Decide.{ℕ_discrete}
use native.Mathlib.Numerals.{add-one}
use native.Mathlib.Omega.{arith}
use Prim.Native.Nat.{ℕ, zero, suc, ◌+◌, ◌≤◌, ◌<◌}
use Rattle.timetable.specs.declared.Entry.{Entry}
use Rattle.timetable.specs.Timetable.{no_entry, entry_of, each}

module _ (f : ℕ → Entry → Entry) where
  pub length_each : (n : ℕ) (es : List Entry) → length (each f n es) ≡ length es
  unfolding each
  length_each zero es = refl
  length_each (suc n) es = length-set (each f n es) n (f n (entry_of es n)) ∙ length_each n es

  -- One entry more is put.
  pub each_next : (start : List Entry) (n : ℕ) (es : List Entry) (e : Entry) → es ≡ each f n start → e ≡ f n (entry_of start n)
      → set es n e ≡ each f (n + 1) start
  unfolding each
  each_next start n es e p q = rw (add-one, p, q)

  -- Once n has come to m, m entries are put.
  pub each_all : (start : List Entry) (n m : ℕ) (es : List Entry) → m ≤ n → n ≤ m → es ≡ each f n start → es ≡ each f m start
  each_all start n m es a b p = let k : n ≡ m = omega arith in rw k at p

  -- What stands at the first n ids afterwards.
  pub each_at : (n : ℕ) (es : List Entry) → n ≤ length es → (i : ℕ) → i < n → entry_of (each f n es) i ≡ f i (entry_of es i)
  unfolding each
  each_at zero es h i k = elim k [ ]
  each_at (suc n) es h i k = at (ℕ_discrete i n) (λ l. each_at n es (omega arith) i l)
    where
      at : Dec (i ≡ n) → (i < n → entry_of (each f n es) i ≡ f i (entry_of es i))
          → entry_of (set (each f n es) n (f n (entry_of es n))) i ≡ f i (entry_of es i)
      at (yes e) ih = rw e (get_or-set_same (each f n es) n (f n (entry_of es n)) no_entry (omega (arith, length_each n es)))
      at (no e) ih = get_or-set_other (each f n es) n i (f n (entry_of es n)) no_entry e ∙ ih (omega arith)
