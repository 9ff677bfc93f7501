-- Entries that are changed one after the other, as a loop over them does it. Assumes nothing.
use lib.ListN.{length, set}
use lib.Seq.{get_or-set_other}
use mathlib.Core.List.{List}
use mathlib.Core.Path.{◌≡◌, refl, ap, ◌∙◌}
use native.Mathlib.Omega.{arith}
use Prim.Native.Nat.{ℕ, zero, suc, ◌+◌, ◌≤◌}
use Rattle.timetable.proofs.Entries.{each_next, length_each}
use Rattle.timetable.specs.declared.Entry.{Entry}
use Rattle.timetable.specs.Timetable.{each, entry_of, no_entry}

-- The entries from n on are not changed yet.
each_beyond : (f : ℕ → Entry → Entry) (n : ℕ) (start : List Entry) (i : ℕ) → n ≤ i → entry_of (each f n start) i ≡ entry_of start i
unfolding each
each_beyond f zero start i l = refl
each_beyond f (suc n) start i l = get_or-set_other (each f n start) n i (f n (entry_of start n)) no_entry (omega arith) ∙ each_beyond f n start i (omega arith)

module _ (f : ℕ → Entry → Entry) (start : List Entry) (n : ℕ) (es : List Entry) (h : es ≡ each f n start) where
  -- As many entries as at the start,
  pub as_many : length es ≡ length start
  as_many = ap length h ∙ length_each f n start

  -- the next as it was,
  pub next_is : entry_of es n ≡ entry_of start n
  next_is = ap (λ (x : List Entry). entry_of x n) h ∙ each_beyond f n start n (omega arith)

  -- and then it is changed too.
  pub each_more : (e : Entry) → e ≡ f n (entry_of es n) → set es n e ≡ each f (n + 1) start
  each_more e q = each_next f start n es e h (q ∙ ap (f n) next_is)
