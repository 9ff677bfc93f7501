-- What is written id by id, ids rising: it depends on each id alone, one more id above the others is written behind them, and it can be cut at any id.
-- And a list that is filled id by id. Assumes nothing.
use lib.ListN.{get_or, length, length-set, replicate, set}
use lib.Seq.{ext_get_or, get_or-set_other, get_or-set_same}
use mathlib.Core.List.{List, [], ◌++◌, append_assoc, append-nil}
use mathlib.Core.Logic.{◌≢◌}
use mathlib.Core.Path.{◌≡◌, refl, sym, ap, ap₂, ◌∙◌}
use native.Mathlib.Decide.{ℕ_discrete}
use native.Mathlib.Nat.{add-zero}
use native.Mathlib.Omega.{arith}
use Prim.Native.Nat.{ℕ, zero, suc, ◌+◌, ◌≤◌, ◌<◌}
use Rattle.records.specs.Answer.{rising}

module _ (f g : ℕ → List ℕ) where
  -- Two that write the same for each id below n write the same.
  pub rising_same : (n : ℕ) → ((i : ℕ) → i < n → g i ≡ f i) → rising g n ≡ rising f n
  unfolding rising
  rising_same zero h = refl
  rising_same (suc n) h = ap₂ ◌++◌ (rising_same n (λ i k. h i (omega arith))) (h n (omega arith))

  -- One id more, above all for which something was written, is written behind them.
  pub rising_above : (id : ℕ) → ((i : ℕ) → i ≢ id → g i ≡ f i) → ((i : ℕ) → id ≤ i → f i ≡ []) → (n : ℕ) → id < n → rising g n ≡ rising f n ++ g id
  unfolding rising
  rising_above id same none zero h = elim h [ ]
  rising_above id same none (suc n) h = by (ℕ_discrete n id) (rising_above id same none n)
    where
      by : Dec (n ≡ id) → (id < n → rising g n ≡ rising f n ++ g id) → rising g n ++ g n ≡ (rising f n ++ f n) ++ g id
      by (yes e) rest = rw (e, none id (omega arith), append-nil (rising f id)) (ap (λ (z : List ℕ). z ++ g id) (rising_same id (λ i k. same i (omega arith))))
      by (no e) rest = rw (same n e, none n (omega arith), append-nil (rising f n), append-nil (rising g n)) (rest (omega arith))

-- What is written for the n ids from `floor` on.
unfoldable pub rising_from : (ℕ → List ℕ) → ℕ → ℕ → List ℕ
rising_from f floor zero = []
rising_from f floor (suc n) = f floor ++ rising_from f (suc floor) n

-- It is written up to an id, and then from there on.
pub rising_split : (f : ℕ → List ℕ) (floor n : ℕ) → rising f (floor + n) ≡ rising f floor ++ rising_from f floor n
unfolding rising rising_from
rising_split f floor zero = rw (add-zero floor) (sym (append-nil (rising f floor)))
rising_split f floor (suc n) =
    let k : floor + suc n ≡ suc floor + n = omega arith in
    rw k (rising_split f (suc floor) n ∙ append_assoc (rising f floor) (f floor) (rising_from f (suc floor) n))

-- From this id on a list, one element an id, holds nothing but d.
abbrev pub EmptyFrom : {A : Type 0} → A → ℕ → List A → Type 0
EmptyFrom d floor l = (i : ℕ) → floor ≤ i → get_or l i d ≡ d

-- A list of d alone does so from the first id on.
pub all_empty : {A : Type 0} (d : A) (n i : ℕ) → get_or (replicate n d) i d ≡ d
all_empty d zero i = refl
all_empty d (suc n) zero = refl
all_empty d (suc n) (suc i) = all_empty d n i

-- Above an id that is put in it holds nothing.
pub empty_above : {A : Type 0} (d : A) (l : List A) (id : ℕ) (a : A) → EmptyFrom d id l → EmptyFrom d (suc id) (set l id a)
empty_above d l id a f i h = get_or-set_other l id i a d (omega arith) ∙ f i (omega arith)

-- A list that is filled up to an id: what another holds for the ids below it, and nothing from there on.
pub record FilledTo {A : Type 0} (d : A) (all : List A) (floor : ℕ) (l : List A) : Type 0 where
  pub count : length l ≡ length all
  pub below : (i : ℕ) → i < floor → get_or l i d ≡ get_or all i d
  pub above : EmptyFrom d floor l

module _ {A : Type 0} (d : A) (all l : List A) (floor : ℕ) (f : FilledTo d all floor l) where
  -- What is the same below an id and for it is the same below the next.
  below_next : (m : List A) → ((i : ℕ) → i < floor → get_or m i d ≡ get_or all i d) → get_or m floor d ≡ get_or all floor d
      → (i : ℕ) → i < suc floor → get_or m i d ≡ get_or all i d
  below_next m b e i h = by (ℕ_discrete i floor)
    where
      by : Dec (i ≡ floor) → get_or m i d ≡ get_or all i d
      by (yes q) = rw q e
      by (no q) = b i (omega arith)

  -- It is filled up to the next id where that holds nothing,
  pub filled_same : get_or all floor d ≡ d → FilledTo d all (suc floor) l
  filled_same e = record {
    count = f.count;
    below = below_next l f.below (f.above floor (omega arith) ∙ sym e);
    above = λ i h. f.above i (omega arith);
  }

  -- and where what that holds is put in.
  pub filled_next : (a : A) → floor < length l → a ≡ get_or all floor d → FilledTo d all (suc floor) (set l floor a)
  filled_next a h e = record {
    count = length-set l floor a ∙ f.count;
    below = below_next (set l floor a) (λ i k. get_or-set_other l floor i a d (omega arith) ∙ f.below i k) (get_or-set_same l floor a d h ∙ e);
    above = empty_above d l floor a f.above;
  }

  -- Filled up to the last id it is the other.
  pub filled_all : length all ≤ floor → l ≡ all
  filled_all h = ext_get_or d l all f.count (λ i k. f.below i (omega (arith, f.count)))
