-- The pass of the soundness test over the transition's owners: what each id would be owed at the base without the slots left, slot by slot. Assumes nothing.
use borrow.Author.Tests.{eq-eqb, eqb-true, ltb-true, ne_eqb}
use lib.Dec.{eqb}
use lib.ListN.{get_or, length, length-set, set, take}
use lib.Seq.{get_or-set_same, get_or-set_other}
use mathlib.Core.Bool.{Bool, true, false, cond}
use mathlib.Core.List.{List}
use mathlib.Core.Logic.{◌≢◌}
use mathlib.Core.Path.{◌≡◌, refl, sym, ap, ap₂, ◌∙◌}
use native.Mathlib.Decide.{ℕ_discrete}
use native.Mathlib.Nat.{mul-add, mul-le-mul, mul-le-mul_left, mul-suc, mul-zero, sub-zero}
use native.Mathlib.Numerals.{add-one}
use native.Mathlib.Omega.{arith}
use Prim.Native.Nat.{ℕ, zero, suc, ◌+◌, ◌-◌, ◌*◌, ◌≤◌, ◌<◌}
use Rattle.std.proofs.lemmas.List.{get_or-take, length-take-le}
use Rattle.std.proofs.lemmas.List.Sums.{count_by_more_no, count_by_more_yes}
use Rattle.std.proofs.Math.Seq.{take-length}
use Rattle.std.specs.List.{count_by}
use Rattle.slots.proofs.Below.{true_false}
use Rattle.slots.proofs.Windows.{over_still}
use Rattle.slots.specs.Below.{count}
use Rattle.slots.specs.Limits.{IDS, LONGEST, WHOLE, LARGEST_BOUND}
use Rattle.slots.specs.Shortfall.{keeps, over_slot, weight_of}
use Rattle.timetable.proofs.EntryLaws.{weight_le}
use Rattle.timetable.proofs.Ranges.{InRange}
use Rattle.timetable.proofs.Absent.{Absent}
use Rattle.timetable.specs.declared.Entry.{Entry}
use Rattle.timetable.specs.Sound.{start_in_range}
use Rattle.timetable.specs.Timetable.{is_listed, transition_shortfall}
use Rattle.timetable.specs.Walk.{Holds, Walkable, Walked, owed_at}

-- A shortfall over one slot rises by the weight at most.
over_most : (b : Bool) (w s : ℕ) → over_slot b w s ≤ s + w
unfolding over_slot
over_most true w s = omega arith
over_most false w s = omega arith

-- So over n transition slots.
pub walk_most : (owners : List ℕ) (i w start n : ℕ) → transition_shortfall owners i w start n ≤ start + w * n
unfolding transition_shortfall
walk_most owners i w start zero = omega arith
walk_most owners i w start (suc n) =
    omega (arith, over_most (eqb i (get_or owners n 0)) w (transition_shortfall owners i w start n), walk_most owners i w start n, mul-suc w n)

-- One slot more is small where the whole walk is.
pub step_small : (owners : List ℕ) (i w start n m s : ℕ) → n + 1 ≤ m → start + w * m < 65536 → s ≡ transition_shortfall owners i w start n → s + w < 65536
step_small owners i w start n m s a b p =
    omega (arith, p, walk_most owners i w start n, mul-suc w n, mul-le-mul_left {m = suc n} {n = m} w (omega arith))

-- One transition slot more of the walk, and all of them.
pub walk_next : (owners : List ℕ) (i w start n s r : ℕ) → s ≡ transition_shortfall owners i w start n → r ≡ over_slot (eqb i (get_or owners n 0)) w s
    → r ≡ transition_shortfall owners i w start (n + 1)
unfolding transition_shortfall
walk_next owners i w start n s r p q = rw add-one (q ∙ ap (over_slot (eqb i (get_or owners n 0)) w) p)

-- The walk of an id that has no weight and none of the slots stays where it starts.
pub walk_absent : (owners : List ℕ) (i s n : ℕ) → ((k : ℕ) → k < n → i ≢ get_or owners k 0) → transition_shortfall owners i 0 s n ≡ s
unfolding transition_shortfall
walk_absent owners i s zero h = refl
walk_absent owners i s (suc n) h =
    ap (λ (b : Bool). over_slot b 0 (transition_shortfall owners i 0 s n)) (ne_eqb i (get_or owners n 0) (h n (omega arith)))
    ∙ over_still (transition_shortfall owners i 0 s n)
    ∙ walk_absent owners i s n (λ k l. h k (omega arith))

-- What a walk of up to 64 slots comes to is small.
pub walk_small : (p start n m : ℕ) → start < WHOLE * LARGEST_BOUND → m ≤ LONGEST → n ≤ m → start + weight_of p * n < 65536
walk_small p start n m a b c = omega (arith, mul-le-mul {n₁ = weight_of p} {m₁ = n} {n₂ = WHOLE} {m₂ = LONGEST} (weight_le p) (omega arith))

-- A start in range is below 256 x 8.
pub start_below : (e : Entry) (start : ℕ) → (is_listed e ≡ true → InRange e) → (is_listed e ≡ false → Absent e) → start_in_range e start ≡ true
    → start < WHOLE * LARGEST_BOUND
unfolding start_in_range keeps
start_below e start f g h = at (is_listed e) refl
  where
    at : (b : Bool) → is_listed e ≡ b → start < WHOLE * LARGEST_BOUND
    at true l = omega (arith, ltb-true start (WHOLE * e.bound) (rw l at h), (f l).bound_high)
    at false l = omega (arith, eqb-true start e.shortfall (rw l at h), (g l).below)

-- What an id would be owed at the base without the slots left: at its weight, and from its start.
module _ (owners : List ℕ) (size i w start : ℕ) where
  abbrev owed : ℕ → ℕ
  owed n = owed_at owners size i w start n

  -- Before the first slot.
  pub owed_start : owed 0 ≡ start + w * size
  unfolding owed_at transition_shortfall
  owed_start = rw (sub-zero size) refl

  -- After the last one it is the walk's shortfall.
  pub owed_end : (n : ℕ) → size ≤ n → n ≤ size → owed n ≡ transition_shortfall owners i w start size
  unfolding owed_at
  owed_end n a b =
      let e : n ≡ size = omega arith in
      let z : size - size ≡ 0 = omega arith in
      rw e (omega (arith, ap (λ (x : ℕ). w * x) z, mul-zero w))

  -- It never rises.
  pub owed_most : (n : ℕ) → n ≤ size → owed n ≤ start + w * size
  unfolding owed_at
  owed_most n l =
      let z : n + (size - n) ≡ size = omega arith in
      omega (arith, walk_most owners i w start n, mul-add w n (size - n), ap (λ (x : ℕ). w * x) z)

  -- What the slots left after slot n add.
  abbrev pub rest : ℕ → ℕ
  rest n = w * (size - n - 1)

  module _ (n : ℕ) (l : n < size) where
    rest_next : w * (size - n) ≡ rest n + w
    rest_next =
        let z : size - n ≡ suc (size - n - 1) = omega arith in
        ap (λ (x : ℕ). w * x) z ∙ mul-suc w (size - n - 1)

    same_rest : w * (size - suc n) ≡ rest n
    same_rest = let z : size - suc n ≡ size - n - 1 = omega arith in ap (λ (x : ℕ). w * x) z

    pub rest_le : rest n ≤ owed n
    unfolding owed_at
    rest_le = omega (arith, rest_next)

    -- Slot n is taken off what its owner would be owed,
    pub owed_own : i ≡ get_or owners n 0 → owed (suc n) ≡ owed n - rest n - WHOLE + rest n
    unfolding owed_at transition_shortfall over_slot
    owed_own o = rw (eq-eqb i (get_or owners n 0) o) (omega (arith, rest_next, same_rest))

    -- and nothing changes for the others.
    pub owed_other : i ≢ get_or owners n 0 → owed (suc n) ≡ owed n
    unfolding owed_at transition_shortfall over_slot
    owed_other o = rw (ne_eqb i (get_or owners n 0) o) (omega (arith, rest_next, same_rest))

-- The pass over the owners, from what each id would be owed before it.
module _ (owners weights before : List ℕ) where
  abbrev size : ℕ
  size = length owners

  abbrev w : ℕ → ℕ
  w i = get_or weights i 0

  abbrev start : ℕ → ℕ
  start i = get_or before i 0 - w i * size

  -- A list holds what each id would be owed after n slots.
  abbrev pub Owed : ℕ → List ℕ → Type 0
  Owed n owed = Holds (λ i. owed_at owners size i (w i) (start i) n) owed

  -- Before the first slot
  pub owed_before : length before ≡ IDS → Walkable owners weights before → Owed 0 before
  owed_before c a = record { count = c; each = λ i k. omega (arith, a.enough i k, owed_start owners size i (w i) (start i)) }

  module _ (n : ℕ) (l : n < size) (owed : List ℕ) (h : Owed n owed) where
    abbrev o : ℕ
    o = get_or owners n 0

    -- What is taken off is there, and what is there is small.
    pub rest_there : o < IDS → w o * (size - n - 1) ≤ get_or owed o 0
    rest_there ok = omega (arith, h.each o ok, rest_le owners size o (w o) (start o) n l)

    pub owed_small : Walkable owners weights before → o < IDS → get_or owed o 0 < 65536
    owed_small a ok = omega (arith, h.each o ok, owed_most owners size o (w o) (start o) n (omega arith), a.enough o ok, a.small o ok)

    -- One slot more.
    pub owed_next : o < IDS → (x : ℕ) → x ≡ get_or owed o 0 - w o * (size - n - 1) - WHOLE + w o * (size - n - 1) → Owed (n + 1) (set owed o x)
    owed_next ok x e = rw add-one (record { count = length-set owed o x ∙ h.count; each = λ i k. at i k (ℕ_discrete i o) })
      where
        left : ℕ → ℕ
        left y = y - w o * (size - n - 1) - WHOLE + w o * (size - n - 1)

        now : ℕ → ℕ
        now i = owed_at owners size i (w i) (start i) (suc n)

        here : x ≡ now o
        here = e ∙ ap left (h.each o ok) ∙ sym (owed_own owners size o (w o) (start o) n l refl)

        at : (i : ℕ) → i < IDS → Dec (i ≡ o) → get_or (set owed o x) i 0 ≡ now i
        at i k (yes z) = ap (λ (j : ℕ). get_or (set owed o x) j 0) z ∙ get_or-set_same owed o x 0 (omega (arith, h.count)) ∙ here ∙ ap now (sym z)
        at i k (no z) = get_or-set_other owed o i x 0 z ∙ h.each i k ∙ sym (owed_other owners size i (w i) (start i) n l z)

  -- After the last one.
  pub owed_after : (n : ℕ) (owed : List ℕ) → size ≤ n → n ≤ size → Owed n owed → Walked owners weights before owed
  owed_after n owed a b h i k = h.each i k ∙ owed_end owners size i (w i) (start i) n a b

-- ---- the transition as the first of the 64 owners

-- The first m owners tell the walk of as many slots,
pub walk_taken : (owners : List ℕ) (i w start m n : ℕ) → n ≤ m → transition_shortfall (take m owners) i w start n ≡ transition_shortfall owners i w start n
unfolding transition_shortfall
walk_taken owners i w start m zero h = refl
walk_taken owners i w start m (suc n) h =
    ap₂ (λ (o s : ℕ). over_slot (eqb i o) w s) (get_or-take m owners n 0 (omega arith)) (walk_taken owners i w start m n (omega arith))

-- and how many of them are an id's own.
pub slices_taken : (owners : List ℕ) (i m n : ℕ) → n ≤ m
    → count n (λ k. eqb i (get_or (take m owners) k 0)) ≡ count n (λ k. eqb i (get_or owners k 0))
unfolding count
slices_taken owners i m zero h = refl
slices_taken owners i m (suc n) h =
    ap₂ (λ (c o : ℕ). c + cond (eqb i o) 1 0) (slices_taken owners i m n (omega arith)) (get_or-take m owners n 0 (omega arith))

-- So where as many owners stand in a list of their own.
module _ (owners : List ℕ) (i n : ℕ) (l : n ≤ length owners) where
  first_length : length (take n owners) ≡ n
  first_length = length-take-le n owners l

  pub first_small : (w start : ℕ) → start + w * n < 65536 → start + w * length (take n owners) < 65536
  first_small w start h = omega (arith, h, ap (λ (m : ℕ). w * m) first_length)

  pub walk_first : (w start : ℕ) → transition_shortfall (take n owners) i w start (length (take n owners)) ≡ transition_shortfall owners i w start n
  walk_first w start = ap (transition_shortfall (take n owners) i w start) first_length ∙ walk_taken owners i w start n n (omega arith)

  pub slices_first : count (length (take n owners)) (λ k. eqb i (get_or (take n owners) k 0)) ≡ count n (λ k. eqb i (get_or owners k 0))
  slices_first = ap (λ (m : ℕ). count m (λ k. eqb i (get_or (take n owners) k 0))) first_length ∙ slices_taken owners i n n (omega arith)

-- ---- slices in the transition

-- How many of the first n owners are an id's own, counted one by one or as a list.
slices_below : (owners : List ℕ) (i n : ℕ) → n ≤ length owners → count_by (λ (o : ℕ). eqb o i) (take n owners) ≡ count n (λ k. eqb i (get_or owners k 0))
unfolding count
slices_below owners i zero h = refl
slices_below owners i (suc n) h = rw (← add-one n) (at (slices_below owners i n (omega arith)) (eqb (get_or owners n 0) i) refl)
  where
    mine : ℕ → Bool
    mine k = eqb k i

    at : count_by mine (take n owners) ≡ count n (λ k. eqb i (get_or owners k 0)) → (b : Bool) → eqb (get_or owners n 0) i ≡ b
        → count_by mine (take (n + 1) owners) ≡ count n (λ k. eqb i (get_or owners k 0)) + cond (eqb i (get_or owners n 0)) 1 0
    at below true e =
        count_by_more_yes mine owners n 0 (omega arith) e
        ∙ ap₂ (λ (c : ℕ) (b : Bool). c + cond b 1 0) below (sym (eq-eqb i (get_or owners n 0) (sym (eqb-true (get_or owners n 0) i e))))
    at below false e =
        count_by_more_no mine owners n 0 (omega arith) e
        ∙ below
        ∙ omega (arith, ap {B = ℕ} (λ (b : Bool). cond b 1 0) (ne_eqb i (get_or owners n 0) (λ z. true_false (eq-eqb (get_or owners n 0) i (sym z)) e)))

pub slices_all : (owners : List ℕ) (i : ℕ) → count_by (λ (o : ℕ). eqb o i) owners ≡ count (length owners) (λ k. eqb i (get_or owners k 0))
slices_all owners i = ap (count_by (λ (o : ℕ). eqb o i)) (sym (take-length owners)) ∙ slices_below owners i (length owners) (omega arith)
