-- What serves a demand and the later ones can be exchanged: the demand takes any larger offset g of its period instead of its own a, and each later
-- offset of g's class goes down by g - a. Only the demand itself stood in a's class, so nothing meets. Assumes nothing.
use mathlib.Core.List.{List, ◌∷◌}
use mathlib.Core.Logic.{◌≢◌, ◌⊎◌, inl, inr}
use mathlib.Core.Path.{◌≡◌, refl, sym, ap, ◌∙◌, subst}
use native.Mathlib.Decide.{ℕ_discrete}
use native.Mathlib.Nat.{div-add-mod', mod-eq_of_lt, mod-le, mod-mod_of_dvd, mul-add-mod_self_right}
use native.Mathlib.Omega.{arith}
use Prim.Native.Nat.{ℕ, ◌+◌, ◌-◌, ◌*◌, ◌/◌, ◌%◌, ◌≤◌, ◌<◌, ◌∣◌}
use Rattle.placement.proofs.Free.{In, Free, Divide, free_class}
use Rattle.placement.proofs.Ranking.{rank_of}
use Rattle.placement.specs.Placement.{Demand, Place}
use Rattle.slots.specs.Limits.{IDS}
use Rattle.timetable.proofs.Ranges.{Period, period_dvd}

-- A demand's place at an offset.
abbrev pub place_at : Demand → ℕ → Place
place_at d o = record { id = d.id; period = d.period; offset = o }

-- A fair demand: its period is a power of two that divides 256, its last offset is below its period, and its id is below 32.
abbrev pub Fair : Demand → Type 0
Fair d = Period d.period × (d.last < d.period) × (d.id < IDS)

-- e is another id's demand, its period is no smaller than that of d, and its rank is larger.
abbrev pub Later : Demand → Demand → Type 0
Later d e = (d.id ≢ e.id) × (d.period ≤ e.period) × (rank_of d < rank_of e)

-- The offsets, by id, serve the demands beside the places: none is beyond its last offset, none meets a place, no two meet.
pub record Serves (ps : List Place) (ds : List Demand) (offsets : ℕ → ℕ) : Type 0 where
  pub in_time : (d : Demand) → In d ds → offsets d.id ≤ d.last
  pub beside : (d : Demand) → In d ds → Free ps (offsets d.id)
  pub apart : (d e : Demand) → In d ds → In e ds → Later d e → offsets e.id % d.period ≢ offsets d.id

-- Offset x becomes m: one of g's class modulo p goes down by g - a, any other stays.
abbrev Moved : ℕ → ℕ → ℕ → ℕ → ℕ → Type 0
Moved p a g x m = ((x % p ≡ g) × (m + (g - a) ≡ x)) ⊎ ((x % p ≢ g) × (m ≡ x))

module _ (p a g : ℕ) (ag : a ≤ g) (gp : g < p) where
  -- Every offset can be moved, and does not grow.
  move : (x : ℕ) → (m : ℕ) × (m ≤ x) × Moved p a g x m
  move x = at (ℕ_discrete (x % p) g)
    where
      at : Dec (x % p ≡ g) → (m : ℕ) × (m ≤ x) × Moved p a g x m
      at (yes e) = (x - (g - a), omega arith, inl (e, omega (arith, mod-le x p)))
      at (no e) = (x, omega arith, inr (e, refl))

  -- What moves comes into a's class.
  moved_residue : (x m : ℕ) → x % p ≡ g → m + (g - a) ≡ x → m % p ≡ a
  moved_residue x m e f =
      let l : a < p = omega arith in
      let k : m ≡ x / p * p + a = omega (arith, div-add-mod' x p) in
      rw k (mul-add-mod_self_right (x / p) p a ∙ mod-eq_of_lt l)

  -- So a moved offset from outside a's class is outside g's class.
  moved_outside : (x m : ℕ) → Moved p a g x m → x % p ≢ a → m % p ≢ g
  moved_outside x m (inl u) ne = omega (arith, moved_residue x m u.0 u.1)
  moved_outside x m (inr u) ne = subst (λ (y : ℕ). y % p ≢ g) (sym u.1) u.0

  -- Beside places whose periods divide p, an offset is free once moved if it was free before and a is.
  moved_free : (ps : List Place) (x m : ℕ) → Divide ps p → Free ps a → Free ps x → Moved p a g x m → Free ps m
  moved_free ps x m d fa fx (inl u) =
      let l : a < p = omega arith in
      free_class ps p a m d (mod-eq_of_lt l ∙ sym (moved_residue x m u.0 u.1)) fa
  moved_free ps x m d fa fx (inr u) = subst (Free ps) (sym u.1) fx

  -- Two moved offsets from outside a's class, one of them o of the period q, meet only if they met before.
  moved_apart : (q o n x m : ℕ) → p ∣ q → o < q → Moved p a g o n → Moved p a g x m → o % p ≢ a → x % p ≢ a → x % q ≢ o → m % q ≢ n
  moved_apart q o n x m pq oq (inl u) (inl v) oa xa ne z =
      let k : x ≡ m / q * q + o = omega (arith, div-add-mod' m q) in
      ne (ap (λ (y : ℕ). y % q) k ∙ mul-add-mod_self_right (m / q) q o ∙ mod-eq_of_lt oq)
  moved_apart q o n x m pq oq (inl u) (inr v) oa xa ne z =
      let r : n % p ≡ a = moved_residue o n u.0 u.1 in
      xa (cc (mod-mod_of_dvd p x pq))
  moved_apart q o n x m pq oq (inr u) (inl v) oa xa ne z =
      let r : m % p ≡ a = moved_residue x m v.0 v.1 in
      oa (cc (mod-mod_of_dvd p m pq))
  moved_apart q o n x m pq oq (inr u) (inr v) oa xa ne z = ne (cc)

module _ (ps : List Place) (d : Demand) (ds : List Demand) (divide : Divide ps d.period) (fair : (e : Demand) → In e (d ∷ ds) → Fair e) (later : (e : Demand) → In e ds → Later d e) where
  -- What serves a demand and the later ones gives what serves the later ones beside it at a larger offset g.
  pub exchange : (offsets : ℕ → ℕ) → Serves ps (d ∷ ds) offsets → (g : ℕ) → offsets d.id ≤ g → g < d.period
      → (moved : ℕ → ℕ) × Serves (place_at d g ∷ ps) ds moved
  exchange offsets s g ag gp = (moved, record { in_time = in_time; beside = beside; apart = apart })
    where
      p : ℕ
      p = d.period

      a : ℕ
      a = offsets d.id

      moved : ℕ → ℕ
      moved i = (move p a g ag gp (offsets i)).0

      moves : (i : ℕ) → Moved p a g (offsets i) (moved i)
      moves i = (move p a g ag gp (offsets i)).2

      outside : (e : Demand) → In e ds → offsets e.id % p ≢ a
      outside e m = s.apart d e (inl refl) (inr m) (later e m)

      in_time : (e : Demand) → In e ds → moved e.id ≤ e.last
      in_time e m = omega (arith, (move p a g ag gp (offsets e.id)).1, s.in_time e (inr m))

      beside : (e : Demand) → In e ds → Free (place_at d g ∷ ps) (moved e.id)
      beside e m q (inl z) h =
          moved_outside p a g ag gp (offsets e.id) (moved e.id) (moves e.id) (outside e m)
          (subst (λ (x : Place). moved e.id % x.period ≡ x.offset) z h)
      beside e m q (inr z) h =
          moved_free p a g ag gp ps (offsets e.id) (moved e.id) divide (s.beside d (inl refl)) (s.beside e (inr m)) (moves e.id) q z h

      apart : (e f : Demand) → In e ds → In f ds → Later e f → moved f.id % e.period ≢ moved e.id
      apart e f m n l =
          moved_apart p a g ag gp
          e.period
          (offsets e.id)
          (moved e.id)
          (offsets f.id)
          (moved f.id)
          (period_dvd p e.period (fair d (inl refl)).0 (fair e (inr m)).0 (later e m).1)
          (omega (arith, s.in_time e (inr m), (fair e (inr m)).1))
          (moves e.id)
          (moves f.id)
          (outside e m)
          (outside f n)
          (s.apart e f (inr m) (inr n) l)
