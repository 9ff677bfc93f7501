-- Short fields: what is read in full differs from what is read in the asks alone, and both of the requests that promises 16 and 17 speak of can be made.
-- Assumes nothing.
use borrow.Author.Tests.{ltb-false, ltb-true}
use lib.Seq.{ext_get_or}
use mathlib.Core.Bool.{Bool, true, false, cond}
use mathlib.Core.List.{List}
use mathlib.Core.Logic.{inl, inr}
use mathlib.Core.Path.{◌≡◌, refl, sym, ap, ◌∙◌, subst}
use native.Mathlib.Decide.{ℕ_discrete}
use native.Mathlib.Omega.{arith}
use Prim.Native.Nat.{ℕ, ◌≤◌, ◌<◌}
use Rattle.std.specs.Prelude.{Ok, IsOk}
use Rattle.records.proofs.ReadSteps.{read_requested}
use Rattle.change.proofs.AsBefore.{in_full_same, with_asks}
use Rattle.change.proofs.Onward.{as_there}
use Rattle.change.proofs.GivenLaws.{asks_bound}
use Rattle.change.proofs.OneGiven.{bound_one}
use Rattle.change.proofs.Start.{Bound, bound_range}
use Rattle.change.specs.Change.{answer, answer_to}
use Rattle.change.specs.Stages.{asked_bound}
use Rattle.promises.specs.Promises.{AskInFull, InFull, AsksAsThere}
use Rattle.records.proofs.AnyRequest.{any_request}
use Rattle.records.proofs.ReadLaws.{AskRange, RequestRange, requested_in_range}
use Rattle.records.specs.declared.Ask.{Ask}
use Rattle.records.specs.declared.Request.{Request}
use Rattle.records.specs.Request.{ask_of, is_asked, no_ask, read_request, ReadRequest, requested}
use Rattle.slots.specs.declared.CoreSlot.{CoreSlot}
use Rattle.slots.specs.Limits.{IDS, LAST_SLOT, LONGEST}
use Rattle.timetable.proofs.Ranges.{InRange, Period, period_pos}
use Rattle.timetable.proofs.Sound.{Sound}
use Rattle.timetable.specs.declared.Entry.{Entry}
use Rattle.timetable.specs.declared.Timetable.{Timetable}
use Rattle.timetable.specs.Timetable.{entry_of, is_listed}

-- ---- the answer

-- The request in full gets the same answer.
pub same_answer : (t : Timetable) (s s' : List ℕ) (area : ℕ) → InFull t s s' → answer t s' area ≡ answer t s area
unfolding answer
same_answer t s s' area f =
    let q = read_requested (read_request s) f.read in
    ap (λ (read : ReadRequest). answer_to t read area) same
    ∙ in_full_same t (requested (read_request s)) (requested (read_request s')).asks (λ i k. (f.asks i k).period) (λ i k p. ((f.asks i k).given p, (f.asks i k).bound p)) area
    ∙ sym (ap (λ (read : ReadRequest). answer_to t read area) q)
  where
    request : requested (read_request s') ≡ with_asks (requested (read_request s')).asks (requested (read_request s))
    request =
        let b = f.slot in
        let c = f.limit in
        λ j. record { slot = b j; limit = c j; asks = (requested (read_request s')).asks }

    same : read_request s' ≡ Ok (with_asks (requested (read_request s')).asks (requested (read_request s)))
    same = read_requested (read_request s') f.read' ∙ ap Ok request

-- ---- one request in full

-- An id that is not asked for is asked no bound.
unasked : (a : Ask) → AskRange a → a.period ≡ 0 → a.bound ≡ 0
unasked a (inl z) e = z.1
unasked a (inr z) e = absurd (omega (arith, period_pos a.period z.0))

-- What is asked in full is one thing.
ask_one : (old : Entry) (a f g : Ask) → AskRange f → AskRange g → AskInFull old a f → AskInFull old a g → g ≡ f
ask_one old a f g rf rg p q = let x = q.period ∙ sym p.period in let y = at (ℕ_discrete a.period 0) in λ j. record { period = x j; bound = y j }
  where
    at : Dec (a.period ≡ 0) → g.bound ≡ f.bound
    at (yes z) = unasked g rg (q.period ∙ z) ∙ sym (unasked f rf (p.period ∙ z))
    at (no z) = bound_one old a.bound g.bound f.bound (q.bound (omega arith)) (p.bound (omega arith))

pub full_one : (t : Timetable) (s s' s'' : List ℕ) → InFull t s s' → InFull t s s'' → read_request s'' ≡ read_request s'
full_one t s s' s'' f g =
    read_requested (read_request s'') g.read' ∙ ap Ok same ∙ sym (read_requested (read_request s') f.read')
  where
    r : RequestRange (requested (read_request s'))
    r = requested_in_range s' f.read'

    u : RequestRange (requested (read_request s''))
    u = requested_in_range s'' g.read'

    asks : (requested (read_request s'')).asks ≡ (requested (read_request s')).asks
    asks =
        ext_get_or no_ask (requested (read_request s'')).asks (requested (read_request s')).asks (u.asks.count ∙ sym r.asks.count)
        (λ i l.
        let k : i < IDS = omega (arith, u.asks.count) in
        ask_one (entry_of t.entries i) (ask_of (requested (read_request s)).asks i) (ask_of (requested (read_request s')).asks i) (ask_of (requested (read_request s'')).asks i)
        (r.asks.each i k) (u.asks.each i k) (f.asks i k) (g.asks i k))

    same : requested (read_request s'') ≡ requested (read_request s')
    same =
        let b = g.slot ∙ sym f.slot in
        let c = g.limit ∙ sym f.limit in
        let d = asks in
        λ j. record { slot = b j; limit = c j; asks = d j }

-- ---- that there are such requests

-- What a field asks, in full.
full : Entry → Ask → Ask
full old a = cond (is_asked a) (record { period = a.period; bound = asked_bound old a }) no_ask

module _ (old : Entry) (range : is_listed old ≡ true → InRange old) (a : Ask) (r : AskRange a) where
  full_asked : is_asked a ≡ true → full old a ≡ record { period = a.period; bound = asked_bound old a }
  unfolding full
  full_asked e = rw e

  full_none : is_asked a ≡ false → full old a ≡ no_ask
  unfolding full
  full_none e = rw e

  -- An id that is asked for has a period, and its bound is from 1 to 8.
  asked_range : is_asked a ≡ true → Period a.period × Bound (asked_bound old a)
  asked_range e = at r
    where
      at : AskRange a → Period a.period × Bound (asked_bound old a)
      at (inl z) = absurd (omega (arith, z.0, ltb-true 0 a.period e))
      at (inr z) = (z.0, bound_range old range a z.1)

  full_in_full : AskInFull old a (full old a)
  full_in_full = at (is_asked a) refl
    where
      at : (b : Bool) → is_asked a ≡ b → AskInFull old a (full old a)
      at true e =
          subst (AskInFull old a) (sym (full_asked e)) (record { period = refl; given = λ _. (asked_range e).1.0; bound = λ _. asks_bound old a })
      at false e =
          let z = ltb-false 0 a.period e in
          subst (AskInFull old a) (sym (full_none e)) (record { period = omega (arith, z); given = λ p. absurd (omega (arith, p, z)); bound = λ p. absurd (omega (arith, p, z)) })

  full_range : AskRange (full old a)
  full_range = at (is_asked a) refl
    where
      at : (b : Bool) → is_asked a ≡ b → AskRange (full old a)
      at true e = let k = asked_range e in subst AskRange (sym (full_asked e)) (inr (k.0, k.1.1))
      at false e = subst AskRange (sym (full_none e)) (inl (refl, refl))

-- A request that is read has a request in full.
pub full_request : (t : Timetable) (s : List ℕ) → Sound t → IsOk (read_request s) → (s' : List ℕ) × InFull t s s'
full_request t s sound read =
    let x = any_request q.slot.0 q.limit (λ i. full (entry_of t.entries i) (ask_of q.asks i)) r.slot r.limit (λ i k. full_range _ (sound.ranged.listed i k) _ (r.asks.each i k)) in (
      x.0,
      record {
        read = read;
        read' = x.1.read;
        slot = x.1.slot;
        limit = x.1.limit;
        asks = λ i k.
            subst (AskInFull (entry_of t.entries i) (ask_of q.asks i)) (sym (x.1.asks i k))
            (full_in_full _ (sound.ranged.listed i k) _ (r.asks.each i k));
      },
    )
  where
    q : Request
    q = requested (read_request s)

    r : RequestRange q
    r = requested_in_range s read

-- What is there can be asked for at every slot from the base on, with every T.
pub there_request : (t : Timetable) → Sound t → (slot limit : ℕ) → t.base.0 ≤ slot → slot ≤ LAST_SLOT → limit ≤ LONGEST
    → (s : List ℕ) × AsksAsThere t s × ((requested (read_request s)).slot.0 ≡ slot) × ((requested (read_request s)).limit ≡ limit)
there_request t sound slot limit later high low =
    let x = any_request slot limit (λ i. as_there (entry_of t.entries i)) high low (λ i k. range i k (is_listed (entry_of t.entries i)) refl) in
    let e : (requested (read_request x.0)).slot.0 ≡ slot = ap (λ (y : CoreSlot). y.0) x.1.slot in
    (x.0, record { read = x.1.read; in_time = omega (arith, e); asks = x.1.asks }, e, x.1.limit)
  where
    range : (i : ℕ) → i < IDS → (b : Bool) → is_listed (entry_of t.entries i) ≡ b → AskRange (as_there (entry_of t.entries i))
    range i k true l = inr ((sound.ranged.listed i k l).period, omega arith)
    range i k false l = inl (ap (λ (e : Entry). e.period) (sound.ranged.absent i k l).zero, refl)
