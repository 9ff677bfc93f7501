-- What a request gets, whole: a refusal before the search, an acceptance at the length found, or the refusal for want of a schedule. Assumes nothing.
use borrow.Author.Tests.{eq-eqb, ne_eqb}
use lib.ListN.{length}
use mathlib.Core.List.{List, []}
use mathlib.Core.Logic.{◌≢◌}
use mathlib.Core.Option.{none, some}
use mathlib.Core.Path.{◌≡◌, refl, subst}
use native.Mathlib.Nat.{zero-add}
use native.Mathlib.Omega.{arith}
use Prim.Native.Nat.{ℕ, suc, ◌≤◌, ◌<◌}
use Rattle.std.specs.Prelude.{Ok, Err}
use Rattle.change.proofs.Accept.{found_continues}
use Rattle.change.proofs.Stages.{stages}
use Rattle.change.proofs.Start.{start_count, start_fit}
use Rattle.change.specs.Change.{number_of, place_of, new_timetable, timetable_of, start_plan, starts_of, search_of, answer_of, refuse, answer_to, answer, record_of}
use Rattle.change.specs.declared.Answer.{Answer}
use Rattle.change.specs.Refused.{not_sound, sound, small_area, enough, bad_field, whole, too_early, in_time, overfull, fits, Behind, behind, keep_up, StagesSay}
use Rattle.change.specs.Stages.{start_entries, verdict_before}
use Rattle.numbers.specs.Chain.{refused as stops, passed}
use Rattle.numbers.specs.declared.Refusal.{Refusal}
use Rattle.numbers.specs.Chain.{Verdict}
use Rattle.numbers.specs.Chain.{Passed, Refused}
use Rattle.numbers.specs.Numbers.{ACCEPTED, SLOT_MISSED, LENGTHS_EXHAUSTED}
use Rattle.placement.specs.Placement.{Place, placement}
use Rattle.records.proofs.ReadLaws.{RequestRange, requested_in_range, refused_in_range}
use Rattle.records.specs.Answer.{answer_record}
use Rattle.records.specs.declared.Request.{Request}
use Rattle.records.specs.Request.{read_request, requested}
use Rattle.slots.specs.Limits.{AREA, IDS, LONGEST}
use Rattle.timetable.proofs.InForce.{Continues}
use Rattle.timetable.proofs.Sound.{Sound, sound_from}
use Rattle.timetable.specs.declared.Timetable.{Timetable}
use Rattle.timetable.specs.Timetable.{entry_of}
use Rattle.transition.proofs.Plans.{Fit}
use Rattle.transition.proofs.Reach.{reach_fit}
use Rattle.transition.proofs.Search.{PassedFirst, Ended, found, missed, exhausted, search_ends}
use Rattle.transition.specs.declared.Plan.{Plan}
use Rattle.transition.specs.Plan.{Searched}
use Rattle.transition.specs.Reach.{reach}
use Rattle.transition.specs.Transition.{longer, placed}

-- A request that passed the stages before the search.
pub record Admitted (t : Timetable) (r : Request) (area : ℕ) : Type 0 where
  pub sound : Sound t
  pub room : AREA ≤ area
  pub range : RequestRange r
  pub later : t.base.0 ≤ r.slot.0
  pub fine : (i : ℕ) → i < IDS → Behind (entry_of (start_entries t r.slot r.asks) i) → ⊥

pub admitted : (t : Timetable) (s : List ℕ) (area : ℕ) → StagesSay t (read_request s) area Passed → Admitted t (requested (read_request s)) area
admitted t s area (passed _ (passed _ (sound a) (passed _ (enough b) (passed _ (whole c) (in_time d)))) (passed _ (fits f) (keep_up g))) =
    record { sound = sound_from t a; room = b; range = requested_in_range s c; later = d; fine = g }

-- The plan from which its lengths are searched is fit.
pub admitted_fit : (t : Timetable) (r : Request) (area : ℕ) → Admitted t r area → Fit 0 (start_plan t r)
admitted_fit t r area p = start_fit t r p.sound p.later p.range p.fine

-- The answer with a schedule: length k, and the plan placed.
abbrev pub accepted_as : Timetable → Request → ℕ → Plan → Answer
accepted_as t r k plan = record { number = ACCEPTED; place = 0; tries = suc k; timetable = new_timetable r (starts_of t r) k plan }

-- The answer for want of a schedule: its number, and the length at which the search ended.
abbrev pub refused_as : Timetable → ℕ → ℕ → Answer
refused_as t number n = record { number = number; place = n; tries = suc n; timetable = t }

-- An accepted answer has a record, and no other has.
pub record_accepted : (a : Answer) → a.number ≡ ACCEPTED → record_of a ≡ answer_record a.timetable.length a.timetable.owners a.timetable.entries
unfolding record_of
record_accepted a e = rw (eq-eqb _ _ e)

pub record_none : (a : Answer) → a.number ≢ ACCEPTED → record_of a ≡ []
unfolding record_of
record_none a n = rw (ne_eqb _ _ n)

-- What the request bytes s get.
pub data Gets (t : Timetable) (s : List ℕ) (area : ℕ) : Answer → Type 0 where
  refused : (r : Refusal) → verdict_before t (read_request s) area ≡ Refused r → 0 < r.number → r.number < SLOT_MISSED → Gets t s area (refuse t r)
  accepted : verdict_before t (read_request s) area ≡ Passed → Admitted t (requested (read_request s)) area
      → (k : ℕ) → k ≤ (requested (read_request s)).limit → PassedFirst k 0 (start_plan t (requested (read_request s)))
      → (p : Plan) → reach (start_plan t (requested (read_request s))) k ≡ some p → (ps : List Place) → placement p.entries ≡ some ps
      → Gets t s area (accepted_as t (requested (read_request s)) k (placed p ps))
  no_slot : verdict_before t (read_request s) area ≡ Passed → Admitted t (requested (read_request s)) area
      → (k : ℕ) → k < (requested (read_request s)).limit → PassedFirst (suc k) 0 (start_plan t (requested (read_request s)))
      → (p : Plan) → reach (start_plan t (requested (read_request s))) k ≡ some p → longer k p ≡ none → Gets t s area (refused_as t SLOT_MISSED k)
  no_length : verdict_before t (read_request s) area ≡ Passed → Admitted t (requested (read_request s)) area
      → PassedFirst (suc (requested (read_request s)).limit) 0 (start_plan t (requested (read_request s)))
      → Gets t s area (refused_as t LENGTHS_EXHAUSTED (requested (read_request s)).limit)

module _ (t : Timetable) (s : List ℕ) (area : ℕ) where
  r : Request
  r = requested (read_request s)

  -- What the search gives, past the stages.
  searched : verdict_before t (read_request s) area ≡ Passed → Admitted t (requested (read_request s)) area
      → (x : Searched) → Ended r.limit 0 (start_plan t r) x → Gets t s area (answer_of t (requested (read_request s)) x)
  unfolding r answer_of number_of place_of timetable_of placed
  searched e p x (found k l b q h ps f i) = rw (i, zero-add k) (accepted e p k l b q h ps f)
  searched e p x (missed k l b q h f i) = rw (i, zero-add k) (no_slot e p k l b q h (rw zero-add at f))
  searched e p x (exhausted b q i) = rw (i, zero-add r.limit) (no_length e p b)

  -- A refusal before the search has a number from 1 to 8.
  pub refusal_number : (x : Refusal) → StagesSay t (read_request s) area (Refused x) → (0 < x.number) × (x.number < SLOT_MISSED)
  refusal_number x (stops _ (stops _ (not_sound a))) = omega arith
  refusal_number x (stops _ (passed _ _ (stops _ (small_area a)))) = omega arith
  refusal_number x (stops _ (passed _ _ (passed _ _ (stops _ (bad_field q f))))) = let k = refused_in_range s q f in omega (arith, k.low, k.high)
  refusal_number x (stops _ (passed _ _ (passed _ _ (passed _ _ (too_early a))))) = omega arith
  refusal_number x (passed _ _ (stops _ (overfull i k f g))) = omega arith
  refusal_number x (passed _ _ (passed _ _ (behind i k f g))) = omega arith

  -- What the stages say of a verdict that they gave.
  pub said : (v : Verdict) → verdict_before t (read_request s) area ≡ v → StagesSay t (read_request s) area v
  said v e = subst (StagesSay t (read_request s) area) e (stages t (read_request s) area).holds

  -- Every request gets one of these.
  pub gets : Gets t s area (answer t s area)
  unfolding r answer answer_to search_of
  gets = at (verdict_before t (read_request s) area) refl
    where
      at : (v : Verdict) → verdict_before t (read_request s) area ≡ v → Gets t s area (answer t s area)
      at (Err x) e = let k = refusal_number x (said (Refused x) e) in rw (e, answer_to) (refused x e k.0 k.1)
      at (Ok u) e =
          rw (e, answer_to)
          (searched e (admitted t s area (said Passed e)) _ (search_ends (requested (read_request s)).limit 0 (start_plan t (requested (read_request s)))))

  -- What a new timetable has, at the length found and with the plan placed, that of an accepted request has.
  accepted_has : (P : Timetable → Type 0)
      → ((k : ℕ) → k ≤ r.limit → PassedFirst k 0 (start_plan t r) → (p : Plan) → reach (start_plan t r) k ≡ some p
      → (ps : List Place) → placement p.entries ≡ some ps → Admitted t r area → P (new_timetable r (starts_of t r) k (placed p ps)))
      → (answer t s area).number ≡ ACCEPTED → P (answer t s area).timetable
  unfolding r
  accepted_has P has = at (answer t s area) gets
    where
      at : (a : Answer) → Gets t s area a → a.number ≡ ACCEPTED → P a.timetable
      at a (refused q e l h) z = absurd (omega arith)
      at a (accepted e p k l b q h ps f) z = has k l b q h ps f p
      at a (no_slot e p k l b q h f) z = absurd (omega arith)
      at a (no_length e p b) z = absurd (omega arith)

  -- It continues the one before.
  pub accepted_continues : (answer t s area).number ≡ ACCEPTED → Continues t (answer t s area).timetable
  accepted_continues = accepted_has (Continues t) (λ k l b q h ps f p. found_continues t r p.sound p.range p.later p.fine k l b q h ps f)

  -- It has 64 owners.
  pub accepted_owners : (answer t s area).number ≡ ACCEPTED → length (answer t s area).timetable.owners ≡ LONGEST
  unfolding placed
  accepted_owners =
      accepted_has (λ (x : Timetable). length x.owners ≡ LONGEST)
      (λ k l b q h ps f p. (reach_fit k 0 (start_plan t r) q (admitted_fit t r area p) (omega (arith, p.range.limit)) h).places)

  -- It has 32 starts.
  pub accepted_starts : (answer t s area).number ≡ ACCEPTED → length (answer t s area).timetable.starts ≡ IDS
  accepted_starts = accepted_has (λ (x : Timetable). length x.starts ≡ IDS) (λ k l b q h ps f p. start_count t r)
