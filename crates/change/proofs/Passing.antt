-- The answer from the verdicts of the stages, and what a request that passes them hands to the search. Assumes nothing.
use mathlib.Core.Bool.{true, false}
use mathlib.Core.List.{List}
use mathlib.Core.Logic.{◌≢◌}
use mathlib.Core.Path.{◌≡◌, refl, sym, ap, ◌∙◌, subst}
use native.Mathlib.Decide.{ℕ_discrete}
use native.Mathlib.Omega.{arith}
use Prim.Native.Nat.{ℕ, ◌≤◌, ◌<◌}
use Rattle.std.specs.Prelude.{IsOk, Ok, Err}
use Rattle.change.proofs.Answers.{Admitted, accepted_continues, admitted, admitted_fit, Gets, refused, accepted, no_slot, no_length, gets, refusal_number, said}
use Rattle.change.proofs.Stages.{first_tells}
use Rattle.change.specs.Change.{start_plan, search_of, answer_of, refuse, answer_to, answer}
use Rattle.change.specs.declared.Answer.{Answer}
use Rattle.change.specs.Refused.{FirstStages, not_sound, sound, enough, whole, in_time}
use Rattle.change.specs.Stages.{stages_first, stages_listed, verdict_before}
use Rattle.numbers.proofs.ChainLaws.{split_refused, split_passed}
use Rattle.numbers.specs.Chain.{first_of, passed}
use Rattle.numbers.specs.Chain as chain
use Rattle.numbers.specs.declared.Refusal.{Refusal}
use Rattle.numbers.specs.Numbers.{ACCEPTED, NOT_SOUND, refusal}
use Rattle.numbers.specs.Chain.{Verdict}
use Rattle.numbers.specs.Chain.{Passed, Refused}
use Rattle.records.proofs.ReadLaws.{requested_in_range}
use Rattle.records.specs.declared.Request.{Request}
use Rattle.records.specs.Reads.{RequestRange}
use Rattle.records.specs.Request.{read_request, ReadRequest, requested}
use Rattle.slots.specs.Limits.{AREA, LONGEST}
use Rattle.timetable.proofs.Sound.{ranged_is, sound_is}
use Rattle.timetable.specs.declared.Timetable.{Timetable}
use Rattle.timetable.specs.Sound.{is_sound}
use Rattle.transition.proofs.Search.{Ended, found, missed, exhausted, search_ends}
use Rattle.transition.specs.Coded.{Ready}
use Rattle.transition.specs.declared.Ending.{Ending}
use Rattle.transition.specs.declared.Ending.TheVariants.{Found, Missed, Exhausted}
use Rattle.transition.specs.declared.Plan.{Plan}
use Rattle.transition.specs.Plan.{Searched}
use Rattle.transition.specs.Transition.{search_from}

-- The length that an ending found.
length_of : Ending → ℕ
length_of (Found n) = n
length_of (Missed n) = 0
length_of (Exhausted n) = 0

-- No length above the limit is found.
found_limit : (limit : ℕ) (plan : Plan) → length_of (search_from limit 0 plan).ending ≤ limit
unfolding length_of
found_limit limit plan = at (search_from limit 0 plan) (search_ends limit 0 plan)
  where
    at : (x : Searched) → Ended limit 0 plan x → length_of x.ending ≤ limit
    at x (found k l b p h ps f i) = subst (λ (x : Searched). length_of x.ending ≤ limit) (sym i) (omega (arith, l))
    at x (missed k l b p h f i) = subst (λ (x : Searched). length_of x.ending ≤ limit) (sym i) (omega arith)
    at x (exhausted b p i) = subst (λ (x : Searched). length_of x.ending ≤ limit) (sym i) (omega arith)

pub found_below : (limit : ℕ) (plan : Plan) (x : Searched) → search_from limit 0 plan ≡ x → (n : ℕ) → x.ending ≡ Found n → n ≤ limit
unfolding length_of
found_below limit plan x h n k = omega (arith, found_limit limit plan, ap (λ (y : Searched). length_of y.ending) h, ap length_of k)

-- The search from the plan of length 0 is the request's.
pub search_is : (t : Timetable) (r : Request) (plan : Plan) → plan ≡ start_plan t r → (x : Searched) → search_from r.limit 0 plan ≡ x → x ≡ search_of t r
unfolding search_of
search_is t r plan p x h = sym h ∙ ap (search_from r.limit 0) p

-- An answer whose record goes into an area of a size.
abbrev pub GoesInto : Answer → ℕ → Type 0
GoesInto a area = a.number ≡ ACCEPTED → (AREA ≤ area) × (a.timetable.length ≤ LONGEST)

-- An answer's record goes into the area for which it was decided.
pub goes_into : (t : Timetable) (s : List ℕ) (area : ℕ) → GoesInto (answer t s area) area
goes_into t s area = at (answer t s area) (gets t s area)
  where
    at : (a : Answer) → Gets t s area a → GoesInto a area
    at a (refused q e l h) z = absurd (omega arith)
    at a (accepted e p k l b q h ps f) z = (p.room, omega (arith, p.range.limit))
    at a (no_slot e p k l b q h f) z = absurd (omega arith)
    at a (no_length e p b) z = absurd (omega arith)

-- An answer that is no acceptance hands back the timetable as given.
abbrev pub HandsBack : Timetable → Answer → Type 0
HandsBack t a = a.number ≢ ACCEPTED → a.timetable ≡ t

-- So does every refusal.
pub hands_back : (t : Timetable) (s : List ℕ) (area : ℕ) → HandsBack t (answer t s area)
hands_back t s area = at (answer t s area) (gets t s area)
  where
    at : (a : Answer) → Gets t s area a → HandsBack t a
    at a (refused q e l h) n = refl
    at a (accepted e p k l b q h ps f) n = absurd (n refl)
    at a (no_slot e p k l b q h f) n = refl
    at a (no_length e p b) n = refl

-- The timetable in force after a request is sound, as the one before was.
pub stays_sound : (t : Timetable) (s : List ℕ) (area : ℕ) → is_sound t ≡ true → is_sound (answer t s area).timetable ≡ true
stays_sound t s area h = at (ℕ_discrete (answer t s area).number ACCEPTED)
  where
    at : Dec ((answer t s area).number ≡ ACCEPTED) → is_sound (answer t s area).timetable ≡ true
    at (yes e) = sound_is _ (accepted_continues t s area e).sound
    at (no n) = ap is_sound (hands_back t s area n) ∙ h

-- What passes the first stages has a sound timetable, is read whole, and has a slot that is not too early.
pub first_passes : (t : Timetable) (read : ReadRequest) (area : ℕ) → first_of (stages_first t read area) ≡ Passed
    → (is_sound t ≡ true) × (IsOk read) × (t.base.0 ≤ (requested read).slot.0)
first_passes t read area e = at (subst (FirstStages t read area) e (first_tells t read area).holds)
  where
    at : FirstStages t read area Passed → (is_sound t ≡ true) × (IsOk read) × (t.base.0 ≤ (requested read).slot.0)
    at (passed _ (sound a) (passed _ (enough b) (passed _ (whole c) (in_time d)))) = (a, c, d)

module _ (t : Timetable) (s : List ℕ) (area : ℕ) where
  -- The answer, were this the verdict.
  given : Verdict → Answer
  given v = elim v [ Ok _ ↦ answer_of t (requested (read_request s)) (search_of t (requested (read_request s))) | Err r ↦ refuse t r ]

  answer_given : (v : Verdict) → verdict_before t (read_request s) area ≡ v → answer t s area ≡ given v
  unfolding answer answer_to given
  answer_given v e = ap given e

  -- What the first stages refuse.
  pub answer_first : (r : Refusal) → first_of (stages_first t (read_request s) area) ≡ Refused r → answer t s area ≡ refuse t r
  unfolding given verdict_before
  answer_first r e = answer_given (Refused r) (split_refused (stages_first t (read_request s) area) _ r e)

  -- A timetable that is not sound is refused.
  pub answer_unsound : is_sound t ≡ false → answer t s area ≡ refuse t (refusal NOT_SOUND 0)
  answer_unsound h = answer_first _ ((first_tells t (read_request s) area).only _ (chain.refused _ (not_sound h)))

  -- A refusal has a number above 0.
  refused_number : (r : Refusal) → verdict_before t (read_request s) area ≡ Refused r → 0 < r.number
  refused_number r e = (refusal_number t s area r (said t s area (Refused r) e)).0

  pub first_number : (r : Refusal) → first_of (stages_first t (read_request s) area) ≡ Refused r → 0 < r.number
  unfolding verdict_before
  first_number r e = refused_number r (split_refused (stages_first t (read_request s) area) _ r e)

  -- What passes them is in range.
  pub first_range : first_of (stages_first t (read_request s) area) ≡ Passed → RequestRange (requested (read_request s))
  first_range e = requested_in_range s (first_passes t (read_request s) area e).1

  module _ (e : first_of (stages_first t (read_request s) area) ≡ Passed) (plan : Plan) (p : plan ≡ start_plan t (requested (read_request s))) where
    -- What passes them is judged by the stages after them.
    listed_next : verdict_before t (read_request s) area ≡ first_of (stages_listed plan.entries)
    unfolding verdict_before start_plan
    listed_next = split_passed (stages_first t (read_request s) area) _ e ∙ sym (ap (λ (x : Plan). first_of (stages_listed x.entries)) p)

    pub answer_listed : (r : Refusal) → first_of (stages_listed plan.entries) ≡ Refused r → answer t s area ≡ refuse t r
    unfolding given
    answer_listed r f = answer_given (Refused r) (listed_next ∙ f)

    pub listed_number : (r : Refusal) → first_of (stages_listed plan.entries) ≡ Refused r → 0 < r.number
    listed_number r f = refused_number r (listed_next ∙ f)

    module _ (f : first_of (stages_listed plan.entries) ≡ Passed) where
      pub answer_searched : answer t s area ≡ answer_of t (requested (read_request s)) (search_of t (requested (read_request s)))
      unfolding given
      answer_searched = answer_given Passed (listed_next ∙ f)

      pub passes : Admitted t (requested (read_request s)) area
      passes = admitted t s area (said t s area Passed (listed_next ∙ f))

      pub ready_plan : Ready plan
      ready_plan =
          let fit = admitted_fit t (requested (read_request s)) area passes in
          subst Ready (sym p) (record { ranged = ranged_is (start_plan t (requested (read_request s))).entries fit.ranged; unplaced = fit.unplaced })
