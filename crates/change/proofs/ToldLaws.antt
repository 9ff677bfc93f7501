-- What was granted or refused, as an answer and as it is returned. Assumes nothing.
use lib.ListN.{length}
use lib.Seq.{sets}
use mathlib.Core.List.{List}
use mathlib.Core.Logic.{◌≢◌}
use mathlib.Core.Path.{◌≡◌, refl, sym, ap, ◌∙◌, subst}
use native.Mathlib.Omega.{arith}
use Prim.Native.Nat.{ℕ, ◌≤◌, ◌<◌}
use Rattle.change.proofs.Answers.{record_accepted, record_none}
use Rattle.change.proofs.Passing.{goes_into}
use Rattle.change.specs.Change.{answer, answer_of, new_timetable, number_of, outcome_of, place_of, record_of, refuse, starts_of, timetable_of, written}
use Rattle.change.specs.declared.Answer.{Answer}
use Rattle.change.specs.declared.Outcome.{Outcome}
use Rattle.change.specs.declared.Refused.{Refused}
use Rattle.change.specs.Told.{told}
use Rattle.numbers.specs.declared.Refusal.{Refusal}
use Rattle.numbers.specs.Numbers.{ACCEPTED, SLOT_MISSED, LENGTHS_EXHAUSTED}
use Rattle.records.specs.Answer.{answer_record}
use Rattle.records.specs.declared.Request.{Request}
use Rattle.slots.specs.Limits.{AREA, LONGEST}
use Rattle.std.proofs.Common.{Err, IfErr, IfOk, Ok}
use Rattle.std.specs.Result.{IsErrAnd}
use Rattle.std.specs.declared.result.Result.{Result}
use Rattle.timetable.specs.declared.Timetable.{Timetable}
use Rattle.transition.specs.declared.Ending.{Ending}
use Rattle.transition.specs.declared.Ending.TheVariants.{Found, Missed, Exhausted}
use Rattle.transition.specs.declared.Plan.{Plan}

-- A grant for a request with an area has a record that goes into it.
pub granted_fits : (t : Timetable) (s : List ℕ) (area : ℕ) (now : Timetable) (d : Result ℕ Refused) → told now d ≡ answer t s area
    → IfOk d (λ _. (AREA ≤ area) × (now.length ≤ LONGEST))
granted_fits t s area now (Ok tries) e =
    let k = goes_into t s area (sym (ap (λ (x : Answer). x.number) e)) in
    (k.0, subst (λ (x : Answer). x.timetable.length ≤ LONGEST) (sym e) k.1)
granted_fits t s area now (Err r) e = tt

module _ (t : Timetable) (d : Result ℕ Refused) (area : List ℕ) where
  -- A grant as it is returned, once its record is written;
  pub told_granted : (tries : ℕ) → d ≡ Ok tries → (bytes : ℕ) (after : List ℕ)
      → (bytes ≡ length (answer_record t.length t.owners t.entries)) × (after ≡ sets area 0 (answer_record t.length t.owners t.entries))
      → ◌≡◌ {A = Outcome} (record { number = ACCEPTED; place = 0; tries = tries; written = bytes; timetable = t }) (outcome_of (told t d))
      × (after ≡ written (told t d) area)
  told_granted tries e bytes after w =
      let a : Answer = told t (Ok tries) in
      let r = sym (record_accepted a refl) in
      let k : bytes ≡ length (record_of a) = w.0 ∙ ap length r in (
        (λ j. record { number = ACCEPTED; place = 0; tries = tries; written = k j; timetable = t }) ∙ sym (ap (λ x. outcome_of (told t x)) e),
        w.1 ∙ ap (sets area 0) r ∙ sym (ap (λ x. written (told t x) area) e),
      )

  -- a refusal has none.
  pub told_refused : (r : Refused) → d ≡ Err r → r.refusal.number ≢ ACCEPTED
      → ◌≡◌ {A = Outcome}
      (record { number = r.refusal.number; place = r.refusal.place; tries = r.tries; written = 0; timetable = t })
      (outcome_of (told t d))
      × (area ≡ written (told t d) area)
  told_refused r e n =
      let a : Answer = told t (Err r) in
      let k = sym (record_none a n) in (
        (λ j. record { number = r.refusal.number; place = r.refusal.place; tries = r.tries; written = length (k j); timetable = t }) ∙ sym (ap (λ x. outcome_of (told t x)) e),
        ap (sets area 0) k ∙ sym (ap (λ x. written (told t x) area) e),
      )

-- ---- a refusal before the search

module _ (t : Timetable) (s : List ℕ) (area : ℕ) where
  -- What is refused, by the refusal from which it is made.
  pub told_early : (d : Result ℕ Refused) (x : Refusal) → IsErrAnd d (λ y. y ≡ record { refusal = x; tries = 0 })
      → answer t s area ≡ refuse t x → 0 < x.number → (told t d ≡ answer t s area) × IfErr d (λ r. r.refusal.number ≢ ACCEPTED)
  told_early (Ok n) x h e pos = absurd h
  told_early (Err y) x h e pos = (
    ap (λ (z : Refused). told t (Err z)) h ∙ sym e,
    λ z. omega (arith, pos, z, ap (λ (r : Refused). r.refusal.number) h),
  )

-- ---- the end of a search

module _ (t : Timetable) (r : Request) (end : Ending) (tries n : ℕ) (plan : Plan) where
  -- A length that was found;
  pub told_found : end ≡ Found n → (starts : List ℕ) → starts ≡ starts_of t r → (new : Timetable) → new ≡ new_timetable r starts n plan
      → told new (Ok tries) ≡ answer_of t r (record { ending = end; tries = tries; plan = plan })
  unfolding answer_of number_of place_of timetable_of
  told_found e starts s new h =
      ap (λ (x : Timetable). told x (Ok tries)) (h ∙ ap (λ (x : List ℕ). new_timetable r x n plan) s)
      ∙ sym (ap (λ (x : Ending). answer_of t r (record { ending = x; tries = tries; plan = plan })) e)

  module _ (x : Refused) where
    -- a slot that was missed;
    pub told_missed : end ≡ Missed n → (x.refusal.number ≡ SLOT_MISSED) × (x.refusal.place ≡ n) × (x.tries ≡ tries)
        → told t (Err x) ≡ answer_of t r (record { ending = end; tries = tries; plan = plan })
    unfolding answer_of number_of place_of timetable_of
    told_missed e h =
        (λ j. record { number = h.0 j; place = h.1 j; tries = h.2 j; timetable = t })
        ∙ sym (ap (λ (x : Ending). answer_of t r (record { ending = x; tries = tries; plan = plan })) e)

    -- or every length searched in vain.
    pub told_exhausted : end ≡ Exhausted n → (x.refusal.number ≡ LENGTHS_EXHAUSTED) × (x.refusal.place ≡ n) × (x.tries ≡ tries)
        → told t (Err x) ≡ answer_of t r (record { ending = end; tries = tries; plan = plan })
    unfolding answer_of number_of place_of timetable_of
    told_exhausted e h =
        (λ j. record { number = h.0 j; place = h.1 j; tries = h.2 j; timetable = t })
        ∙ sym (ap (λ (x : Ending). answer_of t r (record { ending = x; tries = tries; plan = plan })) e)
