-- Each query gets what its numbers say, and nothing else: by cases, in their order, and no slot serves two. Assumes nothing.
use mathlib.Core.Bool.{Bool, true, false}
use mathlib.Core.Option.{Option, none, some}
use mathlib.Core.Path.{◌≡◌, refl, sym, ap, ◌∙◌, subst}
use native.Mathlib.Decide.{dec_lt}
use native.Mathlib.Omega.{arith}
use Prim.Native.Nat.{ℕ, ◌≤◌, ◌<◌}
use Rattle.change.proofs.QueryLaws.{owner_early, owner_high, owner_told, owner_unsound, standing_early, standing_high, standing_no_id, standing_told, standing_unlisted, standing_unsound}
use Rattle.change.specs.declared.OwnerAnswer.{OwnerAnswer}
use Rattle.change.specs.declared.StandingAnswer.{StandingAnswer}
use Rattle.change.specs.Queried as Queried
use Rattle.change.specs.Queried.{OwnerGiven, StandingGiven, owner_answer}
use Rattle.change.specs.Queries.{owner_query, standing, standing_query}
use Rattle.numbers.specs.Numbers.{ACCEPTED}
use Rattle.slots.proofs.Below.{first_none, first_some, none_first, some_first}
use Rattle.slots.specs.Below.{first}
use Rattle.slots.specs.declared.CoreSlot.{CoreSlot}
use Rattle.slots.specs.Limits.{IDS, LAST_SLOT}
use Rattle.timetable.proofs.Owner.{serves_one}
use Rattle.timetable.proofs.Sound.{sound_from}
use Rattle.timetable.specs.declared.Timetable.{Timetable}
use Rattle.timetable.specs.Owner.{owner_number}
use Rattle.timetable.specs.Sound.{is_sound}
use Rattle.timetable.specs.Timetable.{lists, owner_at, serves}

module _ (t : Timetable) (x : CoreSlot) where
  -- The owner of a slot that serves i.
  owner_is_lem : is_sound t ≡ true → (i : ℕ) → i < IDS → serves t x i ≡ true → owner_at t x ≡ some i
  unfolding owner_at
  owner_is_lem s i k h = some_first (serves t x) IDS i k h (λ j l. at j l (serves t x j) refl)
    where
      at : (j : ℕ) → j < i → (b : Bool) → serves t x j ≡ b → b ≡ false
      at j l true e = absurd (let z : i ≡ j = serves_one t (sound_from t s).apart x.0 i j k (omega arith) h e in omega arith)
      at j l false e = refl

  -- What a slot's owner tells.
  owner_tells : is_sound t ≡ true → x.0 ≤ LAST_SLOT → t.request.0 ≤ x.0 → (o : Option ℕ) → first IDS (serves t x) ≡ o
      → OwnerGiven t x (owner_answer ACCEPTED (owner_number o))
  unfolding owner_number
  owner_tells s h l none e = Queried.idle s h l (first_none (serves t x) IDS e)
  owner_tells s h l (some i) e = let w = first_some (serves t x) IDS i e in Queried.owned s h l i w.0 w.1

  pub owner_given : OwnerGiven t x (owner_query t x)
  unfolding owner_at
  owner_given = at (is_sound t) refl (dec_lt LAST_SLOT x.0) (dec_lt x.0 t.request.0)
    where
      at : (b : Bool) → is_sound t ≡ b → Dec (LAST_SLOT < x.0) → Dec (x.0 < t.request.0) → OwnerGiven t x (owner_query t x)
      at false s _ _ = subst (OwnerGiven t x) (sym (owner_unsound t x s)) (Queried.not_sound s)
      at true s (yes h) _ = subst (OwnerGiven t x) (sym (owner_high t x s h)) (Queried.high s h)
      at true s (no h) (yes e) = subst (OwnerGiven t x) (sym (owner_early t x s (omega arith) e)) (Queried.early s (omega arith) e)
      at true s (no h) (no e) =
          subst (OwnerGiven t x) (sym (owner_told t x s (omega arith) (omega arith))) (owner_tells s (omega arith) (omega arith) (first IDS (serves t x)) refl)

  pub owner_only : (r : OwnerAnswer) → OwnerGiven t x r → owner_query t x ≡ r
  unfolding owner_at owner_number
  owner_only r (Queried.not_sound s) = owner_unsound t x s
  owner_only r (Queried.high s h) = owner_high t x s h
  owner_only r (Queried.early s h e) = owner_early t x s h e
  owner_only r (Queried.owned s h l i k o) = owner_told t x s h l ∙ ap (λ (o : Option ℕ). owner_answer ACCEPTED (owner_number o)) (owner_is_lem s i k o)
  owner_only r (Queried.idle s h l o) = owner_told t x s h l ∙ ap (λ (o : Option ℕ). owner_answer ACCEPTED (owner_number o)) (none_first (serves t x) IDS o)

  module _ (i : ℕ) where
    pub standing_given : StandingGiven t i x (standing_query t i x)
    unfolding standing
    standing_given = at (is_sound t) refl (dec_lt i IDS) (dec_lt LAST_SLOT x.0) (dec_lt x.0 t.request.0) (lists t i) refl
      where
        at : (b : Bool) → is_sound t ≡ b → Dec (i < IDS) → Dec (LAST_SLOT < x.0) → Dec (x.0 < t.request.0) → (c : Bool) → lists t i ≡ c
            → StandingGiven t i x (standing_query t i x)
        at false s _ _ _ c l = subst (StandingGiven t i x) (sym (standing_unsound t x i s)) (Queried.not_sound s)
        at true s (no k) _ _ c l = subst (StandingGiven t i x) (sym (standing_no_id t x i s (omega arith))) (Queried.high_id s (omega arith))
        at true s (yes k) (yes h) _ c l = subst (StandingGiven t i x) (sym (standing_high t x i s k h)) (Queried.high_slot s k h)
        at true s (yes k) (no h) (yes e) c l =
            subst (StandingGiven t i x) (sym (standing_early t x i s k (omega arith) e)) (Queried.early s k (omega arith) e)
        at true s (yes k) (no h) (no e) false l =
            subst (StandingGiven t i x) (sym (standing_unlisted t x i s k (omega arith) (omega arith) l)) (Queried.unlisted s k (omega arith) (omega arith) l)
        at true s (yes k) (no h) (no e) true l =
            subst (StandingGiven t i x) (sym (standing_told t x i s k (omega arith) (omega arith) l)) (Queried.stands s k (omega arith) (omega arith) l)

    pub standing_only : (r : StandingAnswer) → StandingGiven t i x r → standing_query t i x ≡ r
    unfolding standing
    standing_only r (Queried.not_sound s) = standing_unsound t x i s
    standing_only r (Queried.high_id s k) = standing_no_id t x i s k
    standing_only r (Queried.high_slot s k h) = standing_high t x i s k h
    standing_only r (Queried.early s k h e) = standing_early t x i s k h e
    standing_only r (Queried.unlisted s k h e l) = standing_unlisted t x i s k h e l
    standing_only r (Queried.stands s k h e l) = standing_told t x i s k h e l
