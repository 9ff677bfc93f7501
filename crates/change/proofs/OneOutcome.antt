-- The contract of each public function leaves one possible outcome: any two outcomes that satisfy it are equal. Assumes nothing.
use mathlib.Core.List.{List}
use mathlib.Core.Path.{◌≡◌, sym, ◌∙◌}
use Prim.Native.Nat.{ℕ}
use Rattle.change.specs.Change.{answer, outcome, area_after}
use Rattle.change.specs.declared.Answer.{Answer}
use Rattle.change.specs.declared.Outcome.{Outcome}
use Rattle.change.specs.declared.OwnerAnswer.{OwnerAnswer}
use Rattle.change.specs.declared.StandingAnswer.{StandingAnswer}
use Rattle.change.specs.Queries.{owner_query, standing_query}
use Rattle.slots.specs.declared.CoreSlot.{CoreSlot}
use Rattle.timetable.specs.declared.Timetable.{Timetable}
use Rattle.timetable.specs.Timetable.{empty_timetable}

-- A contract that says what is returned, by one definition, leaves one result. (Every public function of the crates below has such a contract, or one that
-- says so of its result and of the slice lent to it.)
pub one_outcome : {A : Type 0} (said x y : A) → x ≡ said → y ≡ said → x ≡ y
one_outcome said x y p q = p ∙ sym q

-- `change`: what it returns, and the answer area afterwards.
pub change_unique : (t : Timetable) (s area : List ℕ) (r r' : Outcome) (out out' : List ℕ)
    → (r ≡ outcome t s area) × (out ≡ area_after t s area) → (r' ≡ outcome t s area) × (out' ≡ area_after t s area) → (r ≡ r') × (out ≡ out')
change_unique t s area r r' out out' p q = (one_outcome _ r r' p.0 q.0, one_outcome _ out out' p.1 q.1)

-- `decide`.
pub decide_unique : (t : Timetable) (s : List ℕ) (area : ℕ) (r r' : Answer) → r ≡ answer t s area → r' ≡ answer t s area → r ≡ r'
decide_unique t s area r r' p q = one_outcome _ r r' p q

-- `owner_query`.
pub owner_unique : (t : Timetable) (slot : CoreSlot) (r r' : OwnerAnswer) → r ≡ owner_query t slot → r' ≡ owner_query t slot → r ≡ r'
owner_unique t slot r r' p q = one_outcome _ r r' p q

-- `standing_query`.
pub standing_unique : (t : Timetable) (id : ℕ) (slot : CoreSlot) (r r' : StandingAnswer)
    → r ≡ standing_query t id slot → r' ≡ standing_query t id slot → r ≡ r'
standing_unique t id slot r r' p q = one_outcome _ r r' p q

-- `Timetable::empty`.
pub empty_unique : (r r' : Timetable) → r ≡ empty_timetable → r' ≡ empty_timetable → r ≡ r'
empty_unique r r' p q = one_outcome _ r r' p q
