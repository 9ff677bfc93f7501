-- docs/RULES.md 3.4: the run of slots that the accepted timetables make, the empty one first in force.
use Rattle.std.specs.Prelude.{leb, cond, List, [], ◌∷◌, ℕ}
use Rattle.slots.specs.Clocks.{core_slot}
use Rattle.slots.specs.Slots.{Run}
use Rattle.timetable.specs.declared.Timetable.{Timetable}
use Rattle.timetable.specs.Timetable.{empty_timetable, entry_of, weight, owner_at}

-- The timetables accepted so far, the last one first.
abbrev pub History : Type 0
History = List Timetable

-- The timetable that a request meets: the last accepted, or the empty one.
unfoldable pub present : History → Timetable
present [] = empty_timetable
present (t ∷ h) = t

-- The timetable in force in slot x: the last accepted of those with a request slot up to x.
unfoldable pub in_force : History → ℕ → Timetable
in_force [] x = empty_timetable
in_force (t ∷ h) x = cond (leb t.request.0 x) t (in_force h x)

-- The run: each slot belongs to the timetable in force in it. (In a slot in which an id is not listed its weight is 0.)
unfoldable pub run_of : History → Run
run_of h x = record {
  owner = owner_at (in_force h x) (core_slot x);
  weight = λ i. weight (entry_of (in_force h x).entries i);
  bound = λ i. (entry_of (in_force h x).entries i).bound;
}
