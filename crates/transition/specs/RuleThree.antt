-- docs/RULES.md 4.3, rule 3, said of the owners themselves: whom each transition slot serves, "there" being walked slot by slot. No search.
use Rattle.std.specs.Prelude.{get_or, true, List, ◌≢◌, ◌≡◌, ℕ, ◌≤◌, ◌<◌}
use Rattle.placement.specs.Any.{Lists}
use Rattle.slots.specs.Limits.{IDS}
use Rattle.timetable.specs.declared.Entry.{Entry}
use Rattle.timetable.specs.Timetable.{each, entry_of, is_listed, room, transition_shortfall, weight, with_shortfall}

-- The entries n slots into a transition of these owners: each shortfall taken over the slots, one after the other, from the one at the request slot.
unfoldable pub walked_to : List Entry → List ℕ → ℕ → List Entry
walked_to start owners n = each (λ i e. with_shortfall (transition_shortfall owners i (weight e) e.shortfall n) e) IDS start

-- Of the ids below n, u is the listed one with the least room, ties to the lower id.
pub record MostUrgent (es : List Entry) (n u : ℕ) : Type 0 where
  pub below : u < n
  pub listed : is_listed (entry_of es u) ≡ true
  pub least : (i : ℕ) → i < n → is_listed (entry_of es i) ≡ true → room (entry_of es u) ≤ room (entry_of es i)
  pub ties : (i : ℕ) → i < u → is_listed (entry_of es i) ≡ true → room (entry_of es u) < room (entry_of es i)

-- One more slot goes to u: it has the least room, and no other listed partition has room 0 as well.
pub record GoesTo (es : List Entry) (u : ℕ) : Type 0 where
  pub urgent : MostUrgent es IDS u
  pub borne : (i : ℕ) → Lists es i → i ≢ u → 0 < room (entry_of es i)

-- Rule 3: each of the n transition slots goes to its owner, from the entries walked up to it.
abbrev pub ByRuleThree : List Entry → List ℕ → ℕ → Type 0
ByRuleThree start owners n = (k : ℕ) → k < n → GoesTo (walked_to start owners k) (get_or owners k 0)
