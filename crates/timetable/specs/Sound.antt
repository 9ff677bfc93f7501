-- docs/RULES.md 3.5 to 3.14: what sound means, clause by clause. It shares nothing with the placement search.
use Rattle.std.specs.Prelude.{eqb, leb, ltb, get_or, Bool, cond, not, ◌&&◌, ◌||◌, List, ◌≡◌, ℕ, suc, ◌+◌, ◌*◌, ◌^◌, ◌≤◌}
use Rattle.slots.specs.Below.{every}
use Rattle.slots.specs.Limits.{IDS, LONGEST, WHOLE, LARGEST_BOUND, LARGEST_K, LAST_SLOT}
use Rattle.slots.specs.Shortfall.{keeps}
use Rattle.timetable.specs.declared.Entry.{Entry}
use Rattle.timetable.specs.declared.Timetable.{Timetable}
use Rattle.timetable.specs.Timetable.{entry_of, start_of, is_listed, weight, cyclic, transition_shortfall}

-- Request slot at most 2^48 - 1.
unfoldable pub request_in_range : Timetable → Bool
request_in_range t = leb t.request.0 LAST_SLOT

-- Length at most 64.
unfoldable pub length_in_range : Timetable → Bool
length_in_range t = leb t.length LONGEST

-- Base as stated: request slot + length.
unfoldable pub base_as_stated : Timetable → Bool
base_as_stated t = eqb t.base.0 (t.request.0 + t.length)

-- Owners listed ids.
unfoldable pub owners_listed : Timetable → Bool
owners_listed t = every t.length (λ n. is_listed (entry_of t.entries (get_or t.owners n 0)))

-- A period is 2^k, k from 0 to 8.
unfoldable pub is_period : ℕ → Bool
is_period p = not (every (suc LARGEST_K) (λ k. not (eqb p (2 ^ k))))

-- The same as a statement: the k of a period.
pub record Period (p : ℕ) : Type 0 where
  pub k : ℕ
  pub small : k ≤ LARGEST_K
  pub power : p ≡ 2 ^ k

-- A bound R is from 1 to 8.
unfoldable pub is_bound : ℕ → Bool
is_bound r = ltb 0 r && leb r LARGEST_BOUND

-- A listed entry in range, offset below period, shortfall + offset x weight below 256 R.
unfoldable pub entry_in_range : Entry → Bool
entry_in_range e =
    is_period e.period && is_bound e.bound && ltb e.offset e.period && keeps e.bound (e.shortfall + e.offset * weight e)

-- An unlisted entry all zero but for a shortfall below 2,048: below 256 R for the largest R.
unfoldable pub entry_absent : Entry → Bool
entry_absent e = eqb e.offset 0 && eqb e.bound 0 && keeps LARGEST_BOUND e.shortfall

-- Listed entries in range, unlisted ones as above.
unfoldable pub entries_in_range : List Entry → Bool
entries_in_range es = every IDS (λ i. cond (is_listed (entry_of es i)) (entry_in_range (entry_of es i)) (entry_absent (entry_of es i)))

-- Two entries share no cyclic slot. (Every period divides 256, so 256 slots tell.)
unfoldable pub share_none : Entry → Entry → Bool
share_none e f = every WHOLE (λ n. not (cyclic e n && cyclic f n))

-- No two partitions share a cyclic slot.
unfoldable pub none_shared : List Entry → Bool
none_shared es =
    every IDS (λ i. every i (λ j. not (is_listed (entry_of es i) && is_listed (entry_of es j)) || share_none (entry_of es i) (entry_of es j)))

-- Unused owners all zero.
unfoldable pub unused_owners_zero : Timetable → Bool
unused_owners_zero t = every LONGEST (λ n. ltb n t.length || eqb (get_or t.owners n 0) 0)

-- The start of a listed entry below 256 R, that of an unlisted one its shortfall at the base.
unfoldable pub start_in_range : Entry → ℕ → Bool
start_in_range e start = cond (is_listed e) (keeps e.bound start) (eqb start e.shortfall)

-- Every start so.
unfoldable pub starts_in_range : Timetable → Bool
starts_in_range t = every IDS (λ i. start_in_range (entry_of t.entries i) (start_of t i))

-- Walking the transition from the starts gives the shortfalls at the base.
unfoldable pub walk_arrives : Timetable → Bool
walk_arrives t =
    every IDS
    (λ i. eqb (transition_shortfall t.owners i (weight (entry_of t.entries i)) (start_of t i) t.length) (entry_of t.entries i).shortfall)

-- Sound means all of these.
unfoldable pub is_sound : Timetable → Bool
is_sound t =
    request_in_range t && length_in_range t && base_as_stated t && owners_listed t && entries_in_range t.entries && none_shared t.entries
    && unused_owners_zero t && starts_in_range t && walk_arrives t
