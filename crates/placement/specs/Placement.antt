-- docs/RULES.md 4.4, rule 4: the cyclic placement.
use Rattle.std.specs.Prelude.{eqb, ltb, set, Bool, true, false, cond, not, ◌&&◌, ◌||◌, List, [], ◌∷◌, ℕ, zero, suc, ◌+◌, ◌*◌, ◌/◌, ◌%◌}
use Rattle.std.proofs.Math.Option.{Option, none, some}
use Rattle.slots.specs.Below.{every}
use Rattle.slots.specs.Limits.{IDS, WHOLE}
use Rattle.timetable.specs.declared.Entry.{Entry}
use Rattle.timetable.specs.Timetable.{entry_of, is_listed, last_offset, with_offset}

-- What a listed partition asks for: offsets up to its last offset, at its period.
pub record Demand : Type 0 where
  pub id : ℕ
  pub period : ℕ
  pub last : ℕ

-- What a placed partition has: the slots offset + a multiple of its period, counted from the base.
pub record Place : Type 0 where
  pub id : ℕ
  pub period : ℕ
  pub offset : ℕ

-- Helper of ordered: the demand of id i.
unfoldable pub demand_of : List Entry → ℕ → Demand
demand_of es i = record { id = i; period = (entry_of es i).period; last = last_offset (entry_of es i) }

-- In order of period, then last offset, then id, smallest first.
unfoldable pub comes_before : Demand → Demand → Bool
comes_before d f =
    ltb d.period f.period
    || (eqb d.period f.period && (ltb d.last f.last || (eqb d.last f.last && ltb d.id f.id)))

-- Helper of ordered: a demand put in its place among those in order.
unfoldable pub insert : Demand → List Demand → List Demand
insert d [] = d ∷ []
insert d (f ∷ fs) = elim (comes_before d f) [ true ↦ d ∷ f ∷ fs | false ↦ f ∷ insert d fs ]

-- The demands of the listed ids below n, in order.
unfoldable pub ordered : List Entry → ℕ → List Demand
ordered es zero = []
ordered es (suc n) = elim (is_listed (entry_of es n)) [ true ↦ insert (demand_of es n) (ordered es n) | false ↦ ordered es n ]

-- Helper of all_free: whether the slot n slots after the base is taken by one of the places.
unfoldable pub is_taken : List Place → ℕ → Bool
is_taken [] n = false
is_taken (p ∷ ps) n = eqb (n % p.period) p.offset || is_taken ps n

-- The slots of an offset are all free. (Every period divides 256, so the 256 / period slots of one cycle tell.)
unfoldable pub all_free : List Place → ℕ → ℕ → Bool
all_free ps period offset = every (WHOLE / period) (λ m. not (is_taken ps (offset + m * period)))

-- The largest offset up to n whose slots are all free, or none.
unfoldable pub last_free : List Place → ℕ → ℕ → Option ℕ
last_free ps period zero = cond (all_free ps period zero) (some zero) none
last_free ps period (suc n) = elim (all_free ps period (suc n)) [ true ↦ some (suc n) | false ↦ last_free ps period n ]

-- Each demand in turn takes the largest free offset up to its last offset; if one has none, there is no placement.
unfoldable pub place_from : List Place → List Demand → Option (List Place)
place_from ps [] = some ps
place_from ps (d ∷ ds) =
    elim (last_free ps d.period d.last) [
      | none ↦ none
      | some o ↦ place_from (record { id = d.id; period = d.period; offset = o } ∷ ps) ds
    ]

-- The cyclic placement of the listed entries from their shortfalls, or none.
unfoldable pub placement : List Entry → Option (List Place)
placement es = place_from [] (ordered es IDS)

-- The entries with the offsets of their places.
unfoldable pub settle : List Entry → List Place → List Entry
settle es [] = es
settle es (p ∷ ps) = set (settle es ps) p.id (with_offset p.offset (entry_of es p.id))
