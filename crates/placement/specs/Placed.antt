-- Helpers of the contracts in src/: the cyclic placement as the code answers it, and what the code's parts say: a demand as one number, the taken slots as a table.
use Rattle.std.specs.Prelude.{Option as Answer, Some, None, ltb, get_or, length, replicate, set, take, true, false, List, [], ◌∷◌, map, ◌≢◌, ◌≡◌, ℕ, zero, suc, ◌+◌, ◌*◌, ◌/◌, ◌%◌, ◌≤◌, ◌<◌}
use Rattle.std.proofs.Math.Option.{Option, none, some}
use Rattle.placement.specs.Placement.{Demand, Place, is_taken, ordered, place_from}
use Rattle.slots.specs.Limits.{IDS, WHOLE}
use Rattle.timetable.specs.declared.Entry.{Entry}
use Rattle.timetable.specs.Marks.{Marks, OfCycle, is_marked}
use Rattle.timetable.specs.Sound.{entries_in_range}
use Rattle.timetable.specs.Timetable.{each, entry_of, with_offset}

-- The offsets of the places, by id.
unfoldable pub offsets_of : List Place → List ℕ
offsets_of [] = replicate IDS 0
offsets_of (p ∷ ps) = set (offsets_of ps) p.id p.offset

-- The answer of a placement, or of none.
unfoldable pub answer_of : Option (List Place) → Answer (List ℕ)
answer_of none = None
answer_of (some ps) = Some (offsets_of ps)

-- The placement of the demands, in this order: the offsets of the places, or none.
abbrev pub placed_of : List Demand → Answer (List ℕ)
placed_of ds = answer_of (place_from [] ds)

-- The demand of a rank. A larger rank is a larger period, then a larger last offset, then a larger id.
abbrev pub demand_at : ℕ → Demand
demand_at rank = record { id = rank % IDS; period = rank / (IDS * WHOLE); last = rank / IDS % WHOLE }

-- The demands of the first n ranks.
abbrev pub demands_of : List ℕ → ℕ → List Demand
demands_of ranks n = map demand_at (take n ranks)

-- The entries of which none is placed yet: every offset 0.
abbrev pub unplaced : List Entry → List Entry
unplaced es = each (λ _ e. with_offset 0 e) IDS es

-- A rank put in its place among those in order.
unfoldable pub insert_rank : ℕ → List ℕ → List ℕ
insert_rank r [] = r ∷ []
insert_rank r (s ∷ ss) = elim (ltb r s) [ true ↦ r ∷ s ∷ ss | false ↦ s ∷ insert_rank r ss ]

-- No rank is above a later one.
abbrev pub Ascending : List ℕ → Type 0
Ascending rs = (i j : ℕ) → i ≤ j → j < length rs → get_or rs i 0 ≤ get_or rs j 0

-- The first count of the ranks are those of all the demands, in order.
pub record Ranked (es : List Entry) (ranks : List ℕ) (count : ℕ) : Type 0 where
  pub size : length ranks ≡ IDS
  pub demands : demands_of ranks count ≡ ordered es IDS

-- The same of some entries in range, whichever they are.
pub record InOrderOfSome (ranks : List ℕ) (count : ℕ) : Type 0 where
  pub entries : List Entry
  pub ranged : entries_in_range entries ≡ true
  pub ranked : Ranked entries ranks count

-- The ids of the first count of the ranks are those that the entries list, each once.
pub record Listing (es : List Entry) (ranks : List ℕ) (count : ℕ) : Type 0 where
  pub listed : (j : ℕ) → j < count → 0 < (entry_of es (get_or ranks j 0 % IDS)).period
  pub once : (j k : ℕ) → j < k → k < count → get_or ranks j 0 % IDS ≢ get_or ranks k 0 % IDS
  pub every : (i : ℕ) → i < IDS → 0 < (entry_of es i).period → (j : ℕ) × (j < count) × (get_or ranks j 0 % IDS ≡ i)

-- The table says of each slot of the cycle what the places say: whether it is taken.
pub record Says (table : Marks) (ps : List Place) : Type 0 where
  pub size : OfCycle table
  pub slot : (n : ℕ) → n < WHOLE → is_marked table n ≡ is_taken ps n

-- The largest slot below n that is free, or none.
unfoldable pub last_clear : List Place → ℕ → Answer ℕ
last_clear ps zero = None
last_clear ps (suc n) = elim (is_taken ps n) [ true ↦ last_clear ps n | false ↦ Some n ]

-- The answer is the largest offset up to the last offset that is free beside the places that the table says.
abbrev pub Finds : Marks → ℕ → Answer ℕ → Type 0
Finds table last found = (ps : List Place) → Says table ps → found ≡ last_clear ps (last + 1)

-- One table says what the other says and besides that the slots of an offset are taken, whoever takes them.
abbrev pub TakenToo : Marks → ℕ → ℕ → Marks → Type 0
TakenToo before period offset after =
    (ps : List Place) → Says before ps → (i : ℕ) → Says after (record { id = i; period = period; offset = offset } ∷ ps)
