-- docs/RULES.md 11: the lettered bench cases, as one table of what is asked and what the definitions give.
use Rattle.std.specs.Prelude.{eqb, ltb, leb, replicate, cond, ◌||◌, ◌&&◌, List, [], ◌∷◌, ◌++◌, ◌≡◌, ℕ, zero, suc, ◌+◌}
use Rattle.std.proofs.Math.Option.{none, some}
use Rattle.change.specs.Change.{answer, record_of}
use Rattle.change.specs.declared.Answer.{Answer}
use Rattle.change.specs.Queries.{standing_query}
use Rattle.change.specs.Stages.{start_entries}
use Rattle.frames.specs.Program.{program_lines}
use Rattle.records.specs.Answer.{field}
use Rattle.records.specs.Request.{read_request, requested}
use Rattle.slots.specs.Clocks.{core_slot}
use Rattle.slots.specs.Limits.{AREA, LONGEST}
use Rattle.slots.specs.Shortfall.{room_of, last_offset_of}
use Rattle.slots.specs.Slots.{Run, shortfall}
use Rattle.timetable.specs.declared.Entry.{Entry}
use Rattle.timetable.specs.declared.Timetable.{Timetable}
use Rattle.timetable.specs.Timetable.{absent_entry, no_entry, empty_timetable, entry_of}

-- What a case asks.
pub data Asked : Type 0 where
  -- the answer of a timetable to a request, with an area of 231 bytes
  change : Timetable → List ℕ → Asked
  -- the shortfalls of ids 0, 1 and 2 at the request slot
  starts : Timetable → List ℕ → Asked
  -- the number, the shortfall and the slices that the standing query tells of an id at a slot
  standing : Timetable → ℕ → ℕ → Asked
  -- the shortfall of id 0 at a slot of a run
  walk : Run → ℕ → Asked
  -- the room and the last offset of a period, a bound and a shortfall
  rooms : ℕ → ℕ → ℕ → Asked
  -- what the program prints for its input
  prints : List ℕ → Asked

-- What the definitions give for it.
pub data Given : Type 0 where
  -- an answer and its record
  answered : Answer → List ℕ → Given
  figures : List ℕ → Given

-- A case: what is asked, and what the rules say comes of it.
pub record Case : Type 0 where
  pub asked : Asked
  pub says : Given

-- Helper of given: an answer with its record.
unfoldable pub told : Answer → Given
told a = answered a (record_of a)

-- What the definitions give for what a case asks.
unfoldable pub given : Asked → Given
given (change t s) = told (answer t s AREA)
given (starts t s) =
    let r = requested (read_request s) in
    let es = start_entries t r.slot r.asks in
    figures ((entry_of es 0).shortfall ∷ (entry_of es 1).shortfall ∷ (entry_of es 2).shortfall ∷ [])
given (standing t i x) =
    let a = standing_query t i (core_slot x) in
    figures (a.number ∷ a.shortfall ∷ a.slices.0 ∷ [])
given (walk run t) = figures (shortfall run 0 t ∷ [])
given (rooms period bound s) = figures (room_of period bound s ∷ last_offset_of period bound s ∷ [])
given (prints input) = figures (program_lines input)

-- ---- the parts of requests and timetables

-- Helper of cases: the fields of a request slot below 256 and of T.
unfoldable pub head : ℕ → ℕ → List ℕ
head slot limit = field 1 (0 ∷ 0 ∷ 0 ∷ 0 ∷ 0 ∷ 0 ∷ 0 ∷ slot ∷ []) ++ field 2 (limit ∷ [])

-- Helper of cases: the field that lists an id with k and R.
unfoldable pub lists : ℕ → ℕ → ℕ → List ℕ
lists id k bound = field 3 (id ∷ k ∷ bound ∷ [])

-- Helper of cases: the short field that lists an id with k.
unfoldable pub short : ℕ → ℕ → List ℕ
short id k = field 3 (id ∷ k ∷ [])

-- Helper of cases: a frame.
unfoldable pub frame : List ℕ → List ℕ
frame s = field 0x40 s

-- Helper of cases: a listed entry.
abbrev pub entry : ℕ → ℕ → ℕ → ℕ → Entry
entry period offset bound s = record { period = period; offset = offset; bound = bound; shortfall = s }

-- Helper of cases: ids 0 and 1 with k 2, R 1.
unfoldable pub pair : List ℕ
pair = lists 0 2 1 ++ lists 1 2 1

-- Case A's request.
unfoldable pub request_a : List ℕ
request_a = head 0 0 ++ pair

-- B's listing, with a slot and a T.
unfoldable pub request_b : ℕ → ℕ → List ℕ
request_b slot limit = head slot limit ++ pair ++ lists 2 1 2

-- E's listing, with a slot and a T: D's too.
unfoldable pub request_e : ℕ → ℕ → List ℕ
request_e slot limit = head slot limit ++ pair ++ lists 2 1 1

-- B's listing without id 2, with a slot and T 0.
unfoldable pub request_without : ℕ → List ℕ
request_without slot = head slot 0 ++ pair

-- B's listing with a short field for id 2, with a slot and a T.
unfoldable pub request_short : ℕ → ℕ → List ℕ
request_short slot limit = head slot limit ++ pair ++ short 2 1

-- Helper of cases: a timetable with one transition slot at most, by the entries and the starts of the first ids.
unfoldable pub table : ℕ → ℕ → ℕ → List Entry → List ℕ → ℕ → Timetable
table slot size owner es ss unlisted = record {
  request = core_slot slot;
  length = size;
  owners = owner ∷ replicate 63 0;
  base = core_slot (slot + size);
  entries = es ++ replicate unlisted no_entry;
  starts = ss ++ replicate unlisted 0;
}

-- A's timetable: offsets 3 and 2.
unfoldable pub after_a : Timetable
after_a = table 0 0 0 (entry 4 3 1 0 ∷ entry 4 2 1 0 ∷ []) (0 ∷ 0 ∷ []) 30

-- B's: slot 6 goes to id 1, base 7, offsets 0, 2, 1; the starts are 128, 192, 0.
unfoldable pub after_b : Timetable
after_b = table 6 1 1 (entry 4 0 1 192 ∷ entry 4 2 1 0 ∷ entry 2 1 2 128 ∷ []) (128 ∷ 192 ∷ 0 ∷ []) 29

-- B's, with id 2 left out at slot 7, at a shortfall of 128.
unfoldable pub after_leaving : Timetable
after_leaving = table 7 0 0 (entry 4 0 1 192 ∷ entry 4 3 1 0 ∷ absent_entry 128 ∷ []) (192 ∷ 0 ∷ 128 ∷ []) 29

-- B's, with id 2 left out at slot 8, at a shortfall of 256.
unfoldable pub after_out : Timetable
after_out = table 8 0 0 (entry 4 3 1 0 ∷ entry 4 2 1 64 ∷ absent_entry 256 ∷ []) (0 ∷ 64 ∷ 256 ∷ []) 29

-- The empty timetable, but with a debt of id 2, at the request slot and at the base.
unfoldable pub with_debt : ℕ → ℕ → Timetable
with_debt start s = table 0 0 0 (no_entry ∷ no_entry ∷ absent_entry s ∷ []) (0 ∷ 0 ∷ start ∷ []) 29

-- Helper of cases: an acceptance: its tries, timetable and record.
unfoldable pub accepted : ℕ → Timetable → List ℕ → Given
accepted tries t bytes = answered (record { number = 0; place = 0; tries = tries; timetable = t }) bytes

-- Helper of cases: a refusal: its number, place and tries, and the timetable as given.
unfoldable pub refused : ℕ → ℕ → ℕ → Timetable → Given
refused number place tries t = answered (record { number = number; place = place; tries = tries; timetable = t }) []

-- Helper of cases: what is asked, with what the rules say.
abbrev pub case : Asked → Given → Case
case asked says = record { asked = asked; says = says }

-- G's run: weight 64 in slots 0 to 3, then 256; own slots 0, 4, 5, 6.
unfoldable pub run_g : Run
run_g t = record {
  owner = cond (eqb t 0 || (leb 4 t && leb t 6)) (some 0) none;
  weight = λ i. cond (ltb t 4) 64 256;
  bound = λ i. 2;
}

-- What E gets by its T: 11 at T 0, 1 and 2, place T and tries T + 1; 9 at place 2 with 3 tries from T 3 on.
unfoldable pub given_e : ℕ → Given
given_e zero = refused 11 0 1 after_b
given_e (suc zero) = refused 11 1 2 after_b
given_e (suc (suc zero)) = refused 11 2 3 after_b
given_e (suc (suc (suc limit))) = refused 9 2 3 after_b

-- E for the Ts below n.
unfoldable pub cases_e : ℕ → List Case
cases_e zero = []
cases_e (suc limit) = case (change after_b (request_e 9 limit)) (given_e limit) ∷ cases_e limit

-- Each case of a list holds: the definitions give what the rules say.
abbrev pub Hold : List Case → Type 0
Hold [] = Unit {0}
Hold (c ∷ cs) = (given c.asked ≡ c.says) × Hold cs

-- ---- the table

-- Cases A to J, standing during a change, the short field, a debt across an absence, and the program's lines for A and B.
unfoldable pub cases : List Case
cases =
    -- A: offsets 3 and 2
    case (change empty_timetable request_a)
    (accepted 1 after_a (0x10 ∷ 0 ∷ 1 ∷ 0 ∷ 0x11 ∷ 0 ∷ 0 ∷ 0x12 ∷ 0 ∷ 2 ∷ 0 ∷ 3 ∷ 0x12 ∷ 0 ∷ 2 ∷ 1 ∷ 2 ∷ []))
    -- B: shortfalls 128, 192, 0; length 0 is passed over; the answer's bytes
    ∷ case (starts after_a (request_b 6 1)) (figures (128 ∷ 192 ∷ 0 ∷ []))
    ∷ case (change after_a (request_b 6 1))
    (accepted 2 after_b
    (0x10 ∷ 0 ∷ 1 ∷ 1 ∷ 0x11 ∷ 0 ∷ 1 ∷ 1 ∷ 0x12 ∷ 0 ∷ 2 ∷ 0 ∷ 0 ∷ 0x12 ∷ 0 ∷ 2 ∷ 1 ∷ 2 ∷ 0x12 ∷ 0 ∷ 2 ∷ 2 ∷ 1 ∷ []))
    -- standing during B's change: slot 6 is id 1's; from slot 7 on id 1 keeps that slice
    ∷ case (standing after_b 0 5) (figures (6 ∷ 0 ∷ 0 ∷ []))
    ∷ case (standing after_b 0 6) (figures (0 ∷ 128 ∷ 0 ∷ []))
    ∷ case (standing after_b 1 6) (figures (0 ∷ 192 ∷ 0 ∷ []))
    ∷ case (standing after_b 2 6) (figures (0 ∷ 0 ∷ 0 ∷ []))
    ∷ case (standing after_b 0 7) (figures (0 ∷ 192 ∷ 0 ∷ []))
    ∷ case (standing after_b 1 7) (figures (0 ∷ 0 ∷ 1 ∷ []))
    ∷ case (standing after_b 2 7) (figures (0 ∷ 128 ∷ 0 ∷ []))
    ∷ case (standing after_b 0 8) (figures (0 ∷ 0 ∷ 1 ∷ []))
    ∷ case (standing after_b 1 8) (figures (0 ∷ 64 ∷ 1 ∷ []))
    -- C: B with T 0
    ∷ case (change after_a (request_b 6 0)) (refused 11 0 1 after_a)
    -- D: the shortfall of id 2 is 256
    ∷ case (starts after_b (request_e 8 1)) (figures (0 ∷ 64 ∷ 256 ∷ []))
    ∷ case (change after_b (request_e 8 1)) (refused 8 2 0 after_b)
    -- D with a short field for id 2, whose R is 2 as before
    ∷ case (change after_b (request_short 8 1))
    (accepted 1 (table 8 0 0 (entry 4 0 1 0 ∷ entry 4 2 1 64 ∷ entry 2 1 2 256 ∷ []) (0 ∷ 64 ∷ 256 ∷ []) 29)
    (0x10 ∷ 0 ∷ 1 ∷ 0 ∷ 0x11 ∷ 0 ∷ 0 ∷ 0x12 ∷ 0 ∷ 2 ∷ 0 ∷ 0 ∷ 0x12 ∷ 0 ∷ 2 ∷ 1 ∷ 2 ∷ 0x12 ∷ 0 ∷ 2 ∷ 2 ∷ 1 ∷ []))
    -- id 2 left out after B at slot 7, and asked for again at slot 8 with a short field: R 1
    ∷ case (change after_b (request_without 7))
    (accepted 1 after_leaving (0x10 ∷ 0 ∷ 1 ∷ 0 ∷ 0x11 ∷ 0 ∷ 0 ∷ 0x12 ∷ 0 ∷ 2 ∷ 0 ∷ 0 ∷ 0x12 ∷ 0 ∷ 2 ∷ 1 ∷ 3 ∷ []))
    ∷ case (change after_leaving (request_short 8 0))
    (accepted 1 (table 8 0 0 (entry 4 3 1 0 ∷ entry 4 1 1 64 ∷ entry 2 0 1 128 ∷ []) (0 ∷ 64 ∷ 128 ∷ []) 29)
    (0x10 ∷ 0 ∷ 1 ∷ 0 ∷ 0x11 ∷ 0 ∷ 0 ∷ 0x12 ∷ 0 ∷ 2 ∷ 0 ∷ 3 ∷ 0x12 ∷ 0 ∷ 2 ∷ 1 ∷ 1 ∷ 0x12 ∷ 0 ∷ 2 ∷ 2 ∷ 0 ∷ []))
    -- id 2 left out after B at slot 8, with a debt of 256: the query tells nothing of it
    ∷ case (change after_b (request_without 8))
    (accepted 1 after_out (0x10 ∷ 0 ∷ 1 ∷ 0 ∷ 0x11 ∷ 0 ∷ 0 ∷ 0x12 ∷ 0 ∷ 2 ∷ 0 ∷ 3 ∷ 0x12 ∷ 0 ∷ 2 ∷ 1 ∷ 2 ∷ []))
    ∷ case (standing after_out 2 8) (figures (10 ∷ 0 ∷ 0 ∷ []))
    -- asked for again at slot 8: D is refused as without the absence, with a short field too; R 2 is granted, and the debt is as it was
    ∷ case (change after_out (request_e 8 0)) (refused 8 2 0 after_out)
    ∷ case (change after_out (request_short 8 0)) (refused 8 2 0 after_out)
    ∷ case (change after_out (request_b 8 0))
    (accepted 1 (table 8 0 0 (entry 4 0 1 0 ∷ entry 4 2 1 64 ∷ entry 2 1 2 256 ∷ []) (0 ∷ 64 ∷ 256 ∷ []) 29)
    (0x10 ∷ 0 ∷ 1 ∷ 0 ∷ 0x11 ∷ 0 ∷ 0 ∷ 0x12 ∷ 0 ∷ 2 ∷ 0 ∷ 0 ∷ 0x12 ∷ 0 ∷ 2 ∷ 1 ∷ 2 ∷ 0x12 ∷ 0 ∷ 2 ∷ 2 ∷ 1 ∷ []))
    -- and at slot 20
    ∷ case (change after_out (request_e 20 0)) (refused 8 2 0 after_out)
    -- a debt of 2,047 is sound, 2,048 is not, and nor are two that differ
    ∷ case (change (with_debt 2047 2047) (head 0 0)) (accepted 1 (with_debt 2047 2047) (0x10 ∷ 0 ∷ 1 ∷ 0 ∷ 0x11 ∷ 0 ∷ 0 ∷ []))
    ∷ case (change (with_debt 2048 2048) (head 0 0)) (refused 1 0 0 (with_debt 2048 2048))
    ∷ case (change (with_debt 2046 2047) (head 0 0)) (refused 1 0 0 (with_debt 2046 2047))
    -- F: slot 6 is too early, slot 7 is not
    ∷ case (change after_b (request_b 6 1)) (refused 6 0 0 after_b)
    ∷ case (change after_b (request_b 7 1))
    (accepted 1 (table 7 0 0 (entry 4 0 1 192 ∷ entry 4 2 1 0 ∷ entry 2 1 2 128 ∷ []) (192 ∷ 0 ∷ 128 ∷ []) 29)
    (0x10 ∷ 0 ∷ 1 ∷ 0 ∷ 0x11 ∷ 0 ∷ 0 ∷ 0x12 ∷ 0 ∷ 2 ∷ 0 ∷ 0 ∷ 0x12 ∷ 0 ∷ 2 ∷ 1 ∷ 2 ∷ 0x12 ∷ 0 ∷ 2 ∷ 2 ∷ 1 ∷ []))
    -- G: figure 7 of the 2021 paper
    ∷ case (walk run_g 8) (figures (448 ∷ []))
    -- H: period 4, R 1 at shortfalls 0, 128 and 192; period 2, R 2 at 0
    ∷ case (rooms 4 1 0) (figures (3 ∷ 3 ∷ []))
    ∷ case (rooms 4 1 128) (figures (1 ∷ 1 ∷ []))
    ∷ case (rooms 4 1 192) (figures (0 ∷ 0 ∷ []))
    ∷ case (rooms 2 2 0) (figures (3 ∷ 1 ∷ []))
    -- I: the empty listing
    ∷ case (change empty_timetable (head 0 0)) (accepted 1 empty_timetable (0x10 ∷ 0 ∷ 1 ∷ 0 ∷ 0x11 ∷ 0 ∷ 0 ∷ []))
    -- J: period 1 with R 1 alone, and with a later id of period 256 too
    ∷ case (change empty_timetable (head 0 0 ++ lists 5 0 1))
    (accepted 1 (table 0 0 0 (replicate 5 no_entry ++ (entry 1 0 1 0 ∷ [])) (replicate 6 0) 26) (0x10 ∷ 0 ∷ 1 ∷ 0 ∷ 0x11 ∷ 0 ∷ 0 ∷ 0x12 ∷ 0 ∷ 2 ∷ 5 ∷ 0 ∷ []))
    ∷ case (change empty_timetable (head 0 0 ++ lists 5 0 1 ++ lists 9 8 1)) (refused 7 9 0 empty_timetable)
    -- the program's lines for A and B
    ∷ case (prints (frame request_a ++ frame (request_b 6 1)))
    (figures (49 ∷ 32 ∷ 48 ∷ 32 ∷ 48 ∷ 32 ∷ 49 ∷ 32 ∷ 48 ∷ 10 ∷ 50 ∷ 32 ∷ 48 ∷ 32 ∷ 48 ∷ 32 ∷ 50 ∷ 32 ∷ 49 ∷ 10 ∷ []))
    -- E: every T from 0 to 64
    ∷ cases_e (suc LONGEST)
