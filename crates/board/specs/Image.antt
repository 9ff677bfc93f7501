-- docs/RULES.md 10: a timetable as a C program keeps it, an image of 337 bytes, and what the functions in C tell and leave.
use Rattle.std.specs.Prelude.{eqb, drop, get_or, length, replicate, take, Bool, cond, List, [], ◌∷◌, ◌++◌, ◌≡◌, ℕ, ◌+◌, ◌*◌, ◌^◌, ◌<◌}
use Rattle.change.specs.Change.{answer, record_of, refuse, written}
use Rattle.change.specs.Controller.{Sent}
use Rattle.change.specs.declared.Answer.{Answer}
use Rattle.change.specs.declared.OwnerAnswer.{OwnerAnswer}
use Rattle.change.specs.declared.StandingAnswer.{StandingAnswer}
use Rattle.change.specs.Queries.{owner_query, refuse_owner, refuse_standing, standing_query}
use Rattle.numbers.specs.Numbers.{ACCEPTED, NOT_SOUND, refusal}
use Rattle.records.specs.Answer.{rising}
use Rattle.records.specs.Request.{number_at}
use Rattle.records.specs.Written.{number_bytes}
use Rattle.slots.specs.Clocks.{core_slot}
use Rattle.slots.specs.Limits.{IDS, LONGEST}
use Rattle.timetable.specs.declared.Entry.{Entry}
use Rattle.timetable.specs.declared.Timetable.{Timetable}
use Rattle.timetable.specs.Timetable.{each, empty_timetable, entry_of, no_entry, start_of}

-- An image has this many bytes.
abbrev pub IMAGE : ℕ
IMAGE = 337

-- The transition's length stands here, behind the request slot.
abbrev pub LENGTH_AT : ℕ
LENGTH_AT = 8

-- The owners stand from here on.
abbrev pub OWNERS_AT : ℕ
OWNERS_AT = 9

-- The base stands here.
abbrev pub BASE_AT : ℕ
BASE_AT = 73

-- The entries stand from here on.
abbrev pub ENTRIES_AT : ℕ
ENTRIES_AT = 81

-- An entry has this many bytes.
abbrev pub ENTRY : ℕ
ENTRY = 6

-- The starts stand from here on.
abbrev pub STARTS_AT : ℕ
STARTS_AT = 273

-- A start has this many bytes.
abbrev pub START : ℕ
START = 2

-- Whether bytes are an image, by their number.
abbrev pub is_image : List ℕ → Bool
is_image image = eqb (length image) IMAGE

-- The entry that the six bytes from a place hold: period (2), offset, bound, shortfall (2).
abbrev pub entry_at : List ℕ → ℕ → Entry
entry_at image at = record {
  period = number_at image at 2;
  offset = get_or image (at + 2) 0;
  bound = get_or image (at + 3) 0;
  shortfall = number_at image (at + 4) 2;
}

-- The entries of the ids below n, one behind the other; the others not listed.
abbrev pub entries_at : List ℕ → ℕ → List Entry
entries_at image n = each (λ i e. entry_at image (ENTRIES_AT + ENTRY * i)) n (replicate IDS no_entry)

-- The start that the two bytes from a place hold.
abbrev pub start_at : List ℕ → ℕ → ℕ
start_at image at = number_at image at START

-- The starts of the ids below n, one behind the other.
abbrev pub starts_at : List ℕ → ℕ → List ℕ
starts_at image n = rising (λ i. start_at image (STARTS_AT + START * i) ∷ []) n

-- The timetable that an image holds: request slot (8), length, owners (64), base (8), entries, starts.
unfoldable pub timetable_at : List ℕ → Timetable
timetable_at image = record {
  request = core_slot (number_at image 0 8);
  length = get_or image LENGTH_AT 0;
  owners = take LONGEST (drop OWNERS_AT image);
  base = core_slot (number_at image BASE_AT 8);
  entries = entries_at image IDS;
  starts = starts_at image IDS;
}

-- The six bytes of an entry.
unfoldable pub entry_bytes : Entry → List ℕ
entry_bytes e = number_bytes e.period 2 ++ (e.offset ∷ e.bound ∷ number_bytes e.shortfall 2)

-- The bytes of the entries of the ids below n.
abbrev pub entries_bytes : List Entry → ℕ → List ℕ
entries_bytes entries n = rising (λ i. entry_bytes (entry_of entries i)) n

-- The bytes of the starts of the ids below n.
abbrev pub starts_bytes : List ℕ → ℕ → List ℕ
starts_bytes starts n = rising (λ i. number_bytes (get_or starts i 0) START) n

-- The image of a timetable.
unfoldable pub image_of : Timetable → List ℕ
image_of t =
    number_bytes t.request.0 8 ++ (t.length ∷ []) ++ t.owners ++ number_bytes t.base.0 8 ++ entries_bytes t.entries IDS ++ starts_bytes t.starts IDS

-- Making the image of the empty timetable: bytes that are no image are refused as not sound.
unfoldable pub empty_number : List ℕ → ℕ
empty_number image = cond (is_image image) ACCEPTED NOT_SOUND

-- The image after that.
unfoldable pub empty_image : List ℕ → List ℕ
empty_image image = cond (is_image image) (image_of empty_timetable) image

-- What a request gets on an image, with an answer area of a given size. Bytes that are no image are no sound timetable.
unfoldable pub image_answer : List ℕ → List ℕ → ℕ → Answer
image_answer image request area =
    cond (is_image image) (answer (timetable_at image) request area) (refuse (timetable_at image) (refusal NOT_SOUND 0))

-- The image after a request: that of the new timetable, or, where the request is refused, every byte as it was.
unfoldable pub image_after : List ℕ → List ℕ → ℕ → List ℕ
image_after image request area =
    cond (eqb (image_answer image request area).number ACCEPTED) (image_of (image_answer image request area).timetable) image

-- The answer area after a request.
unfoldable pub area_after_image : List ℕ → List ℕ → List ℕ → List ℕ
area_after_image image request area = written (image_answer image request (length area)) area

-- What a request returns and leaves.
pub record Changed (image request area : List ℕ) (number place tries written : ℕ) (image-left area-left : List ℕ) : Type 0 where
  pub number_told : number ≡ (image_answer image request (length area)).number
  pub place_told : place ≡ (image_answer image request (length area)).place
  pub tries_told : tries ≡ (image_answer image request (length area)).tries
  pub written_told : written ≡ length (record_of (image_answer image request (length area)))
  pub image_told : image-left ≡ image_after image request (length area)
  pub area_told : area-left ≡ area_after_image image request area

-- The owner query on an image.
unfoldable pub image_owner : List ℕ → ℕ → OwnerAnswer
image_owner image slot = cond (is_image image) (owner_query (timetable_at image) (core_slot slot)) (refuse_owner NOT_SOUND)

-- What the owner query returns.
pub record OwnerTold (answer : OwnerAnswer) (number place owner : ℕ) : Type 0 where
  pub number_told : number ≡ answer.number
  pub place_told : place ≡ answer.place
  pub owner_told : owner ≡ answer.owner

-- The standing query on an image.
unfoldable pub image_standing : List ℕ → ℕ → ℕ → StandingAnswer
image_standing image id slot =
    cond (is_image image) (standing_query (timetable_at image) id (core_slot slot)) (refuse_standing NOT_SOUND)

-- What the standing query returns.
pub record StandingTold (answer : StandingAnswer) (number place shortfall slices : ℕ) : Type 0 where
  pub number_told : number ≡ answer.number
  pub place_told : place ≡ answer.place
  pub shortfall_told : shortfall ≡ answer.shortfall
  pub slices_told : slices ≡ answer.slices.0

-- A timetable whose arrays have their lengths and whose numbers fit their bytes, as every timetable of the code does.
pub record Fits (t : Timetable) : Type 0 where
  pub owners : length t.owners ≡ LONGEST
  pub entries : length t.entries ≡ IDS
  pub starts : length t.starts ≡ IDS
  pub request : t.request.0 < 2 ^ 64
  pub base : t.base.0 < 2 ^ 64
  pub period : (i : ℕ) → i < IDS → (entry_of t.entries i).period < 2 ^ 16
  pub shortfall : (i : ℕ) → i < IDS → (entry_of t.entries i).shortfall < 2 ^ 16
  pub start : (i : ℕ) → i < IDS → start_of t i < 2 ^ 16

-- The image that a C program keeps, from that of the empty timetable on, after any requests, the last request first.
unfoldable pub kept_image : List Sent → List ℕ
kept_image [] = image_of empty_timetable
kept_image (q ∷ qs) = image_after (kept_image qs) q.bytes q.area
