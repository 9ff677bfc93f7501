-- The contracts of the reader of answers and of the writer of requests leave one possible result: any two that satisfy one are equal. Assumes nothing.
use lib.ListN.{length}
use mathlib.Core.List.{List}
use mathlib.Core.Path.{◌≡◌, sym, ap₂, ◌∙◌}
use Prim.Native.Nat.{ℕ}
use denote.Ref.{Bor}
use Rattle.std.specs.declared.option.Option.{Option}
use Rattle.records.specs.Request.{Reading}
use Rattle.archive.specs.AnswerRead.{field_at, field_of, place_after, told_owner, read_answer, read_from, ReadAnswer}
use Rattle.archive.specs.declared.AnswerField.{AnswerField}
use Rattle.archive.specs.declared.reader.AnswerReader.{AnswerReader}
use Rattle.archive.specs.RequestWrite.{area_written, write_request}
use Rattle.slots.specs.declared.CoreSlot.{CoreSlot}

-- `read_answer`.
pub read_answer_unique : (s : List ℕ) (x x' : ReadAnswer) → x ≡ read_answer s → x' ≡ read_answer s → x ≡ x'
read_answer_unique s x x' p q = p ∙ sym q

-- `new`: the reader.
pub new_unique : (s : Bor (List ℕ)) (r r' : AnswerReader) → (r.bytes ≡ s) × (r.at ≡ 0) → (r'.bytes ≡ s) × (r'.at ≡ 0) → r ≡ r'
new_unique s r r' p q = ap₂ (λ (b : Bor (List ℕ)) (n : ℕ). record { bytes = b; at = n }) (p.0 ∙ sym q.0) (p.1 ∙ sym q.1)

-- `next`: what it tells, and the reader afterwards.
pub next_unique : (r : AnswerReader) (f f' : Reading (Option AnswerField)) (x x' : AnswerReader)
    → (f ≡ field_of (field_at r.bytes.now r.at)) × (x.bytes ≡ r.bytes) × (x.at ≡ place_after r.at (field_at r.bytes.now r.at))
    → (f' ≡ field_of (field_at r.bytes.now r.at)) × (x'.bytes ≡ r.bytes) × (x'.at ≡ place_after r.at (field_at r.bytes.now r.at))
    → (f ≡ f') × (x ≡ x')
next_unique r f f' x x' p q = (
  p.0 ∙ sym q.0,
  ap₂ (λ (b : Bor (List ℕ)) (n : ℕ). record { bytes = b; at = n }) (p.1 ∙ sym q.1) (p.2 ∙ sym q.2),
)

-- `owner`.
pub owner_unique : (r : AnswerReader) (n o o' : ℕ) → o ≡ told_owner r.bytes.now n → o' ≡ told_owner r.bytes.now n → o ≡ o'
owner_unique r n o o' p q = p ∙ sym q

-- `rest`.
pub rest_unique : (r : AnswerReader) (x x' : ReadAnswer) → x ≡ read_from r.bytes.now r.at → x' ≡ read_from r.bytes.now r.at → x ≡ x'
rest_unique r x x' p q = p ∙ sym q

-- `write_request`: what it returns, and the area afterwards.
pub write_request_unique : (slot : CoreSlot) (limit : ℕ) (listing area : List ℕ) (w w' : Reading ℕ) (out out' : List ℕ)
    → (w ≡ write_request slot limit listing (length area)) × (out ≡ area_written slot limit listing area)
    → (w' ≡ write_request slot limit listing (length area)) × (out' ≡ area_written slot limit listing area) → (w ≡ w') × (out ≡ out')
write_request_unique slot limit listing area w w' out out' p q = (p.0 ∙ sym q.0, p.1 ∙ sym q.1)
