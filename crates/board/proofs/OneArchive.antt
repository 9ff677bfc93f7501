-- Any two results that meet a contract of the functions that read an answer or write a request are equal: each names every figure told and every byte left. Assumes nothing.
use mathlib.Core.List.{List}
use mathlib.Core.Path.{◌≡◌, sym, ◌∙◌}
use Prim.Native.Nat.{ℕ}
use Rattle.archive.specs.AnswerRead.{ReadField}
use Rattle.board.specs.Archive.{AnswerTold, FieldTold, RequestTold}

-- Reading an answer: number, place and the area.
pub answer_told_unique : (answer area : List ℕ) (n p n' p' : ℕ) (a a' : List ℕ) → AnswerTold answer area n p a → AnswerTold answer area n' p' a'
    → (n ≡ n') × (p ≡ p') × (a ≡ a')
answer_told_unique answer area n p n' p' a a' x y =
    (x.number_told ∙ sym y.number_told, x.place_told ∙ sym y.place_told, x.area_told ∙ sym y.area_told)

-- Writing a request: number, place, bytes written and the area.
pub request_told_unique : (slot limit : ℕ) (listing area : List ℕ) (n p w n' p' w' : ℕ) (a a' : List ℕ) → RequestTold slot limit listing area n p w a
    → RequestTold slot limit listing area n' p' w' a' → (n ≡ n') × (p ≡ p') × (w ≡ w') × (a ≡ a')
request_told_unique slot limit listing area n p w n' p' w' a a' x y = (
  x.number_told ∙ sym y.number_told,
  x.place_told ∙ sym y.place_told,
  x.written_told ∙ sym y.written_told,
  x.area_told ∙ sym y.area_told,
)

-- A field: number, place, tag, the two bytes and the reader's place.
pub field_told_unique : (at : ℕ) (read : ReadField) (n p t f s a n' p' t' f' s' a' : ℕ) → FieldTold at read n p t f s a → FieldTold at read n' p' t' f' s' a'
    → (n ≡ n') × (p ≡ p') × (t ≡ t') × (f ≡ f') × (s ≡ s') × (a ≡ a')
field_told_unique at read n p t f s a n' p' t' f' s' a' x y = (
  x.number_told ∙ sym y.number_told,
  x.place_told ∙ sym y.place_told,
  x.tag_told ∙ sym y.tag_told,
  x.first_told ∙ sym y.first_told,
  x.second_told ∙ sym y.second_told,
  x.next_told ∙ sym y.next_told,
)
