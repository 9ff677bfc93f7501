-- Any two results that meet a contract of the C interface are equal: each names every figure told and every byte left. Assumes nothing.
use mathlib.Core.List.{List}
use mathlib.Core.Path.{◌≡◌, sym, ◌∙◌}
use Prim.Native.Nat.{ℕ}
use Rattle.board.specs.Image.{Changed, OwnerTold, StandingTold, empty_image, empty_number}
use Rattle.change.specs.declared.OwnerAnswer.{OwnerAnswer}
use Rattle.change.specs.declared.StandingAnswer.{StandingAnswer}

-- A request: number, place, tries, bytes written, the image and the area.
pub changed_unique : (image request area : List ℕ) (n p t w n' p' t' w' : ℕ) (i a i' a' : List ℕ) → Changed image request area n p t w i a
    → Changed image request area n' p' t' w' i' a' → (n ≡ n') × (p ≡ p') × (t ≡ t') × (w ≡ w') × (i ≡ i') × (a ≡ a')
changed_unique image request area n p t w n' p' t' w' i a i' a' x y = (
  x.number_told ∙ sym y.number_told,
  x.place_told ∙ sym y.place_told,
  x.tries_told ∙ sym y.tries_told,
  x.written_told ∙ sym y.written_told,
  x.image_told ∙ sym y.image_told,
  x.area_told ∙ sym y.area_told,
)

-- The owner query.
pub owner_told_unique : (q : OwnerAnswer) (n p o n' p' o' : ℕ) → OwnerTold q n p o → OwnerTold q n' p' o' → (n ≡ n') × (p ≡ p') × (o ≡ o')
owner_told_unique q n p o n' p' o' x y =
    (x.number_told ∙ sym y.number_told, x.place_told ∙ sym y.place_told, x.owner_told ∙ sym y.owner_told)

-- The standing query.
pub standing_told_unique : (q : StandingAnswer) (n p s c n' p' s' c' : ℕ) → StandingTold q n p s c → StandingTold q n' p' s' c'
    → (n ≡ n') × (p ≡ p') × (s ≡ s') × (c ≡ c')
standing_told_unique q n p s c n' p' s' c' x y = (
  x.number_told ∙ sym y.number_told,
  x.place_told ∙ sym y.place_told,
  x.shortfall_told ∙ sym y.shortfall_told,
  x.slices_told ∙ sym y.slices_told,
)

-- The empty timetable: the number and the image.
pub empty_told_unique : (image i i' : List ℕ) (n n' : ℕ) → (n ≡ empty_number image) × (i ≡ empty_image image)
    → (n' ≡ empty_number image) × (i' ≡ empty_image image) → (n ≡ n') × (i ≡ i')
empty_told_unique image i i' n n' x y = (x.0 ∙ sym y.0, x.1 ∙ sym y.1)
