-- What each exported function returns and leaves, from its test of the image's length and the answer that it got. Assumes nothing.
use borrow.Author.Tests.{eq-eqb, ne_eqb}
use lib.ListN.{length}
use lib.Seq.{sets}
use mathlib.Core.List.{List}
use mathlib.Core.Logic.{◌≢◌}
use mathlib.Core.Path.{◌≡◌, refl, sym, ap, ◌∙◌}
use native.Mathlib.Omega.{arith}
use Prim.Native.Nat.{ℕ}
use Rattle.std.specs.Prelude.{Err, Ok}
use Rattle.board.specs.Image.{Changed, IMAGE, OwnerTold, StandingTold, area_after_image, empty_image, empty_number, image_after, image_answer, image_of, image_owner, image_standing, timetable_at}
use Rattle.change.specs.Change.{answer, record_of, refuse, written}
use Rattle.change.specs.declared.Answer.{Answer}
use Rattle.change.specs.declared.Refused.{Refused}
use Rattle.change.specs.declared.OwnerAnswer.{OwnerAnswer}
use Rattle.change.specs.declared.StandingAnswer.{StandingAnswer}
use Rattle.change.specs.Told.{told as told_of}
use Rattle.change.specs.Queries.{owner_query, standing_query}
use Rattle.numbers.specs.Numbers.{ACCEPTED, NOT_SOUND, refusal}
use Rattle.records.specs.Answer.{answer_record}
use Rattle.slots.specs.Clocks.{core_slot}
use Rattle.timetable.specs.declared.Timetable.{Timetable}
use Rattle.timetable.specs.Timetable.{empty_timetable}

-- What a request gets, told: with its answer, and the image left.
told : (image request area after : List ℕ) (a : Answer) → image_answer image request (length area) ≡ a → after ≡ image_after image request (length area)
    → Changed image request area a.number a.place a.tries (length (record_of a)) after (written a area)
unfolding area_after_image
told image request area after a e i = record {
  number_told = sym (ap (λ (x : Answer). x.number) e);
  place_told = sym (ap (λ (x : Answer). x.place) e);
  tries_told = sym (ap (λ (x : Answer). x.tries) e);
  written_told = sym (ap (λ (x : Answer). length (record_of x)) e);
  image_told = i;
  area_told = sym (ap (λ (x : Answer). written x area) e);
}

module _ (image request : List ℕ) (area : ℕ) where
  -- An accepted request leaves the image of its timetable.
  pub after_accepted : (image_answer image request area).number ≡ ACCEPTED
      → image_after image request area ≡ image_of (image_answer image request area).timetable
  unfolding image_after
  after_accepted e = rw (eq-eqb _ _ e)

  -- A refused one leaves every byte.
  pub after_refused : (image_answer image request area).number ≢ ACCEPTED → image_after image request area ≡ image
  unfolding image_after
  after_refused n = rw (ne_eqb _ _ n)

  -- On an image a request gets what it gets on the timetable that it holds.
  pub answer_held : length image ≡ IMAGE → image_answer image request area ≡ answer (timetable_at image) request area
  unfolding image_answer
  answer_held e = rw (eq-eqb _ _ e)

  -- Bytes that are no image get the refusal of a timetable that is not sound.
  answer_no_image : length image ≢ IMAGE → image_answer image request area ≡ refuse (timetable_at image) (refusal NOT_SOUND 0)
  unfolding image_answer
  answer_no_image n = rw (ne_eqb _ _ n)

-- Bytes that are no image: number 1, zeros, and every byte as it was.
module _ (image : List ℕ) (n : length image ≢ IMAGE) where
  pub empty_refused : (NOT_SOUND ≡ empty_number image) × (image ≡ empty_image image)
  unfolding empty_number empty_image
  empty_refused = rw (ne_eqb _ _ n) (refl, refl)

  pub change_no_image : (request area : List ℕ) → Changed image request area NOT_SOUND 0 0 0 image area
  unfolding record_of
  change_no_image request area =
      let e = answer_no_image image request (length area) n in
      told image request area image (refuse (timetable_at image) (refusal NOT_SOUND 0)) e
      (sym (after_refused image request (length area) (λ z. omega (arith, z, ap (λ (x : Answer). x.number) e))))

  pub owner_no_image : (slot : ℕ) → OwnerTold (image_owner image slot) NOT_SOUND 0 0
  unfolding image_owner
  owner_no_image slot = rw (ne_eqb _ _ n) (record { number_told = refl; place_told = refl; owner_told = refl })

  pub standing_no_image : (id slot : ℕ) → StandingTold (image_standing image id slot) NOT_SOUND 0 0 0
  unfolding image_standing
  standing_no_image id slot =
      rw (ne_eqb _ _ n) (record { number_told = refl; place_told = refl; shortfall_told = refl; slices_told = refl })

-- An image: the answer on the timetable that it holds.
module _ (image : List ℕ) (e : length image ≡ IMAGE) where
  pub empty_made : (after : List ℕ)
      → after ≡ image_of empty_timetable
      → (ACCEPTED ≡ empty_number image) × (after ≡ empty_image image)
  unfolding empty_number empty_image
  empty_made after p = rw (eq-eqb _ _ e, p) (refl, refl)

  module _ (t : Timetable) (h : t ≡ timetable_at image) where
    pub owner_told : (slot : ℕ) (a : OwnerAnswer) → a ≡ owner_query t (core_slot slot) → OwnerTold (image_owner image slot) a.number a.place a.owner
    unfolding image_owner
    owner_told slot a q = rw (eq-eqb _ _ e, q, h) (record { number_told = refl; place_told = refl; owner_told = refl })

    pub standing_told : (id slot : ℕ) (a : StandingAnswer) → a ≡ standing_query t id (core_slot slot)
        → StandingTold (image_standing image id slot) a.number a.place a.shortfall a.slices.0
    unfolding image_standing
    standing_told id slot a q =
        rw (eq-eqb _ _ e, q, h) (record { number_told = refl; place_told = refl; shortfall_told = refl; slices_told = refl })

    module _ (request area : List ℕ) where
      gets : image_answer image request (length area) ≡ answer t request (length area)
      gets = answer_held image request (length area) e ∙ ap (λ (x : Timetable). answer x request (length area)) (sym h)

      -- A request that is granted, with its record written, leaves the image of the new timetable.
      pub change_granted : (now : Timetable) (tries : ℕ) → told_of now (Ok tries) ≡ answer t request (length area) → (bytes : ℕ) (after area_told : List ℕ)
          → after ≡ image_of now
          → (bytes ≡ length (answer_record now.length now.owners now.entries)) × (area_told ≡ sets area 0 (answer_record now.length now.owners now.entries))
          → Changed image request area ACCEPTED 0 tries bytes after area_told
      unfolding record_of
      change_granted now tries k bytes after area_told i w =
          let a = gets ∙ sym k in
          rw (w.0, w.1)
          (told image request area after (told_of now (Ok tries)) a
          (i ∙ sym (after_accepted image request (length area) (ap (λ (x : Answer). x.number) a) ∙ ap (λ (x : Answer). image_of x.timetable) a)))

      -- One that is refused leaves every byte.
      pub change_refused : (now : Timetable) (r : Refused) → told_of now (Err r) ≡ answer t request (length area) → r.refusal.number ≢ ACCEPTED
          → Changed image request area r.refusal.number r.refusal.place r.tries 0 image area
      unfolding record_of
      change_refused now r k n =
          let a = gets ∙ sym k in
          let b = told image request area image (told_of now (Err r)) a
          (sym (after_refused image request (length area) (λ z. n (sym (ap (λ (x : Answer). x.number) a) ∙ z)))) in
          (rw (ne_eqb _ _ n) at b)
