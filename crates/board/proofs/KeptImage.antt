-- A C program that keeps the image runs the controller's history: the image is that of the timetable in force. Assumes nothing.
use borrow.Author.Tests.{eqb-true, eqb-false}
use lib.Dec.{eqb}
use lib.ListN.{length, length-replicate}
use mathlib.Core.Bool.{Bool, true, false}
use mathlib.Core.List.{List, [], ◌∷◌}
use mathlib.Core.Path.{◌≡◌, refl, sym, ap, ◌∙◌, subst}
use native.Mathlib.Omega.{arith}
use Prim.Native.Nat.{ℕ, ◌^◌, ◌<◌}
use Rattle.board.proofs.BoardLaws.{after_accepted, after_refused, answer_held}
use Rattle.board.proofs.ReadBack.{read_back}
use Rattle.board.proofs.StoreLaws.{image_length}
use Rattle.board.specs.Image.{Fits, image_after, image_answer, image_of, kept_image}
use Rattle.change.proofs.Answers.{accepted_continues, accepted_owners, accepted_starts}
use Rattle.change.proofs.Histories.{sent_accepted, sent_refused}
use Rattle.change.specs.Change.{answer}
use Rattle.change.specs.declared.Answer.{Answer}
use Rattle.change.specs.Controller.{Sent, history_of}
use Rattle.numbers.specs.Numbers.{ACCEPTED}
use Rattle.slots.specs.Limits.{IDS, LONGEST}
use Rattle.timetable.proofs.InForce.{empty_sound}
use Rattle.timetable.proofs.Ranges.{period_le}
use Rattle.timetable.proofs.Sound.{Sound, sound_from}
use Rattle.timetable.specs.declared.Entry.{Entry}
use Rattle.timetable.specs.declared.Timetable.{Timetable}
use Rattle.timetable.specs.History.{History, present}
use Rattle.timetable.specs.Timetable.{empty_timetable, entry_of, is_listed, no_entry, start_of}

-- A sound timetable fits.
sound_fits : (t : Timetable) → Sound t → length t.owners ≡ LONGEST → length t.entries ≡ IDS → length t.starts ≡ IDS → Fits t
sound_fits t s o n m = record {
  owners = o;
  entries = n;
  starts = m;
  request = omega (arith, s.request);
  base = omega (arith, s.request, s.size, s.base);
  period = λ i h. (small i h (is_listed (entry_of t.entries i)) refl).0;
  shortfall = λ i h. (small i h (is_listed (entry_of t.entries i)) refl).1;
  start = λ i h. (small i h (is_listed (entry_of t.entries i)) refl).2;
}
  where
    small : (i : ℕ) → i < IDS → (b : Bool) → is_listed (entry_of t.entries i) ≡ b
        → ((entry_of t.entries i).period < 2 ^ 16) × ((entry_of t.entries i).shortfall < 2 ^ 16) × (start_of t i < 2 ^ 16)
    small i h true l =
        let r = s.ranged.listed i h l in
        (omega (arith, period_le _ r.period), omega (arith, r.kept, r.bound_high), omega (arith, s.start_kept i h l, r.bound_high))
    small i h false l =
        let a = s.ranged.absent i h l in
        (omega (arith, ap (λ (e : Entry). e.period) a.zero), omega (arith, a.below), omega (arith, s.start_same i h l, a.below))

module _ (t : Timetable) (s : List ℕ) (area : ℕ) where
  -- The timetable of an accepted request fits.
  pub accepted_fits : (answer t s area).number ≡ ACCEPTED → Fits (answer t s area).timetable
  accepted_fits e = let c = accepted_continues t s area e in sound_fits _ c.sound (accepted_owners t s area e) c.shape (accepted_starts t s area e)

-- The timetable in force fits.
present_fits : (qs : List Sent) → Fits (present (history_of qs))
unfolding history_of present
present_fits [] =
    sound_fits empty_timetable (sound_from empty_timetable empty_sound) (length-replicate {A = ℕ} LONGEST 0) (length-replicate IDS no_entry) (length-replicate {A = ℕ} IDS 0)
present_fits (q ∷ qs) = at (eqb (answer t q.bytes q.area).number ACCEPTED) refl (present_fits qs)
  where
    h : History
    h = history_of qs

    t : Timetable
    t = present h

    at : (b : Bool) → eqb (answer t q.bytes q.area).number ACCEPTED ≡ b → Fits t → Fits (present (history_of (q ∷ qs)))
    at true e f =
        subst (λ (x : History). Fits (present x)) (sym (sent_accepted h q (eqb-true _ _ e)))
        (accepted_fits t q.bytes q.area (eqb-true _ _ e))
    at false e f = subst (λ (x : History). Fits (present x)) (sym (sent_refused h q (eqb-false _ _ e))) f

-- On the image of a timetable a request gets what it gets on the timetable.
answer_image : (t : Timetable) → Fits t → (s : List ℕ) (area : ℕ) → image_answer (image_of t) s area ≡ answer t s area
answer_image t f s area =
    answer_held (image_of t) s area (image_length t f.owners) ∙ ap (λ (x : Timetable). answer x s area) (read_back t f)

-- After any requests the image that is kept is that of the timetable in force.
pub image_kept : (qs : List Sent) → kept_image qs ≡ image_of (present (history_of qs))
unfolding kept_image history_of present
image_kept [] = refl
image_kept (q ∷ qs) =
    ap (λ (x : List ℕ). image_after x q.bytes q.area) (image_kept qs)
    ∙ at (eqb (answer t q.bytes q.area).number ACCEPTED) refl
  where
    h : History
    h = history_of qs

    t : Timetable
    t = present h

    same : image_answer (image_of t) q.bytes q.area ≡ answer t q.bytes q.area
    same = answer_image t (present_fits qs) q.bytes q.area

    at : (b : Bool) → eqb (answer t q.bytes q.area).number ACCEPTED ≡ b
        → image_after (image_of t) q.bytes q.area ≡ image_of (present (history_of (q ∷ qs)))
    at true e =
        let a = eqb-true _ _ e in
        after_accepted (image_of t) q.bytes q.area (ap (λ (x : Answer). x.number) same ∙ a)
        ∙ ap (λ (x : Answer). image_of x.timetable) same
        ∙ sym (ap (λ (x : History). image_of (present x)) (sent_accepted h q a))
    at false e =
        let n = eqb-false _ _ e in
        after_refused (image_of t) q.bytes q.area (λ z. n (sym (ap (λ (x : Answer). x.number) same) ∙ z))
        ∙ sym (ap (λ (x : History). image_of (present x)) (sent_refused h q n))

-- So every request gets from the image that is kept what the controller would give.
pub answer_kept : (qs : List Sent) (s : List ℕ) (area : ℕ) → image_answer (kept_image qs) s area ≡ answer (present (history_of qs)) s area
answer_kept qs s area = rw (image_kept qs) (answer_image (present (history_of qs)) (present_fits qs) s area)
