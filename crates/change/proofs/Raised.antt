-- A request with a larger T: once it is read, the stages before the search do not look at T, and a search that is not exhausted ends alike. Assumes nothing.
use mathlib.Core.List.{List}
use mathlib.Core.Logic.{◌≢◌}
use mathlib.Core.Path.{◌≡◌, refl, sym, ap, ◌∙◌}
use Prim.Native.Nat.{ℕ, ◌≤◌}
use Rattle.std.specs.Prelude.{Ok}
use Rattle.records.specs.declared.Request.{Request}
use Rattle.change.proofs.Alike.{alike, same_slot}
use Rattle.change.specs.declared.Answer.{Answer}
use Rattle.change.specs.Change.{answer, answer_of, answer_to, number_of, search_of, start_plan}
use Rattle.change.specs.Stages.{stage_early, stage_fields, stages_first, verdict_before}
use Rattle.numbers.specs.Numbers.{LENGTHS_EXHAUSTED}
use Rattle.records.specs.Request.{read_request, ReadRequest, requested}
use Rattle.timetable.specs.declared.Timetable.{Timetable}
use Rattle.transition.proofs.Search.{search_raised}

-- A request, with another T.
abbrev pub with_t : ℕ → Request → Request
with_t limit q = record { slot = q.slot; limit = limit; asks = q.asks }

module _ (t : Timetable) (q : Request) (limit : ℕ) where
  -- The stages before the search do not look at T.
  pub verdict_raised : (area : ℕ) → verdict_before t (Ok (with_t limit q)) area ≡ verdict_before t (Ok q) area
  unfolding verdict_before stages_first stage_fields stage_early requested
  verdict_raised area = refl

  -- A search that is not exhausted.
  searched : q.limit ≤ limit → (answer_of t q (search_of t q)).number ≢ LENGTHS_EXHAUSTED
      → answer_of t (with_t limit q) (search_of t (with_t limit q)) ≡ answer_of t q (search_of t q)
  unfolding search_of start_plan answer_of number_of
  searched l n =
      same_slot t q (with_t limit q) refl refl (search_of t (with_t limit q))
      ∙ ap (answer_of t q)
      (search_raised q.limit limit 0 (start_plan t q) l (λ m z. n (ap number_of z)))

  -- So the whole answer.
  raised : (area : ℕ) → q.limit ≤ limit → (answer_to t (Ok q) area).number ≢ LENGTHS_EXHAUSTED
      → answer_to t (Ok (with_t limit q)) area ≡ answer_to t (Ok q) area
  unfolding answer_to requested
  raised area l n = alike t (Ok q) (Ok (with_t limit q)) area (verdict_raised area) (λ e. searched l (λ z. n (rw (e, answer_to) z)))

-- An answer other than 11 is the same if the request, as it is read, has a larger T.
pub answer_raised : (t : Timetable) (s s' : List ℕ) (area limit : ℕ) (q : Request) → read_request s ≡ Ok q → read_request s' ≡ Ok (with_t limit q)
    → q.limit ≤ limit → (answer t s area).number ≢ LENGTHS_EXHAUSTED → answer t s' area ≡ answer t s area
unfolding answer
answer_raised t s s' area limit q d e l n =
    let p : answer_to t (read_request s) area ≡ answer_to t (Ok q) area = ap (λ (r : ReadRequest). answer_to t r area) d in
    ap (λ (r : ReadRequest). answer_to t r area) e ∙ raised t q limit area l (λ z. n (ap (λ (a : Answer). a.number) p ∙ z)) ∙ sym p
