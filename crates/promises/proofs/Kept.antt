-- Each promise of specs/Promises.antt, kept. Assumes nothing.
use borrow.Author.Tests.{le-ltb, lt-leb}
use lib.ListN.{length}
use lib.Seq.{length-sets, sets}
use mathlib.Core.Bool.{true}
use mathlib.Core.List.{List}
use mathlib.Core.Logic.{◌≢◌, ◌⊎◌, inl, inr}
use mathlib.Core.Option.{Option, none, some}
use mathlib.Core.Path.{◌≡◌, refl, sym, ap, ap₂, ◌∙◌, subst}
use native.Mathlib.Decide.{dec_lt, ℕ_discrete}
use native.Mathlib.Omega.{arith}
use Prim.Native.Nat.{ℕ, suc, ◌+◌, ◌-◌, ◌*◌, ◌≤◌, ◌<◌}
use Rattle.std.specs.Prelude.{Ok, Err}
use Rattle.records.specs.declared.Request.{Request}
use Rattle.archive.proofs.AnswerBack.{answer_back}
use Rattle.archive.proofs.AnswerForms.{answer_form_lem, answer_owner, answer_range}
use Rattle.archive.proofs.AnswerSteps.{answer_damaged, answer_is, answer_read, answer_told, answer_untold, field_is, field_read, step_is, step_read}
use Rattle.archive.proofs.RequestPlaces.{request_tells, request_tells_one, request_written, request_written_one}
use Rattle.archive.proofs.WrittenBack.{accepted_whole, handed_lists, written_back}
use Rattle.archive.specs.AnswerRead.{read_answer, read_from}
use Rattle.change.proofs.Answers.{Gets, refused, accepted, no_slot, no_length, gets, accepted_continues, record_accepted, record_none, refusal_number}
use Rattle.change.proofs.AsBefore.{behind_named}
use Rattle.change.proofs.GivenLaws.{at_request, gives, wanting_number}
use Rattle.change.proofs.Onward.{granted}
use Rattle.change.proofs.Histories.{history_valid, sent_accepted, sent_refused}
use Rattle.change.proofs.OneGiven.{gives_one}
use Rattle.change.proofs.QueriedLaws.{owner_given, owner_only, standing_given, standing_only}
use Rattle.change.proofs.Raised.{answer_raised, verdict_raised, with_t}
use Rattle.change.proofs.Stages.{stages}
use Rattle.change.specs.Change.{answer, answer_to, answer_of, outcome, outcome_of, area_after, record_of, refuse, search_of, start_plan, written}
use Rattle.change.specs.Controller.{Sent, history_of, send}
use Rattle.change.specs.declared.Answer.{Answer}
use Rattle.change.specs.declared.Outcome.{Outcome}
use Rattle.change.specs.Given.{Gives, early, refused_with, schedule, wanting}
use Rattle.change.specs.Queries.{owner_query, standing, standing_query}
use Rattle.change.specs.Refused.{StagesSay}
use Rattle.change.specs.Stages.{verdict_before}
use Rattle.numbers.specs.declared.Refusal.{Refusal}
use Rattle.numbers.specs.Chain.{Verdict}
use Rattle.numbers.specs.Chain.{Passed, Refused}
use Rattle.numbers.specs.Numbers.{ACCEPTED, SLOT_MISSED, LENGTHS_EXHAUSTED}
use Rattle.placement.proofs.Complete.{placement_none, placement_some}
use Rattle.placement.specs.Any.{CyclicPlacement}
use Rattle.placement.specs.Placement.{Place, placement}
use Rattle.promises.proofs.Archived.{accepted_read}
use Rattle.promises.proofs.Lengths.{accepted_iff, exhausted_iff, missed_iff, passed_number, refused_iff}
use Rattle.promises.proofs.ShortFields.{full_one, full_request, same_answer, there_request}
use Rattle.promises.specs.Promises.{SoundStays, Windows, OneOwner, PlacementComplete, Passes, Shortest, Tries, Stages, OneForm, KeptShortfall, Queries, Exact, Figures, LargerT, RaisingT, AnswersRead, RequestsWritten, AsBefore, GrantedAsThere, Debts}
use Rattle.records.proofs.AnswerLaws.{answer_length}
use Rattle.records.proofs.OneForm.{one_form}
use Rattle.records.proofs.ReadLaws.{read_in_range, refused_in_range}
use Rattle.records.proofs.ReadSteps.{as_read, read_alike, read_requested, request_is, request_read}
use Rattle.records.proofs.RoundTrip.{round_trip}
use Rattle.records.proofs.SetsLaws.{sets_rest, sets_taken}
use Rattle.records.specs.Reads.{RequestRead}
use Rattle.records.specs.Request.{read_request, ReadRequest, requested}
use Rattle.slots.proofs.Below.{count_most}
use Rattle.slots.proofs.Windows.{attains, kept_windows, window_le, worked_off}
use Rattle.slots.specs.Below.{count}
use Rattle.slots.specs.Clocks.{core_slot, slice_count}
use Rattle.slots.specs.Limits.{IDS, WHOLE, AREA, LAST_SLOT}
use Rattle.slots.specs.Slots.{entitlement, supply, shortfall}
use Rattle.timetable.proofs.InForce.{empty_sound, in_force_sound, present_in_force, present_sound}
use Rattle.timetable.proofs.Owner.{serves_one}
use Rattle.timetable.proofs.Run.{absent_run, base_later, kept_run, present_run, shortfall_stays, slices_run}
use Rattle.timetable.proofs.Since.{shortfall_base, shortfall_request}
use Rattle.timetable.proofs.Sound.{ranged_from, sound_is, sound_from}
use Rattle.timetable.specs.declared.Entry.{Entry}
use Rattle.timetable.specs.declared.Timetable.{Timetable}
use Rattle.timetable.specs.History.{History, present, in_force, run_of}
use Rattle.timetable.specs.Owner.{owner_number}
use Rattle.timetable.specs.Sound.{entries_in_range}
use Rattle.timetable.specs.Timetable.{owner_at, slices_at}
use Rattle.transition.proofs.Reach.{tries_count}
use Rattle.transition.specs.declared.Plan.{Plan}
use Rattle.transition.specs.Reach.{is_searched, HasPlacement, PassedOver, SlotBreaks}

-- ---- 1

-- What a request gets, as far as the area and the timetable go.
record Held (t : Timetable) (area : ℕ) (a : Answer) : Type 0 where
  short : length (record_of a) ≤ AREA
  fits : length (record_of a) ≤ area
  refused : a.number ≢ ACCEPTED → a.timetable ≡ t

held : (t : Timetable) (s : List ℕ) (area : ℕ) → Held t area (answer t s area)
held t s area = at (answer t s area) (gets t s area)
  where
    nothing : (a : Answer) → a.number ≢ ACCEPTED → a.timetable ≡ t → Held t area a
    nothing a n e =
        let z = ap (λ (bs : List ℕ). length bs) (record_none a n) in
        record { short = omega (arith, z); fits = omega (arith, z); refused = λ _. e }

    at : (a : Answer) → Gets t s area a → Held t area a
    at a (refused q e l h) = nothing a (λ z. omega (arith, z)) refl
    at a (accepted e p k l b q h ps f) =
        let m : length (record_of a) ≤ AREA = rw (record_accepted a refl) (answer_length k _ _ (omega (arith, p.range.limit))) in
        record { short = m; fits = omega (arith, m, p.room); refused = λ n. absurd (n refl) }
    at a (no_slot e p k l b q h f) = nothing a (λ z. omega arith) refl
    at a (no_length e p b) = nothing a (λ z. omega arith) refl

pub sound_stays : SoundStays
unfolding outcome area_after
sound_stays = record {
  empty = empty_sound;
  accepted = λ t s area e. sound_is _ (accepted_continues t s (length area) e).sound;
  refused = λ t s area n.
      let e = record_none (answer t s (length area)) n in
      ((held t s (length area)).refused n, ap (λ (bs : List ℕ). length bs) e, ap (sets area 0) e);
  short = λ t s area. (held t s (length area)).short;
  fits = λ t s area. (held t s (length area)).fits;
  size = λ t s area. length-sets area 0 (record_of (answer t s (length area)));
  rest = λ t s area n l. sets_rest area 0 n (record_of (answer t s (length area))) (omega arith);
}

-- ---- 2 and 3

pub windows : Windows
windows sent i a n listed =
    let h = history_of sent in
    kept_windows (run_of h) i a n (kept_run h (history_valid sent) i (a + n) listed)

pub one_owner : OneOwner
one_owner sent x i j ki kj p q =
    let h = history_of sent in
    serves_one (in_force h x) (in_force_sound h (history_valid sent) x).sound.apart x i j ki kj p q

-- ---- 4

pub placement_complete : PlacementComplete
placement_complete = record {
  fails = λ es len h. (placement_none es (ranged_from es h), λ n. at es len h (placement es) refl n);
  succeeds = λ es len h ps e. placement_some es (ranged_from es h) len ps e;
}
  where
    at : (es : List Entry) → length es ≡ IDS → entries_in_range es ≡ true → (o : Option (List Place)) → placement es ≡ o
        → ((offsets : ℕ → ℕ) → CyclicPlacement es offsets → ⊥) → placement es ≡ none
    at es len h none e n = e
    at es len h (some ps) e n = absurd (n _ (placement_some es (ranged_from es h) len ps e))

-- ---- 5 and 6

-- A refusal that the rules give before the search is the outcome.
refused_so : (t : Timetable) (s area : List ℕ) (read : ReadRequest) → RequestRead s read → (x : Refusal) → StagesSay t read (length area) (Refused x)
    → (outcome t s area ≡ refused_with t x.number x.place 0) × (area_after t s area ≡ area)
refused_so t s area read e x p =
    gives_one t s area (outcome t s area) (refused_with t x.number x.place 0) (area_after t s area) area (gives t s area) (early read e x p)

-- A request that passes gets no refusal before the search.
no_refusal : (t : Timetable) (s : List ℕ) (area : ℕ) → Passes t s area → verdict_before t (read_request s) area ≡ Passed
no_refusal t s area p = (stages t (read_request s) area).only Passed p

pub shortest : Shortest
unfolding outcome
shortest t s area p =
    let e = no_refusal t s (length area) p in
    record {
      accepted = accepted_iff t s (length area) e;
      exhausted = exhausted_iff t s (length area) e;
      missed = missed_iff t s (length area) e;
      refused = refused_iff t s (length area) e;
    }

-- The tries of a request that passes the stages are those of its search.
searched : (t : Timetable) (s area : List ℕ) → Passes t s (length area) → (outcome t s area).tries ≡ (search_of t (requested (read_request s))).tries
unfolding outcome answer answer_to answer_of
searched t s area p =
    ap (λ (v : Verdict). (elim v as (λ _. Answer) [
      | Ok _ ↦ answer_of t (requested (read_request s)) (search_of t (requested (read_request s)))
      | Err r ↦ refuse t r
    ]).tries) (no_refusal t s (length area) p)

pub tries : Tries
unfolding search_of
tries = record {
  before = λ t s area x p. ap (λ (o : Outcome). o.tries) (refused_so t s area (read_request s) (request_read s) x p).0;
  counted = counted;
  few = λ t s area p.
      subst (λ (x : ℕ). x ≤ suc (requested (read_request s)).limit) (sym (counted t s area p))
      (count_most (is_searched (start_plan t (requested (read_request s)))) (suc (requested (read_request s)).limit));
}
  where
    counted : (t : Timetable) (s area : List ℕ) → Passes t s (length area)
        → (outcome t s area).tries ≡ count (suc (requested (read_request s)).limit) (is_searched (start_plan t (requested (read_request s))))
    counted t s area p = searched t s area p ∙ tries_count (start_plan t (requested (read_request s))) (requested (read_request s)).limit

-- ---- 7 and 8

pub stages_kept : Stages
stages_kept = record {
  refused = refused_so;
  refused_only = λ t s area read e. only t s area read e (outcome t s area) (area_after t s area) (gives t s area);
  fields = request_read;
  fields_only = request_is;
  entries = at_request;
}
  where
    only : (t : Timetable) (s area : List ℕ) (read : ReadRequest) → RequestRead s read → (r : Outcome) (out : List ℕ) → Gives t s area r out
        → r.number ≢ ACCEPTED → r.number ≢ SLOT_MISSED → r.number ≢ LENGTHS_EXHAUSTED
        → StagesSay t read (length area) (Refused (record { number = r.number; place = r.place }))
    only t s area read e r out (early a d x p) n m l =
        read_alike (λ y. StagesSay t y (length area) (Refused x)) s a read d e p
    only t s area read e r out (schedule a d p u v w) n m l = absurd (n w.number)
    only t s area read e r out (wanting a d p k x w) n m l = absurd (elim (wanting_number t (requested a) k x w) [ inl z ↦ m z | inr z ↦ l z ])

pub one_form_kept : OneForm
one_form_kept = record { one = one_form; back = round_trip; range = read_in_range; damaged = refused_in_range }

-- ---- 9

pub kept_shortfall : KeptShortfall
kept_shortfall sent = record {
  at_request = λ i k. let h = history_of sent in sym (present_run h (history_valid sent) i k (present h).request.0 (omega arith) ∙ shortfall_request (present h) i);
  at_base = λ i k.
      let h = history_of sent in
      let v = history_valid sent in
      sym (present_run h v i k (present h).base.0 (base_later h v) ∙ shortfall_base (present h) (present_sound h v).sound i k);
  most = λ i a n k b.
      let h = history_of sent in
      subst (λ (x : ℕ). entitlement (run_of h) i a n ≤ WHOLE * supply (run_of h) i a n + x)
      (present_run h (history_valid sent) i k (a + n) b)
      (window_le (run_of h) i a n);
  attained = λ i x k b.
      let h = history_of sent in
      let w = attains (run_of h) i x in (
        w.from,
        w.size,
        w.ends,
        w.equal ∙ ap (λ (y : ℕ). WHOLE * supply (run_of h) i w.from w.size + y) (present_run h (history_valid sent) i k x b),
      );
}

-- ---- 10

pub queries : Queries
unfolding owner_query standing_query standing slices_at run_of
queries = record {
  tell = λ sent.
      let h = history_of sent in
      let v = history_valid sent in
      record {
        owner = λ x l b.
            rw (sound_is _ (present_sound h v).sound, le-ltb LAST_SLOT x l, le-ltb x (present h).request.0 b)
            (ap (λ (t : Timetable). record { number = ACCEPTED; place = 0; owner = owner_number (owner_at t (core_slot x)) })
            (sym (present_in_force h x b)));
        standing = λ i x k l b li.
            rw (sound_is _ (present_sound h v).sound, lt-leb IDS i k, le-ltb LAST_SLOT x l, le-ltb x (present h).request.0 b, li)
            (ap₂ (λ (a n : ℕ). record { number = ACCEPTED; place = 0; shortfall = a; slices = slice_count n })
            (sym (present_run h v i k x b))
            (sym (slices_run h v i k (x - (present h).request.0))));
      };
  owner = owner_given;
  owner_only = owner_only;
  standing = λ t i x. standing_given t x i;
  standing_only = λ t i x. standing_only t x i;
}

-- ---- 11 and 12

pub exact : Exact
exact = record { given = gives; one = gives_one }

pub figures : Figures
figures = record { numbers = refl; limits = refl }

-- ---- 13

-- A request that gets no number of a refusal before the search passes the stages.
passes : (t : Timetable) (s area : List ℕ) → (0 < (outcome t s area).number → (outcome t s area).number < SLOT_MISSED → ⊥) → Passes t s (length area)
passes t s area = at (outcome t s area) (area_after t s area) (gives t s area)
  where
    at : (r : Outcome) (out : List ℕ) → Gives t s area r out → (0 < r.number → r.number < SLOT_MISSED → ⊥) → Passes t s (length area)
    at r out (early a d x p) n = let k = refusal_number t s (length area) x (as_read (λ y. StagesSay t y (length area) (Refused x)) s a d p) in absurd (n k.0 k.1)
    at r out (schedule a d p u v w) n = as_read (λ y. StagesSay t y (length area) Passed) s a d p
    at r out (wanting a d p k x w) n = as_read (λ y. StagesSay t y (length area) Passed) s a d p

module _ (t : Timetable) (s s' area : List ℕ) (larger : LargerT s s') where
  abbrev limit : ℕ
  limit = (requested (read_request s)).limit

  -- What is read differs in T alone, so the plan of length 0 is the same.
  abbrev asked : Request
  asked = requested (read_request s)

  abbrev limit' : ℕ
  limit' = (requested (read_request s')).limit

  same_asked : requested (read_request s') ≡ with_t limit' asked
  same_asked =
      let b = larger.slot in
      let c = larger.asks in
      λ j. record { slot = b j; limit = limit'; asks = c j }

  first_read : read_request s ≡ Ok asked
  first_read = read_requested (read_request s) larger.read

  same_request : read_request s' ≡ Ok (with_t limit' asked)
  same_request = read_requested (read_request s') larger.read' ∙ ap Ok same_asked

  same_start : start_plan t (requested (read_request s')) ≡ start_plan t asked
  unfolding start_plan
  same_start = ap (start_plan t) same_asked

  -- Any answer but 11 is the same.
  unmoved : (outcome t s area).number ≢ LENGTHS_EXHAUSTED → (outcome t s' area ≡ outcome t s area) × (area_after t s' area ≡ area_after t s area)
  unfolding outcome area_after
  unmoved n =
      let e = answer_raised t s s' (length area) limit' asked first_read same_request larger.larger n in
      (ap outcome_of e, ap (λ (a : Answer). written a area) e)

  -- After an 11 the request passes with a larger T too.
  raised_again : (outcome t s area).number ≡ LENGTHS_EXHAUSTED
      → ((outcome t s' area).number ≡ ACCEPTED) ⊎ ((outcome t s' area).number ≡ SLOT_MISSED) ⊎ ((outcome t s' area).number ≡ LENGTHS_EXHAUSTED)
  unfolding outcome
  raised_again z =
      passed_number t s' (length area)
      (ap (λ (read : ReadRequest). verdict_before t read (length area)) same_request
      ∙ verdict_raised t asked limit' (length area)
      ∙ sym (ap (λ (read : ReadRequest). verdict_before t read (length area)) first_read)
      ∙ no_refusal t s (length area) (passes t s area (λ a b. omega (arith, z))))

  -- What would be accepted, or missed, up to T would have been so with T.
  raised_longer : (outcome t s area).number ≡ LENGTHS_EXHAUSTED → (outcome t s' area).number ≡ ACCEPTED → limit < (outcome t s' area).timetable.length
  raised_longer z y = at (dec_lt limit n)
    where
      n : ℕ
      n = (outcome t s' area).timetable.length

      at : Dec (limit < n) → limit < n
      at (yes l) = l
      at (no l) =
          let w = ((shortest t s' area (passes t s' area (λ a b. omega (arith, y)))).accepted n).0 (y, refl) in
          let x = subst (λ (p : Plan). HasPlacement p n × ((m : ℕ) → m < n → PassedOver p m)) same_start (w.1, w.2) in
          let v = ((shortest t s area (passes t s area (λ a b. omega (arith, z)))).accepted n).1 (omega arith, x.0, x.1) in
          absurd (omega (arith, z, v.0))

  raised_later : (outcome t s area).number ≡ LENGTHS_EXHAUSTED → (outcome t s' area).number ≡ SLOT_MISSED → limit ≤ (outcome t s' area).place
  raised_later z y = at (dec_lt k limit)
    where
      k : ℕ
      k = (outcome t s' area).place

      at : Dec (k < limit) → limit ≤ k
      at (no l) = omega arith
      at (yes l) =
          let w = ((shortest t s' area (passes t s' area (λ a b. omega (arith, y)))).missed k).0 (y, refl) in
          let x = subst (λ (p : Plan). ((m : ℕ) → m ≤ k → PassedOver p m) × SlotBreaks p k) same_start (w.1, w.2) in
          let v = ((shortest t s area (passes t s area (λ a b. omega (arith, z)))).missed k).1 (l, x.0, x.1) in
          absurd (omega (arith, z, v.0))

pub raising_T : RaisingT
raising_T t s s' area larger = record {
  missed = λ e. unmoved t s s' area larger (λ z. omega (arith, e, z));
  accepted = λ e. unmoved t s s' area larger (λ z. omega (arith, e, z));
  before = λ _ _ n. unmoved t s s' area larger n;
  again = raised_again t s s' area larger;
  longer = raised_longer t s s' area larger;
  later = raised_later t s s' area larger;
}

-- ---- 14 and 15

pub answers_read : AnswersRead
unfolding outcome area_after
answers_read = record {
  given = λ s at. answer_read s at;
  only = λ s at x d. answer_is s d;
  damaged = λ s r e. answer_damaged s r e;
  one = λ s x e. answer_form_lem s x e;
  range = λ s x e. answer_range s x e;
  back = λ x r. answer_back x r;
  changed = λ t s area e.
      let bytes = record_of (answer t s (length area)) in
      ap read_answer (sets_taken area bytes (length bytes) refl (held t s (length area)).fits) ∙ accepted_read t s (length area) e;
  told = λ s at x e. answer_told (read_from s at) x e;
  untold = λ s at r e. answer_untold (read_from s at) r e;
  field = λ s at. field_read s at;
  field_only = λ s at x d. field_is s d;
  step = λ s at. step_read s at;
  step_only = λ s at x next d. step_is s d;
  owner = λ s x e n. answer_owner s x e n;
}

pub requests_written : RequestsWritten
unfolding requested
requests_written = record {
  given = λ slot limit listing area. request_written slot limit listing area;
  one = λ slot limit listing area r r' out out' a b. request_written_one slot limit listing area a b;
  told = λ slot limit listing area. request_tells slot limit listing area;
  told_one = λ slot limit listing area n p w n' p' w' out out' a b. request_tells_one slot limit listing area a b;
  read = λ slot limit listing area n e.
      let l = handed_lists slot limit listing (accepted_whole slot limit listing area n e) in
      rw (written_back slot limit listing area n e, requested) (record { read = refl; same_slot = l.0; same_limit = l.1; lists = l.2 });
}

-- ---- 16 and 17

pub as_before : AsBefore
unfolding outcome area_after
as_before = record {
  same = λ t s s' area f.
      let e = same_answer t s s' (length area) f in
      (ap outcome_of e, ap (λ (a : Answer). written a area) e);
  full = λ t s z read. full_request t s (sound_from t z) read;
  one = λ t s s' s'' f g. full_one t s s' s'' f g;
  behind = λ t s area e.
      behind_named t s (length area) (record { number = (outcome t s area).number; place = (outcome t s area).place })
      (stages_kept.refused_only t s area (read_request s) (request_read s) (λ z. omega (arith, e, z)) (λ z. omega (arith, e, z)) (λ z. omega (arith, e, z))) e;
}

pub granted_as_there : GrantedAsThere
unfolding outcome
granted_as_there = record {
  granted = λ t s area z size asks.
      let g = granted t s (length area) z size asks.read asks.in_time asks.asks in
      record { accepted = g.0; at_once = g.1; period = λ i k. (g.2 i k).0; bound = λ i k. (g.2 i k).1 };
  asked = λ t z slot limit a b c. there_request t (sound_from t z) slot limit a b c;
}

-- ---- 18

pub debts : Debts
unfolding outcome present
debts = record {
  worked_off = λ sent.
      let h = history_of sent in
      record { falls = worked_off (run_of h); absent = absent_run h (history_valid sent) };
  stays = stays;
  accepted = λ t s area e i k.
      let c = accepted_continues t s (length area) e in
      shortfall_request (answer t s (length area)).timetable i ∙ c.starts i k;
}
  where
    stays : (h : History) (q : Sent) (i x : ℕ) → x ≤ (present (send h q)).request.0 → shortfall (run_of (send h q)) i x ≡ shortfall (run_of h) i x
    stays h q i x l = at (ℕ_discrete (answer (present h) q.bytes q.area).number ACCEPTED)
      where
        at : Dec ((answer (present h) q.bytes q.area).number ≡ ACCEPTED) → shortfall (run_of (send h q)) i x ≡ shortfall (run_of h) i x
        at (yes e) =
            let z = sent_accepted h q e in
            ap (λ (g : History). shortfall (run_of g) i x) z
            ∙ shortfall_stays (answer (present h) q.bytes q.area).timetable h i x (subst (λ (g : History). x ≤ (present g).request.0) z l)
        at (no n) = ap (λ (g : History). shortfall (run_of g) i x) (sent_refused h q n)
