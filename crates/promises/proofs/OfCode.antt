-- The demands hold of the code: what meets the contract is what the promises speak of, and a controller made of such calls has the history of its requests.
-- Assumes nothing.
use lib.ListN.{length, take}
use mathlib.Core.Bool.{true}
use mathlib.Core.List.{List, [], ◌∷◌}
use mathlib.Core.Logic.{◌≢◌, inl, inr}
use mathlib.Core.Path.{◌≡◌, refl, sym, ap, ◌∙◌, subst, subst₂}
use Prim.Native.Nat.{ℕ}
use native.Mathlib.Omega.{arith}
use Rattle.std.specs.Prelude.{Ok}
use Rattle.archive.proofs.RequestPlaces.{tells_written}
use Rattle.archive.specs.AnswerRead.{no_schedule, read_answer, schedule_of}
use Rattle.archive.specs.AnswerReads.{AnswerRead, FieldRead, ReaderStep}
use Rattle.archive.specs.RequestWrite.{write_request}
use Rattle.archive.specs.Told.{told_number, told_place}
use Rattle.archive.specs.Writes.{RequestTells, RequestWritten}
use Rattle.change.proofs.Answers.{refusal_number}
use Rattle.change.proofs.GivenLaws.{wanting_number}
use Rattle.change.proofs.Histories.{sent_accepted, sent_refused}
use Rattle.change.specs.Change.{answer, area_after, outcome}
use Rattle.change.specs.Controller.{Sent, send, history_of}
use Rattle.change.specs.declared.Outcome.{Outcome}
use Rattle.change.specs.Given.{Accepted, Gives, early, schedule, wanting}
use Rattle.change.specs.Queried.{OwnerGiven, StandingGiven}
use Rattle.change.specs.Refused.{StagesSay}
use Rattle.numbers.specs.Chain.{Refused}
use Rattle.numbers.specs.Numbers.{ACCEPTED, SLOT_MISSED, LENGTHS_EXHAUSTED}
use Rattle.promises.proofs.Kept.{answers_read, exact, kept_shortfall, one_owner, queries, raising_T, requests_written, shortest, sound_stays, stages_kept, windows, as_before, debts, granted_as_there}
use Rattle.promises.specs.OfCode.{Meets, Serves, start, accepts, refuses, DemandOne, DemandTwo, DemandThree, DeficitMeans, QueriesOfCode, RaisingTOfCode, ArchiveOfCode, AsBeforeOfCode, DebtsOfCode, GrantedOfCode}
use Rattle.promises.specs.Promises.{QueriesTell, RaisedT, ReadAs, ServesOne, ShortestOf, ShortfallMeans, WindowsKept, StaysAsThere, WorkedOff}
use Rattle.records.proofs.ReadSteps.{as_read, read_alike}
use Rattle.records.specs.Reads.{RequestRead}
use Rattle.records.specs.Request.{read_request, ReadRequest, requested}
use Rattle.timetable.specs.declared.Timetable.{Timetable}
use Rattle.timetable.specs.History.{History, present}
use Rattle.timetable.specs.Sound.{is_sound}
use Rattle.timetable.specs.Timetable.{shortfall_at}

module _ (t : Timetable) (s area : List ℕ) (r : Outcome) (out : List ℕ) (m : Meets t s area r out) where
  -- What is promised of the outcome and the area holds of what meets the contract.
  of_code : (P : Outcome → List ℕ → Type 0) → P (outcome t s area) (area_after t s area) → P r out
  of_code P p = subst (λ (o : Outcome). P o out) (sym m.0) (subst (P (outcome t s area)) (sym m.1) p)

pub demand_one : DemandOne
demand_one = record {
  given = λ t s area r out m read e x p. let k = stages_kept.refused t s area read e x p in (m.0 ∙ k.0, m.1 ∙ k.1);
  only = λ t s area r out m n k l read e.
      of_code t s area r out m
      (λ (o : Outcome) (_ : List ℕ).
      o.number ≢ ACCEPTED → o.number ≢ SLOT_MISSED → o.number ≢ LENGTHS_EXHAUSTED
      → StagesSay t read (length area) (Refused (record { number = o.number; place = o.place })))
      (stages_kept.refused_only t s area read e) n k l;
  refused = λ t s area r out m.
      of_code t s area r out m (λ (o : Outcome) (a : List ℕ). o.number ≢ ACCEPTED → (o.timetable ≡ t) × (o.written ≡ 0) × (a ≡ area))
      (sound_stays.refused t s area);
  sound = λ t s area r out m.
      of_code t s area r out m (λ (o : Outcome) (_ : List ℕ). o.number ≡ ACCEPTED → is_sound o.timetable ≡ true) (sound_stays.accepted t s area);
}

pub demand_two : DemandTwo
demand_two = record {
  accepted = λ t s area r out m n read e. so t s area read e r out (of_code t s area r out m (Gives t s area) (exact.given t s area)) n;
  one = λ t s area read e p r r' out out' a b.
      exact.one t s area r r' out out' (schedule read e p r out a) (schedule read e p r' out' b);
  exactly = λ t s area r out. (
    (λ m. of_code t s area r out m (Gives t s area) (exact.given t s area)),
    (λ g. exact.one t s area r (outcome t s area) out (area_after t s area) g (exact.given t s area)),
  );
}
  where
    so : (t : Timetable) (s area : List ℕ) (read : ReadRequest) → RequestRead s read → (r : Outcome) (out : List ℕ) → Gives t s area r out
        → r.number ≡ ACCEPTED → Accepted t (requested read) area r out
    so t s area read e r out (early a d x p) n =
        absurd
        (let k = refusal_number t s (length area) x (as_read (λ y. StagesSay t y (length area) (Refused x)) s a d p) in
        omega (arith, k.0, n))
    so t s area read e r out (schedule a d p u v w) n =
        read_alike (λ y. Accepted t (requested y) area u v) s a read d e w
    so t s area read e r out (wanting a d p k x w) n = absurd (elim (wanting_number t (requested a) k x w) [ inl z ↦ omega arith | inr z ↦ omega arith ])

-- A controller's history is that of the requests it was sent.
sent_history : (h : History) → Serves h → (sent : List Sent) × (h ≡ history_of sent)
unfolding history_of outcome
sent_history h start = ([], refl)
sent_history h (accepts g v s area r out m e) =
    let w = sent_history g v in
    let q : Sent = record { bytes = s; area = length area } in
    let a : (answer (present g) s (length area)).number ≡ ACCEPTED = sym (ap (λ (o : Outcome). o.number) m.0) ∙ e in (
      q ∷ w.0,
      ap (λ (o : Outcome). o.timetable ∷ g) m.0 ∙ sym (sent_accepted g q a) ∙ ap (λ (x : History). send x q) w.1,
    )
sent_history h (refuses g v s area r out m n) =
    let w = sent_history g v in
    let q : Sent = record { bytes = s; area = length area } in
    let a : (answer (present g) s (length area)).number ≢ ACCEPTED = λ e. n (ap (λ (o : Outcome). o.number) m.0 ∙ e) in
    (q ∷ w.0, sym (sent_refused g q a) ∙ ap (λ (x : History). send x q) w.1)

-- What holds of the history of any requests holds of a controller.
of_controller : (P : History → Type 0) → ((sent : List Sent) → P (history_of sent)) → (h : History) → Serves h → P h
of_controller P p h v = let w = sent_history h v in subst P (sym w.1) (p w.0)

pub demand_three : DemandThree
demand_three = record {
  windows = of_controller WindowsKept windows;
  one_owner = of_controller ServesOne one_owner;
  shortest = λ t s area r out m p. of_code t s area r out m (λ (o : Outcome) (_ : List ℕ). ShortestOf t (requested (read_request s)) o) (shortest t s area p);
}

pub raising_T_of_code : RaisingTOfCode
raising_T_of_code t s s' area r r' out out' m m' larger =
    of_code t s area r out m (λ (o : Outcome) (a : List ℕ). RaisedT (requested (read_request s)).limit o a r' out')
    (of_code t s' area r' out' m' (RaisedT (requested (read_request s)).limit (outcome t s area) (area_after t s area)) (raising_T t s s' area larger))

pub as_before_of_code : AsBeforeOfCode
as_before_of_code t s s' area r r' out out' m m' f =
    of_code t s area r out m (λ (o : Outcome) (a : List ℕ). (r' ≡ o) × (out' ≡ a))
    (of_code t s' area r' out' m' (λ (o : Outcome) (a : List ℕ). (o ≡ outcome t s area) × (a ≡ area_after t s area)) (as_before.same t s s' area f))

pub granted_of_code : GrantedOfCode
granted_of_code t s area r out m z size asks =
    of_code t s area r out m (λ (o : Outcome) (_ : List ℕ). StaysAsThere t o) (granted_as_there.granted t s area z size asks)

pub deficit_means : DeficitMeans
deficit_means = of_controller ShortfallMeans kept_shortfall

pub debts_of_code : DebtsOfCode
debts_of_code = record {
  worked_off = of_controller WorkedOff debts.worked_off;
  accepted = λ t s area r out m e i k.
      of_code t s area r out m
      (λ (o : Outcome) (_ : List ℕ). o.number ≡ ACCEPTED → shortfall_at o.timetable i o.timetable.request ≡ shortfall_at t i o.timetable.request)
      (λ z. debts.accepted t s area z i k) e;
}

pub queries_of_code : QueriesOfCode
queries_of_code = record {
  owner = λ t x r. ((λ e. subst (OwnerGiven t x) (sym e) (queries.owner t x)), (λ g. sym (queries.owner_only t x r g)));
  standing = λ t i x r. ((λ e. subst (StandingGiven t i x) (sym e) (queries.standing t i x)), (λ g. sym (queries.standing_only t i x r g)));
  owner_run = λ h v x l b r e. e ∙ (of_controller QueriesTell queries.tell h v).owner x l b;
  standing_run = λ h v i x k l b li r e. e ∙ (of_controller QueriesTell queries.tell h v).standing i x k l b li;
}

pub archive_of_code : ArchiveOfCode
archive_of_code = record {
  answer = λ s at x. (
    (λ e. subst (AnswerRead s at no_schedule) (sym e) (answers_read.given s at)),
    (λ d. sym (answers_read.only s at x d)),
  );
  field = λ s at x. (
    (λ e. subst (FieldRead s at) (sym e) (answers_read.field s at)),
    (λ d. sym (answers_read.field_only s at x d)),
  );
  next = λ s at x next. (
    (λ m. subst₂ (ReaderStep s at) (sym m.0) (sym m.1) (answers_read.step s at)),
    (λ d. let e = answers_read.step_only s at x next d in (sym e.0, sym e.1)),
  );
  owner = λ s x e n o told. told ∙ answers_read.owner s x e n;
  changed = λ t s area r out m e x read.
      read
      ∙ of_code t s area r out m
      (λ (o : Outcome) (a : List ℕ). o.number ≡ ACCEPTED → read_answer (take o.written a) ≡ Ok (schedule_of o.timetable))
      (answers_read.changed t s area) e;
  request = λ slot limit listing area w out. (
    (λ m. subst₂ (RequestWritten slot limit listing area) (sym m.0) (sym m.1) (requests_written.given slot limit listing area)),
    (λ d. requests_written.one slot limit listing area w _ out _ d (requests_written.given slot limit listing area)),
  );
  told = λ slot limit listing area number place written out. (
    (λ m.
        let w = write_request slot limit listing (length area) in
        subst₂ (λ (n p : ℕ). RequestTells slot limit listing area n p written out) (sym m.0) (sym m.1)
        (subst₂ (λ (b : ℕ) (a : List ℕ). RequestTells slot limit listing area (told_number w) (told_place w) b a) (sym m.2) (sym m.3)
        (requests_written.told slot limit listing area))),
    (λ d. requests_written.told_one slot limit listing area number place written _ _ _ out _ d (requests_written.told slot limit listing area)),
  );
  read = λ slot limit listing area w out m p n e.
      subst (λ (a : List ℕ). ReadAs slot limit listing (read_request (take n a))) (sym p)
      (requests_written.read slot limit listing area n (sym m ∙ e));
  told_read = λ slot limit listing area number place written out d e.
      let w = tells_written slot limit listing area d e in
      subst (λ (a : List ℕ). ReadAs slot limit listing (read_request (take written a))) w.1
      (requests_written.read slot limit listing area written w.0);
}
