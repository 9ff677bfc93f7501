-- The rules leave one outcome and one content of the area: rule 1 gives one start, rule 3 one run of owners, rule 4 one choice of offsets, and a length
-- with a placement is no length that is passed over. Assumes nothing.
use borrow.Author.Tests.{lt-ltb}
use lib.ListN.{get_or, length}
use lib.Seq.{ext_get_or}
use mathlib.Core.List.{List}
use mathlib.Core.Path.{◌≡◌, refl, sym, ap, ap₂, ◌∙◌, subst}
use native.Mathlib.Decide.{ℕ_discrete, dec_lt}
use native.Mathlib.Omega.{arith}
use Prim.Native.Nat.{ℕ, suc, ◌+◌, ◌≤◌, ◌<◌}
use Rattle.change.proofs.Answers.{Admitted, admitted, admitted_fit}
use Rattle.change.proofs.GivenLaws.{at_request}
use Rattle.change.proofs.Stages.{stages}
use Rattle.change.specs.Change.{start_plan}
use Rattle.change.specs.declared.Outcome.{Outcome}
use Rattle.change.specs.Given.{AsksBound, in_full, as_listed, not_listed, Enters, AtRequest, ByRules, Accepted, EndsAt, missed, exhausted, Wanting, Gives, early, schedule, wanting, refused_with}
use Rattle.change.specs.Refused.{StagesSay}
use Rattle.change.specs.Stages.{start_entries, verdict_before}
use Rattle.numbers.proofs.ChainLaws.{not_passed}
use Rattle.placement.proofs.RuleFourLaws.{rule_four_one, rule_four_placement}
use Rattle.placement.specs.Any.{Lists, NoPlacement}
use Rattle.placement.specs.RuleFour.{ByRuleFour}
use Rattle.records.proofs.AnswerPlaces.{answer_one}
use Rattle.records.proofs.ReadSteps.{as_read}
use Rattle.records.specs.AnswerForm.{AnswerStands}
use Rattle.numbers.specs.declared.Refusal.{Refusal}
use Rattle.numbers.specs.Chain.{Verdict}
use Rattle.numbers.specs.Chain.{Passed, Refused}
use Rattle.records.specs.declared.Request.{Request}
use Rattle.records.specs.Reads.{RequestRead}
use Rattle.records.specs.Request.{ask_of, read_request, ReadRequest, requested}
use Rattle.slots.proofs.Below.{true_false}
use Rattle.slots.specs.Limits.{IDS}
use Rattle.timetable.proofs.Sound.{Ranged}
use Rattle.timetable.specs.declared.Entry.{Entry}
use Rattle.timetable.specs.declared.Timetable.{Timetable}
use Rattle.timetable.specs.Timetable.{entry_of, is_listed}
use Rattle.transition.proofs.RuleThreeLaws.{goes_kept, owners_one, same_entries, walked_at, walked_ranged, walked_same}
use Rattle.transition.specs.Reach.{AnyoneBreaks}
use Rattle.transition.specs.RuleThree.{ByRuleThree, walked_to}

-- ---- rule 1

-- One bound is asked.
pub bound_one : (old : Entry) (a b c : ℕ) → AsksBound old a b → AsksBound old a c → b ≡ c
bound_one old a b c (in_full _ p) (in_full _ q) = p ∙ sym q
bound_one old a b c (in_full h _) (as_listed z _ _) = absurd (omega arith)
bound_one old a b c (in_full h _) (not_listed z _ _) = absurd (omega arith)
bound_one old a b c (as_listed z _ _) (in_full h _) = absurd (omega arith)
bound_one old a b c (as_listed _ _ p) (as_listed _ _ q) = p ∙ sym q
bound_one old a b c (as_listed _ l _) (not_listed _ m _) = absurd (true_false l m)
bound_one old a b c (not_listed z _ _) (in_full h _) = absurd (omega arith)
bound_one old a b c (not_listed _ m _) (as_listed _ l _) = absurd (true_false l m)
bound_one old a b c (not_listed _ _ p) (not_listed _ _ q) = p ∙ sym q

-- An id enters with one entry.
enters_one : (t : Timetable) (q : Request) (i : ℕ) (e f : Entry) → Enters t q i e → Enters t q i f → e ≡ f
enters_one t q i e f p r =
    let a = p.period ∙ sym r.period in
    let b = p.offset ∙ sym r.offset in
    let c = bound_one (entry_of t.entries i) (ask_of q.asks i).bound e.bound f.bound p.bound r.bound in
    let d = p.shortfall ∙ sym r.shortfall in
    λ j. record { period = a j; offset = b j; bound = c j; shortfall = d j }

-- One list of entries is that at the request slot.
start_one : (t : Timetable) (q : Request) (es fs : List Entry) → AtRequest t q es → AtRequest t q fs → es ≡ fs
start_one t q es fs p r = same_entries es fs p.count r.count (λ i k. at i k (ℕ_discrete (ask_of q.asks i).period 0))
  where
    at : (i : ℕ) → i < IDS → Dec ((ask_of q.asks i).period ≡ 0) → entry_of es i ≡ entry_of fs i
    at i k (yes z) = p.absent i k z ∙ sym (r.absent i k z)
    at i k (no z) = enters_one t q i (entry_of es i) (entry_of fs i) (p.listed i k (omega arith)) (r.listed i k (omega arith))

-- ---- rules 2 to 4

module _ (t : Timetable) (q : Request) (start : List Entry) (s : AtRequest t q start) (ranged : Ranged start) where
  -- No entry is placed at the request slot.
  unplaced : (i : ℕ) → i < IDS → (entry_of start i).offset ≡ 0
  unplaced i k = at (ℕ_discrete (ask_of q.asks i).period 0)
    where
      at : Dec ((ask_of q.asks i).period ≡ 0) → (entry_of start i).offset ≡ 0
      at (yes z) = ap (λ (e : Entry). e.offset) (s.absent i k z)
      at (no z) = (s.listed i k (omega arith)).offset

  -- Offsets by rule 4 after a transition by rule 3 are a placement.
  placed_there : (owners : List ℕ) (n : ℕ) → ByRuleThree start owners n → (offsets : ℕ → ℕ) → ByRuleFour (walked_to start owners n) offsets
      → NoPlacement (walked_to start owners n) → ⊥
  placed_there owners n r offsets f no-placement =
      no-placement offsets (rule_four_placement (walked_to start owners n) (walked_ranged start s.count ranged unplaced owners n r) offsets f)

  -- Two runs by rule 3 have walked to the same entries where both have come to.
  walked_one : (a b : List ℕ) (n : ℕ) → ByRuleThree start a n → ByRuleThree start b n → walked_to start a n ≡ walked_to start b n
  walked_one a b n p r = walked_same start s.count a b n (owners_one start s.count a b n p r)

  -- A run by rule 3 does not go on where, whoever gets the slot, a bound is broken.
  not_past : (a b : List ℕ) (n m : ℕ) → ByRuleThree start a n → ByRuleThree start b m → n < m → AnyoneBreaks (walked_to start a n) → ⊥
  not_past a b n m p r l broken =
      let w = walked_one a b n p (λ k h. r k (omega arith)) in
      goes_kept (walked_to start b n) (subst Ranged w (walked_ranged start s.count ranged unplaced a n p)) (get_or b n 0) (r n l) (subst AnyoneBreaks w broken)

  module _ (x y : Timetable) (p : ByRules q start x) (r : ByRules q start y) where
    -- Neither is shorter.
    not_shorter : x.length < y.length → ⊥
    not_shorter l =
        placed_there x.owners x.length p.transition (λ i. (entry_of x.entries i).offset) p.placed
        (subst NoPlacement (sym (walked_one x.owners y.owners x.length p.transition (λ k h. r.transition k (omega arith)))) (r.shorter x.length l))

  module _ (x y : Timetable) (p : ByRules q start x) (r : ByRules q start y) where
    size_one : x.length ≡ y.length
    size_one = at (dec_lt x.length y.length) (dec_lt y.length x.length)
      where
        at : Dec (x.length < y.length) → Dec (y.length < x.length) → x.length ≡ y.length
        at (yes l) _ = absurd (not_shorter x y p r l)
        at (no _) (yes l) = absurd (not_shorter y x r p l)
        at (no k) (no l) = omega arith

    -- The owners are the same, the unused ones too.
    run_one : x.owners ≡ y.owners
    run_one = ext_get_or 0 x.owners y.owners (p.places ∙ sym r.places) (λ k _. at k (dec_lt k x.length))
      where
        at : (k : ℕ) → Dec (k < x.length) → get_or x.owners k 0 ≡ get_or y.owners k 0
        at k (yes l) = owners_one start s.count x.owners y.owners x.length p.transition (λ m h. r.transition m (omega (arith, size_one))) k l
        at k (no l) = p.unused k (omega arith) ∙ sym (r.unused k (omega (arith, size_one)))

    walk_one : walked_to start x.owners x.length ≡ walked_to start y.owners y.length
    walk_one = rw (run_one, size_one)

    -- So are the entries.
    entries_one : x.entries ≡ y.entries
    entries_one = same_entries x.entries y.entries p.count r.count (λ i k. at i k (ℕ_discrete (ask_of q.asks i).period 0))
      where
        es : List Entry
        es = walked_to start x.owners x.length

        lists : (i : ℕ) → i < IDS → 0 < (ask_of q.asks i).period → Lists es i
        lists i k h =
            let e = walked_at start s.count x.owners x.length i k in
            (k, ap is_listed e ∙ lt-ltb 0 (entry_of start i).period (omega (arith, (s.listed i k h).period)))

        at : (i : ℕ) → i < IDS → Dec ((ask_of q.asks i).period ≡ 0) → entry_of x.entries i ≡ entry_of y.entries i
        at i k (yes z) = p.absent i k z ∙ sym (r.absent i k z)
        at i k (no z) =
            let o : (entry_of x.entries i).offset ≡ (entry_of y.entries i).offset =
            rule_four_one es (walked_ranged start s.count ranged unplaced x.owners x.length p.transition)
            (λ i. (entry_of x.entries i).offset) (λ i. (entry_of y.entries i).offset) p.placed
            (subst (λ (fs : List Entry). ByRuleFour fs (λ i. (entry_of y.entries i).offset)) (sym walk_one) r.placed)
            i (lists i k (omega arith)) in
            p.kept i k ∙ rw (o, walk_one) (sym (r.kept i k))

    -- And the starts.
    starts_one : x.starts ≡ y.starts
    starts_one = ext_get_or 0 x.starts y.starts (p.start_count ∙ sym r.start_count) (λ i k. p.starts i (omega (arith, p.start_count)) ∙ sym (r.starts i (omega (arith, p.start_count))))

    -- So there is one timetable.
    timetable_one : x ≡ y
    timetable_one =
        let a = p.slot ∙ sym r.slot in
        let b = size_one in
        let c = run_one in
        let d : x.base.0 ≡ y.base.0 = p.base ∙ ap (λ (n : ℕ). q.slot.0 + n) size_one ∙ sym r.base in
        let e = entries_one in
        let f = starts_one in
        λ j. record { request = a j; length = b j; owners = c j; base = record { 0 = d j }; entries = e j; starts = f j }

-- ---- the end of a search in vain

-- The search ends at T at the latest.
ends_by_T : (limit n : ℕ) (es : List Entry) (x : ℕ) → EndsAt limit n es x → n ≤ limit
ends_by_T limit n es x (missed l _) = omega arith
ends_by_T limit n es x (exhausted z) = omega arith

-- An end at one length has one number.
number_one : (limit n m : ℕ) (es fs : List Entry) (x y : ℕ) → n ≡ m → EndsAt limit n es x → EndsAt limit m fs y → x ≡ y
number_one limit n m es fs x y e (missed _ _) (missed _ _) = refl
number_one limit n m es fs x y e (missed l _) (exhausted z) = absurd (omega arith)
number_one limit n m es fs x y e (exhausted z) (missed l _) = absurd (omega arith)
number_one limit n m es fs x y e (exhausted _) (exhausted _) = refl

-- ---- the whole

module _ (t : Timetable) (q : Request) (size : ℕ) (pass : Admitted t q size) where
  -- The entries at the request slot are in range.
  start_in_range_lem : (es : List Entry) → AtRequest t q es → Ranged es
  unfolding start_plan
  start_in_range_lem es s = subst Ranged (start_one t q (start_entries t q.slot q.asks) es (at_request t q) s) (admitted_fit t q size pass).ranged

  -- Two acceptances are one.
  accepted_one : (before : List ℕ) (r r' : Outcome) (out out' : List ℕ) → Accepted t q before r out → Accepted t q before r' out' → (r ≡ r') × (out ≡ out')
  accepted_one before r r' out out' a b =
      let e = start_one t q b.start a.start b.starts a.starts in
      let c : r.timetable ≡ r'.timetable =
      timetable_one t q a.start a.starts (start_in_range_lem a.start a.starts) r.timetable r'.timetable a.rules
      (subst (λ (es : List Entry). ByRules q es r'.timetable) e b.rules) in
      let d =
      answer_one before r.timetable.length r.timetable.owners r.timetable.entries r.written r'.written out out' a.answer
      (subst (λ (x : Timetable). AnswerStands before x.length x.owners x.entries r'.written out') (sym c) b.answer) in
      let f : r.number ≡ r'.number = a.number ∙ sym b.number in
      let g : r.place ≡ r'.place = a.place ∙ sym b.place in
      let h : r.tries ≡ r'.tries = a.tries ∙ ap (λ (x : Timetable). suc x.length) c ∙ sym b.tries in
      ((λ j. record { number = f j; place = g j; tries = h j; written = d.0 j; timetable = c j }), d.1)

  -- A transition by rule 3 does not go past the length at which a schedule is wanting.
  not_beyond : (n x : ℕ) → Wanting t q n x → (start : List Entry) → AtRequest t q start → (owners : List ℕ) (m : ℕ) → ByRuleThree start owners m → m ≤ q.limit → n < m → ⊥
  not_beyond n x w start s owners m r h l = at x w.ends
    where
      at : (x : ℕ) → EndsAt q.limit n (walked_to w.start w.owners n) x → ⊥
      at x (exhausted z) = omega arith
      at x (missed _ broken) =
          not_past t q w.start w.starts (start_in_range_lem w.start w.starts) w.owners owners n m w.transition
          (subst (λ (es : List Entry). ByRuleThree es owners m) (start_one t q start w.start s w.starts) r) l broken

  -- A schedule is wanting at one length.
  wanting_one : (n x m y : ℕ) → Wanting t q n x → Wanting t q m y → n ≡ m
  wanting_one n x m y a b = at (dec_lt n m) (dec_lt m n)
    where
      at : Dec (n < m) → Dec (m < n) → n ≡ m
      at (yes l) _ = absurd (not_beyond n x a b.start b.starts b.owners m b.transition (ends_by_T _ m _ y b.ends) l)
      at (no _) (yes l) = absurd (not_beyond m y b a.start a.starts a.owners n a.transition (ends_by_T _ n _ x a.ends) l)
      at (no k) (no l) = omega arith

  -- Where there is an acceptance no schedule is wanting.
  not_wanting : (before : List ℕ) (r : Outcome) (out : List ℕ) (n number : ℕ) → Accepted t q before r out → Wanting t q n number → ⊥
  not_wanting before r out n number a w = at (dec_lt n r.timetable.length)
    where
      x : Timetable
      x = r.timetable

      at : Dec (n < x.length) → ⊥
      at (yes l) = not_beyond n number w a.start a.starts x.owners x.length a.rules.transition a.rules.limit l
      at (no l) =
          let e = start_one t q w.start a.start w.starts a.starts in
          let run : ByRuleThree a.start w.owners x.length =
          subst (λ (es : List Entry). ByRuleThree es w.owners x.length) e (λ k h. w.transition k (omega arith)) in
          let g = start_in_range_lem a.start a.starts in
          placed_there t q a.start a.starts g x.owners x.length a.rules.transition (λ i. (entry_of x.entries i).offset) a.rules.placed
          (subst NoPlacement
          (ap (λ (es : List Entry). walked_to es w.owners x.length) e
          ∙ sym (walked_one t q a.start a.starts g x.owners w.owners x.length a.rules.transition run))
          (w.passed x.length (omega arith)))

module _ (t : Timetable) (s area : List ℕ) where
  judged : (v : Verdict) (read : ReadRequest) → RequestRead s read → StagesSay t read (length area) v → verdict_before t (read_request s) (length area) ≡ v
  judged v read e p = (stages t (read_request s) (length area)).only v (as_read (λ y. StagesSay t y (length area) v) s read e p)

  -- No request is both refused before the search and searched.
  not_early : (x : Refusal) (a b : ReadRequest) → RequestRead s a → RequestRead s b → StagesSay t a (length area) (Refused x)
      → StagesSay t b (length area) Passed → ⊥
  not_early x a b d e p q = not_passed x (sym (judged Passed b e q) ∙ judged (Refused x) a d p)

  -- A request that is searched is in range, and nobody in it is behind.
  passes : (read : ReadRequest) → RequestRead s read → StagesSay t read (length area) Passed → Admitted t (requested (read_request s)) (length area)
  passes read e p = admitted t s (length area) (as_read (λ y. StagesSay t y (length area) Passed) s read e p)

  -- The rules leave one outcome and one content of the area.
  pub gives_one : (r r' : Outcome) (out out' : List ℕ) → Gives t s area r out → Gives t s area r' out' → (r ≡ r') × (out ≡ out')
  gives_one r r' out out' (early a d x p) (early b e y q) =
      let k = judged (Refused x) a d p in
      let l = judged (Refused y) b e q in
      let z : x ≡ y = cc in
      (ap (λ (w : Refusal). refused_with t w.number w.place 0) z, refl)
  gives_one r r' out out' (early a d x p) (schedule b e q u v w) = absurd (not_early x a b d e p q)
  gives_one r r' out out' (early a d x p) (wanting b e q n k w) = absurd (not_early x a b d e p q)
  gives_one r r' out out' (schedule a d p u v w) (early b e y q) = absurd (not_early y b a e d q p)
  gives_one r r' out out' (schedule a d p u v w) (schedule b e q u' v' w') =
      let g = passes a d p in
      accepted_one t (requested (read_request s)) (length area) g area u u' v v'
      (as_read (λ y. Accepted t (requested y) area u v) s a d w)
      (as_read (λ y. Accepted t (requested y) area u' v') s b e w')
  gives_one r r' out out' (schedule a d p u v w) (wanting b e q n k x) =
      let g = passes a d p in
      absurd
      (not_wanting t (requested (read_request s)) (length area) g area u v n k
      (as_read (λ y. Accepted t (requested y) area u v) s a d w)
      (as_read (λ y. Wanting t (requested y) n k) s b e x))
  gives_one r r' out out' (wanting a d p n k x) (early b e y q) = absurd (not_early y b a e d q p)
  gives_one r r' out out' (wanting a d p n k x) (schedule b e q u v w) =
      let g = passes a d p in
      absurd
      (not_wanting t (requested (read_request s)) (length area) g area u v n k
      (as_read (λ y. Accepted t (requested y) area u v) s b e w)
      (as_read (λ y. Wanting t (requested y) n k) s a d x))
  gives_one r r' out out' (wanting a d p n k x) (wanting b e q m l y) =
      let g = passes a d p in
      let i = as_read (λ z. Wanting t (requested z) n k) s a d x in
      let j = as_read (λ z. Wanting t (requested z) m l) s b e y in
      let z = wanting_one t (requested (read_request s)) (length area) g n k m l i j in
      let w = number_one (requested (read_request s)).limit n m _ _ k l z i.ends j.ends in
      (ap₂ (λ (number n : ℕ). refused_with t number n (suc n)) w z, refl)
