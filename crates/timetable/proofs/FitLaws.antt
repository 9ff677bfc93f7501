-- The test of the entries and their starts in one pass over the ids, and what it leaves for the pass over the transition's owners. Assumes nothing.
use borrow.Author.Tests.{le-ltb, lt-ltb, ltb-false, ltb-true}
use lib.Dec.{eqb, ltb}
use lib.ListN.{get_or, length, set, take}
use mathlib.Core.Bool.{Bool, true, false, ◌&&◌}
use mathlib.Core.List.{List}
use mathlib.Core.Path.{◌≡◌, refl, sym, ap, ap₂, ◌∙◌}
use native.Mathlib.Decide.{dec_lt}
use native.Mathlib.Omega.{arith}
use Prim.Native.Nat.{ℕ, ◌+◌, ◌-◌, ◌*◌, ◌≤◌, ◌<◌}
use Rattle.std.proofs.lemmas.List.{get_or-take, length-take-le}
use Rattle.slots.proofs.Below.{and_both, every_at, true_false}
use Rattle.slots.specs.Below.{every}
use Rattle.slots.specs.Limits.{IDS, LONGEST}
use Rattle.timetable.proofs.Cycle.{weight_pos}
use Rattle.timetable.proofs.EntryLaws.{weight_none}
use Rattle.timetable.proofs.Filling.{Filled, filled_next, filled_nothing}
use Rattle.timetable.proofs.Marks.{none_size}
use Rattle.timetable.proofs.Ranges.{InRange, in_range_from, period_whole}
use Rattle.timetable.proofs.ScanLaws.{every_same, passed, scan_ends, scan_goes, scan_stops}
use Rattle.timetable.proofs.Sound.{ranged_from}
use Rattle.timetable.proofs.Absent.{absent_from}
use Rattle.timetable.proofs.SoundLaws.{entry_test, fits, formed, formed_absent, formed_listed, past_end, start_test}
use Rattle.timetable.proofs.TakenLaws.{Says, free_apart, id_test, says_more, says_none}
use Rattle.timetable.proofs.WalkLaws.{start_below, walk_small, walk_taken}
use Rattle.timetable.specs.declared.Entry.{Entry}
use Rattle.timetable.specs.declared.Timetable.{Timetable}
use Rattle.timetable.specs.Marks.{Marks, OfCycle, no_marks}
use Rattle.timetable.specs.Sound.{entries_in_range, none_shared, owners_listed, start_in_range, walk_arrives}
use Rattle.timetable.specs.Taken.{Takes}
use Rattle.timetable.specs.Timetable.{entry_of, is_listed, transition_shortfall, weight}
use Rattle.timetable.specs.Walk.{Fit, Walkable, Walked, unserved, weighs}

-- ---- one entry

-- What an entry would be owed is small where it is well formed and its start in range.
pub unserved_small : (e : Entry) (start size v : ℕ) → formed e ≡ true → start_in_range e start ≡ true → size ≤ LONGEST → v ≡ weight e → start + v * size < 65536
unserved_small e start size v f b l q =
    let below = start_below e start (λ h. in_range_from e (sym (formed_listed e h) ∙ f)) (λ h. absent_from e h (sym (formed_absent e h) ∙ f)) b in
    omega (arith, walk_small e.period start size size below l (omega arith), ap (λ (x : ℕ). x * size) q)

-- ---- id by id

-- What the ids below n have passed, and what is put in for them.
pub record Fitting (es : List Entry) (starts : List ℕ) (size n : ℕ) (taken : Marks) (weights owed : List ℕ) : Type 0 where
  pub cycle : OfCycle taken
  pub says : Says es taken n
  pub formed : every n (entry_test es) ≡ true
  pub borne : every n (start_test es starts) ≡ true
  pub apart : every n (id_test es) ≡ true
  pub weighed : Filled (λ i. weight (entry_of es i)) n weights
  pub added : Filled (unserved es starts size) n owed

-- What stands below a false answer is not asked for.
refuses : (es : List Entry) (starts : List ℕ) (size : ℕ) (weights owed : List ℕ)
    → false ≡ (entries_in_range es && none_shared es && every IDS (start_test es starts)) → Fit es starts size false weights owed
refuses es starts size weights owed h = record { tells = h; weighed = λ a. absurd (true_false a refl); added = λ a. absurd (true_false a refl) }

-- One of three tests fails.
one_fails : (a b c : Bool) → false ≡ a → false ≡ (a && b && c)
one_fails a b c h = rw (← h) refl

two_fails : (a b c : Bool) → false ≡ b → false ≡ (a && b && c)
two_fails true b c h = rw (← h) refl
two_fails false b c h = refl

three_fails : (a b c : Bool) → false ≡ c → false ≡ (a && b && c)
three_fails true true c h = h
three_fails true false c h = refl
three_fails false b c h = refl

module _ (es : List Entry) (starts : List ℕ) (size : ℕ) where
  -- No id is looked at yet.
  pub fitting_none : (weights owed : List ℕ) → length weights ≡ IDS → length owed ≡ IDS → Fitting es starts size 0 no_marks weights owed
  unfolding every
  fitting_none weights owed a b = record {
    cycle = none_size;
    says = says_none es;
    formed = refl;
    borne = refl;
    apart = refl;
    weighed = filled_nothing _ weights a;
    added = filled_nothing _ owed b;
  }

  module _ (n : ℕ) (l : n < IDS) (e : Entry) (p : e ≡ entry_of es n) (taken : Marks) (weights owed : List ℕ) (f : Fitting es starts size n taken weights owed) where
    -- One id is not well formed,
    pub fit_unformed : (r : Bool) → r ≡ formed e → r ≡ false → Fit es starts size false weights owed
    unfolding entries_in_range
    fit_unformed r q h = refuses es starts size weights owed (one_fails _ _ _ (scan_stops (entry_test es) IDS n r l (q ∙ ap formed p) h))

    -- its start is out of range,
    pub fit_unborne : (r : Bool) → r ≡ start_in_range e (get_or starts n 0) → r ≡ false → Fit es starts size false weights owed
    fit_unborne r q h =
        refuses es starts size weights owed
        (three_fails (entries_in_range es) (none_shared es) _
        (scan_stops (start_test es starts) IDS n r l (q ∙ ap (λ (x : Entry). start_in_range x (get_or starts n 0)) p) h))

    module _ (r : Bool) (after : Marks) (t : Takes taken e r after) where
      own : r ≡ id_test es n
      own = (rw p at t).free ∙ free_apart es taken n f.says

      -- one of its slots is taken,
      pub fit_shared : r ≡ false → Fit es starts size false weights owed
      unfolding none_shared
      fit_shared h = refuses es starts size weights owed (two_fails (entries_in_range es) (none_shared es) _ (scan_stops (id_test es) IDS n r l own h))

      -- or it passes all, and its figures are put in.
      pub fitting_next : (a b : Bool) → a ≡ formed e → a ≡ true → b ≡ start_in_range e (get_or starts n 0) → b ≡ true → r ≡ true
          → (v : ℕ) → v ≡ weight e → Fitting es starts size (n + 1) after (set weights n v) (set owed n (get_or starts n 0 + v * size))
      fitting_next a b qa ha qb hb h v q =
          let k = passed r r refl h in
          let z : v ≡ weight (entry_of es n) = q ∙ ap weight p in
          let u : Takes taken e true after = record { free = sym k ∙ t.free; size = t.size; slot = λ x. t.slot k } in
          record {
            cycle = t.size f.cycle;
            says = says_more es taken after n f.says (rw p at u);
            formed = scan_goes (entry_test es) n a f.formed (qa ∙ ap formed p) ha;
            borne = scan_goes (start_test es starts) n b f.borne (qb ∙ ap (λ (x : Entry). start_in_range x (get_or starts n 0)) p) hb;
            apart = scan_goes (id_test es) n r f.apart own h;
            weighed = filled_next _ n weights v l f.weighed z;
            added = filled_next _ n owed _ l f.added (ap (λ (x : ℕ). get_or starts n 0 + x * size) z);
          }

  -- All pass.
  pub fit_all : (n : ℕ) → IDS ≤ n → n ≤ IDS → (taken : Marks) (weights owed : List ℕ) → Fitting es starts size n taken weights owed → Fit es starts size true weights owed
  unfolding entries_in_range none_shared
  fit_all n a b taken weights owed f =
      let x = scan_ends (entry_test es) IDS n a b f.formed in
      let y = scan_ends (id_test es) IDS n a b f.apart in
      let z = scan_ends (start_test es starts) IDS n a b f.borne in
      record {
        tells = rw (← x, ← y, ← z) refl;
        weighed = λ _. record { count = f.weighed.count; each = λ i k. f.weighed.below i (omega arith) };
        added = λ _. record { count = f.added.count; each = λ i k. f.added.below i (omega arith) };
      }

-- What are_shortfalls asks of id i.
abbrev pub arrived : List ℕ → List Entry → ℕ → Bool
arrived owed es i = eqb (get_or owed i 0) (entry_of es i).shortfall

-- ---- what all of them leave

-- An entry has a weight exactly if it is listed.
weight_listed : (e : Entry) → (is_listed e ≡ true → InRange e) → ltb 0 (weight e) ≡ is_listed e
weight_listed e f = at (is_listed e) refl
  where
    at : (b : Bool) → is_listed e ≡ b → ltb 0 (weight e) ≡ b
    at true h = lt-ltb 0 (weight e) (weight_pos e (period_whole e.period (f h).period) (f h).inside)
    at false h = ap (ltb 0) (weight_none e.period (omega (arith, ltb-false 0 e.period h)))

module _ (t : Timetable) (r : Bool) (weights owed : List ℕ) (f : Fit t.entries t.starts t.length r weights owed) (h : r ≡ true) where
  abbrev es : List Entry
  es = t.entries

  pub all_fit : fits t ≡ true
  all_fit = passed r (fits t) f.tells h

  in_range : entries_in_range es ≡ true
  in_range = (and_both (entries_in_range es) _ (and_both (entries_in_range es && none_shared es) _ all_fit).0).0

  -- The owners have weights exactly if they are listed ids.
  pub owners_tell : length es ≡ IDS → every t.length (weighs t.owners weights) ≡ owners_listed t
  unfolding owners_listed
  owners_tell l = every_same _ _ t.length (λ n _. at (get_or t.owners n 0) (dec_lt (get_or t.owners n 0) IDS))
    where
      at : (o : ℕ) → Dec (o < IDS) → ltb o IDS && ltb 0 (get_or weights o 0) ≡ is_listed (entry_of es o)
      at o (yes k) = rw (lt-ltb o IDS k, (f.weighed h).each o k) (weight_listed (entry_of es o) ((ranged_from es in_range).listed o k))
      at o (no k) = rw (le-ltb o IDS (omega arith)) (sym (ap is_listed (past_end es o (omega arith))))

  -- What each id would be owed is small.
  small : (i : ℕ) → i < IDS → t.length ≤ LONGEST → unserved es t.starts t.length i < 65536
  unfolding entries_in_range
  small i k l = unserved_small (entry_of es i) (get_or t.starts i 0) t.length (weight (entry_of es i)) (every_at _ IDS in_range i k) (every_at _ IDS (and_both (entries_in_range es && none_shared es) _ all_fit).1 i k) l refl

  -- The transition's owners, and what they tell of all 64.
  module _ (transition : List ℕ) (z : transition ≡ take t.length t.owners) (n : length t.owners ≡ LONGEST) (l : t.length ≤ LONGEST) where
    pub transition_length : length transition ≡ t.length
    transition_length = ap length z ∙ length-take-le t.length t.owners (omega arith)

    pub transition_owners : length es ≡ IDS → every (length transition) (weighs transition weights) ≡ owners_listed t
    transition_owners c =
        ap (λ (m : ℕ). every m (weighs transition weights)) transition_length
        ∙ every_same _ _ t.length
        (λ m k. ap (λ (o : ℕ). ltb o IDS && ltb 0 (get_or weights o 0)) (ap (λ (x : List ℕ). get_or x m 0) z ∙ get_or-take t.length t.owners m 0 k))
        ∙ owners_tell c

    -- The pass over the owners can start,
    pub walkable : every (length transition) (weighs transition weights) ≡ true → Walkable transition weights owed
    walkable o =
        let w = f.weighed h in
        let a = f.added h in
        record {
          short = omega (arith, transition_length);
          ids = λ m k. ltb-true _ _ (and_both (ltb (get_or transition m 0) IDS) _ (every_at _ (length transition) o m k)).0;
          enough = λ i k. omega (arith, a.each i k, ap₂ ◌*◌ (w.each i k) transition_length);
          small = λ i k. omega (arith, a.each i k, small i k l);
        }

    -- and it ends with the walk's shortfalls.
    pub walk_tells : (after : List ℕ) → Walked transition weights owed after → every IDS (arrived after es) ≡ walk_arrives t
    unfolding walk_arrives
    walk_tells after a = every_same _ _ IDS (λ i k. ap (λ (x : ℕ). eqb x (entry_of es i).shortfall) (a i k ∙ at i k))
      where
        at : (i : ℕ) → i < IDS → transition_shortfall transition i (get_or weights i 0) (get_or owed i 0 - get_or weights i 0 * length transition) (length transition)
            ≡ transition_shortfall t.owners i (weight (entry_of es i)) (get_or t.starts i 0) t.length
        at i k =
            let w = (f.weighed h).each i k in
            let y : get_or owed i 0 - get_or weights i 0 * length transition ≡ get_or t.starts i 0 =
            omega (arith, (f.added h).each i k, ap₂ ◌*◌ w transition_length) in
            ap₂ (λ (u v : ℕ). transition_shortfall transition i u v (length transition)) w y
            ∙ ap₂ (λ (o : List ℕ) (m : ℕ). transition_shortfall o i (weight (entry_of es i)) (get_or t.starts i 0) m) z transition_length
            ∙ walk_taken t.owners i (weight (entry_of es i)) (get_or t.starts i 0) t.length t.length (omega arith)
