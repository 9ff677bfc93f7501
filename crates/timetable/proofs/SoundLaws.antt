-- The clauses of soundness, as they are tested. Assumes nothing.
use borrow.Author.Tests.{lt-ltb, le-ltb, ne_eqb, leb-true}
use lib.Dec.{eqb, leb, ltb}
use lib.ListN.{get_or, length, drop, length-drop}
use mathlib.Core.Bool.{Bool, true, false, cond, ◌&&◌, ◌||◌}
use mathlib.Core.List.{List, [], ◌∷◌}
use mathlib.Core.Logic.{◌⊎◌, inl, inr}
use mathlib.Core.Path.{◌≡◌, refl, sym, ap, ap₂, ◌∙◌}
use native.Mathlib.Decide.{ℕ_discrete}
use native.Mathlib.Numerals.{unary_clauses}
use native.Mathlib.Omega.{arith}
use Prim.Native.Nat.{ℕ, zero, suc, ◌+◌, ◌-◌, ◌*◌, ◌≤◌, ◌<◌}
use Rattle.std.proofs.lemmas.List.{get_or-drop}
use Rattle.timetable.proofs.ScanLaws.{every_same}
use Rattle.slots.proofs.Below.{and_both, every_at, every_all}
use Rattle.slots.specs.Below.{every}
use Rattle.slots.specs.Limits.{IDS, LONGEST, WHOLE, LAST_SLOT}
use Rattle.slots.specs.Shortfall.{keeps}
use Rattle.timetable.proofs.EntryLaws.{listed}
use Rattle.timetable.specs.declared.Entry.{Entry}
use Rattle.timetable.specs.declared.Timetable.{Timetable}
use Rattle.timetable.specs.Sound.{request_in_range, length_in_range, base_as_stated, owners_listed, is_period, entry_in_range, entry_absent, entries_in_range, none_shared, unused_owners_zero, start_in_range, starts_in_range, walk_arrives, is_sound}
use Rattle.timetable.specs.Timetable.{no_entry, entry_of, is_listed}
use Rattle.timetable.specs.Walk.{weighs}

-- ---- one entry

-- The periods above 2.
abbrev pub Above : ℕ → Type 0
Above p = (p ≡ 4) ⊎ ((p ≡ 8) ⊎ ((p ≡ 16) ⊎ ((p ≡ 32) ⊎ ((p ≡ 64) ⊎ ((p ≡ 128) ⊎ (p ≡ 256))))))

pub period_above : (p : ℕ) → Above p → is_period p ≡ true
unfolding is_period every
period_above p (inl h) = rw h
period_above p (inr (inl h)) = rw h
period_above p (inr (inr (inl h))) = rw h
period_above p (inr (inr (inr (inl h)))) = rw h
period_above p (inr (inr (inr (inr (inl h))))) = rw h
period_above p (inr (inr (inr (inr (inr (inl h)))))) = rw h
period_above p (inr (inr (inr (inr (inr (inr h)))))) = rw h

pub period_low : (p : ℕ) → 1 ≤ p → p < 3 → is_period p ≡ true
unfolding is_period every
period_low p a b = at (ℕ_discrete p 1)
  where
    at : Dec (p ≡ 1) → is_period p ≡ true
    at (yes h) = rw h
    at (no n) = let h : p ≡ 2 = omega arith in rw h

pub period_not : (p : ℕ) → (p ≡ 1 → ⊥) → (p ≡ 2 → ⊥) → (Above p → ⊥) → is_period p ≡ false
unfolding is_period every
period_not p a b n =
    simp (
      ne_eqb p 1 a,
      ne_eqb p 2 b,
      ne_eqb p 4 (λ h. n (inl h)),
      ne_eqb p 8 (λ h. n (inr (inl h))),
      ne_eqb p 16 (λ h. n (inr (inr (inl h)))),
      ne_eqb p 32 (λ h. n (inr (inr (inr (inl h))))),
      ne_eqb p 64 (λ h. n (inr (inr (inr (inr (inl h)))))),
      ne_eqb p 128 (λ h. n (inr (inr (inr (inr (inr (inl h))))))),
      ne_eqb p 256 (λ h. n (inr (inr (inr (inr (inr (inr h))))))),
    )

module _ (e : Entry) where
  -- In range, or all zero but for a shortfall in range, as it is listed.
  abbrev pub formed : Bool
  formed = cond (is_listed e) (entry_in_range e) (entry_absent e)

  pub formed_listed : is_listed e ≡ true → formed ≡ entry_in_range e
  formed_listed h = rw h

  pub formed_absent : is_listed e ≡ false → formed ≡ entry_absent e
  formed_absent h = rw h

  -- A start, as the entry is listed.
  pub bears_listed : (start : ℕ) → is_listed e ≡ true → ltb start (WHOLE * e.bound) ≡ start_in_range e start
  unfolding start_in_range keeps
  bears_listed start h = rw h

  pub bears_unlisted : (start : ℕ) → is_listed e ≡ false → eqb start e.shortfall ≡ start_in_range e start
  unfolding start_in_range
  bears_unlisted start h = rw h

-- ---- the request slot, the length and the base

module _ (request size base : ℕ) where
  abbrev pub is_placed : Bool
  is_placed = leb request LAST_SLOT && leb size LONGEST && eqb base (request + size)

  pub placed_length : is_placed ≡ true → size ≤ LONGEST
  placed_length h =
      leb-true size LONGEST (and_both (leb request LAST_SLOT) _ (and_both (leb request LAST_SLOT && leb size LONGEST) _ h).0).1

-- ---- the loops' tests

-- Past the end of the entries nothing is listed.
pub past_end : (es : List Entry) (i : ℕ) → length es ≤ i → entry_of es i ≡ no_entry
past_end [] i h = refl
past_end (e ∷ es) zero h = absurd (omega arith)
past_end (e ∷ es) (suc i) h = past_end es i (omega arith)

-- What owners_listed asks of transition slot n: an id,
module _ (owners weights : List ℕ) (n : ℕ) where
  pub weighs_foreign : IDS ≤ get_or owners n 0 → weighs owners weights n ≡ false
  weighs_foreign h = rw (le-ltb (get_or owners n 0) IDS h)

  module _ (k : get_or owners n 0 < IDS) where
    -- with a weight.
    pub weighs_nothing : get_or weights (get_or owners n 0) 0 ≡ 0 → weighs owners weights n ≡ false
    weighs_nothing h = rw (lt-ltb (get_or owners n 0) IDS k, h) refl

    pub weighs_some : (get_or weights (get_or owners n 0) 0 ≡ 0 → ⊥) → weighs owners weights n ≡ true
    weighs_some h = rw (lt-ltb (get_or owners n 0) IDS k) (listed _ h)

-- What entries_fit asks of id i.
abbrev pub entry_test : List Entry → ℕ → Bool
entry_test es i = formed (entry_of es i)

pub entry_range : (es : List Entry) (i : ℕ) → entries_in_range es ≡ true → i < IDS
    → is_listed (entry_of es i) ≡ true → entry_in_range (entry_of es i) ≡ true
unfolding entries_in_range
entry_range es i h k l = sym (formed_listed (entry_of es i) l) ∙ every_at (entry_test es) IDS h i k

-- What entries_fit asks of id i's start.
abbrev pub start_test : List Entry → List ℕ → ℕ → Bool
start_test es starts i = start_in_range (entry_of es i) (get_or starts i 0)

-- What unused_owners_zero asks of place n.
module _ (owners : List ℕ) (size : ℕ) where
  abbrev pub unused_test : ℕ → Bool
  unused_test n = ltb n size || eqb (get_or owners n 0) 0

  pub unused_start : every size unused_test ≡ true
  unused_start = every_all unused_test size (λ n h. ap (λ (b : Bool). b || eqb (get_or owners n 0) 0) (lt-ltb n size h))

  pub unused_test_lem : (n : ℕ) → size ≤ n → unused_test n ≡ eqb (get_or owners n 0) 0
  unused_test_lem n h = ap (λ (b : Bool). b || eqb (get_or owners n 0) 0) (le-ltb n size h)

  -- Those past the transition are asked on their own.
  unused_after : (m : ℕ) → every (size + m) unused_test ≡ every m (λ n. eqb (get_or owners (size + n) 0) 0)
  unfolding every
  unused_after zero = simp unary_clauses unused_start
  unused_after (suc m) = simp unary_clauses (ap₂ ◌&&◌ (unused_after m) (unused_test_lem (size + m) (omega arith)))

  pub unused_tell : (rest : List ℕ) → rest ≡ drop size owners → length owners ≡ LONGEST → size ≤ LONGEST
      → every (length rest) (λ n. eqb (get_or rest n 0) 0) ≡ every LONGEST unused_test
  unused_tell rest e h l =
      let z : size + (LONGEST - size) ≡ LONGEST = omega arith in
      ap (λ (r : List ℕ). every (length r) (λ n. eqb (get_or r n 0) 0)) e
      ∙ ap (λ (m : ℕ). every m (λ n. eqb (get_or (drop size owners) n 0) 0)) (length-drop size owners ∙ ap (λ (m : ℕ). m - size) h)
      ∙ every_same _ _ (LONGEST - size) (λ n _. ap (λ (x : ℕ). eqb x 0) (get_or-drop size owners n 0))
      ∙ sym (unused_after (LONGEST - size))
      ∙ ap (λ (m : ℕ). every m unused_test) z

-- ---- the whole timetable, clause by clause

-- The clauses in the order in which they are tested.
in_order : (p o e n u s w : Bool) → p && o && e && n && u && s && w ≡ p && (e && n && s) && o && u && w
in_order false o e n u s w = refl
in_order true false false n u s w = refl
in_order true false true false u s w = refl
in_order true false true true u false w = refl
in_order true false true true u true w = refl
in_order true true false n u s w = refl
in_order true true true false u s w = refl
in_order true true true true false false w = refl
in_order true true true true false true w = refl
in_order true true true true true false w = refl
in_order true true true true true true w = refl

module _ (t : Timetable) where
  abbrev pub placed : Bool
  placed = is_placed t.request.0 t.length t.base.0

  abbrev pub fits : Bool
  fits = entries_in_range t.entries && none_shared t.entries && every IDS (start_test t.entries t.starts)

  abbrev pub unused : Bool
  unused = every LONGEST (unused_test t.owners t.length)

  tested : is_sound t ≡ (placed && fits && owners_listed t && unused && walk_arrives t)
  unfolding is_sound request_in_range length_in_range base_as_stated unused_owners_zero starts_in_range
  tested = in_order placed (owners_listed t) (entries_in_range t.entries) (none_shared t.entries) unused (starts_in_range t) (walk_arrives t)

  pub sound_placed : placed ≡ false → is_sound t ≡ false
  sound_placed a = rw (tested, a) refl

  module _ (a : placed ≡ true) where
    pub sound_fits : fits ≡ false → is_sound t ≡ false
    sound_fits b = rw (tested, a, b) refl

    module _ (b : fits ≡ true) where
      pub sound_owners : owners_listed t ≡ false → is_sound t ≡ false
      sound_owners d = rw (tested, a, b, d) refl

      module _ (d : owners_listed t ≡ true) where
        pub sound_unused : unused ≡ false → is_sound t ≡ false
        sound_unused u = rw (tested, a, b, d, u) refl

        pub sound_walk : unused ≡ true → is_sound t ≡ walk_arrives t
        sound_walk u = rw (tested, a, b, d, u) refl
