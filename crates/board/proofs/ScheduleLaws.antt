-- An area after a run of stores, the whole schedule, and what stands where in it. Assumes nothing.
use lib.ListN.{drop, get_or, length, length-append, length-map, get_or-append, get_or-map, set, take}
use lib.Seq.{get_or-append-add, length-sets, length-take-le, sets, take-suc, take_all}
use mathlib.Core.List.{List, [], ◌∷◌, ◌++◌, append_assoc, map}
use mathlib.Core.Path.{◌≡◌, refl, sym, ap, ◌∙◌}
use native.Mathlib.Numerals.{add-one}
use native.Mathlib.Omega.{arith}
use Prim.Native.Nat.{ℕ, ◌+◌, ◌≤◌, ◌<◌}
use Rattle.std.specs.Prelude.{None}
use Rattle.std.specs.declared.option.Option.{Option}
use Rattle.archive.specs.declared.Schedule.{Schedule}
use Rattle.board.specs.Archive.{LISTED_AT, OFFSETS_AT, SCHEDULE, ScheduleStands, listed_byte, offset_byte, schedule_bytes}
use Rattle.records.proofs.SetsLaws.{set_then, sets_front, sets_rest, sets_then}
use Rattle.slots.specs.Limits.{IDS, LONGEST}

module _ (f : Option ℕ → ℕ) (none : f None ≡ 0) (l : List ℕ) (at : ℕ) (ps : List (Option ℕ)) (all : length ps ≡ IDS) where
  abbrev stored : ℕ → List ℕ
  stored n = sets l at (take n (map f ps))

  -- The byte of one id more.
  pub byte_next : (m : List ℕ) (n v : ℕ) → n < IDS → m ≡ stored n → v ≡ f (get_or ps n None) → set m (at + n) v ≡ stored (n + 1)
  byte_next m n v h e p =
      let b = map f ps in
      let few : n < length b = omega (arith, length-map ps f) in
      let byte : v ≡ get_or b n 0 = p ∙ sym (get_or-map f ps n None) ∙ ap (get_or b n) none in
      ap (λ (z : List ℕ). set z (at + n) v) e ∙ ap (set (stored n) (at + n)) byte
      ∙ rw (add-one n, take-suc b n 0 few) (set_then l at (at + n) (take n b) _ (omega (arith, length-take-le n b (omega arith))))

  -- The bytes of all ids.
  pub bytes_all : stored IDS ≡ sets l at (map f ps)
  bytes_all = ap (sets l at) (take_all IDS (map f ps) (omega (arith, length-map ps f)))

-- The parts stored one behind the other are the schedule.
pub schedule_stored : (x : Schedule) → length x.owners ≡ LONGEST → length x.offsets ≡ IDS → (l a b d : List ℕ)
    → a ≡ sets (set l 0 x.length) 1 x.owners → b ≡ sets a LISTED_AT (map listed_byte x.offsets)
    → d ≡ sets b OFFSETS_AT (map offset_byte x.offsets) → d ≡ sets l 0 (schedule_bytes x)
unfolding schedule_bytes
schedule_stored x os ps l a b d pa pb pd =
    let o = x.owners in
    let h = x.length ∷ [] in
    let i = map listed_byte x.offsets in
    let j = map offset_byte x.offsets in
    let ni = length-map x.offsets listed_byte in
    let p : a ≡ sets l 0 (h ++ o) = pa in
    let q : b ≡ sets l 0 ((h ++ o) ++ i) = pb ∙ rw p (sets_then l 0 LISTED_AT (h ++ o) i (omega arith)) in
    let r : d ≡ sets l 0 (((h ++ o) ++ i) ++ j) =
    pd ∙ rw q (sets_then l 0 OFFSETS_AT ((h ++ o) ++ i) j (omega (arith, length-append (h ++ o) i))) in
    let f : ((h ++ o) ++ i) ++ j ≡ schedule_bytes x = simp append_assoc in
    r ∙ ap (sets l 0) f

-- A list behind another one stands where that ends.
behind : (l m : List ℕ) (n k : ℕ) → length l ≡ n → get_or (l ++ m) (n + k) 0 ≡ get_or m k 0
behind l m n k e = rw (← e) (get_or-append-add l m k 0)

module _ (x : Schedule) (os : length x.owners ≡ LONGEST) (ps : length x.offsets ≡ IDS) where
  abbrev head : List ℕ
  head = (x.length ∷ []) ++ x.owners

  abbrev listed : List ℕ
  listed = map listed_byte x.offsets

  abbrev offsets : List ℕ
  offsets = map offset_byte x.offsets

  -- A schedule has 129 bytes.
  schedule_length : length (schedule_bytes x) ≡ SCHEDULE
  unfolding schedule_bytes
  schedule_length =
      simp length-append (omega (arith, length-map x.offsets listed_byte, length-map x.offsets offset_byte))

  -- The offsets stand behind 97 of them.
  to_offsets : length (head ++ listed) ≡ OFFSETS_AT
  to_offsets = simp length-append (omega (arith, length-map x.offsets listed_byte))

  -- A schedule that is told at an area's start stands there, figure by figure.
  pub schedule_stands : (before : List ℕ) → SCHEDULE ≤ length before → ScheduleStands x before (sets before 0 (schedule_bytes x))
  unfolding schedule_bytes
  schedule_stands before room =
      let t = drop (length (schedule_bytes x)) before in
      let e = sets_front before (schedule_bytes x) (omega (arith, schedule_length)) in
      let front : (k : ℕ) → k < SCHEDULE → get_or (sets before 0 (schedule_bytes x)) k 0 ≡ get_or (schedule_bytes x) k 0 =
      λ k h. ap (λ (z : List ℕ). get_or z k 0) e ∙ get_or-append (schedule_bytes x) t 0 k (omega (arith, schedule_length)) in
      record {
        size = front 0 (omega arith);
        owner = λ k h.
            front (1 + k) (omega arith) ∙ get_or-append (head ++ listed) offsets 0 (1 + k) (omega (arith, to_offsets))
            ∙ get_or-append head listed 0 (1 + k) (omega arith) ∙ behind (x.length ∷ []) x.owners 1 k refl;
        listed = λ i h.
            front (65 + i) (omega arith) ∙ get_or-append (head ++ listed) offsets 0 (65 + i) (omega (arith, to_offsets))
            ∙ behind head listed 65 i (omega arith) ∙ get_or-map listed_byte x.offsets i None;
        offset = λ i h. front (97 + i) (omega arith) ∙ behind (head ++ listed) offsets 97 i to_offsets ∙ get_or-map offset_byte x.offsets i None;
        rest = λ n h. sets_rest before 0 n (schedule_bytes x) (omega (arith, schedule_length));
        same = length-sets before 0 (schedule_bytes x);
      }
