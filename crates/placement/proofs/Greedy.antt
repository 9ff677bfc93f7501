-- Rule 4 is right, answer by answer: the places it gives are of the demands, apart and at the largest free offsets, and where it gives none nothing
-- serves the demands, since what serves them would by exchange serve the later ones beside the largest free offset. Assumes nothing.
use mathlib.Core.List.{List, [], ◌∷◌}
use mathlib.Core.Logic.{◌≢◌, inl, inr}
use mathlib.Core.Option.{Option, none, some}
use mathlib.Core.Path.{◌≡◌, refl, sym, ap, ◌∙◌, subst}
use native.Mathlib.Nat.{mod-mod_of_dvd}
use native.Mathlib.Omega.{arith}
use Prim.Native.Nat.{ℕ, ◌%◌, ◌≤◌, ◌<◌, ◌∣◌}
use Rattle.placement.proofs.Exchange.{place_at, Later, Serves, exchange}
use Rattle.placement.proofs.Free.{In, Free, Divide, Picked, picked}
use Rattle.placement.proofs.Ordered.{InOrder, in_order_fair}
use Rattle.placement.proofs.Ranking.{rank_of}
use Rattle.placement.specs.Placement.{Demand, Place, last_free, place_from}
use Rattle.timetable.proofs.Ranges.{period_dvd}

-- A place of the demand: an offset up to the demand's last.
abbrev pub Meets : Place → Demand → Type 0
Meets q d = (q.id ≡ d.id) × (q.period ≡ d.period) × (q.offset ≤ d.last)

-- The places are of demands of the list, one each, and share no slot.
pub record Laid (all : List Demand) (ps : List Place) : Type 0 where
  pub of : (q : Place) → In q ps → (d : Demand) × In d all × Meets q d
  pub same : (q r : Place) → In q ps → In r ps → q.id ≡ r.id → q.offset ≡ r.offset
  pub apart : (q r : Place) → In q ps → In r ps → q.id ≢ r.id → (n : ℕ) → n % q.period ≡ q.offset → n % r.period ≡ r.offset → ⊥

-- The place is of a demand of the list that has a smaller rank than d.
abbrev pub Ahead : List Demand → Place → Demand → Type 0
Ahead all q d = (e : Demand) × In e all × Meets q e × (rank_of e < rank_of d)

-- The places are of other ids, of periods that divide the demands' periods, and of demands of smaller ranks.
abbrev Before : List Demand → List Place → List Demand → Type 0
Before all ps ds = (q : Place) (e : Demand) → In q ps → In e ds → (q.id ≢ e.id) × (q.period ∣ e.period) × Ahead all q e

-- Among the places one is the demand's, at the largest offset up to its last that is free beside those ahead of it.
pub record Best (all : List Demand) (qs : List Place) (d : Demand) : Type 0 where
  pub place : Place
  pub inside : In place qs
  pub id : place.id ≡ d.id
  pub largest : (o : ℕ) → o ≤ d.last → ((q : Place) → In q qs → Ahead all q d → o % q.period ≢ q.offset) → o ≤ place.offset

-- What an answer says: the places are laid, the ones before among them and the best for each demand; and where there is none, nothing serves
-- the demands.
abbrev pub Right : List Demand → List Place → List Demand → Option (List Place) → Type 0
Right all ps ds none = (offsets : ℕ → ℕ) → Serves ps ds offsets → ⊥
Right all ps ds (some qs) = Laid all qs × ((q : Place) → In q ps → In q qs) × ((d : Demand) → In d ds → Best all qs d)

-- No places are laid.
pub laid_none : (all : List Demand) → Laid all []
laid_none all = record { of = λ q m. absurd m; same = λ q r m. absurd m; apart = λ q r m. absurd m }

-- One place more, at a free offset.
laid_more : (all : List Demand) (ps : List Place) (d : Demand) (o : ℕ) → Laid all ps → In d all → o ≤ d.last → Free ps o
    → ((q : Place) → In q ps → (q.id ≢ d.id) × (q.period ∣ d.period) × Ahead all q d) → Laid all (place_at d o ∷ ps)
laid_more all ps d o laid ind le free before = record { of = of; same = same; apart = apart }
  where
    new : Place
    new = place_at d o

    of : (q : Place) → In q (new ∷ ps) → (d : Demand) × In d all × Meets q d
    of q (inl z) =
        (d, ind, (ap (λ (x : Place). x.id) z, ap (λ (x : Place). x.period) z, subst (λ (x : Place). x.offset ≤ d.last) (sym z) le))
    of q (inr m) = laid.of q m

    same : (q r : Place) → In q (new ∷ ps) → In r (new ∷ ps) → q.id ≡ r.id → q.offset ≡ r.offset
    same q r (inl y) (inl z) e = ap (λ (x : Place). x.offset) (y ∙ sym z)
    same q r (inl y) (inr m) e = absurd ((before r m).0 (sym e ∙ ap (λ (x : Place). x.id) y))
    same q r (inr m) (inl z) e = absurd ((before q m).0 (e ∙ ap (λ (x : Place). x.id) z))
    same q r (inr m) (inr n) e = laid.same q r m n e

    clear : (q : Place) → In q ps → (r : Place) → r ≡ new → (n : ℕ) → n % q.period ≡ q.offset → n % r.period ≡ r.offset → ⊥
    clear q m r z n h k =
        let l : n % d.period ≡ o = subst (λ (x : Place). n % x.period ≡ x.offset) z k in
        free q m (ap (λ (x : ℕ). x % q.period) (sym l) ∙ mod-mod_of_dvd q.period n (before q m).1 ∙ h)

    apart : (q r : Place) → In q (new ∷ ps) → In r (new ∷ ps) → q.id ≢ r.id → (n : ℕ) → n % q.period ≡ q.offset → n % r.period ≡ r.offset → ⊥
    apart q r (inl y) (inl z) ne n h k = ne (ap (λ (x : Place). x.id) (y ∙ sym z))
    apart q r (inl y) (inr m) ne n h k = clear r m q y n k h
    apart q r (inr m) (inl z) ne n h k = clear q m r z n h k
    apart q r (inr l) (inr m) ne n h k = laid.apart q r l m ne n h k

-- Rule 4's answer is right.
pub place_right : (all : List Demand) (ps : List Place) (ds : List Demand) → Laid all ps → Before all ps ds → InOrder ds
    → ((d : Demand) → In d ds → In d all) → Right all ps ds (place_from ps ds)
unfolding place_from
place_right all ps [] laid before r sub = (laid, (λ q m. m), λ d m. absurd m)
place_right all ps (d ∷ ds) laid before r sub =
    at
    (last_free ps d.period d.last)
    (picked ps d.period r.0.0 divide d.last)
    (λ g le free.
    place_right
    all
    (place_at d g ∷ ps)
    ds
    (laid_more all ps d g laid (sub d (inl refl)) le free (λ q m. before q d m (inl refl)))
    (before_more g le)
    r.2
    (λ e m. sub e (inr m)))
  where
    divide : Divide ps d.period
    divide q m = (before q d m (inl refl)).1

    before_more : (g : ℕ) → g ≤ d.last → Before all (place_at d g ∷ ps) ds
    before_more g le q e (inl z) m =
        let l : Later d e = r.1 e m in
        subst (λ (x : Place). (x.id ≢ e.id) × (x.period ∣ e.period) × Ahead all x e) (sym z)
        (l.0, period_dvd d.period e.period r.0.0 (in_order_fair ds r.2 e m).0 l.1, (d, sub d (inl refl), (refl, refl, le), l.2))
    before_more g le q e (inr n) m = before q e n (inr m)

    has : (g : ℕ) → Picked ps d.last (some g) → (qs : List Place) → Right all (place_at d g ∷ ps) ds (some qs) → (e : Demand) → In e (d ∷ ds) → Best all qs e
    has g k qs h e (inl z) =
        subst (Best all qs) (sym z)
        (record {
          place = place_at d g;
          inside = h.1 (place_at d g) (inl refl);
          id = refl;
          largest = λ o le free. k.2 o le (λ q m. free q (h.1 q (inr m)) (before q d m (inl refl)).2);
        })
    has g k qs h e (inr m) = h.2 e m

    then : (g : ℕ) → Picked ps d.last (some g) → (z : Option (List Place)) → Right all (place_at d g ∷ ps) ds z → Right all ps (d ∷ ds) z
    then g k none h = λ offsets s.
        let a : offsets d.id ≤ g = k.2 (offsets d.id) (s.in_time d (inl refl)) (s.beside d (inl refl)) in
        let w = exchange ps d ds divide (in_order_fair (d ∷ ds) r) r.1 offsets s g a (omega (arith, k.0, r.0.1)) in
        h w.0 w.1
    then g k (some qs) h = (h.0, (λ q m. h.1 q (inr m)), has g k qs h)

    at : (z : Option ℕ) → Picked ps d.last z
        → ((g : ℕ) → g ≤ d.last → Free ps g → Right all (place_at d g ∷ ps) ds (place_from (place_at d g ∷ ps) ds))
        → Right all ps (d ∷ ds) (elim z [ none ↦ none | some o ↦ place_from (record { id = d.id; period = d.period; offset = o } ∷ ps) ds ])
    at none k h = λ offsets s. k (offsets d.id) (s.in_time d (inl refl)) (s.beside d (inl refl))
    at (some g) k h = then g k (place_from (place_at d g ∷ ps) ds) (h g k.0 k.1)
