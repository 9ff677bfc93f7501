-- A chain of stages: a chain in two parts, one stage of it, and a chain of statements with the one verdict that it tells. Assumes nothing.
use mathlib.Core.List.{List, [], ◌∷◌, ◌++◌}
use mathlib.Core.Path.{◌≡◌, refl, sym, ap, ◌∙◌, subst}
use mathlib.Core.Bool.{true≢false}
use Rattle.std.specs.Prelude.{Ok, Err, is_ok}
use Rattle.numbers.specs.Chain.{or_else, first_of, Then, refused, passed}
use Rattle.numbers.specs.declared.Refusal.{Refusal}
use Rattle.numbers.specs.Chain.{Verdict}
use Rattle.numbers.specs.Chain.{Passed, Refused}

-- ---- the chain

-- A stage that refuses ends the chain.
pub first_refused : (r : Refusal) (stage : Verdict) (rest : List Verdict) → stage ≡ Refused r → first_of (stage ∷ rest) ≡ Refused r
unfolding first_of or_else
first_refused r stage rest e = ap (λ (v : Verdict). or_else v (first_of rest)) e

-- A stage that is passed leaves the rest of it.
pub first_passed : (stage : Verdict) (rest : List Verdict) → stage ≡ Passed → first_of (stage ∷ rest) ≡ first_of rest
unfolding first_of or_else
first_passed stage rest e = ap (λ (v : Verdict). or_else v (first_of rest)) e

-- A chain of one stage.
pub first_one : (stage : Verdict) → first_of (stage ∷ []) ≡ stage
unfolding first_of or_else
first_one (Ok u) = refl
first_one (Err r) = refl

-- A chain in two parts: the second is asked where the first is passed.
pub first_split : (a b : List Verdict) → first_of (a ++ b) ≡ or_else (first_of a) (first_of b)
unfolding first_of or_else
first_split [] b = refl
first_split (Ok u ∷ a) b = first_split a b
first_split (Err r ∷ a) b = refl

-- What the first part refuses the chain refuses;
pub split_refused : (a b : List Verdict) (r : Refusal) → first_of a ≡ Refused r → first_of (a ++ b) ≡ Refused r
unfolding or_else
split_refused a b r e = first_split a b ∙ ap (λ (v : Verdict). or_else v (first_of b)) e

-- and past it the second part decides.
pub split_passed : (a b : List Verdict) → first_of a ≡ Passed → first_of (a ++ b) ≡ first_of b
unfolding or_else
split_passed a b e = first_split a b ∙ ap (λ (v : Verdict). or_else v (first_of b)) e

-- ---- the chain of statements

-- A statement tells a verdict: it holds of this one and of no other.
pub record Tells (A : Verdict → Type 0) (v : Verdict) : Type 0 where
  pub holds : A v
  pub only : (w : Verdict) → A w → v ≡ w

-- A statement that holds of some verdict, and of the one told alone, tells it.
pub tells_from : (A : Verdict → Type 0) (v : Verdict) → ((w : Verdict) → A w → v ≡ w) → (w : Verdict) × A w → Tells A v
tells_from A v only some = record { holds = subst A (sym (only some.0 some.1)) some.1; only = only }

-- No refusal is a pass.
pub not_passed : (r : Refusal) → Passed ≡ Refused r → ⊥
not_passed r e = true≢false (ap (λ (v : Verdict). is_ok v) e)

-- A chain in two parts.
pub then_tells : (A B : Verdict → Type 0) (a b : Verdict) → Tells A a → Tells B b → Tells (Then A B) (or_else a b)
unfolding or_else
then_tells A B (Ok u) b x y = record { holds = passed b x.holds y.holds; only = only }
  where
    only : (w : Verdict) → Then A B w → b ≡ w
    only w (refused r z) = absurd (not_passed r (x.only (Refused r) z))
    only w (passed v z u) = y.only w u
then_tells A B (Err r) b x y = record { holds = refused r x.holds; only = only }
  where
    only : (w : Verdict) → Then A B w → Refused r ≡ w
    only w (refused q z) = x.only (Refused q) z
    only w (passed v z u) = absurd (not_passed r (sym (x.only Passed z)))

-- A stage before a chain.
pub stage_tells : (A B : Verdict → Type 0) (stage : Verdict) (rest : List Verdict) → Tells A stage → Tells B (first_of rest)
    → Tells (Then A B) (first_of (stage ∷ rest))
unfolding first_of
stage_tells A B stage rest x y = then_tells A B stage (first_of rest) x y

-- The last stage.
pub last_tells : (A : Verdict → Type 0) (stage : Verdict) → Tells A stage → Tells A (first_of (stage ∷ []))
last_tells A stage x = subst (Tells A) (sym (first_one stage)) x

-- Two chains, one behind the other.
pub chains_tell : (A B : Verdict → Type 0) (a b : List Verdict) → Tells A (first_of a) → Tells B (first_of b) → Tells (Then A B) (first_of (a ++ b))
chains_tell A B a b x y = subst (Tells (Then A B)) (sym (first_split a b)) (then_tells A B (first_of a) (first_of b) x y)
