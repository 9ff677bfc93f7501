-- Any slot, T and asks in range have a record, which is read as them. Assumes nothing.
use lib.ListN.{length}
use mathlib.Core.List.{List, [], ◌∷◌}
use mathlib.Core.Path.{◌≡◌, refl, sym, ap, ◌∙◌, subst}
use native.Mathlib.Omega.{arith}
use Prim.Native.Nat.{ℕ, zero, suc, ◌≤◌, ◌<◌}
use Rattle.std.specs.Result.{IsOk, is_ok}
use Rattle.std.specs.Prelude.{Ok}
use Rattle.records.proofs.ReadSteps.{requested_read}
use Rattle.records.proofs.RoundTrip.{round_trip}
use Rattle.records.specs.declared.Ask.{Ask}
use Rattle.records.specs.declared.Request.{Request}
use Rattle.records.specs.Reads.{AskRange}
use Rattle.records.specs.Request.{ask_of, read_request, ReadRequest, requested}
use Rattle.records.specs.Written.{request_record}
use Rattle.slots.specs.Clocks.{core_slot}
use Rattle.slots.specs.Limits.{IDS, LAST_SLOT, LONGEST}

-- An ask for each of n ids.
unfoldable asks_of : (ℕ → Ask) → ℕ → List Ask
asks_of f zero = []
asks_of f (suc n) = f 0 ∷ asks_of (λ i. f (suc i)) n

length_asks : (f : ℕ → Ask) (n : ℕ) → length (asks_of f n) ≡ n
unfolding asks_of
length_asks f zero = refl
length_asks f (suc n) = ap suc (length_asks (λ i. f (suc i)) n)

asks_at : (f : ℕ → Ask) (n i : ℕ) → i < n → ask_of (asks_of f n) i ≡ f i
unfolding asks_of
asks_at f zero i h = absurd (omega arith)
asks_at f (suc n) zero h = refl
asks_at f (suc n) (suc i) h = asks_at (λ i. f (suc i)) n i (omega arith)

-- A record that is read as slot x, T n and these asks.
pub record Requests (x n : ℕ) (f : ℕ → Ask) (s : List ℕ) : Type 0 where
  pub read : IsOk (read_request s)
  pub slot : (requested (read_request s)).slot ≡ core_slot x
  pub limit : (requested (read_request s)).limit ≡ n
  pub asks : (i : ℕ) → i < IDS → ask_of (requested (read_request s)).asks i ≡ f i

pub any_request : (x n : ℕ) (f : ℕ → Ask) → x ≤ LAST_SLOT → n ≤ LONGEST → ((i : ℕ) → i < IDS → AskRange (f i)) → (s : List ℕ) × Requests x n f s
any_request x n f a b c = (
  request_record q,
  record {
    read = ap (λ (r : ReadRequest). is_ok r) back;
    slot = ap (λ (r : Request). r.slot) (requested_read back);
    limit = ap (λ (r : Request). r.limit) (requested_read back);
    asks = λ i k. ap (λ (r : Request). ask_of r.asks i) (requested_read back) ∙ asks_at f IDS i k;
  },
)
  where
    q : Request
    q = record { slot = core_slot x; limit = n; asks = asks_of f IDS }

    back : read_request (request_record q) ≡ Ok q
    back =
        round_trip q
        (record { slot = a; limit = b; asks = record { count = length_asks f IDS; each = λ i k. subst AskRange (sym (asks_at f IDS i k)) (c i k) } })
