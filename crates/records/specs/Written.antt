-- docs/RULES.md 6.5: a request as it is written.
use Rattle.std.specs.Prelude.{eqb, cond, List, [], ◌∷◌, ◌++◌, ℕ, zero, suc, ◌/◌, ◌%◌, ◌^◌}
use Rattle.std.proofs.Math.Option.{none, some}
use Rattle.records.specs.Answer.{field, rising}
use Rattle.records.specs.declared.Ask.{Ask}
use Rattle.records.specs.declared.Request.{Request}
use Rattle.records.specs.Request.{ask_of, is_asked}
use Rattle.slots.specs.Below.{first}
use Rattle.slots.specs.Limits.{IDS, LARGEST_K}

-- The last `count` bytes of a number, big-endian.
unfoldable pub number_bytes : ℕ → ℕ → List ℕ
number_bytes n zero = []
number_bytes n (suc count) = number_bytes (n / 256) count ++ (n % 256 ∷ [])

-- Helper of listed_bytes: the k of a period 2^k.
unfoldable pub exponent_of : ℕ → ℕ
exponent_of period = elim (first (suc LARGEST_K) (λ k. eqb period (2 ^ k))) [ none ↦ 0 | some k ↦ k ]

-- Tag 3, length 3 (id, k, R), or length 2 (id, k) where the bound is 0.
unfoldable pub listed_bytes : ℕ → Ask → List ℕ
listed_bytes id a =
    cond (eqb a.bound 0)
    (field 3 (id ∷ exponent_of a.period ∷ []))
    (field 3 (id ∷ exponent_of a.period ∷ a.bound ∷ []))

-- The tag 3 fields of the listed ids below n, ids rising.
abbrev pub listing_bytes : List Ask → ℕ → List ℕ
listing_bytes asks n = rising (λ i. cond (is_asked (ask_of asks i)) (listed_bytes i (ask_of asks i)) []) n

-- Request, in this order, nothing after: tag 1, length 8, request slot; tag 2, length 1, T; then the tag 3 fields.
unfoldable pub request_record : Request → List ℕ
request_record r = field 1 (number_bytes r.slot.0 8) ++ field 2 (number_bytes r.limit 1) ++ listing_bytes r.asks IDS
