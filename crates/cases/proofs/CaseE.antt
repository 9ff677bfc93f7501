-- Case E for every T: its request is read alike whatever T is, and the search ends at the third length at the latest. Assumes nothing.
use borrow.Author.Tests.{le-leb}
use lib.ListN.{length, replicate}
use mathlib.Core.Bool.{Bool, cond}
use mathlib.Core.List.{◌∷◌}
use mathlib.Core.Path.{◌≡◌, refl, ap, ap₂, ◌∙◌}
use native.Mathlib.Nat.{zero-add}
use native.Mathlib.Omega.{arith}
use Prim.Native.Nat.{ℕ, zero, suc, ◌+◌, ◌≤◌}
use Rattle.std.specs.Prelude.{Ok, Err}
use Rattle.cases.proofs.Rules.{rules}
use Rattle.cases.specs.Cases.{Hold, told, entry, given, head, lists, pair, request_e, table, after_b, refused, given_e, cases_e}
use Rattle.change.specs.Change.{start_plan, search_of, answer_of, refuse, answer_to, answer}
use Rattle.change.specs.Stages.{verdict_before}
use Rattle.numbers.specs.Chain.{Verdict}
use Rattle.numbers.specs.Chain.{Passed}
use Rattle.records.specs.declared.Request.{Request}
use Rattle.numbers.specs.Numbers.{OUT_OF_RANGE, refusal}
use Rattle.records.specs.Request.{no_asks, limit_field, read_listing, with_listing, read_request, requested, ReadRequest, Reading}
use Rattle.slots.specs.Clocks.{core_slot}
use Rattle.timetable.specs.Timetable.{no_entry}
use Rattle.transition.specs.declared.Plan.{Plan}
use Rattle.transition.specs.Transition.{search_from}

-- T is read from the request.
reads_limit : (limit : ℕ) → limit ≤ 64 → limit_field (request_e 9 limit) 11 ≡ Ok limit
unfolding rules request_e head pair lists
reads_limit limit h =
    ap₂ (λ (n : ℕ) (b : Bool). cond b (Ok n) (Err (refusal OUT_OF_RANGE 11))) (zero-add limit)
    (le-leb (0 + limit) 64 (omega arith))

-- What the request says.
said : ℕ → Request
said limit = record {
  slot = core_slot 9;
  limit = limit;
  asks =
      record { period = 4; bound = 1 } ∷ record { period = 4; bound = 1 } ∷ record { period = 2; bound = 1 }
      ∷ replicate 29 (record { period = 0; bound = 0 });
}

reads : (limit : ℕ) → limit ≤ 64 → read_request (request_e 9 limit) ≡ Ok (said limit)
unfolding rules request_e head pair lists said
reads limit h =
    ap
    (λ (f : Reading ℕ). elim f [
      | Ok n ↦ with_listing (core_slot 9) n (read_listing (length (request_e 9 limit)) (request_e 9 limit) (length (request_e 9 limit)) 15 0 no_asks)
      | Err r ↦ Err r
    ])
    (reads_limit limit h)

-- It passes the stages before the search.
passes : (limit : ℕ) → verdict_before after_b (Ok (said limit)) 231 ≡ Passed
unfolding rules table after_b said requested
passes limit = refl

-- The search starts from shortfalls 64, 128 and 128.
start : Plan
start = record {
  owners = replicate 64 0;
  entries = entry 4 0 1 64 ∷ entry 4 0 1 128 ∷ entry 2 0 1 128 ∷ replicate 29 no_entry;
}

starts_so : (limit : ℕ) → start_plan after_b (said limit) ≡ start
unfolding rules table after_b said requested start
starts_so limit = refl

-- The search tells Ts of 0, 1 and 2 apart, and misses slot 2 with a larger one.
searched : (r : Request) (limit : ℕ) → told (answer_of after_b r (search_from limit 0 start)) ≡ given_e limit
unfolding rules told table after_b refused given_e start
searched r zero = refl
searched r (suc zero) = refl
searched r (suc (suc zero)) = refl
searched r (suc (suc (suc limit))) = refl

-- The answer from what was read, the stages before and the plan of length 0.
answered_E : (limit : ℕ) → told (answer_to after_b (Ok (said limit)) 231) ≡ given_e limit
unfolding answer_to search_of said requested
answered_E limit =
    ap (λ (v : Verdict). told (elim v [
      | Ok _ ↦ answer_of after_b (said limit) (search_from (said limit).limit 0 (start_plan after_b (said limit)))
      | Err r ↦ refuse after_b r
    ])) (passes limit)
    ∙ ap (λ (p : Plan). told (answer_of after_b (said limit) (search_from limit 0 p))) (starts_so limit)
    ∙ searched (said limit) limit

pub holds_E : (n : ℕ) → n ≤ 65 → Hold (cases_e n)
unfolding cases_e given answer
holds_E zero h = tt
holds_E (suc limit) h =
    (ap (λ (r : ReadRequest). told (answer_to after_b r 231)) (reads limit (omega arith)) ∙ answered_E limit, holds_E limit (omega arith))
