-- docs/RULES.md 2, the slot layer: what a run of slots is, and what entitlement, supply and shortfall mean over it (definitions 4.2 to 4.4 of the 2021 paper).
-- Nothing here knows of timetables, requests or rules. The lab's "deficit" is the shortfall below, and nothing else.
use Rattle.std.specs.Prelude.{Bool, true, false, ℕ, zero, suc, ◌+◌, ◌*◌, ◌<◌, eqb}
use Rattle.std.proofs.Math.Option.{Option, none, some}
use Rattle.slots.specs.Limits.{WHOLE}
use Rattle.slots.specs.Shortfall.{over_slot}

-- One slot: who has it, and what each id is promised in it.
pub record Slot : Type 0 where
  -- the id that has the slot, or none where it is idle
  pub owner : Option ℕ
  -- each id's weight in it; 0 for an id that is not listed
  pub weight : ℕ → ℕ
  -- each id's bound R in it
  pub bound : ℕ → ℕ

-- A run: its slots, numbered from 0.
abbrev pub Run : Type 0
Run = ℕ → Slot

-- Helper of own: whether an owner, or none, is the id i.
unfoldable pub is_owner : ℕ → Option ℕ → Bool
is_owner i none = false
is_owner i (some j) = eqb i j

-- Whether slot t is i's own.
unfoldable pub own : Run → ℕ → ℕ → Bool
own run i t = is_owner i (run t).owner

-- Helper of supply: one slot of supply, or none.
unfoldable pub one : Bool → ℕ
one true = 1
one false = 0

-- The entitlement of i over the window of n slots from slot a: the sum of its weights.
unfoldable pub entitlement : Run → ℕ → ℕ → ℕ → ℕ
entitlement run i a zero = 0
entitlement run i a (suc n) = entitlement run i a n + (run (a + n)).weight i

-- The supply of i over the same window: the number of its own slots.
unfoldable pub supply : Run → ℕ → ℕ → ℕ → ℕ
supply run i a zero = 0
supply run i a (suc n) = supply run i a n + one (own run i (a + n))

-- The shortfall of i at the start of slot t: 0 at slot 0, the empty controller's first, and one slot further after each slot, whether i is listed in it or not.
unfoldable pub shortfall : Run → ℕ → ℕ → ℕ
shortfall run i zero = 0
shortfall run i (suc t) = over_slot (own run i t) ((run t).weight i) (shortfall run i t)

-- i is listed in slot t.
abbrev pub Listed : Run → ℕ → ℕ → Type 0
Listed run i t = 0 < (run t).weight i

-- The window from slot a to its last slot a + n keeps i's bound: its slots exceed its entitlement less its bound, the one in force in its last slot.
abbrev pub KeepsBound : Run → ℕ → ℕ → ℕ → Type 0
KeepsBound run i a n =
    entitlement run i a (suc n) < WHOLE * supply run i a (suc n) + WHOLE * (run (a + n)).bound i
