-- docs/RULES.md 8.1: the number with which the owner query answers.
use Rattle.std.proofs.Math.Option.{Option, none, some}
use Rattle.std.specs.Prelude.{ℕ}
use Rattle.slots.specs.Limits.{IDLE}

-- The owner, or 255 for idle.
unfoldable pub owner_number : Option ℕ → ℕ
owner_number none = IDLE
owner_number (some i) = i
