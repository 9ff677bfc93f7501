-- Helpers of the contracts in src/: the pattern of a probe, and an area that is filled with it (docs/PROBE.md).
use Rattle.std.specs.Prelude.{get_or, length, List, ◌≡◌, ℕ, ◌%◌, ◌<◌}

-- Byte i of an area that is filled with a pattern: its bytes again and again, 0 if there are none.
abbrev pub pattern_byte : List ℕ → ℕ → ℕ
pattern_byte pattern i = get_or pattern (i % length pattern) 0

-- Each byte of an area is the pattern's.
abbrev pub IsFilled : List ℕ → List ℕ → Type 0
IsFilled pattern area = (i : ℕ) → i < length area → get_or area i 0 ≡ pattern_byte pattern i
