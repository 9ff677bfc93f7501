-- `parts::reading::Pattern::fill` meets its contract. The invariant: the bytes that were passed are the pattern's.
-- Assumes nothing.
use Rattle.std.proofs.Common.{get_or, ◌≡◌, ◌<◌, ℕ}
use Rattle.parts.specs.Pattern.{pattern_byte}
use Rattle.parts.proofs.reading.Pattern.fill.Given as goal

abbrev pub invariant-loop-i : goal.invariant-loop-i
invariant-loop-i l = (k : ℕ) → k < l.i → get_or l.area k 0 ≡ pattern_byte l.self.0.now k
