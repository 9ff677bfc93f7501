-- docs/RULES.md 9.6, the probe's run: every frame is answered in turn; what its line tells is left to the comparison.
use Rattle.std.specs.Prelude.{List, ℕ, ◌-◌, ◌^◌}
use Rattle.frames.specs.Places.{InputBuffer, OutputBuffer}
use Rattle.frames.specs.Runs.{AtStart, Ran}

-- A probe leaves nothing to the next, and its text is not said.
abbrev pub Told : Unit {0} → List ℕ → List ℕ → Unit {0} → Type 0
Told s content text r = Unit {0}

-- Nor is how that text is put.
abbrev pub Printed : List ℕ → ℕ → List ℕ → List ℕ → ℕ → Type 0
Printed before at text after put = Unit {0}

-- With nothing read and nothing put at the start, the probes were answered until the input was over, or as many as the program counts.
abbrev pub Probes : InputBuffer → OutputBuffer → InputBuffer → OutputBuffer → Type 0
Probes input out input-after out-after = AtStart input out × Ran (Unit {0}) Told Printed tt (2 ^ 64 - 1) input out input-after out-after
