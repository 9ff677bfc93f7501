-- What a run put into the output is what the program prints for all that the run read. Assumes nothing.
use lib.ListN.{length}
use mathlib.Core.List.{List}
use mathlib.Core.Path.{◌≡◌, refl, sym, ap, ◌∙◌}
use native.Mathlib.Omega.{arith}
use Prim.Native.Nat.{ℕ, suc, ◌-◌, ◌≤◌, ◌<◌}
use Rattle.changer.specs.Answers.{Answered, Answers, MOST, start_controller}
use Rattle.changer.specs.States.{ControllerState}
use Rattle.frames.proofs.ProgramLaws.{last_line_lem, line_first, rest_less}
use Rattle.frames.proofs.RunLaws.{ran_prints}
use Rattle.frames.specs.Coded.{Puts}
use Rattle.frames.specs.Places.{InputBuffer, OutputBuffer}
use Rattle.frames.specs.Program.{lines_from, program_lines}
use Rattle.frames.specs.Runs.{Prints, Ran, put_in}
use Rattle.frames.specs.Runs.Prints.{last, next}

-- What answers to requests print is what the program prints, from the same number and timetable on.
prints_lines : {s : ControllerState} {input text : List ℕ} → Prints ControllerState Answered s input text → (most : ℕ) → length input ≤ most → lines_from most input s.ordinal s.timetable ≡ text
prints_lines {s} {input} (last e) most few = last_line_lem input most s.ordinal s.timetable few e
prints_lines (next {s} {r} {input} {text} {rest} e a p) most few =
    let less = rest_less input e in
    let m : most ≡ suc (most - 1) = omega arith in
    let later = prints_lines p (most - 1) (omega arith) in
    ap (λ (k : ℕ). lines_from k input s.ordinal s.timetable) m
    ∙ line_first input (most - 1) s.ordinal s.timetable e
    ∙ rw (a.told, ← later, a.ordinal, a.timetable) refl

-- What a run put into the output, wherever its input and output stood, is what the program prints for all that it read.
pub ran_lines : {input : InputBuffer} {out : OutputBuffer} {input-after : InputBuffer} {out-after : OutputBuffer} → (ran : Ran ControllerState Answered Puts start_controller MOST input out input-after out-after) → ran.frames < MOST
    → put_in ControllerState Answered Puts start_controller ran ≡ program_lines ran.read
unfolding program_lines
ran_lines ran few =
    sym (prints_lines (ran_prints ControllerState Answered Puts start_controller ran few) (length ran.read) (omega arith))

-- So is what a whole run put, which starts with nothing read and nothing put.
pub run_lines : {input : InputBuffer} {out : OutputBuffer} {input-after : InputBuffer} {out-after : OutputBuffer} → (whole : Answers input out input-after out-after) → whole.1.frames < MOST
    → put_in ControllerState Answered Puts start_controller whole.1 ≡ program_lines whole.1.read
run_lines whole = ran_lines whole.1
