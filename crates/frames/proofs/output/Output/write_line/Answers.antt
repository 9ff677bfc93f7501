-- `frames::output::Output::write_line` meets its contract: each number is put where the one before ends, and the five are the line.
-- Assumes nothing.
use Rattle.frames.proofs.LineLaws.{put_line}
use Rattle.frames.proofs.output.Output.write_line.Goals as goal

pub returns-clause-puts : goal.returns-clause-puts
returns-clause-puts g c =
    let a = c.args in
    rw (← c.from.ensures, ← c.from-2.ensures, ← c.from-3.ensures)
    (put_line a.ordinal c.from.result a.place c.from-2.result c.from-3.result a.self.now.bytes a.self.now.put
    _ _ c.put_number.ensures.puts _ _ c.put_number-2.ensures.puts _ _ c.put_number-3.ensures.puts _ _ c.put_number-4.ensures.puts _ _ c.put_number-5.ensures.puts)
