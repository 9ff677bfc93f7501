-- `frames::output::Output::put_number` meets its contract: `io::decimal` gives the fewest digits, which are those of a line and at most 20, and one byte is put behind them.
-- Assumes nothing.
use mathlib.Core.Path.{◌∙◌}
use native.Mathlib.Omega.{arith}
use Rattle.std.proofs.Common.{lit<}
use Rattle.frames.proofs.LineLaws.{few_digits, put_number, puts_length}
use Rattle.frames.proofs.output.Output.put_number.Goals as goal

pub put_text-requires-2 : goal.put_text-requires-2
put_text-requires-2 g c =
    let few = few_digits c.args.n c.decimal-count.result c.ranges.n.fits c.decimal-count.ensures.len in
    let kept = puts_length _ _ _ _ _ c.put_text.ensures in
    (lit< tt, omega (arith, c.put_text.ensures.end))

pub returns : goal.returns
returns g c =
    let d = c.decimal-count in
    let few = few_digits c.args.n d.result c.ranges.n.fits d.ensures.len in
    record {
      puts = put_number c.args.self.now.bytes c.args.self.now.put c.args.n d.result c.args.last _ _ _ few d.ensures.len d.ensures.digits c.put_text.ensures _ _ c.put_text-2.ensures;
      upper_bound = omega (arith, c.put_text.ensures.end, c.put_text-2.ensures.end);
      kept = puts_length _ _ _ _ _ c.put_text-2.ensures ∙ puts_length _ _ _ _ _ c.put_text.ensures;
    }
