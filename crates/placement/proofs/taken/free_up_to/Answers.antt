-- `free_up_to` meets its contract. Assumes nothing.
use borrow.Author.Rules.{rules}
use Rattle.placement.proofs.Table.{free_shifted}
use Rattle.placement.proofs.taken.free_up_to.Goals as goal

pub returns : goal.returns
returns c = free_shifted c.args.marks c.args.top (search rules) c.requires
