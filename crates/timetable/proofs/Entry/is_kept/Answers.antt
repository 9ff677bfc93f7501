-- `is_kept` asks the definition's question of both sides times the period, in 32 bits, where they fit. Assumes nothing.
use Rattle.timetable.proofs.EntryLaws.{kept_is}
use Rattle.timetable.proofs.Ranges.{period_from}
use Rattle.timetable.proofs.Entry.is_kept.Goals as goal

pub returns : goal.returns
returns c =
    let e = c.args.self in
    kept_is e.period e.bound e.shortfall e.offset (period_from e.period c.requires)
