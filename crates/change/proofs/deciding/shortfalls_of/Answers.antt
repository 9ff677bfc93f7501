-- `shortfalls_of` takes each entry's shortfall. Assumes nothing.
use lib.ListN.{length-map, get_or-map}
use lib.Seq.{ext_get_or}
use mathlib.Core.Path.{sym, ◌∙◌}
use native.Mathlib.Omega.{arith}
use Rattle.change.proofs.FromFn.{made_at}
use Rattle.change.specs.Change.{shortfalls_of}
use Rattle.std.proofs.Common.{rules}
use Rattle.timetable.specs.declared.Entry.{Entry}
use Rattle.timetable.specs.Timetable.{entry_of, no_entry}
use Rattle.change.proofs.deciding.shortfalls_of.Goals as goal

pub returns : goal.returns
unfolding shortfalls_of
returns c =
    let es = c.args.entries.now in
    let r = c.from_fn.ensures.items in
    ext_get_or 0 _ _ (r.long ∙ sym (length-map es (λ (e : Entry). e.shortfall) ∙ omega arith))
    (λ i k. made_at _ _ (λ i. (entry_of es i).shortfall) (λ i y q h. search rules) 32 _ r i 0 (omega (arith, r.long)) ∙ sym (get_or-map (λ (e : Entry). e.shortfall) es i no_entry))
