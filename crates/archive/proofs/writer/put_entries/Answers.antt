-- The invariant: the fields of the first n entries are stored from place 15 on. Assumes nothing.
use mathlib.Core.Path.{◌≡◌, refl, ◌∙◌}
use native.Mathlib.Omega.{arith}
use Rattle.archive.proofs.RequestStores.{fields_next}
use Rattle.archive.specs.Put.{listing_fields}
use Rattle.archive.proofs.writer.put_entries.Goals as goal

pub loop-n-init : goal.loop-n-init
unfolding listing_fields
loop-n-init c = (refl, refl)

pub loop-n-preserved : goal.loop-n-preserved
loop-n-preserved c =
    let l = c.loop-n in (
      c.put_entry.auto.area ∙ l.invariant.0,
      fields_next _ _ _ l.n (rw (← l.invariant.1) c.put_entry.ensures),
    )

pub returns : goal.returns
returns c =
    let l = c.loop-n in
    let n : l.n ≡ c.args.count = omega arith in
    rw n at l.invariant.1
