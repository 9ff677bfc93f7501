-- The content starts after the tag and the two bytes of the length. Assumes nothing.
use mathlib.Core.Path.{refl}
use Rattle.records.specs.Request.{content_at}
use Rattle.records.proofs.fields.content_at.Goals as goal

pub returns : goal.returns
unfolding content_at
returns c = refl
