-- The fields are stored one behind the other, each from where the one before ends. Assumes nothing.
use Rattle.std.proofs.Common.{length, ◌≡◌, ◌∙◌, refl, arith}
use Rattle.std.proofs.Math.ListN.{length-set}
use Rattle.std.proofs.lemmas.List.{length-take-le}
use Rattle.records.proofs.AreaLaws.{answer_stored}
use Rattle.records.proofs.SetsLaws.{sets_copied}
use Rattle.records.proofs.write.write_answer.Goals as goal

pub returns : goal.returns
returns c =
    let t = c.args.t.now in
    let kept : length c.put_head-2.new.area ≡ length c.args.area.now = c.put_head-2.auto.area ∙ simp length-set c.put_head.auto.area in
    answer_stored t.length t.owners t.entries (omega (arith, c.requires)) (omega arith) _ _ _ _ _ _ _
    c.put_head.ensures
    c.put_head-2.ensures
    refl
    (sets_copied _ _ _ _ _ c.copy_from_slice.ensures.after (omega (arith, length-take-le t.length t.owners (omega (arith, c.requires)))) (omega (arith, kept, c.requires, length-take-le t.length t.owners (omega (arith, c.requires)))))
    c.put_offsets.ensures.0
    c.put_offsets.ensures.1
