-- A listed id adds its field behind those before. Assumes nothing.
use Rattle.std.proofs.Common.{length, ltb-true, ltb-false, refl, sym, ap, ◌∙◌, arith}
use Rattle.std.proofs.Math.Nat.{add-zero}
use Rattle.records.proofs.AreaLaws.{offsets_room, stored_listed, stored_same}
use Rattle.records.specs.Answer.{rising}
use Rattle.records.proofs.write.put_offsets.Goals as goal
use Rattle.records.proofs.write.put_offsets.Goals.{then-is_listed, else-is_listed}

pub loop-id-init : goal.loop-id-init
unfolding rising
loop-id-init c = (refl, record { content = refl; place = sym (add-zero _) })

pub put_offset-requires : goal.put_offset-requires
put_offset-requires c =
    omega (arith, c.loop-id.invariant.1.place, c.loop-id.invariant.0, offsets_room c.args.entries.now c.loop-id.id)

pub overflow_add-at : goal.overflow_add-at
overflow_add-at c =
    omega (arith, c.loop-id.invariant.1.place, c.loop-id.invariant.0, offsets_room c.args.entries.now c.loop-id.id)

pub loop-id-preserved : goal.loop-id-preserved
loop-id-preserved c =
    let l = c.loop-id in
    let s = l.invariant.1 in
    elim c.if-is_listed.branch [
      | then-is_listed w ↦ (
        ap length w.area-is ∙ w.put_offset.auto.area ∙ l.invariant.0,
        stored_listed _ _ _ _ _ _ s _ refl _ _ (ltb-true 0 _ (sym c.is_listed.ensures ∙ w.if-is_listed.true)) w.at-is (w.area-is ∙ w.put_offset.ensures),
      )
      | else-is_listed w ↦ (
        ap length w.area-is ∙ l.invariant.0,
        rw (w.area-is, w.at-is) (stored_same _ _ _ _ _ _ s _ refl (ltb-false 0 _ (sym c.is_listed.ensures ∙ w.if-is_listed.false))),
      )
    ]
