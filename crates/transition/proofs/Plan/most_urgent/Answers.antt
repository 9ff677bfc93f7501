-- `most_urgent` meets its contract. The loop's invariant: of the ids below id the most urgent and its room are known, and how many have none. Assumes nothing.
use mathlib.Core.Logic.{inl, inr}
use mathlib.Core.Path.{sym, ◌∙◌}
use native.Mathlib.Omega.{arith}
use Rattle.timetable.proofs.SoundLaws.{entry_range}
use Rattle.transition.proofs.StepLaws.{scanned_few, scanned_none, scanned_unlisted, scanned_listed, scanned_missed, scanned_all}
use Rattle.transition.proofs.Plan.most_urgent.Goals as goal
use Rattle.transition.proofs.Plan.most_urgent.Goals.{then-is_listed+then-room-eq0, then-room-least, else-room-least, then-is_listed+else-room-eq0, else-is_listed}

pub loop-id-init : goal.loop-id-init
loop-id-init c = scanned_none _ c.requires

pub room-room-requires : goal.room-room-requires
room-room-requires c =
    entry_range _ c.loop-id.id c.requires (omega (arith, c.loop-id-test.true)) (sym c.is_listed.ensures ∙ c.if-is_listed.true)

pub overflow_add-pressed : goal.overflow_add-pressed
overflow_add-pressed c =
    let l = c.loop-id in
    record { fits = omega (arith, scanned_few _ l.urgent l.least l.pressed l.id l.invariant, c.loop-id-test.true) }

pub loop-id-preserved : goal.loop-id-preserved
loop-id-preserved c =
    let l = c.loop-id in
    let on = scanned_listed _ c.requires l.id l.urgent l.least l.pressed (omega (arith, c.loop-id-test.true)) l.invariant in
    elim c.if-is_listed.branch [
      | then-is_listed+then-room-eq0 w ↦
          rw (w.urgent-is, w.least-is)
          (on (sym c.is_listed.ensures ∙ w.if-is_listed.true) w.room-room.result w.room-room.ensures w.if-room-least.urgent w.if-room-least.least
          (elim w.if-room-least.branch [
            | then-room-least x ↦ inl (x.if-room-least.true, x.urgent-is, x.least-is)
            | else-room-least x ↦ inr (x.if-room-least.false, x.urgent-is, x.least-is)
          ])
          c.if-is_listed.pressed (inl (w.if-room-eq0.true, w.pressed-is)))
      | then-is_listed+else-room-eq0 w ↦
          rw (w.urgent-is, w.least-is)
          (on (sym c.is_listed.ensures ∙ w.if-is_listed.true) w.room-room.result w.room-room.ensures w.if-room-least.urgent w.if-room-least.least
          (elim w.if-room-least.branch [
            | then-room-least x ↦ inl (x.if-room-least.true, x.urgent-is, x.least-is)
            | else-room-least x ↦ inr (x.if-room-least.false, x.urgent-is, x.least-is)
          ])
          c.if-is_listed.pressed (inr (w.if-room-eq0.false, w.pressed-is)))
      | else-is_listed w ↦
          rw (w.urgent-is, w.least-is, w.pressed-is)
          (scanned_unlisted _ c.requires l.id l.urgent l.least l.pressed (omega (arith, c.loop-id-test.true)) l.invariant (sym c.is_listed.ensures ∙ w.if-is_listed.false))
    ]

pub returns-then-pressed-gt1 : goal.returns-then-pressed-gt1
returns-then-pressed-gt1 c =
    let l = c.loop-id in
    scanned_missed _ l.least l.pressed l.id (omega (arith, c.loop-id-test.false)) l.urgent l.invariant c.if-pressed-gt1.true

pub returns : goal.returns
returns c =
    let l = c.loop-id in
    scanned_all _ l.least l.pressed l.id (omega (arith, c.loop-id-test.false)) l.urgent l.invariant c.if-pressed-gt1.false
