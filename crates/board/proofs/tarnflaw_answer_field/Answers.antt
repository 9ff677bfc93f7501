-- A field's tag and bytes are told, or its refusal. Assumes nothing.
use mathlib.Core.Path.{◌≡◌, sym, ap, ◌∙◌}
use Rattle.std.specs.Prelude.{Ok, Some, None}
use Rattle.archive.specs.AnswerRead.{field_at}
use Rattle.archive.specs.declared.AnswerField.TheVariants.{Length, Owners, Offset}
use Rattle.board.proofs.ArchiveLaws.{end_told, length_told, offset_told, owners_told, refusal_told, stood}
use Rattle.board.proofs.tarnflaw_answer_field.Goals as goal

pub returns-in-Ok-None : goal.returns-in-Ok-None
returns-in-Ok-None c =
    let h : Ok None ≡ field_at c.args.answer.now c.args.at.now = sym (c.in-Ok-None.is ∙ ap Ok c.in-Ok-None.field-0-is) ∙ c.field_at.ensures in
    end_told c.args.at.now _ h

pub returns-in-Err : goal.returns-in-Err
returns-in-Err c = refusal_told c.args.at.now _ c.in-Err.refusal (sym c.in-Err.is ∙ c.field_at.ensures)

pub returns-in-Length : goal.returns-in-Length
returns-in-Length c =
    let x = c.in-Ok-Some.step in
    let h : Ok (Some x) ≡ field_at c.args.answer.now c.args.at.now = sym (c.in-Ok-Some.is ∙ ap Ok c.in-Ok-Some.field-0-is) ∙ c.field_at.ensures in
    length_told c.args.at.now _ c.in-Length.n x.next (stood c.args.at.now _ x (Length c.in-Length.n) c.in-Length.is h)

pub returns-in-Owners : goal.returns-in-Owners
returns-in-Owners c =
    let x = c.in-Ok-Some.step in
    let h : Ok (Some x) ≡ field_at c.args.answer.now c.args.at.now = sym (c.in-Ok-Some.is ∙ ap Ok c.in-Ok-Some.field-0-is) ∙ c.field_at.ensures in
    owners_told c.args.at.now _ c.in-Owners.n x.next (stood c.args.at.now _ x (Owners c.in-Owners.n) c.in-Owners.is h)

pub returns-in-Offset : goal.returns-in-Offset
returns-in-Offset c =
    let x = c.in-Ok-Some.step in
    let h : Ok (Some x) ≡ field_at c.args.answer.now c.args.at.now = sym (c.in-Ok-Some.is ∙ ap Ok c.in-Ok-Some.field-0-is) ∙ c.field_at.ensures in
    offset_told c.args.at.now _ c.in-Offset.id c.in-Offset.offset x.next
    (stood c.args.at.now _ x (Offset c.in-Offset.id c.in-Offset.offset) c.in-Offset.is h)
