use Rattle.std.proofs.Common.{eq-eqb}
use Rattle.rmm_answers.proofs.Rows.{offset_here}
use Rattle.rmm_answers.proofs.page.offset_in.Goals as goal

pub returns-then-field-name : goal.returns-then-field-name
returns-then-field-name c =
    offset_here c.args.name c.args.fields.now c.loop-field.field-index _ c.loop-field-test.true (eq-eqb _ _ c.if-field-name.true) c.loop-field.invariant
