use Rattle.std.proofs.Common.{◌≡◌, drop}
use Rattle.rmm_answers.specs.Page.{offset_in}
use Rattle.rmm_answers.proofs.page.offset_in.Given as goal

abbrev pub invariant-loop-field : goal.invariant-loop-field
invariant-loop-field l = offset_in l.name (drop l.field-index l.fields) ≡ offset_in l.name l.fields
