use Rattle.std.proofs.Common.{◌++◌, string_bytes, subst, sym, ap, ◌∙◌}
use Rattle.std.specs.List.{flat_map}
use Rattle.std.proofs.lemmas.Result.{on_ok_weaker}
use Rattle.plan_lint.specs.Shown.{plain_line, IsExcerpt}
use Rattle.plan_lint.proofs.ReportLines.{finding_by_parts}
use Rattle.plan_lint.proofs.report.push_finding.Goals as goal

pub returns : goal.returns
returns c =
    let old = string_bytes c.args.text.now in
    let one = string_bytes c.push_head.new.text in
    let two = string_bytes c.push_str.new.self in
    let new = string_bytes c.push_notes.new.text in
    on_ok_weaker c.push_notes.result
    (λ last. finding_by_parts c.args.source.now c.args.finding.now c.args.place.line c.args.place.column c.as_str.result.now old one two new
    (subst IsExcerpt (sym c.as_str.ensures.value) c.in_ok-excerpt.ensures) c.in_ok-push_head.ensures c.in_ok-push_str.ensures.bytes
    (last ∙ ap (λ notes. two ++ flat_map (λ note. plain_line (string_bytes note)) notes) c.as_slice.ensures.value))
    c.push_notes.ensures
