use Rattle.std.proofs.Common.{◌≡◌, ◌++◌, string_bytes, take}
use Rattle.std.specs.List.{flat_map}
use Rattle.plan_lint.specs.Shown.{plain_line}
use Rattle.plan_lint.proofs.report.push_notes.Given as goal

abbrev pub invariant-loop-note : goal.invariant-loop-note
invariant-loop-note l = string_bytes l.text ≡ string_bytes l.fn.text ++ flat_map (λ note. plain_line (string_bytes note)) (take l.note-index l.notes)
