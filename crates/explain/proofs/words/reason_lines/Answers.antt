use Rattle.std.proofs.Common.{List, ℕ, ◌++◌, length, string_bytes, if◌then◌else◌, ap, ◌∙◌}
use Rattle.std.specs.Prelude.{codes}
use Rattle.explain.specs.Words.{message_line, count_line, earlier_checks, AppendsPassed}
use Rattle.explain.proofs.ReasonLines.{asked_for, not_asked_for, reason_by_parts}
use Rattle.explain.proofs.words.reason_lines.Goals as goal
use Rattle.explain.proofs.words.reason_lines.Goals.{then-all+in_ok-push_each_passed, else-all}

pub returns : goal.returns
returns c =
    let reason = c.args.reason.now in
    let empty = string_bytes c.new-text.result in
    let one = string_bytes c.push_line.new.text in
    let two = string_bytes c.push_line-2.new.text in
    let three = string_bytes c.push_count.new.text in
    let text = string_bytes c.if-all.text in
    let earlier = length (earlier_checks reason.checks.items) in
    let few = ap length (c.earlier_checks-earlier.ensures ∙ ap earlier_checks c.deref-3.ensures.value) in
    let passed : AppendsPassed (if c.args.all then earlier else 0) three text = elim c.if-all.branch [
      | then-all+in_ok-push_each_passed w ↦ asked_for c.args.all earlier _ three _ text w.if-all.true few (ap string_bytes w.text-is) w.in_ok-push_each_passed.ensures
      | else-all w ↦ not_asked_for c.args.all earlier three text w.if-all.false (ap string_bytes w.text-is)
    ] in
    reason_by_parts reason c.args.all empty one two three text c.new-text.ensures.bytes
    (c.in_ok-push_line.ensures ∙ ap (λ (words : List ℕ). empty ++ message_line (codes "error") words) c.deref.ensures)
    (c.in_ok-push_line-2.ensures ∙ ap (λ (words : List ℕ). one ++ message_line (codes "help") words) c.deref-2.ensures)
    (c.in_ok-push_count.ensures ∙ ap (λ (n : ℕ). two ++ count_line n) few)
    passed
