use Rattle.std.proofs.Common.{string_bytes}
use Rattle.std.specs.Prelude.{max}
use Rattle.plan_lint.specs.Shown.{plain_text, caret_line}
use Rattle.plan_lint.proofs.Excerpts.{excerpt_by_parts}
use Rattle.plan_lint.proofs.excerpt.excerpt_of.Goals as goal

pub returns : goal.returns
returns c =
    let front = c.deref.result.now in
    let back = c.deref-3.result.now in
    let before = c.char_count-before.result in
    let marked = c.in_ok-marked.marked in
    record {
      front = front;
      back = back;
      before = before;
      marked = marked;
      whole = excerpt_by_parts (string_bytes c.in_ok-text.text) (string_bytes c.push_line.new.text) (string_bytes c.push_carets.new.text)
          (plain_text front) (plain_text back) (caret_line before (max marked 1))
          c.in_ok-text.ensures c.in_ok-push_line.ensures c.in_ok-push_carets.ensures;
    }
