use Rattle.std.proofs.Common.{string_bytes}
use Rattle.explain.proofs.ReasonLines.{passed_by_parts}
use Rattle.explain.proofs.words.push_passed.Goals as goal

pub returns : goal.returns
returns c =
    let words = c.in_ok-push.ensures in (
      words.words,
      passed_by_parts (string_bytes c.args.text.now) (string_bytes c.push_str.new.self) (string_bytes c.push.new.text) (string_bytes c.push_str-2.new.self)
          c.in_ok-push_str.ensures.bytes words c.in_ok-push_str-2.ensures.bytes,
    )
