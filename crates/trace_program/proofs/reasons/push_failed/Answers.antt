use Rattle.trace_program.proofs.Deciding.{extends_by, extends_on, extends_same}
use Rattle.trace_program.proofs.reasons.push_failed.Goals as goal

pub returns : goal.returns
returns c =
    let required = extends_by _ _ _ _ (extends_same _ _ c.in_ok-push_label.ensures) c.in_ok-push_str.ensures.bytes in
    extends_by _ _ _ _ (extends_on _ _ _ (extends_by _ _ _ _ required c.in_ok-push_str-2.ensures.bytes) c.in_ok-push_word.ensures) c.in_ok-push_str-3.ensures.bytes
