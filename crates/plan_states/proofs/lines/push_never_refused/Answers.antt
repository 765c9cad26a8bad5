use Rattle.std.proofs.Common.{◌++◌, codes, string_bytes}
use Rattle.std.specs.Fmt.{decimal}
use Rattle.std.proofs.lemmas.Result.{on_ok_weaker}
use Rattle.plan_states.specs.Lines.{share_text}
use Rattle.plan_states.proofs.Joined.{joined}
use Rattle.plan_states.proofs.lines.push_never_refused.Goals as goal

pub returns : goal.returns
returns c =
    on_ok_weaker c.push_shown.result (joined (string_bytes c.args.text.now) (codes "never refused " ++ decimal c.args.tally.now.outcome) (share_text c.args.schedule_count.now c.args.tally.now.count c.args.tally.now.first.items)
    (string_bytes c.write.new.self) (string_bytes c.push_shown.new.text) c.in_ok-write.ensures.bytes) (rw c.deref.ensures.value at c.push_shown.ensures)
