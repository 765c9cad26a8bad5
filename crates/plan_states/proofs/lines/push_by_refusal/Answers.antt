use Rattle.std.proofs.Common.{string_bytes}
use Rattle.plan_states.specs.Lines.{share_text, refusal_words, refusals_line}
use Rattle.plan_states.proofs.Joined.{joined, joined_next}
use Rattle.plan_states.proofs.lines.push_by_refusal.Goals as goal

pub loop-tally-preserved : goal.loop-tally-preserved
loop-tally-preserved c =
    let tally = c.tally-item.result in
    let old = string_bytes c.loop-tally.text in
    let new = string_bytes c.push_shown.new.text in
    joined_next (refusals_line c.args.schedule_count.now) c.args.by_refusal.now c.loop-tally.tally-index tally (string_bytes c.args.text.now) old new
    c.loop-tally-test.true c.tally-item.is c.loop-tally.invariant
    (joined old (refusal_words tally.outcome) (share_text c.args.schedule_count.now tally.count tally.first.items) (string_bytes c.push_str.new.self) new
    (rw c.refusal_words.ensures at c.in_ok-push_str.ensures.bytes) (rw c.deref.ensures.value at c.in_ok-push_shown.ensures))
