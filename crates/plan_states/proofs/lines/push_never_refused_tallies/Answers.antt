use Rattle.std.proofs.Common.{◌++◌, ◌∙◌, ap, sym, string_bytes}
use Rattle.std.proofs.lemmas.List.{drop_all}
use Rattle.plan_states.specs.Lines.{never_refused_lines}
use Rattle.plan_states.proofs.lines.push_never_refused_tallies.Goals as goal

pub returns : goal.returns
returns c =
    c.in_ok-writeln.ensures.bytes
    ∙ ap (λ tallies. string_bytes c.loop-tally.text ++ never_refused_lines c.args.schedule_count.now tallies c.args.build) (sym (drop_all c.loop-tally.tally-index c.args.never_refused.now c.loop-tally-test.false))
    ∙ c.loop-tally.invariant
