use Rattle.std.proofs.Common.{List, ℕ, ◌++◌, map, ap, append_assoc, subst, ◌∙◌}
use Rattle.host_ledger.specs.View.{HostView}
use Rattle.realm_plan.specs.PlanView.{plan_view}
use Rattle.plan_replay.specs.Run.{map_text}
use Rattle.explain.specs.Explained.{report_of, IsExplainedRun}
use Rattle.view_program.specs.Why.{AreTurnTexts, unfinished_lines}
use Rattle.view_program.proofs.plan_reasons.why_text.Goals as goal

pub returns : goal.returns
returns c =
    let last = c.explain_turns.new.host in
    let reports = map report_of c.in_ok-turns.turns.items in
    let lines = c.in_ok-push_turns.ensures in
    let of_turns = lines.appended ∙ ap (λ (t : List ℕ). t ++ lines.lines) c.new-text.ensures.bytes in
    let of_map = c.in_ok-push_map.ensures ∙ ap (λ (t : List ℕ). t ++ map_text last) of_turns in
    record {
      last = last;
      turns = c.in_ok-turns.turns.items;
      run = subst (λ (host : HostView). IsExplainedRun (plan_view c.args.plan.now) host last reports) c.in_ok-host.ensures c.in_ok-turns.ensures;
      lines = lines.lines;
      of_turns = subst (λ them. AreTurnTexts c.args.all them lines.lines) c.as_slice.ensures.value lines.of_turns;
      whole = c.in_ok-push_unfinished.ensures ∙ ap (λ (t : List ℕ). t ++ unfinished_lines last) of_map
          ∙ append_assoc lines.lines (map_text last) (unfinished_lines last);
    }
