use Rattle.std.proofs.Common.{◌+◌, length, refl, ap, ◌∙◌, subst}
use Rattle.std.proofs.lemmas.Bool.{false≢true}
use Rattle.host_ledger.specs.View.{HostView}
use Rattle.realm_host.specs.Recorded.{IsWhyNot}
use Rattle.view_program.proofs.history_lines.take_line.Goals as goal

pub returns-then-apply_recorded-clause-ok : goal.returns-then-apply_recorded-clause-ok
returns-then-apply_recorded-clause-ok g c = record {
  event = c.in-Some.event;
  is_text = c.in-Some.ensures.found;
  can = c.if-apply_recorded.ensures.answer.0 refl;
  grows = c.if-apply_recorded.ensures.applied;
}

pub returns-else-apply_recorded-clause-err : goal.returns-else-apply_recorded-clause-err
returns-else-apply_recorded-clause-err g c = (
  c.next_number-else-apply_recorded.ensures ∙ ap (λ (host : HostView). length host.history + 2) c.if-apply_recorded.ensures.unchanged,
  record {
    event = c.in-Some.event;
    is_text = c.in-Some.ensures.found;
    cannot = λ can. false≢true (c.if-apply_recorded.ensures.answer.1 can);
    because = subst (λ (host : HostView). IsWhyNot host c.in-Some.event c.why_not-why.result) c.if-apply_recorded.ensures.unchanged c.why_not-why.ensures;
  },
)
