use Rattle.std.proofs.Common.{string_bytes}
use Rattle.std.proofs.lemmas.Result.{on_ok_weaker}
use Rattle.view_program.specs.Calls.{AppendsCallsOfEvent}
use Rattle.view_program.proofs.EventBuilds.{event_of_build, at_event, has_event, at_no_event}
use Rattle.view_program.proofs.plan_calls.CallsText.push_below.Goals as goal

pub push_recorded-requires : goal.push_recorded-requires
push_recorded-requires c =
    event_of_build c.args.host.now.limits c.args.host.now.history c.history.result.now c.args.before c.in-Some.event.now
    c.history.ensures.legal c.history.ensures.events c.in-Some.ensures.lookup.3.0 c.in-Some.ensures.lookup.1

pub returns-in-Some-clause-event : goal.returns-in-Some-clause-event
returns-in-Some-clause-event c =
    on_ok_weaker c.push_recorded.result (λ appends is_trace.
    at_event
    (λ event. AppendsCallsOfEvent c.args.self.now.frame c.args.self.now.runs c.push_recorded.new.runs c.args.host.now event
    (string_bytes c.args.below.now) (string_bytes c.push_recorded.new.text))
    c.args.host.now.history c.history.result.now c.args.before c.in-Some.event.now c.history.ensures.events
    c.in-Some.ensures.lookup.3.0 c.in-Some.ensures.lookup.1 (appends is_trace))
    c.push_recorded.ensures

pub returns-in-Some-clause-below : goal.returns-in-Some-clause-below
returns-in-Some-clause-below c =
    on_ok_weaker c.push_recorded.result (λ appends few told.
    has_event c.args.host.now.history c.history.result.now c.args.before c.history.ensures.events c.in-Some.ensures.lookup.3.0 few)
    c.push_recorded.ensures

pub returns-in-Some-clause-pages : goal.returns-in-Some-clause-pages
returns-in-Some-clause-pages c = λ few.
    has_event c.args.host.now.history c.history.result.now c.args.before c.history.ensures.events c.in-Some.ensures.lookup.3.0 few

pub returns-in-None-clause-event : goal.returns-in-None-clause-event
returns-in-None-clause-event c =
    on_ok_weaker c.push_if_refused.result (λ same is_trace.
    at_no_event
    (λ event. AppendsCallsOfEvent c.args.self.now.frame c.args.self.now.runs c.args.self.now.runs c.args.host.now event
    (string_bytes c.args.below.now) (string_bytes c.push_if_refused.new.below))
    c.args.host.now.history c.history.result.now c.args.before c.history.ensures.events c.in-None.ensures.lookup.0)
    c.push_if_refused.ensures

pub returns-in-None-clause-below : goal.returns-in-None-clause-below
returns-in-None-clause-below c = on_ok_weaker c.push_if_refused.result (λ same few. same) c.push_if_refused.ensures
