use Rattle.std.proofs.Common.{ap, sym, ◌∙◌, None}
use Rattle.std.specs.Prelude.{nat_lt}
use Rattle.std.specs.List.{last_or}
use Rattle.host_ledger.specs.View.{HostView, open_of}
use Rattle.realm_host.proofs.There.{build_there}
use Rattle.history_calls.proofs.Asked.{back_no_build, back_nothing, back_running, back_passed}
use Rattle.history_calls.proofs.prepared.actions_back.Goals as goal

pub returns-then-not-has_build : goal.returns-then-not-has_build
returns-then-not-has_build g c =
    back_no_build c.args.frame c.args.host.now c.args.build (c.if-not-has_build.ensures.there ∙ ap (λ (h : HostView). nat_lt c.args.build h.limits.builds) c.ledger-ledger.ensures)

pub returns-in_default : goal.returns-in_default
returns-in_default g c =
    back_nothing c.args.frame c.args.host.now c.args.build (build_there c.ledger-ledger.result.now c.args.host.now c.args.build c.ledger-ledger.ensures c.if-not-has_build.ensures.there)
    (c.in_default.ensures.value ∙ ap (λ (h : HostView). last_or None (open_of h c.args.build)) c.ledger-ledger.ensures)

pub returns-then-is_newest_running : goal.returns-then-is_newest_running
returns-then-is_newest_running g c =
    back_running c.args.frame c.args.host.now c.args.build (build_there c.ledger-ledger.result.now c.args.host.now c.args.build c.ledger-ledger.ensures c.if-not-has_build.ensures.there)
    c.in-Some.newest.now (sym (c.in-Some.ensures.value ∙ ap (λ (h : HostView). last_or None (open_of h c.args.build)) c.ledger-ledger.ensures)) c.if-is_newest_running.ensures

pub returns : goal.returns
returns g c =
    back_passed c.args.frame c.args.host.now c.args.build (build_there c.ledger-ledger.result.now c.args.host.now c.args.build c.ledger-ledger.ensures c.if-not-has_build.ensures.there)
    c.in-Some.newest.now (sym (c.in-Some.ensures.value ∙ ap (λ (h : HostView). last_or None (open_of h c.args.build)) c.ledger-ledger.ensures))
    c.actions_of_newest.result c.if-is_newest_running.ensures c.actions_of_newest.ensures
