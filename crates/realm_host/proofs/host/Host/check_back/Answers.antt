use Rattle.std.proofs.Common.{◌≤◌, drop, length, sym, ap, ◌∙◌, subst, arith}
use Rattle.std.specs.List.{list_any}
use Rattle.realm_model.specs.History.{IsLegal}
use Rattle.realm_model.specs.Running.{is_running}
use Rattle.realm_model.specs.World.{realm_of}
use Rattle.host_ledger.specs.View.{HostView, world_of, open_of}
use Rattle.realm_host.proofs.Calls.{enough, rolled}
use Rattle.realm_host.proofs.host.Host.check_back.Goals as goal

pub open_above-above-requires-clause-enough : goal.open_above-above-requires-clause-enough
open_above-above-requires-clause-enough g c =
    subst (λ n. n ≤ length (open_of c.self.inside.ledger c.args.build)) (sym c.length.ensures)
    (subst (λ (h : HostView). c.args.mark.length ≤ length (open_of h c.args.build)) (sym c.self.view_is)
    (enough c.args.self.now c.args.build c.args.mark c.if-not-is_kept.ensures.stands))

pub overflow_sub-result : goal.overflow_sub-result
overflow_sub-result g c =
    let low = enough c.args.self.now c.args.build c.args.mark c.if-not-is_kept.ensures.stands in
    let told = c.length-2.ensures in
    let opened = c.open_count.ensures.value ∙ ap (λ (h : HostView). length (open_of h c.args.build)) c.self.view_is in
    omega (arith, low, told, opened)

pub returns-clause-leads_back : goal.returns-clause-leads_back
returns-clause-leads_back g c =
    rolled c.args.self.now c.args.build c.args.mark c.if-not-is_kept.ensures.stands
    (subst (λ (h : HostView). IsLegal h.limits h.history) c.self.view_is c.self.invariant.mirror.legal)
    (ap (λ n. list_any (is_running (realm_of c.args.build (world_of c.args.self.now))) (drop n (open_of c.args.self.now c.args.build))) (sym c.length.ensures)
    ∙ ap (λ (h : HostView). list_any (is_running (realm_of c.args.build (world_of c.args.self.now))) (drop c.length.result (open_of h c.args.build))) (sym c.self.view_is)
    ∙ ap (list_any (is_running (realm_of c.args.build (world_of c.args.self.now)))) (sym c.open_above-above.ensures)
    ∙ sym c.if-is_any_running.ensures)
