use Rattle.std.proofs.Common.{◌≡◌, ℕ, List, Option, Some, None, false, sym, ap, ◌∙◌}
use Rattle.std.specs.List.{last_or}
use Rattle.realm_model.specs.Running.{is_running}
use Rattle.realm_model.specs.World.{realm_of}
use Rattle.realm_model.specs.declared.act.Act.{Act}
use Rattle.host_ledger.specs.View.{HostView, world_of, open_of}
use Rattle.host_ledger.proofs.Readings.{none_open}
use Rattle.realm_host.specs.Refusals.{is_newest_running}
use Rattle.realm_host.proofs.host.Host.is_newest_running.Goals as goal

-- `is_newest_running` is `is_running` of the newest open operation, or false if nothing is open
runs_newest : (host : HostView) (build : ℕ) (newest : Option Act) → last_or None (open_of host build) ≡ newest
    → is_newest_running host build ≡ elim newest [ Some act ↦ is_running (realm_of build (world_of host)) act | None ↦ false ]
runs_newest host build newest is = ap (λ (o : Option Act). elim o [ Some act ↦ is_running (realm_of build (world_of host)) act | None ↦ false ]) is

pub returns-then-not-has_build : goal.returns-then-not-has_build
returns-then-not-has_build g c =
    let none = sym (none_open c.args.build c.self.inside.ledger.history c.if-not-has_build.ensures.none) ∙ ap (λ (h : HostView). open_of h c.args.build) c.self.view_is in
    sym (runs_newest c.args.self.now c.args.build None (ap (λ (acts : List Act). last_or None acts) (sym none)))

pub returns-in-Some : goal.returns-in-Some
returns-in-Some g c =
    c.is_running.ensures
    ∙ sym (runs_newest c.args.self.now c.args.build (Some c.in-Some.newest.now) (sym (c.in-Some.ensures.value ∙ ap (λ (h : HostView). last_or None (open_of h c.args.build)) c.self.view_is)))

pub returns-in-None : goal.returns-in-None
returns-in-None g c =
    sym (runs_newest c.args.self.now c.args.build None (sym (c.in-None.ensures.value ∙ ap (λ (h : HostView). last_or None (open_of h c.args.build)) c.self.view_is)))
