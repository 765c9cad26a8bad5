use Rattle.std.proofs.Common.{ℕ, subst}
use Rattle.std.proofs.lemmas.List.{length-map}
use Rattle.realm_model.specs.History.{Noninterference}
use Rattle.realm_model.proofs.LeftOut.{noninterference}
use Rattle.host_ledger.specs.View.{HostView}
use Rattle.host_ledger.specs.declared.build.Build.{Build}
use Rattle.host_ledger.specs.Kept.{HasRoom, AreOfEach, PointsHold}
use Rattle.host_ledger.proofs.Readings.{has_room, points_hold}
use Rattle.host_ledger.proofs.ledger.HostLedger.history.Goals as goal

pub returns-clause-room : goal.returns-clause-room
returns-clause-room c =
    subst (λ (h : HostView). (build : ℕ) → HasRoom h build) c.self.view_is
    (λ build. has_room _ c.self.inside.builds.items c.self.inside.leases c.self.inside.holders c.self.inside.vmids c.self.inside.history c.self.invariant build)

pub returns-clause-no_trace : goal.returns-clause-no_trace
returns-clause-no_trace c =
    subst (λ (h : HostView). (build : ℕ) → Noninterference h.limits h.history build) c.self.view_is
    (λ build. noninterference _ _ build c.self.invariant.legal)

pub returns-clause-points : goal.returns-clause-points
returns-clause-points c =
    subst (λ (h : HostView). (build : ℕ) → PointsHold h build) c.self.view_is
    (λ build.
    points_hold _ c.self.inside.builds.items c.self.inside.leases c.self.inside.holders c.self.inside.vmids c.self.inside.history c.self.invariant build
    (length-map c.self.inside.builds.items (λ (b : Build). b.aborting)) (length-map c.self.inside.builds.items (λ (b : Build). b.mark)))

pub returns-clause-each : goal.returns-clause-each
returns-clause-each c =
    subst AreOfEach c.self.view_is (record {
      aborts = length-map c.self.inside.builds.items (λ (b : Build). b.aborting);
      marks = length-map c.self.inside.builds.items (λ (b : Build). b.mark);
    })
