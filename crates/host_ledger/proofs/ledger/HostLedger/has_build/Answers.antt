use Rattle.std.proofs.Common.{◌≡◌, ◌≤◌, Bool, true, false, None, [], length, refl, subst, arith}
use Rattle.std.specs.Bool.{OnFalse}
use Rattle.std.specs.Prelude.{nat_lt}
use Rattle.std.proofs.lemmas.Bool.{ltb-false}
use Rattle.std.proofs.lemmas.List.{length-map}
use Rattle.realm_model.specs.World.{realm_of}
use Rattle.realm_model.specs.History.{acts_of}
use Rattle.host_ledger.specs.View.{HostView, world_of, is_aborting, mark_of}
use Rattle.host_ledger.specs.declared.build.Build.{Build}
use Rattle.host_ledger.specs.Kept.{ledger_of}
use Rattle.host_ledger.proofs.Readings.{no_acts, realm_past, no_abort, no_mark}
use Rattle.host_ledger.proofs.ledger.HostLedger.has_build.Goals as goal

on_false : (t : Bool) (P : Type 0) → (t ≡ false → P) → OnFalse t P
on_false true P h = tt
on_false false P h = h refl

pub returns-clause-none : goal.returns-clause-none
returns-clause-none c =
    on_false (nat_lt c.number.result c.len.result) (acts_of c.args.build c.args.self.now.history ≡ []) (λ e.
    let known = ltb-false c.number.result c.len.result e in
    let past : length c.self.inside.builds.items ≤ c.args.build = omega (arith, known, c.len.ensures, c.number.ensures.value) in
    subst (λ (h : HostView). acts_of c.args.build h.history ≡ []) c.self.view_is
    (no_acts _ c.self.inside.builds.items c.self.inside.leases c.self.inside.holders c.self.inside.vmids c.self.inside.history c.self.invariant c.args.build past))

pub returns-clause-no_realm : goal.returns-clause-no_realm
returns-clause-no_realm c =
    on_false (nat_lt c.number.result c.len.result) (realm_of c.args.build (world_of c.args.self.now) ≡ None) (λ e.
    let known = ltb-false c.number.result c.len.result e in
    let past : length c.self.inside.builds.items ≤ c.args.build = omega (arith, known, c.len.ensures, c.number.ensures.value) in
    subst (λ (h : HostView). realm_of c.args.build (world_of h) ≡ None) c.self.view_is
    (realm_past _ c.self.inside.builds.items c.self.inside.leases c.self.inside.holders c.self.inside.vmids c.self.inside.history c.self.invariant c.args.build past))

pub returns-clause-no_abort : goal.returns-clause-no_abort
returns-clause-no_abort c =
    on_false (nat_lt c.number.result c.len.result) (is_aborting c.args.self.now c.args.build ≡ false) (λ e.
    let known = ltb-false c.number.result c.len.result e in
    let past : length c.self.inside.builds.items ≤ c.args.build = omega (arith, known, c.len.ensures, c.number.ensures.value) in
    subst (λ (h : HostView). is_aborting h c.args.build ≡ false) c.self.view_is
    (no_abort (ledger_of c.self.inside.builds.items c.self.inside.leases c.self.inside.vmids c.self.inside.aux c.self.inside.capacity c.self.inside.history.items) c.args.build
    (length-map c.self.inside.builds.items (λ (b : Build). b.aborting)) past))

pub returns-clause-no_mark : goal.returns-clause-no_mark
returns-clause-no_mark c =
    on_false (nat_lt c.number.result c.len.result) (mark_of c.args.self.now c.args.build ≡ None) (λ e.
    let known = ltb-false c.number.result c.len.result e in
    let past : length c.self.inside.builds.items ≤ c.args.build = omega (arith, known, c.len.ensures, c.number.ensures.value) in
    subst (λ (h : HostView). mark_of h c.args.build ≡ None) c.self.view_is
    (no_mark (ledger_of c.self.inside.builds.items c.self.inside.leases c.self.inside.vmids c.self.inside.aux c.self.inside.capacity c.self.inside.history.items) c.args.build
    (length-map c.self.inside.builds.items (λ (b : Build). b.mark)) past))
