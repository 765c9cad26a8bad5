-- The conditions that a build has the same events on two hosts, and that a call needs no block and no VMID.
use Rattle.std.specs.Prelude.{◌≡◌, ℕ}
use Rattle.realm_model.specs.History.{events_of, IsLegal}
use Rattle.host_commands.specs.declared.cmd.Cmd.TheVariants.{Take, Realm}
use Rattle.host_ledger.specs.View.{HostView, is_aborting}
use Rattle.realm_host.specs.Call.{Call, Ask}

-- Both hosts have legal histories, the same limits and capacity, and the same events of the build. The build is in
-- abort on both or on neither.
pub record DidTheSameAlone (build : ℕ) (host twin : HostView) : Type 0 where
  pub legal : IsLegal host.limits host.history
  pub twin_legal : IsLegal twin.limits twin.history
  pub limits : twin.limits ≡ host.limits
  pub capacity : twin.capacity ≡ host.capacity
  pub events : events_of build host.history ≡ events_of build twin.history
  pub aborting : is_aborting twin build ≡ is_aborting host build

-- The call needs nothing that builds share: no block, and no VMID.
abbrev pub NeedsNothingShared : Call → Type 0
NeedsNothingShared (Ask (Take order)) = ⊥
NeedsNothingShared (Ask (Realm rd root width)) = ⊥
NeedsNothingShared _ = Unit {0}
