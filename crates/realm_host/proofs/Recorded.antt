-- Proofs that a host keeps its invariant after an operation is performed and recorded.
use Rattle.std.proofs.Common.{◌≡◌, ℕ, [], ◌∷◌, ◌++◌, sym, ap, ◌∙◌, subst}
use Rattle.realm_model.specs.declared.act.Act.{Act}
use Rattle.realm_model.specs.World.{World}
use Rattle.realm_model.specs.History.{IsLegal, IsInTurn}
use Rattle.realm_model.specs.Undoing.{by}
use Rattle.rmi_monitor.specs.View.{MonitorView}
use Rattle.rmi_monitor.specs.Mirror.{IsMirror, IsPerformed}
use Rattle.host_ledger.specs.View.{HostView, world_of, with_event}
use Rattle.host_ledger.specs.Kept.{CanRecord}
use Rattle.host_ledger.proofs.Worlds.{world_of-replay}
use Rattle.realm_host.specs.Host.{IsWhole}
use Rattle.realm_host.specs.Acting.{HasRoomFor, IsRecorded}

module _ (ledger : HostView) (monitor : MonitorView) (whole : IsWhole ledger monitor) (now : HostView) (view_is : ledger ≡ now) (build : ℕ) (act : Act) (new : MonitorView)
    (performed : IsPerformed ledger.limits ledger.history (world_of ledger) build act new) where
  pub can_record : IsInTurn ledger.history (by build act) → HasRoomFor ledger build act → CanRecord ledger build act
  can_record turn room = record { turn = turn; next = performed.next; stepped = performed.stepped; room = room.room; few_open = room.few_open }

  world_after : world_of (with_event ledger build act) ≡ performed.next
  world_after = world_of-replay (with_event ledger build act) performed.next performed.mirror.world_is

  module _ (new_ledger : HostView) (recorded : new_ledger ≡ with_event ledger build act) where
    pub whole_after : IsWhole new_ledger new
    whole_after = subst (λ (h : HostView). IsWhole h new) (sym recorded) (record {
      mirror = subst (λ (w : World). IsMirror ledger.limits (ledger.history ++ by build act ∷ []) w new) (sym world_after) performed.mirror;
      in_range = whole.in_range;
    })

    pub is_recorded : IsRecorded now build act new_ledger
    is_recorded = record {
      legal = subst (λ (h : HostView). IsLegal h.limits (h.history ++ by build act ∷ [])) view_is performed.mirror.legal;
      grows = recorded ∙ ap (λ (h : HostView). with_event h build act) view_is;
    }
