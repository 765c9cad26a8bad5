-- Proofs that the host's test for an operation that created a running REC agrees with the definition `is_running`.
use Rattle.std.proofs.Common.{◌≡◌, ℕ, ◌<◌, length, Option, Some, None, sym, ap, ◌∙◌}
use Rattle.arrayvec.specs.declared.array_vec.ArrayVec.{ArrayVec}
use Rattle.realm_model.specs.declared.act.Act.{Act}
use Rattle.realm_model.specs.declared.act.Act.TheVariants.{Rec}
use Rattle.realm_model.specs.Machine.{Machine}
use Rattle.realm_model.specs.Running.{is_running}
use Rattle.realm_model.specs.World.{realm_of}
use Rattle.rmi_monitor.specs.Attributes.{RecAttributes}
use Rattle.rmi_monitor.specs.View.{MonitorView}
use Rattle.rmi_monitor.specs.Named.{rec_attributes_at}
use Rattle.realm_model.specs.Places.{rec_granule}
use Rattle.rmi_monitor.proofs.Ready.{rec_ready}
use Rattle.host_ledger.specs.View.{HostView, world_of}
use Rattle.realm_host.specs.Host.{IsWhole}
use Rattle.realm_host.proofs.RecRuns.{state_runs, is_there, runs_is}

module _ (ledger : HostView) (monitor : MonitorView) (whole : IsWhole ledger monitor) (now : HostView) (view_is : ledger ≡ now) (build number : ℕ) where
  pub inside_rec : (granule : ℕ) → Some granule ≡ rec_granule (realm_of build (world_of ledger)) number → granule < length monitor.machine
  inside_rec granule granule_is =
      (rec_ready ledger.limits ledger.history (world_of ledger) monitor whole.mirror build (Some number) (Some granule) granule_is).taken.inside

  pub told_there : (granule : ℕ) → Some granule ≡ rec_granule (realm_of build (world_of ledger)) number
      → (told : Option RecAttributes) → told ≡ rec_attributes_at monitor.machine granule → told ≡ None → ⊥
  told_there granule granule_is told told_is none =
      is_there ledger.limits ledger.history (world_of ledger) whole.mirror.world_is build granule number (sym granule_is)
      (sym (told_is ∙ ap (λ (m : Machine). rec_attributes_at m granule) whole.mirror.machine) ∙ none)

  module _ (granule_of_act : ℕ) (aux : ArrayVec ℕ 16 (Unit {0})) (act : Act) (is : act ≡ Rec granule_of_act aux number) where
    pub runs_told : (granule : ℕ) → Some granule ≡ rec_granule (realm_of build (world_of ledger)) number
        → (told : Option RecAttributes) → told ≡ rec_attributes_at monitor.machine granule → state_runs told ≡ is_running (realm_of build (world_of now)) act
    runs_told granule granule_is told told_is =
        ap state_runs (told_is ∙ ap (λ (m : Machine). rec_attributes_at m granule) whole.mirror.machine)
        ∙ runs_is ledger.limits ledger.history (world_of ledger) whole.mirror.world_is build granule number (sym granule_is) aux
        ∙ ap (λ (h : HostView). is_running (realm_of build (world_of h)) (Rec granule_of_act aux number)) view_is
        ∙ ap (is_running (realm_of build (world_of now))) (sym is)
