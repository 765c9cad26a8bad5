-- Proofs that an operation asked of the RMM is performed and recorded, or is refused and changes nothing.
use Rattle.std.proofs.Common.{◌≡◌, ℕ, ◌<◌, Ok, Err, refl, sym, subst, arith}
use Rattle.realm_model.specs.declared.act.Act.{Act}
use Rattle.realm_model.specs.declared.act.Act.TheVariants.{Rec}
use Rattle.realm_model.specs.declared.rmi.Rmi.{Rmi}
use Rattle.realm_model.specs.Act.{reverse_of}
use Rattle.realm_model.specs.Room.{room_taken}
use Rattle.realm_model.specs.Step.{outcome_in}
use Rattle.realm_model.specs.Undoing.{by}
use Rattle.rmi_monitor.specs.View.{MonitorView, Answers, after_command}
use Rattle.realm_model.specs.declared.act.RealmAndRec.{RealmAndRec}
use Rattle.rmi_monitor.specs.Performing.{IsReady, outcome_on}
use Rattle.rmi_monitor.specs.Mirror.{IsPerformed, HasFewEvents}
use Rattle.realm_model.specs.Places.{IsPlaceOf}
use Rattle.rmi_monitor.proofs.Ready.{asked_is_ready}
use Rattle.rmi_monitor.proofs.Forward.{performed_is_step}
use Rattle.host_ledger.specs.View.{HostView, world_of}
use Rattle.host_ledger.specs.Kept.{CanRecord}
use Rattle.realm_host.specs.Host.{IsWhole}
use Rattle.realm_host.specs.Acting.{HasRoomFor, CanAct, IsRecorded}
use Rattle.realm_host.proofs.Recorded.{can_record, whole_after, is_recorded}

rec_room : (granule : ℕ) (aux : _) (number : ℕ) → room_taken (Rec granule aux number) ≡ 2
unfolding room_taken reverse_of
rec_room granule aux number = refl

module _ (ledger : HostView) (monitor : MonitorView) (whole : IsWhole ledger monitor) (now : HostView) (view_is : ledger ≡ now) (build : ℕ) (act : Act) (can_now : CanAct now build act) where
  can : CanAct ledger build act
  can = subst (λ (h : HostView). CanAct h build act) (sym view_is) can_now

  pub there : build < ledger.limits.builds
  there = can.asked.there

  few : (a : Act) → HasRoomFor ledger build a → HasFewEvents ledger.history build a
  few (Rec granule aux number) room =
      let two = rec_room granule aux number in
      let fits = room.room (omega (arith, two)) in
      let small = whole.in_range.settings.short_history in
      omega (arith, two, fits, small)
  few _ room = tt

  module _ (place : RealmAndRec) (at : IsPlaceOf (world_of ledger) build act place) where
    pub ready : IsReady monitor place act
    ready = asked_is_ready ledger.limits ledger.history (world_of ledger) monitor build act place whole.mirror at can.asked (few act can.room)

    module _ (new : MonitorView) (new_is : new ≡ after_command (outcome_on monitor place.realm act) monitor) where
      module _ (rmi : Rmi) (answer : Answers {A = Unit {0}} (Err rmi) (outcome_on monitor place.realm act)) where
        refused : (outcome_in ledger.limits (world_of ledger) (by build act) ≡ Err rmi) × (new ≡ monitor)
        refused = performed_is_step ledger.limits ledger.history (world_of ledger) monitor build act place whole.mirror at can.asked can.turn (Err rmi) new answer new_is

        pub outcome_is : outcome_in now.limits (world_of now) (by build act) ≡ Err rmi
        outcome_is = subst (λ (h : HostView). outcome_in h.limits (world_of h) (by build act) ≡ Err rmi) view_is refused.0

        pub whole_refused : IsWhole ledger new
        whole_refused = subst (IsWhole ledger) (sym refused.1) whole

      module _ (answer : Answers {A = Unit {0}} (Ok tt) (outcome_on monitor place.realm act)) where
        performed : IsPerformed ledger.limits ledger.history (world_of ledger) build act new
        performed = performed_is_step ledger.limits ledger.history (world_of ledger) monitor build act place whole.mirror at can.asked can.turn (Ok tt) new answer new_is

        pub can_be_recorded : CanRecord ledger build act
        can_be_recorded = can_record ledger monitor whole now view_is build act new performed can.turn can.room

        module _ (new_ledger : HostView) (recorded : new_ledger ≡ Rattle.host_ledger.specs.View.with_event ledger build act) where
          pub whole_done : IsWhole new_ledger new
          whole_done = whole_after ledger monitor whole now view_is build act new performed new_ledger recorded

          pub act_recorded : IsRecorded now build act new_ledger
          act_recorded = is_recorded ledger monitor whole now view_is build act new performed new_ledger recorded
