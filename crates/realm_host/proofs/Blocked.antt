-- Proofs that the host keeps its invariant when a block of granules is leased or given back.
use Rattle.std.proofs.Common.{◌≡◌, ℕ, ◌<◌, ◌≤◌, true, false, not, Some, None, refl, sym, ap, subst, arith}
use Rattle.std.specs.List.{last_or}
use Rattle.page_arena.specs.Block.{IsFreeBlock}
use Rattle.realm_model.specs.declared.act.Act.TheVariants.{Take, UnTake}
use Rattle.realm_model.specs.Act.{is_paired, is_reverse, reverse_of}
use Rattle.realm_model.specs.Room.{room_taken}
use Rattle.rmi_monitor.specs.View.{MonitorView, IsGivable, with_block, without_block}
use Rattle.rmi_monitor.specs.Mirror.{IsPerformed}
use Rattle.rmi_monitor.specs.Blocks.{IsGivenBack}
use Rattle.rmi_monitor.proofs.BlockSteps.{taken_is_step, given_back_is_step, take_is_forward}
use Rattle.host_ledger.specs.View.{HostView, world_of, open_of, with_event}
use Rattle.host_ledger.specs.Kept.{CanRecord}
use Rattle.realm_host.specs.Host.{IsWhole}
use Rattle.realm_host.specs.Refusals.{no_block}
use Rattle.realm_host.specs.Acting.{HasRoomFor, IsRecorded}
use Rattle.realm_host.proofs.FreeBlocks.{some_block, none_block}
use Rattle.realm_host.proofs.Recorded.{can_record, whole_after, is_recorded}

untake_takes_none : (order first : ℕ) → room_taken (UnTake order first) ≡ 0
unfolding room_taken is_reverse reverse_of
untake_takes_none order first = refl

untake_unpaired : (order first : ℕ) → is_paired (UnTake order first) ≡ false
unfolding reverse_of
untake_unpaired order first = refl

module _ (ledger : HostView) (monitor : MonitorView) (whole : IsWhole ledger monitor) (now : HostView) (view_is : ledger ≡ now) (build order : ℕ) (there_now : build < now.limits.builds) where
  there : build < ledger.limits.builds
  there = subst (λ (h : HostView). build < h.limits.builds) (sym view_is) there_now

  -- ---- it is taken

  pub none_free : ((first : ℕ) → IsFreeBlock monitor.free order first → ⊥) → (no_block now order).0 ≡ true
  none_free none =
      subst (λ (h : HostView). (no_block h order).0 ≡ true) view_is
      (ap not (none_block (world_of ledger) order (λ first free. none first (subst (λ flags. IsFreeBlock flags order first) (sym whole.mirror.free) free))))

  module _ (low : order ≤ 9) (first : ℕ) (room_now : HasRoomFor now build (Take order first)) (free : IsFreeBlock monitor.free order first) (new : MonitorView)
      (new_is : new ≡ with_block monitor order first) where
    pub one_free : (no_block now order).0 ≡ false
    one_free =
        subst (λ (h : HostView). (no_block h order).0 ≡ false) view_is
        (ap not (some_block (world_of ledger) order first low (subst (λ flags. IsFreeBlock flags order first) whole.mirror.free free)))

    taken : IsPerformed ledger.limits ledger.history (world_of ledger) build (Take order first) new
    taken = subst (IsPerformed ledger.limits ledger.history (world_of ledger) build (Take order first)) (sym new_is)
        (taken_is_step ledger.limits ledger.history (world_of ledger) monitor build order first whole.mirror there low free)

    pub can_take : CanRecord ledger build (Take order first)
    can_take = can_record ledger monitor whole now view_is build (Take order first) new taken (take_is_forward ledger.history build order first)
        (subst (λ (h : HostView). HasRoomFor h build (Take order first)) (sym view_is) room_now)

    module _ (new_ledger : HostView) (recorded : new_ledger ≡ with_event ledger build (Take order first)) where
      pub whole_taken : IsWhole new_ledger new
      whole_taken = whole_after ledger monitor whole now view_is build (Take order first) new taken new_ledger recorded

      pub take_recorded : IsRecorded now build (Take order first) new_ledger
      take_recorded = is_recorded ledger monitor whole now view_is build (Take order first) new taken new_ledger recorded

  -- ---- it is given back

  module _ (first : ℕ) (newest : last_or None (open_of now build) ≡ Some (Take order first)) where
    given : IsGivenBack ledger.limits ledger.history (world_of ledger) monitor build order first
    given = given_back_is_step ledger.limits ledger.history (world_of ledger) monitor build order first whole.mirror
        (subst (λ (h : HostView). last_or None (open_of h build) ≡ Some (Take order first)) (sym view_is) newest)

    pub givable : IsGivable monitor order first
    givable = given.givable

    module _ (new : MonitorView) (new_is : new ≡ without_block monitor order first) where
      back : IsPerformed ledger.limits ledger.history (world_of ledger) build (UnTake order first) new
      back = subst (IsPerformed ledger.limits ledger.history (world_of ledger) build (UnTake order first)) (sym new_is) given.performed

      pub can_give : CanRecord ledger build (UnTake order first)
      can_give = can_record ledger monitor whole now view_is build (UnTake order first) new back given.turn (record {
        room = λ some. let none = untake_takes_none order first in absurd (omega (arith, some, none));
        few_open = λ paired. absurd (let unpaired = untake_unpaired order first in cc);
      })

      module _ (new_ledger : HostView) (recorded : new_ledger ≡ with_event ledger build (UnTake order first)) where
        pub whole_given : IsWhole new_ledger new
        whole_given = whole_after ledger monitor whole now view_is build (UnTake order first) new back new_ledger recorded

        pub give_recorded : IsRecorded now build (UnTake order first) new_ledger
        give_recorded = is_recorded ledger monitor whole now view_is build (UnTake order first) new back new_ledger recorded
