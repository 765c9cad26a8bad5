-- Proofs that the reverse of a build's newest open operation is performed and not refused, unless that operation
-- created a running REC.
use Rattle.std.proofs.Common.{◌≡◌, ℕ, true, false, Some, None, Ok, Err, refl, sym, ap, ◌∙◌, subst, arith}
use Rattle.std.specs.Prelude.{option_and_then, slice_get}
use Rattle.std.specs.List.{All, last_or}
use Rattle.std.proofs.lemmas.Option.{same_Some}
use Rattle.realm_model.specs.declared.act.Act.{Act}
use Rattle.realm_model.specs.declared.act.Act.TheVariants.{Take, UnTake, Delegate, Realm, Rtt, Data, Unknown, Rec}
use Rattle.realm_model.specs.declared.rmi.Rmi.{Rmi}
use Rattle.realm_model.specs.Act.{is_command, named, is_paired, is_reverse, reverse_of}
use Rattle.realm_model.specs.History.{IsLegal, IsInTurn}
use Rattle.realm_model.specs.Room.{room_taken}
use Rattle.realm_model.specs.Step.{step, outcome_in}
use Rattle.realm_model.specs.StepLaw.{IsStep}
use Rattle.realm_model.specs.Undoing.{by}
use Rattle.realm_model.specs.World.{World}
use Rattle.realm_model.proofs.Progress.{undoable}
use Rattle.realm_model.proofs.StepSays.{step_is}
use Rattle.rmi_monitor.proofs.Forward.{holder_is}
use Rattle.host_ledger.specs.View.{HostView, world_of, open_of}
use Rattle.host_ledger.proofs.Worlds.{world_is}
use Rattle.realm_host.specs.Acting.{HasRoomFor, CanAct, IsBack}

-- the operation is a reverse, has no reverse itself, and takes no room in the history
pub record IsReverse (back : Act) : Type 0 where
  pub unpaired : is_paired back ≡ false
  pub reverse : is_reverse back ≡ true
  pub takes_none : room_taken back ≡ 0

pub reverse_is : (act back : Act) → reverse_of act ≡ Some back → IsReverse back
unfolding reverse_of is_reverse room_taken
reverse_is (Take order first) back e = subst IsReverse (same_Some _ _ e) (record { unpaired = refl; reverse = refl; takes_none = refl })
reverse_is (Delegate granule) back e = subst IsReverse (same_Some _ _ e) (record { unpaired = refl; reverse = refl; takes_none = refl })
reverse_is (Realm rd root vmid) back e = subst IsReverse (same_Some _ _ e) (record { unpaired = refl; reverse = refl; takes_none = refl })
reverse_is (Rtt granule ipa level) back e = subst IsReverse (same_Some _ _ e) (record { unpaired = refl; reverse = refl; takes_none = refl })
reverse_is (Data granule ipa source) back e = subst IsReverse (same_Some _ _ e) (record { unpaired = refl; reverse = refl; takes_none = refl })
reverse_is (Unknown granule ipa) back e = subst IsReverse (same_Some _ _ e) (record { unpaired = refl; reverse = refl; takes_none = refl })
reverse_is (Rec granule auxiliaries number) back e = subst IsReverse (same_Some _ _ e) (record { unpaired = refl; reverse = refl; takes_none = refl })
reverse_is _ back e = cc

-- if the reverse of an operation gives a block back, the operation is the Take of that block
pub of_take : (act : Act) (order first : ℕ) → reverse_of act ≡ Some (UnTake order first) → act ≡ Take order first
unfolding reverse_of
of_take (Take o f) order first e = let same : UnTake o f ≡ UnTake order first = same_Some _ _ e in cc
of_take (Delegate granule) order first e = let same = same_Some _ _ e in cc
of_take (Realm rd root vmid) order first e = let same = same_Some _ _ e in cc
of_take (Rtt granule ipa level) order first e = let same = same_Some _ _ e in cc
of_take (Data granule ipa source) order first e = let same = same_Some _ _ e in cc
of_take (Unknown granule ipa) order first e = let same = same_Some _ _ e in cc
of_take (Rec granule auxiliaries number) order first e = let same = same_Some _ _ e in cc
of_take _ order first e = cc

module _ (host : HostView) (legal : IsLegal host.limits host.history) (build : ℕ) (back : Act) (is : IsBack host build back) where
  abbrev world : World
  world = world_of host

  pub turn : IsInTurn host.history (by build back)
  turn = λ reverse. ap (option_and_then reverse_of) is.newest_is ∙ is.back_is

  pub room : HasRoomFor host build back
  room = record {
    room = λ some. let none = (reverse_is is.newest back is.back_is).takes_none in absurd (omega (arith, some, none));
    few_open = λ paired. absurd (let unpaired = (reverse_is is.newest back is.back_is).unpaired in cc);
  }

  pub done : (next : World) × (step host.limits world (by build back) ≡ Some next)
  done =
      let undone = undoable host.limits build host.history world is.newest back legal (world_is host legal) is.newest_is is.back_is is.rests in
      (undone.world, undone.stepped)

  stepped : IsStep host.limits world (by build back) done.0
  stepped = step_is host.limits world done.0 (by build back) done.1

  pub can_act : is_command back ≡ true → CanAct host build back
  can_act command = record {
    asked = record {
      command = command;
      there = stepped.build;
      granules = subst (λ o. All (λ granule. slice_get world.leases granule ≡ Some o) (named back)) (holder_is build back command) stepped.granules;
      in_range = stepped.in_range;
      fitting = stepped.fitting;
    };
    turn = turn;
    room = room;
  }

  -- the outcome of the reverse is no error
  pub never_refused : (rmi : Rmi) → outcome_in host.limits world (by build back) ≡ Err rmi → ⊥
  never_refused rmi e = let done : Ok stepped.updates ≡ Err rmi = sym stepped.outcome ∙ e in cc

pub newest_take : (host : HostView) (build : ℕ) (back : Act) → IsBack host build back → (order first : ℕ) → back ≡ UnTake order first → last_or None (open_of host build) ≡ Some (Take order first)
newest_take host build back is order first same = is.newest_is ∙ ap (λ (a : Act). Some a) (of_take is.newest order first (is.back_is ∙ ap (λ (a : Act). Some a) same))

reverse_command : (act back : Act) → reverse_of act ≡ Some back → ((order first : ℕ) → back ≡ UnTake order first → ⊥) → is_command back ≡ true
unfolding reverse_of
reverse_command (Take order first) back e other = absurd (other order first (sym (same_Some _ _ e)))
reverse_command (Delegate granule) back e other = ap is_command (sym (same_Some _ _ e))
reverse_command (Realm rd root vmid) back e other = ap is_command (sym (same_Some _ _ e))
reverse_command (Rtt granule ipa level) back e other = ap is_command (sym (same_Some _ _ e))
reverse_command (Data granule ipa source) back e other = ap is_command (sym (same_Some _ _ e))
reverse_command (Unknown granule ipa) back e other = ap is_command (sym (same_Some _ _ e))
reverse_command (Rec granule auxiliaries number) back e other = ap is_command (sym (same_Some _ _ e))
reverse_command _ back e other = cc

pub command_back : (back : Act) (host : HostView) (build : ℕ) → IsBack host build back → ((order first : ℕ) → back ≡ UnTake order first → ⊥) → is_command back ≡ true
command_back back host build is other = reverse_command is.newest back is.back_is other
