-- The proof that the model accepts each command that the RMM performs for a build, and refuses each command that the
-- RMM refuses. The command has to meet `IsAsked` and `IsInTurn`.
use Rattle.std.proofs.Common.{◌≡◌, ℕ, true, List, map, Option, Some, None, Ok, Err, refl, sym, ap, ◌∙◌, subst}
use Rattle.std.specs.Prelude.{option_map, slice_get}
use Rattle.std.specs.List.{All}
use Rattle.realm_model.specs.declared.act.Act.{Act}
use Rattle.realm_model.specs.declared.act.Act.TheVariants.{Take, UnTake}
use Rattle.realm_model.specs.declared.act.Event.{Event}
use Rattle.realm_model.specs.declared.rmi.Rmi.{Rmi}
use Rattle.realm_model.specs.Machine.{Limits, Machine, Seen, seen}
use Rattle.realm_model.specs.Update.{Outcome, Update, machine_after_all}
use Rattle.realm_model.specs.Act.{is_command, named, holder}
use Rattle.realm_model.specs.Outcome.{outcome_of}
use Rattle.realm_model.specs.World.{World, realm_of}
use Rattle.realm_model.specs.Step.{step, used_vmids, outcome_in}
use Rattle.realm_model.specs.StepLaw.{IsStep, leases_after}
use Rattle.realm_model.specs.History.{IsInTurn}
use Rattle.realm_model.specs.Undoing.{by}
use Rattle.realm_model.proofs.Growth.{grows}
use Rattle.realm_model.proofs.Reaching.{step_says_reached}
use Rattle.realm_model.proofs.RealmOf.{IsAt, IsAt-realm_of}
use Rattle.rmi_monitor.specs.View.{MonitorView, Answers, after_command}
use Rattle.realm_model.specs.declared.act.RealmAndRec.{RealmAndRec}
use Rattle.rmi_monitor.specs.Performing.{realm_on, outcome_on}
use Rattle.rmi_monitor.specs.Mirror.{IsMirror, IsAsked, IsPerformed, PerformedIsStep}
use Rattle.realm_model.specs.Places.{IsPlaceOf, rd_of}

-- ---- an operation that is a command

pub holder_is : (build : ℕ) (act : Act) → is_command act ≡ true → holder build act ≡ Some build
holder_is build (Take order first) command = cc
holder_is build (UnTake order first) command = refl
holder_is build _ command = refl

leases_stay : (build : ℕ) (act : Act) (leases : List (Option ℕ)) → is_command act ≡ true → leases_after build act leases ≡ leases
leases_stay build (Take order first) leases command = cc
leases_stay build (UnTake order first) leases command = cc
leases_stay build _ leases command = refl

-- ---- the outcome in the RMM is that in the world

rd_seen : (machine : Machine) (realm : Option Seen) → IsAt machine realm → option_map (seen machine) (option_map (λ (rd : Seen). rd.number) realm) ≡ realm
rd_seen machine None there = refl
rd_seen machine (Some rd) there = λ i. Some (record { number = rd.number; cell = there i })

module _ (limits : Limits) (history : List Event) (world : World) (monitor : MonitorView) (mirror : IsMirror limits history world monitor) (build : ℕ) where
  -- commands see a build's realm in the RMM as it is in the world
  pub realm_seen : realm_on monitor (rd_of build world) ≡ realm_of build world
  realm_seen =
      ap (λ (m : Machine). option_map (seen m) (rd_of build world)) mirror.machine
      ∙ rd_seen world.machine (realm_of build world) (IsAt-realm_of build world)

  module _ (act : Act) (place : RealmAndRec) (at : IsPlaceOf world build act place) where
    abbrev gs : Machine → List Seen
    gs machine = map (seen machine) (named act)

    pub same_outcome : outcome_on monitor place.realm act ≡ outcome_in limits world (by build act)
    same_outcome =
        ap (λ o. outcome_of monitor.vmids monitor.aux (used_vmids monitor.machine) act o (gs monitor.machine)) (ap (realm_on monitor) at.realm ∙ realm_seen)
        ∙ (λ i. outcome_of (mirror.vmids i) (mirror.aux i) (used_vmids (mirror.machine i)) act (realm_of build world) (gs (mirror.machine i)))

    -- ---- the command is done

    module _ (asked : IsAsked limits world build act) (turn : IsInTurn history (by build act)) (updates : List Update)
        (done : outcome_on monitor place.realm act ≡ Ok updates) (new : MonitorView) (new_is : new ≡ after_command (outcome_on monitor place.realm act) monitor) where
      abbrev next : World
      next = record { machine = new.machine; leases = world.leases }

      after : new ≡ record monitor { machine = machine_after_all updates monitor.machine }
      after = new_is ∙ ap (λ o. after_command o monitor) done

      is : IsStep limits world (by build act) next
      is = record {
        build = asked.there;
        granules = subst (λ o. All (λ granule. slice_get world.leases granule ≡ Some o) (named act)) (sym (holder_is build act asked.command)) asked.granules;
        in_range = asked.in_range;
        fitting = asked.fitting;
        updates = updates;
        outcome = sym same_outcome ∙ done;
        machine = ap (λ (m : MonitorView). m.machine) after ∙ ap (machine_after_all updates) mirror.machine;
        leases = sym (leases_stay build act world.leases asked.command);
      }

      stepped : step limits world (by build act) ≡ Some next
      stepped = (step_says_reached limits history world (by build act) mirror.world_is next).1 is

      performed_ok : IsPerformed limits history world build act new
      performed_ok =
          let grown = grows limits history (by build act) world next mirror.legal mirror.world_is stepped turn in
          record {
            next = next;
            stepped = stepped;
            leases = is.leases;
            mirror = record {
              legal = grown.legal;
              world_is = grown.world_is;
              vmids = ap (λ (m : MonitorView). m.vmids) new_is ∙ mirror.vmids;
              aux = ap (λ (m : MonitorView). m.aux) new_is ∙ mirror.aux;
              machine = refl;
              free = ap (λ (m : MonitorView). m.free) new_is ∙ mirror.free;
            };
          }

-- ---- whatever the RMM answers

refused_with : (rmi : Rmi) (outcome : Outcome) → Answers {A = Unit {0}} (Err rmi) outcome → outcome ≡ Err rmi
refused_with rmi (Ok updates) h = absurd h
refused_with rmi (Err other) h = ap Err (sym h)

done_with : (outcome : Outcome) → Answers {A = Unit {0}} (Ok tt) outcome → (updates : List Update) × (outcome ≡ Ok updates)
done_with (Ok updates) h = (updates, refl)
done_with (Err rmi) h = absurd h

pub performed_is_step : (limits : Limits) (history : List Event) (world : World) (monitor : MonitorView) (build : ℕ) (act : Act) (place : RealmAndRec)
    → PerformedIsStep limits history world monitor build act place
performed_is_step limits history world monitor build act place mirror at asked turn (Ok done) new answer new_is =
    let told = done_with (outcome_on monitor place.realm act) answer in
    performed_ok limits history world monitor mirror build act place at asked turn told.0 told.1 new new_is
performed_is_step limits history world monitor build act place mirror at asked turn (Err rmi) new answer new_is =
    let told = refused_with rmi (outcome_on monitor place.realm act) answer in
    (sym (same_outcome limits history world monitor mirror build act place at) ∙ told, new_is ∙ ap (λ o. after_command o monitor) told)
