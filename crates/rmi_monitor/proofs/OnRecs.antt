-- Proofs that an operation on a REC has the model's outcome, whether or not the REC exists.
use Rattle.std.proofs.Common.{◌≡◌, ℕ, true, Option, Some, None, Err, refl, sym, subst}
use Rattle.std.specs.Prelude.{Result, is_some, option_map, option_and_then}
use Rattle.std.specs.FinMap.{get}
use Rattle.std.proofs.lemmas.Option.{same_Some}
use Rattle.realm_model.specs.declared.rmi.Rmi.{Rmi}
use Rattle.realm_model.specs.declared.act.Act.{Act}
use Rattle.realm_model.specs.declared.act.Act.TheVariants.{UnRec, Enter, Exit, Poke}
use Rattle.realm_model.specs.Machine.{RealmRow, RecRow, Seen, cell_at}
use Rattle.realm_model.specs.Update.{Outcome}
use Rattle.realm_model.specs.Outcome.{outcome_of}
use Rattle.realm_model.specs.Command.Check.{error_input, with_realm, with_rec}
use Rattle.realm_model.specs.Command.Rec.{rec_enter, rec_exit, rec_destroy, guest_write}
use Rattle.rmi_monitor.specs.View.{MonitorView, IsRec, IsOnRec, seen_in}
use Rattle.rmi_monitor.specs.Performing.{IsDone, outcome_on, realm_on, IsRecReadyAt}
use Rattle.realm_model.specs.Places.{rec_named, rec_granule}

-- ---- there is no such REC

no_rec_of : (rec : Option RecRow) (f : RecRow → Outcome) → None ≡ option_map (λ (r : RecRow). r.granule) rec
    → ◌≡◌ {A = Outcome} (elim rec [ Some r ↦ f r | None ↦ Err error_input ]) (Err error_input)
no_rec_of None f none = refl
no_rec_of (Some r) f none = cc

no_rec_there : (o : Option RealmRow) (number : ℕ) (f : RealmRow → RecRow → Outcome)
    → None ≡ option_map (λ (r : RecRow). r.granule) (option_and_then (λ (realm : RealmRow). get realm.recs number) o)
    → ◌≡◌ {A = Outcome} (elim o [ Some realm ↦ with_rec realm number (f realm) | None ↦ Err error_input ]) (Err error_input)
unfolding with_rec
no_rec_there None number f none = refl
no_rec_there (Some realm) number f none = no_rec_of (get realm.recs number) (f realm) none

no_rec : (monitor : MonitorView) (rd number : ℕ) (f : RealmRow → RecRow → Outcome) → None ≡ rec_granule (Some (seen_in monitor rd)) number
    → with_realm (seen_in monitor rd) (λ realm. with_rec realm number (f realm)) ≡ Err error_input
unfolding with_realm
no_rec monitor rd number f none = no_rec_there (cell_at monitor.machine rd).descriptor number f none

pub nothing_there : (monitor : MonitorView) (rd : ℕ) (act : Act) → is_some (rec_named act) ≡ true → IsRecReadyAt monitor (Some rd) (rec_named act) None
    → outcome_on monitor (Some rd) act ≡ Err error_input
unfolding outcome_of
nothing_there monitor rd (UnRec granule auxiliaries number) kind ready = no_rec monitor rd number _ ready.is
nothing_there monitor rd (Enter number) kind ready = no_rec monitor rd number _ ready.is
nothing_there monitor rd (Exit number) kind ready = no_rec monitor rd number _ ready.is
nothing_there monitor rd (Poke number ipa offset value) kind ready = no_rec monitor rd number _ ready.is
nothing_there monitor rd _ kind ready = cc

-- ---- there is such a REC

is_rec_of : (monitor : MonitorView) (rd number granule : ℕ) (realm : RealmRow) (rec : Option RecRow) → (cell_at monitor.machine rd).descriptor ≡ Some realm
    → get realm.recs number ≡ rec → Some granule ≡ option_map (λ (r : RecRow). r.granule) rec → IsRec monitor.machine rd number granule
is_rec_of monitor rd number granule realm None there numbered is = cc
is_rec_of monitor rd number granule realm (Some rec) there numbered is = record {
  realm = realm;
  there = there;
  rec = rec;
  numbered = numbered;
  is = sym (same_Some _ _ is);
}

is_rec_there : (monitor : MonitorView) (rd number granule : ℕ) (o : Option RealmRow) → (cell_at monitor.machine rd).descriptor ≡ o
    → Some granule ≡ option_map (λ (r : RecRow). r.granule) (option_and_then (λ (realm : RealmRow). get realm.recs number) o) → IsRec monitor.machine rd number granule
is_rec_there monitor rd number granule None there is = cc
is_rec_there monitor rd number granule (Some realm) there is = is_rec_of monitor rd number granule realm (get realm.recs number) there refl is

-- if the lookup of a number among a realm's RECs gives a granule, that granule is the realm's REC with that number
pub is_rec : (monitor : MonitorView) (rd number granule : ℕ) → Some granule ≡ rec_granule (realm_on monitor (Some rd)) number → IsRec monitor.machine rd number granule
is_rec monitor rd number granule is = is_rec_there monitor rd number granule (cell_at monitor.machine rd).descriptor refl is

-- the command that performs an operation on a REC
abbrev pub command_of : Act → Seen → ℕ → Outcome
command_of (UnRec granule auxiliaries n) rd number = rec_destroy rd number
command_of (Enter n) rd number = rec_enter rd number
command_of (Exit n) rd number = rec_exit rd number
command_of (Poke n ipa offset value) rd number = guest_write rd number ipa offset value
command_of _ rd number = Err error_input

-- if a call on a REC's granule meets `IsOnRec`, the call's answer and the RMM's new state are those of the command on
-- the REC
done_on : (old new : MonitorView) (result : Result (Unit {0}) Rmi) (rd number granule : ℕ) (command : Seen → ℕ → Outcome)
    → Some granule ≡ rec_granule (realm_on old (Some rd)) number → IsOnRec command old granule result new → IsDone old (command (seen_in old rd) number) result new
done_on old new result rd number granule command is on =
    let found = is_rec old rd number granule is in
    record { answer = on.answer rd number found; machine = on.machine rd number found }

done_act : (old new : MonitorView) (result : Result (Unit {0}) Rmi) (rd granule : ℕ) (act : Act) → is_some (rec_named act) ≡ true
    → IsRecReadyAt old (Some rd) (rec_named act) (Some granule) → IsOnRec (command_of act) old granule result new → IsDone old (outcome_on old (Some rd) act) result new
unfolding outcome_of
done_act old new result rd granule (UnRec g auxiliaries number) kind ready on = done_on old new result rd number granule rec_destroy ready.is on
done_act old new result rd granule (Enter number) kind ready on = done_on old new result rd number granule rec_enter ready.is on
done_act old new result rd granule (Exit number) kind ready on = done_on old new result rd number granule rec_exit ready.is on
done_act old new result rd granule (Poke number ipa offset value) kind ready on =
    done_on old new result rd number granule (λ realm n. guest_write realm n ipa offset value) ready.is on
done_act old new result rd granule _ kind ready on = cc

pub done : (old new : MonitorView) (result : Result (Unit {0}) Rmi) (rd granule : ℕ) (act other : Act) → act ≡ other → is_some (rec_named act) ≡ true
    → IsRecReadyAt old (Some rd) (rec_named act) (Some granule) → IsOnRec (command_of other) old granule result new → IsDone old (outcome_on old (Some rd) act) result new
done old new result rd granule act other act_is kind ready on =
    done_act old new result rd granule act kind ready (subst (λ a. IsOnRec (command_of a) old granule result new) (sym act_is) on)
