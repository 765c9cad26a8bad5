-- Proofs that calls, stores, fills, interrupts and the queueing of guest steps change the memory locations of protected
-- addresses only as `KeepsLocations` allows.
use Rattle.std.proofs.Common.{◌≡◌, ℕ, true, length, Option, Some, None}
use Rattle.rmi_abi.specs.declared.call.Call.{Call}
use Rattle.rmi_abi.specs.declared.call.Call.TheVariants.{RttCreate, RttDestroy, RttFold, RttMapUnprotected, RttUnmapUnprotected, RttInitRipas, RttSetRipas, DataCreate, DataCreateUnknown, DataDestroy}
use Rattle.rmi_abi.specs.declared.registers.Registers.{Registers}
use Rattle.rmm_model.specs.declared.realm.RmmRealm.{RmmRealm}
use Rattle.rmm_model.specs.Call.{command_of, rmi_at}
use Rattle.rmm_model.specs.declared.step.StepWords.{StepWords}
use Rattle.rmm_model.specs.Guest.{queued}
use Rattle.rmm_model.specs.Host.{after_store, after_fill}
use Rattle.rmm_model.specs.Machine.{Machine, number_of}
use Rattle.rmm_model.specs.Command.Operand.{realm_at}
use Rattle.rmm_model.specs.Command.RecEnter.{interrupted}
use Rattle.rmm_laws.specs.Proper.{IsProper}
use Rattle.rmm_laws.specs.Location.{Location, IsLocationGiven, KeepsLocations}
use Rattle.rmm_laws.proofs.Recs.{IsGoing}
use Rattle.rmm_laws.proofs.Passed.{Passed}
use Rattle.rmm_laws.proofs.LocationCalls.{Leads, leading, lead_map, lead_unmap, lead_data, lead_unknown, lead_destroy, lead_init, lead_set, lead_create, lead_fold, lead_table_destroy}
use Rattle.rmm_laws.proofs.EachRead.{is_acting, target_of, ok_read, call_read, stored_read, filled_read, going_read, given_read, interrupted_read}

-- a call may change the location of an address from one given value to another
abbrev given_to : ℕ → Machine → Option Call → ℕ → Option Location → Option Location → Type 0
given_to x m call rd old new = IsLocationGiven m call rd x old new

own_locations : (x : ℕ) (call : Call) (m : Machine) → is_acting call ≡ true → IsProper m → Passed (command_of call m).checks → length (command_of call m).machine.granules ≡ length m.granules → (after : RmmRealm)
    → Leads call m (command_of call m).machine (number_of m (target_of call)) x (realm_at m (target_of call)) after
own_locations x (RttCreate of rtt ipa level) m acts proper ok count after = lead_create of rtt ipa level m proper ok x after
own_locations x (RttDestroy of ipa level) m acts proper ok count after = lead_table_destroy of ipa level m proper ok count x after
own_locations x (RttFold of ipa level) m acts proper ok count after = lead_fold of ipa level m proper ok x after
own_locations x (RttMapUnprotected of ipa level desc) m acts proper ok count after = lead_map of ipa level desc m proper ok x after
own_locations x (RttUnmapUnprotected of ipa level) m acts proper ok count after = lead_unmap of ipa level m proper ok x after
own_locations x (DataCreate of page ipa source flags) m acts proper ok count after = lead_data of page ipa source flags m proper ok count x after
own_locations x (DataCreateUnknown of page ipa) m acts proper ok count after = lead_unknown of page ipa m proper ok count x after
own_locations x (DataDestroy of ipa) m acts proper ok count after = lead_destroy of ipa m proper ok count x after
own_locations x (RttInitRipas of base top) m acts proper ok count after = lead_init of base top m proper ok count x after
own_locations x (RttSetRipas of rec base top) m acts proper ok count after = lead_set of rec base top m proper ok count x after
own_locations x _ m acts proper ok count after = absurd (cc)

pub ok_locations : (call : Call) (m : Machine) → IsProper m → Passed (command_of call m).checks → KeepsLocations m (Some call) (command_of call m).machine
ok_locations call m proper ok = λ rd x before after is then protected. ok_read x (Option Location) (leading x) (given_to x) (own_locations x) call m proper ok rd before after is then protected

pub call_locations : (o : Option Call) (r : Registers) (m : Machine) → IsProper m → KeepsLocations m o (rmi_at o r m).1
call_locations o r m proper = λ rd x before after is then protected. call_read x (Option Location) (leading x) (given_to x) (own_locations x) o r m proper rd before after is then protected

-- ---- stores, fills, steps and interrupts

pub stored_locations : (m : Machine) (address word : ℕ) → IsProper m → KeepsLocations m None (after_store m address word)
stored_locations m address word proper = λ rd x before after is then protected. stored_read x (Option Location) (leading x) (given_to x) m address word proper rd before after is then protected

pub filled_locations : (m : Machine) (address value : ℕ) → IsProper m → KeepsLocations m None (after_fill m address value)
filled_locations m address value proper = λ rd x before after is then protected. filled_read x (Option Location) (leading x) (given_to x) m address value proper rd before after is then protected

pub going_locations : (m : Machine) → IsProper m → (w g : ℕ) (n : Machine) → IsGoing m w g n → KeepsLocations m None n
going_locations m proper w g n going = λ rd x before after is then protected. going_read x (Option Location) (leading x) (given_to x) m proper w g n going rd before after is then protected

pub given_locations : (m : Machine) (rec : ℕ) (w : StepWords) → IsProper m → KeepsLocations m None (queued m rec w).1
given_locations m rec w proper = λ rd x before after is then protected. given_read x (Option Location) (leading x) (given_to x) m rec w proper rd before after is then protected

pub interrupted_locations : (m : Machine) (rec : ℕ) → IsProper m → KeepsLocations m None (interrupted m rec).1
interrupted_locations m rec proper = λ rd x before after is then protected. interrupted_read x (Option Location) (leading x) (given_to x) m rec proper rd before after is then protected
