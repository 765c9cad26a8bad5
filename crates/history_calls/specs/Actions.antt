-- The host's actions for an event, on an RMM whose calls pass their arguments in registers. RMM 1.0, RMI commands.
use Rattle.std.specs.Prelude.{ℕ, ◌+◌, ◌-◌, ◌*◌, ◌/◌, ◌%◌, ◌^◌, List, [], ◌∷◌, ◌++◌, map, Option, Some, None}
use Rattle.std.specs.Option.{unwrap_or, option_to_list}
use Rattle.granule_addr.specs.declared.width.Root.{Root}
use Rattle.realm_model.specs.declared.act.Act.{Act}
use Rattle.realm_model.specs.declared.act.Act.TheVariants.{Take, UnTake, Fill, Peek, Delegate, Undelegate, Realm, UnRealm, Activate}
use Rattle.realm_model.specs.declared.act.Act.TheVariants.{Rtt, UnRtt, Ripas, Data, Unknown, UnData, Rec, UnRec, Enter, Exit, Poke}
use Rattle.realm_model.specs.declared.act.RealmAndRec.{RealmAndRec}
use Rattle.rmi_abi.specs.declared.call.Call.{Call}
use Rattle.rmi_abi.specs.declared.call.Call.TheVariants.{GranuleDelegate, GranuleUndelegate, DataCreate, DataCreateUnknown, DataDestroy, RealmActivate, RealmCreate, RealmDestroy}
use Rattle.rmi_abi.specs.declared.call.Call.TheVariants.{RecCreate, RecDestroy, RttCreate, RttDestroy, RttInitRipas}
use Rattle.history_calls.specs.declared.action.HostAction.{HostAction}
use Rattle.history_calls.specs.declared.action.HostAction.TheVariants as host
use Rattle.history_calls.specs.Frame.{Place, address, realm_params, rec_params, run_page}

-- the IPA at which an IPA granule begins
abbrev pub ipa_of : ℕ → ℕ
ipa_of ipa = 4096 * ipa

-- the MPIDR of the REC with the given number. RMM 1.0, RmiRecMpidr
abbrev pub mpidr_of : ℕ → ℕ
mpidr_of number = number % 2 ^ 4 + number / 2 ^ 4 * 2 ^ 8

-- the RD of the realm that an event is about; granule 0 if there is no such realm
abbrev pub rd_or_first : RealmAndRec → ℕ
rd_or_first subject = unwrap_or subject.realm 0

-- the granule of the REC that an event is about; granule 0 if there is no such REC
abbrev pub rec_or_first : RealmAndRec → ℕ
rec_or_first subject = unwrap_or subject.rec 0

-- a call whose output in X1 is not known beforehand
abbrev pub plain_call : Call → HostAction
plain_call call = host.Call call None

-- a call whose output in X1 is known to be `x1`
abbrev pub with_x1 : Call → ℕ → HostAction
with_x1 call x1 = host.Call call (Some x1)

-- The actions of the host and a guest for an event in which a REC is entered, exits or writes a byte; none for any
-- other event. For a Poke, the REC is interrupted and entered again, and then the guest writes the byte.
abbrev pub on_rec : ℕ → ℕ → Act → List HostAction
on_rec rec run (Enter number) = host.Spin rec ∷ host.Enter rec run ∷ []
on_rec rec run (Exit number) = host.Interrupt rec ∷ []
on_rec rec run (Poke number ipa offset value) =
    host.Interrupt rec ∷ host.Write rec (ipa_of ipa + offset) value ∷ host.Spin rec ∷ host.Enter rec run ∷ host.Saw rec ∷ []
on_rec rec run _ = []

-- The host's call for an event about a realm's tables, memory or activation; `None` for any other event.
abbrev pub call_in_realm : Place → ℕ → Act → Option HostAction
call_in_realm place rd (Rtt granule ipa level) = Some (plain_call (RttCreate rd (address place granule) (ipa_of ipa) level))
call_in_realm place rd (UnRtt granule ipa level) = Some (with_x1 (RttDestroy rd (ipa_of ipa) level) (address place granule))
call_in_realm place rd (Ripas ipa count) = Some (with_x1 (RttInitRipas rd (ipa_of ipa) (ipa_of (ipa + count))) (ipa_of (ipa + count)))
call_in_realm place rd (Data granule ipa source) = Some (plain_call (DataCreate rd (address place granule) (ipa_of ipa) (address place source) 1))
call_in_realm place rd (Unknown granule ipa) = Some (plain_call (DataCreateUnknown rd (address place granule) (ipa_of ipa)))
call_in_realm place rd (UnData granule ipa) = Some (with_x1 (DataDestroy rd (ipa_of ipa)) (address place granule))
call_in_realm place rd Activate = Some (plain_call (RealmActivate rd))
call_in_realm place rd _ = None

-- The host's actions for the creation or the destruction of a REC.
abbrev pub on_rec_granule : Place → ℕ → Act → List HostAction
on_rec_granule place rd (Rec granule auxiliaries number) =
    host.RecParams (rec_params place) (mpidr_of number) (record { items = map (address place) auxiliaries.items })
    ∷ plain_call (RecCreate rd (address place granule) (rec_params place)) ∷ []
on_rec_granule place rd (UnRec granule auxiliaries number) = plain_call (RecDestroy (address place granule)) ∷ []
on_rec_granule place rd _ = []

-- The host's actions for an event that accesses, delegates, undelegates or gives back pages, or that creates or
-- destroys a realm.
abbrev pub on_granules : Place → Act → List HostAction
on_granules place (UnTake order first) = host.Fill (address place first) (2 ^ order) 0 ∷ []
on_granules place (Fill granule value) = host.Fill (address place granule) 1 value ∷ []
on_granules place (Peek granule offset byte) = host.Load (address place granule + offset / 8 * 8) byte ∷ []
on_granules place (Delegate granule) = plain_call (GranuleDelegate (address place granule)) ∷ []
on_granules place (Undelegate granule) = plain_call (GranuleUndelegate (address place granule)) ∷ []
on_granules place (Realm rd root vmid) =
    host.RealmParams (realm_params place) root.width vmid (address place root.first) (2 ^ (root.width - 39))
    ∷ plain_call (RealmCreate (address place rd) (realm_params place)) ∷ []
on_granules place (UnRealm rd root vmid) = plain_call (RealmDestroy (address place rd)) ∷ []
on_granules place _ = []

-- The host's actions for an event, given the realm and the REC that the event is about. The exits of the REC's run go
-- to the run page with the given number. At most one of the four lists has actions, and for a take none has.
abbrev pub actions_of : Place → RealmAndRec → ℕ → Act → List HostAction
actions_of place subject run act =
    on_granules place act
    ++ option_to_list (call_in_realm place (address place (rd_or_first subject)) act)
    ++ on_rec_granule place (address place (rd_or_first subject)) act
    ++ on_rec (address place (rec_or_first subject)) (run_page place run) act
