-- The checks and look-ups that commands make in sequence, the refusals that these give, and the updates that write a
-- realm's attributes.
use Rattle.std.specs.Prelude.{ℕ, ◌==◌, List, [], ◌∷◌, Bool, true, false, cond, not, ◌&&◌, Some, None, Err}
use Rattle.std.specs.List.{list_any}
use Rattle.std.specs.FinMap.{get, insert}
use Rattle.granule_addr.specs.Ipa.{is_protected_at}
use Rattle.realm_model.specs.declared.rmi.Rmi.{Rmi}
use Rattle.realm_model.specs.declared.rmi.Status.{Status}
use Rattle.realm_model.specs.declared.rmi.Status.TheVariants.{Input, Realm as OfRealm, Rec as OfRec, Rtt as OfRtt}
use Rattle.realm_model.specs.declared.states.GranuleState.TheVariants.{Undelegated, Delegated}
use Rattle.realm_model.specs.declared.states.RealmState.{RealmState}
use Rattle.realm_model.specs.declared.states.RealmState.TheVariants.{New, Active}
use Rattle.realm_model.specs.declared.states.RecState.{RecState}
use Rattle.realm_model.specs.declared.states.RecState.TheVariants.{Ready, Running}
use Rattle.realm_model.specs.Rows.{Rows, Row, Walk, walk}
use Rattle.realm_model.specs.Machine.{RecRow, RealmRow, Seen}
use Rattle.realm_model.specs.Update.{Outcome, Update, Put}

-- ---- refusals. RMM 1.0, RMI command return codes

-- the refusal with the given status and index
abbrev pub refused : Status → ℕ → Rmi
refused status index = record { status = status; index = index }

-- the refusal with the status RMI_ERROR_INPUT
abbrev pub error_input : Rmi
error_input = refused Input 0

-- the refusal with the status RMI_ERROR_REALM
abbrev pub error_realm : Rmi
error_realm = refused OfRealm 0

-- the refusal with the status RMI_ERROR_REC
abbrev pub error_rec : Rmi
error_rec = refused OfRec 0

-- the refusal with the status RMI_ERROR_RTT, and with a level as its index
abbrev pub error_rtt : ℕ → Rmi
error_rtt level = refused OfRtt level

-- the outcome `rest` if the check holds, else the refusal `rmi`
unfoldable pub check : Bool → Rmi → Outcome → Outcome
check holds rmi rest = cond holds rest (Err rmi)

-- ---- the tests

-- the granule is UNDELEGATED
abbrev pub is_undelegated : Seen → Bool
is_undelegated g = elim g.cell.state [ Undelegated ↦ true | _ ↦ false ]

-- the granule is DELEGATED
abbrev pub is_delegated : Seen → Bool
is_delegated g = elim g.cell.state [ Delegated ↦ true | _ ↦ false ]

abbrev pub is_in : ℕ → List ℕ → Bool
is_in number others = list_any (λ other. number == other) others

-- the number is not in the list
abbrev pub is_apart_from : ℕ → List ℕ → Bool
is_apart_from number others = not (is_in number others)

-- no number is in the list twice
abbrev pub are_distinct : List ℕ → Bool
are_distinct [] = true
are_distinct (number ∷ others) = is_apart_from number others && are_distinct others

abbrev pub is_new : RealmState → Bool
is_new New = true
is_new Active = false

abbrev pub is_ready : RecState → Bool
is_ready Ready = true
is_ready Running = false

-- the IPA granule is in the protected half of the realm's address space
abbrev pub is_protected : RealmRow → ℕ → Bool
is_protected realm ipa = is_protected_at ipa realm.root.width

-- ---- the lookups

-- the outcome that `f` gives for the realm of an RD; RMI_ERROR_INPUT if the granule is not an RD
unfoldable pub with_realm : Seen → (RealmRow → Outcome) → Outcome
with_realm rd f = elim rd.cell.descriptor [ Some realm ↦ f realm | None ↦ Err error_input ]

-- the outcome that `f` gives for the realm's REC with the given number; RMI_ERROR_INPUT if the realm has no such REC
unfoldable pub with_rec : RealmRow → ℕ → (RecRow → Outcome) → Outcome
with_rec realm number f = elim (get realm.recs number) [ Some rec ↦ f rec | None ↦ Err error_input ]

-- The outcome that `f` gives for the row at which a walk down to a level ends; RMI_ERROR_RTT if the walk finds no row.
-- In every world that a history leads to, a command's walk ends at a row, so no command is refused for a missing one.
unfoldable pub with_end : Rows → ℕ → ℕ → (Walk → Outcome) → Outcome
with_end rows ipa level f = elim (walk rows ipa level) [ Some end ↦ f end | None ↦ Err (error_rtt 0) ]

-- the outcome that `f` gives for the row where a walk ends, if it ends at the given level; otherwise RMI_ERROR_RTT
abbrev pub with_row : Rows → ℕ → ℕ → (Row → Outcome) → Outcome
with_row rows ipa level f = with_end rows ipa level (λ end. check (end.level == level) (error_rtt end.level) (f end.row))

-- The outcome that `f` gives for the granule that a row leads to; RMI_ERROR_INPUT if the row leads to none. In every
-- world that a history leads to, each ASSIGNED or TABLE row has one, so no command is refused for a missing granule.
unfoldable pub with_granule : Row → (ℕ → Outcome) → Outcome
with_granule row f = elim row.granule [ Some granule ↦ f granule | None ↦ Err error_input ]

-- ---- the updates of a realm

-- the update that writes a realm's attributes to the cell of its RD
abbrev pub put_realm : Seen → RealmRow → Update
put_realm rd realm = Put rd.number (record rd.cell { descriptor = Some realm })

-- the update that sets the attributes of the realm's REC with the given number
abbrev pub put_rec : Seen → RealmRow → ℕ → RecRow → Update
put_rec rd realm number rec = put_realm rd (record realm { recs = insert realm.recs number rec })
