-- The statements of the theorems about the operation that a command asks for, and about the RMM's answer to the
-- command.
use Rattle.std.specs.Prelude.{◌≡◌, ◌==◌, ℕ, List, length, slice_index, true, false, Option, Some, None, Err}
use Rattle.std.specs.List.{All}
use Rattle.granule_addr.specs.Ipa.{is_width}
use Rattle.realm_model.specs.declared.act.Act.{Act}
use Rattle.realm_model.specs.Machine.{Limits, RealmRow, Seen}
use Rattle.realm_model.specs.Update.{Outcome}
use Rattle.realm_model.specs.Act.{is_command, named, is_paired, is_reverse}
use Rattle.realm_model.specs.Room.{room_taken}
use Rattle.realm_model.specs.Command.Check.{error_input}
use Rattle.realm_model.specs.Command.Table.{rtt_create, rtt_init_ripas}
use Rattle.realm_model.specs.Command.Data.{data_create, data_create_unknown}
use Rattle.realm_model.specs.Command.Rec.{guest_write}
use Rattle.realm_model.specs.Outcome.{outcome_of, on_one, on_two, realm_is, fits}
use Rattle.host_commands.specs.declared.cmd.Cmd.{Cmd}
use Rattle.host_commands.specs.declared.cmd.Cmd.TheVariants.{Peek, Realm, Rtt, Ripas, Data, Unknown, Rec, Poke}
use Rattle.host_commands.specs.declared.reply.Allocated.{Allocated}
use Rattle.host_commands.specs.Needs.{operands, needs_of}
use Rattle.host_commands.specs.Acts.{act_of}

-- The operation names the given granules, and is not a reverse. The table of commands says whether the operation has a
-- reverse, and how much room the operation takes. The operation neither leases a block nor gives one back.
pub record IsOfCommand (cmd : Cmd) (granules : List ℕ) (act : Act) : Type 0 where
  pub command : is_command act ≡ true
  pub forward : is_reverse act ≡ false
  pub names : named act ≡ granules
  pub paired : is_paired act ≡ (needs_of cmd).paired
  pub room : room_taken act ≡ (needs_of cmd).room

-- if there are as many granules as pages that the command names, `IsOfCommand` holds for the operation that the command
-- asks for
abbrev pub ActIsOfCommand : Cmd → List ℕ → Allocated → Act → Type 0
ActIsOfCommand cmd granules allocated act = length granules ≡ length (operands cmd) → act_of cmd granules allocated ≡ Some act → IsOfCommand cmd granules act

-- ---- the machine

-- The values allocated for a command agree with the realm of its build and with the granules of its pages. The byte of
-- a Peek is that of the page, a Realm is for a build that has no realm, and the number of a Rec is the realm's next.
abbrev pub IsThere : Cmd → Allocated → Option Seen → List Seen → Type 0
IsThere (Peek page offset) allocated realm cells = All (λ (g : Seen). slice_index g.cell.bytes offset ≡ allocated.byte) cells
IsThere (Realm rd root width) allocated realm cells = realm ≡ None
IsThere (Rec page auxiliaries) allocated realm cells = realm_is realm (λ d r. allocated.number == r.next) ≡ true
IsThere _ allocated realm cells = Unit {0}

-- if the allocated values agree with the machine, so do the values in the operation
abbrev pub ActFits : Cmd → List ℕ → Allocated → Act → Option Seen → List Seen → Type 0
ActFits cmd granules allocated act realm cells = act_of cmd granules allocated ≡ Some act → IsThere cmd allocated realm cells → fits act realm cells ≡ true

-- ---- the outcome of a command

-- The outcome of a build's command at the RMM: that of the command's operation, or an input error if the command has no
-- operation.
abbrev pub outcome_of_act : Limits → List ℕ → Option Act → Option Seen → List Seen → Outcome
outcome_of_act limits used None realm cells = Err error_input
outcome_of_act limits used (Some act) realm cells = outcome_of limits.vmids limits.aux used act realm cells

-- The outcome of a command does not depend on the byte or the REC number that was allocated for it.
abbrev pub OutcomeIsOfAnyAllocation : Limits → List ℕ → Cmd → List ℕ → Allocated → Allocated → Option Seen → List Seen → Type 0
OutcomeIsOfAnyAllocation limits used cmd granules one other realm cells =
    one.vmid ≡ other.vmid → outcome_of_act limits used (act_of cmd granules one) realm cells ≡ outcome_of_act limits used (act_of cmd granules other) realm cells

-- ---- the numbers that no operation can have

-- the realm whose RD is this granule, if there is one, has a valid IPA width
abbrev pub HasWidth : Seen → Type 0
HasWidth rd = (realm : RealmRow) → rd.cell.descriptor ≡ Some realm → is_width realm.root.width ≡ true

-- The command names no IPA granule, or the RMM refuses it with RMI_ERROR_INPUT, given this RD and these granules. The
-- command's numbers need not be in range.
abbrev pub IsInputError : Cmd → Seen → List Seen → Type 0
IsInputError (Rtt page ipa level) rd cells = on_one cells (λ g. rtt_create rd g ipa level) ≡ Err error_input
IsInputError (Ripas ipa count) rd cells = rtt_init_ripas rd ipa count ≡ Err error_input
IsInputError (Data page ipa source) rd cells = on_two cells (λ g s. data_create rd g ipa s) ≡ Err error_input
IsInputError (Unknown page ipa) rd cells = on_one cells (λ g. data_create_unknown rd g ipa) ≡ Err error_input
IsInputError (Poke number ipa offset value) rd cells = guest_write rd number ipa offset value ≡ Err error_input
IsInputError _ rd cells = Unit {0}

-- If no operation of the model has the operands of a command with an IPA granule, the RMM answers RMI_ERROR_INPUT,
-- whatever else is wrong. The realm's IPA width is required to be valid.
abbrev pub NoActIsInputError : Cmd → List ℕ → Allocated → Seen → List Seen → Type 0
NoActIsInputError cmd granules allocated rd cells =
    length granules ≡ length (operands cmd) → act_of cmd granules allocated ≡ None → HasWidth rd → IsInputError cmd rd cells
