-- The lines of a trace for a host's actions, each with the text of an action, then ` = ` and the answer. TRACES.md has
-- their grammar.
use Rattle.std.specs.Prelude.{ℕ, ◌+◌, ◌*◌, ◌==◌, nat_lt, Bool, true, false, if◌then◌else◌, List, [], ◌∷◌, ◌++◌, codes, Option, Some, None}
use Rattle.std.specs.List.{flat_map}
use Rattle.std.specs.Fmt.{decimal, digits}
use Rattle.realm_model.specs.declared.rmi.Rmi.{Rmi}
use Rattle.realm_model.specs.declared.rmi.Status.{Status}
use Rattle.realm_model.specs.declared.rmi.Status.TheVariants.{Input, Realm, Rec, Rtt}
use Rattle.rmi_abi.specs.declared.call.Call.{Call}
use Rattle.rmi_abi.specs.declared.call.Call.TheVariants.{Version, GranuleDelegate, GranuleUndelegate, DataCreate, DataCreateUnknown, DataDestroy, RealmActivate, RealmCreate, RealmDestroy, RecCreate, RecDestroy, RecEnter}
use Rattle.rmi_abi.specs.declared.call.Call.TheVariants.{RttCreate, RttDestroy, RttMapUnprotected, RttReadEntry, RttUnmapUnprotected, PsciComplete, Features, RttFold, RecAuxCount, RttInitRipas, RttSetRipas}
use Rattle.rmi_abi.specs.declared.registers.Registers.{Registers}
use Rattle.history_calls.specs.declared.action.HostAction.{HostAction}
use Rattle.history_calls.specs.declared.action.HostAction.TheVariants as host
use Rattle.history_calls.specs.declared.text.Number.{Number}
use Rattle.history_calls.specs.declared.text.Number.TheVariants.{Absent, Decimal, Hexadecimal}
use Rattle.history_calls.specs.Frame.{Place}

-- ---- numbers

-- a number in decimal, with a space before it; for levels, counts, sizes, VMIDs, indices and the byte of a fill
abbrev pub then_decimal : ℕ → List ℕ
then_decimal n = 32 ∷ decimal n

-- a number in hexadecimal, with a space before it; for addresses and all else that is not written in decimal
abbrev pub then_hex : ℕ → List ℕ
then_hex n = codes " 0x" ++ digits 16 false n

-- ---- calls

-- the text of a call: the name of its command, and its operands. RMM 1.0, RMI commands
abbrev pub call_text : Call → List ℕ
call_text (Version requested) = codes "rmi_version" ++ then_hex requested
call_text (GranuleDelegate address) = codes "rmi_granule_delegate" ++ then_hex address
call_text (GranuleUndelegate address) = codes "rmi_granule_undelegate" ++ then_hex address
call_text (DataCreate rd granule ipa source flags) = codes "rmi_data_create" ++ then_hex rd ++ then_hex granule ++ then_hex ipa ++ then_hex source ++ then_hex flags
call_text (DataCreateUnknown rd granule ipa) = codes "rmi_data_create_unknown" ++ then_hex rd ++ then_hex granule ++ then_hex ipa
call_text (DataDestroy rd ipa) = codes "rmi_data_destroy" ++ then_hex rd ++ then_hex ipa
call_text (RealmActivate rd) = codes "rmi_realm_activate" ++ then_hex rd
call_text (RealmCreate rd params) = codes "rmi_realm_create" ++ then_hex rd ++ then_hex params
call_text (RealmDestroy rd) = codes "rmi_realm_destroy" ++ then_hex rd
call_text (RecCreate rd rec params) = codes "rmi_rec_create" ++ then_hex rd ++ then_hex rec ++ then_hex params
call_text (RecDestroy rec) = codes "rmi_rec_destroy" ++ then_hex rec
call_text (RecEnter rec run) = codes "rmi_rec_enter" ++ then_hex rec ++ then_hex run
call_text (RttCreate rd rtt ipa level) = codes "rmi_rtt_create" ++ then_hex rd ++ then_hex rtt ++ then_hex ipa ++ then_decimal level
call_text (RttDestroy rd ipa level) = codes "rmi_rtt_destroy" ++ then_hex rd ++ then_hex ipa ++ then_decimal level
call_text (RttMapUnprotected rd ipa level descriptor) = codes "rmi_rtt_map_unprotected" ++ then_hex rd ++ then_hex ipa ++ then_decimal level ++ then_hex descriptor
call_text (RttReadEntry rd ipa level) = codes "rmi_rtt_read_entry" ++ then_hex rd ++ then_hex ipa ++ then_decimal level
call_text (RttUnmapUnprotected rd ipa level) = codes "rmi_rtt_unmap_unprotected" ++ then_hex rd ++ then_hex ipa ++ then_decimal level
call_text (PsciComplete calling target status) = codes "rmi_psci_complete" ++ then_hex calling ++ then_hex target ++ then_hex status
call_text (Features index) = codes "rmi_features" ++ then_decimal index
call_text (RttFold rd ipa level) = codes "rmi_rtt_fold" ++ then_hex rd ++ then_hex ipa ++ then_decimal level
call_text (RecAuxCount rd) = codes "rmi_rec_aux_count" ++ then_hex rd
call_text (RttInitRipas rd base top) = codes "rmi_rtt_init_ripas" ++ then_hex rd ++ then_hex base ++ then_hex top
call_text (RttSetRipas rd rec base top) = codes "rmi_rtt_set_ripas" ++ then_hex rd ++ then_hex rec ++ then_hex base ++ then_hex top

-- the text of the output in X1, with its name; empty if the command has no such output
abbrev pub x1_text : Call → ℕ → List ℕ
x1_text (Version requested) x1 = codes ", lower" ++ then_hex x1
x1_text (DataDestroy rd ipa) x1 = codes ", data" ++ then_hex x1
x1_text (RttDestroy rd ipa level) x1 = codes ", rtt" ++ then_hex x1
x1_text (RttReadEntry rd ipa level) x1 = codes ", level" ++ then_decimal x1
x1_text (RttUnmapUnprotected rd ipa level) x1 = codes ", top" ++ then_hex x1
x1_text (Features index) x1 = codes ", value" ++ then_hex x1
x1_text (RttFold rd ipa level) x1 = codes ", rtt" ++ then_hex x1
x1_text (RecAuxCount rd) x1 = codes ", count" ++ then_decimal x1
x1_text (RttInitRipas rd base top) x1 = codes ", top" ++ then_hex x1
x1_text (RttSetRipas rd rec base top) x1 = codes ", top" ++ then_hex x1
x1_text _ x1 = []

-- the answer to a call that succeeds, with the output in X1 if it is known
abbrev pub success_text : Call → Option ℕ → List ℕ
success_text call None = codes " = RMI_SUCCESS"
success_text call (Some x1) = codes " = RMI_SUCCESS" ++ x1_text call x1

abbrev pub status_text : Status → ℕ → List ℕ
status_text Input index = codes " = RMI_ERROR_INPUT"
status_text Realm index = codes " = RMI_ERROR_REALM"
status_text Rec index = codes " = RMI_ERROR_REC"
status_text Rtt index = codes " = RMI_ERROR_RTT" ++ then_decimal index

-- the answer to a call that is refused: the status, and also the index if the status is RMI_ERROR_RTT
abbrev pub refused_text : Rmi → List ℕ
refused_text rmi = status_text rmi.status rmi.index

-- ---- actions

-- the text of an action that fills one granule, or consecutive ones, with a byte
abbrev pub fill_text : ℕ → ℕ → ℕ → List ℕ
fill_text address granules value =
    if granules == 1 then codes "fill" ++ (then_hex address ++ then_decimal value)
    else codes "repeat" ++ (then_decimal granules ++ (codes " fill" ++ (then_hex address ++ (codes "+0x1000" ++ then_decimal value))))

-- the field for a REC's auxiliary granules, which is left out if there are none
abbrev pub aux_field : List ℕ → List ℕ
aux_field [] = []
aux_field (first ∷ more) = codes " aux" ++ (then_hex first ++ flat_map then_hex more)

-- the text of an action of the host or a guest. Fields that are left out are 0. RMM 1.0, RmiRealmParams, RmiRecParams
abbrev pub question_text : HostAction → List ℕ
question_text (host.Fill address granules value) = fill_text address granules value
question_text (host.Load address byte) = codes "load" ++ then_hex address
question_text (host.RealmParams page width vmid tables count) =
    codes "realm_params"
    ++ (then_hex page
    ++ (codes " s2sz"
    ++ (then_decimal width
    ++ (codes " vmid" ++ (then_decimal vmid ++ (codes " rtt_base" ++ (then_hex tables ++ (codes " rtt_level_start 1 rtt_num_start" ++ then_decimal count))))))))
question_text (host.RecParams page mpidr auxiliaries) =
    codes "rec_params" ++ (then_hex page ++ (codes " flags 0x1 mpidr" ++ (then_hex mpidr ++ aux_field auxiliaries.items)))
question_text (host.Call call x1) = call_text call
question_text (host.Enter rec run) = call_text (RecEnter rec run)
question_text (host.Interrupt rec) = codes "interrupt" ++ then_hex rec
question_text (host.Write rec ipa value) = codes "guest" ++ (then_hex rec ++ (codes " write" ++ (then_hex ipa ++ then_hex value)))
question_text (host.Spin rec) = codes "guest" ++ (then_hex rec ++ codes " spin")
question_text (host.Saw rec) = codes "saw" ++ then_hex rec

-- the answer to an action that is not refused. A word that is loaded has the same byte eight times
abbrev pub done_text : HostAction → List ℕ
done_text (host.Fill address granules value) = codes " = done"
done_text (host.Load address byte) = codes " =" ++ then_hex (byte * 0x0101010101010101)
done_text (host.RealmParams page width vmid tables count) = codes " = done"
done_text (host.RecParams page mpidr auxiliaries) = codes " = done"
done_text (host.Call call x1) = success_text call x1
done_text (host.Enter rec run) = codes " = RUNNING"
done_text (host.Interrupt rec) = codes " = RMI_SUCCESS, exit IRQ"
done_text (host.Write rec ipa value) = codes " = queued"
done_text (host.Spin rec) = codes " = queued"
done_text (host.Saw rec) = codes " = done"

-- whether an action is a call, which the RMM may refuse
abbrev pub is_call : HostAction → Bool
is_call (host.Call call x1) = true
is_call (host.Enter rec run) = true
is_call _ = false

-- the text of the answer to an action: a refused call has the text of the refusal, any other action that of `done_text`
abbrev pub answer_to : HostAction → Option Rmi → List ℕ
answer_to action None = done_text action
answer_to action (Some rmi) = if is_call action then refused_text rmi else done_text action

-- whether an action is the `spin` of a guest whose REC's entry is refused; such a `spin` gets no line
abbrev pub is_step_left_out : HostAction → Option Rmi → Bool
is_step_left_out (host.Spin rec) (Some rmi) = true
is_step_left_out _ _ = false

-- the line for an action, given the refusal if there is one; empty for a guest's `spin` that is left out
abbrev pub action_line : HostAction → Option Rmi → List ℕ
action_line action refusal = if is_step_left_out action refusal then [] else question_text action ++ (answer_to action refusal ++ 10 ∷ [])

-- the `platform` line of a trace: the base address, the number of granules, including 66 of the host's own, and the
-- number of auxiliary granules of each REC
abbrev pub platform_line : Place → ℕ → List ℕ
platform_line place auxiliaries =
    codes "platform"
    ++ (then_hex place.base ++ (then_decimal (place.pages + 66) ++ (codes " aux" ++ (then_decimal auxiliaries ++ codes " vmid_bits 8 s2sz 43 max_recs_order 15\n"))))

-- ---- parts of lines, as the code writes them

-- a number in decimal or hexadecimal, with a space before it; empty if the number is absent
abbrev pub number_text : Number → List ℕ
number_text Absent = []
number_text (Decimal n) = then_decimal n
number_text (Hexadecimal n) = then_hex n

-- how operand number `place` of a call is written: in decimal if `place` equals `in_decimal`, otherwise in hexadecimal;
-- absent if the command has fewer operands
abbrev pub operand_number : ℕ → ℕ → ℕ → ℕ → Number
operand_number count in_decimal place n = if nat_lt count place then Absent else if place == in_decimal then Decimal n else Hexadecimal n

-- the text of a call whose operands are in registers, given the command's name, the number of operands, and which
-- operand is in decimal
abbrev pub form_text : List ℕ → ℕ → ℕ → Registers → List ℕ
form_text name count in_decimal r =
    name ++ number_text (operand_number count in_decimal 1 r.x1) ++ number_text (operand_number count in_decimal 2 r.x2)
    ++ number_text (operand_number count in_decimal 3 r.x3) ++ number_text (operand_number count in_decimal 4 r.x4)
    ++ number_text (operand_number count in_decimal 5 r.x5)
