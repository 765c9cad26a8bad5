-- The words in a trace's answer for a REC exit, as the host reads the exit in the run page. RMM 1.0, RmiRecExit, whose
-- fields begin at offset 0x800 of the run page.
use Rattle.std.specs.Prelude.{ℕ, ◌+◌, ◌%◌, ◌^◌, ◌==◌, Bool, not, ◌||◌, if◌then◌else◌, List, unwrap_or}
use Rattle.rmm_model.specs.Host.{loaded}
use Rattle.rmm_model.specs.Machine.{Machine}
use Rattle.rmm_trace.specs.declared.place.TheConstants.{EXIT, GPRS, RIPAS_OUTPUT}
use Rattle.rmm_trace.specs.declared.word.Atom.TheVariants.{Hexadecimal}
use Rattle.rmm_trace.specs.declared.word.TraceWord.{TraceWord}
use Rattle.rmm_answers.specs.declared.place.TheConstants.{BASE, ESR, FAR, HPFAR, IMM, TOP}
use Rattle.rmm_answers.specs.Put.{◌▷◌, put_word, put_value, put_output}

-- the field at an offset in a run page; 0 if the host cannot read it
abbrev pub field : Machine → ℕ → ℕ → ℕ
field m run offset = unwrap_or (loaded m ((run + offset) % 2 ^ 64)) 0

unfoldable pub put_field : Machine → ℕ → ℕ → ℕ → List TraceWord → List TraceWord
put_field m run name offset ws = put_output name (field m run offset) ws

-- appends the value `v` of a register if `shown` is true, and nothing otherwise
unfoldable pub put_gpr : Bool → ℕ → List TraceWord → List TraceWord
put_gpr shown v ws = if shown then put_word (Hexadecimal v) ws else ws

abbrev pub is_some_set : ℕ → ℕ → ℕ → Bool
is_some_set a b c = not (a == 0) || not (b == 0) || not (c == 0)

-- Appends the four general-purpose registers of an exit, up to the last register that is not 0, and at least the first.
unfoldable pub put_gprs : ℕ → ℕ → ℕ → ℕ → List TraceWord → List TraceWord
put_gprs gpr0 gpr1 gpr2 gpr3 ws =
    ws ▷ put_value GPRS (Hexadecimal gpr0) ▷ put_gpr (is_some_set gpr1 gpr2 gpr3) gpr1 ▷ put_gpr (is_some_set 0 gpr2 gpr3) gpr2
    ▷ put_gpr (is_some_set 0 0 gpr3) gpr3

unfoldable pub put_gprs_in : Machine → ℕ → List TraceWord → List TraceWord
put_gprs_in m run ws = put_gprs (field m run 0xA00) (field m run 0xA08) (field m run 0xA10) (field m run 0xA18) ws

-- appends the fields of a REC exit for the reasons SYNC, PSCI, RIPAS_CHANGE and HOST_CALL, and nothing for any other
-- reason
unfoldable pub put_fields : Machine → ℕ → ℕ → List TraceWord → List TraceWord
put_fields m run reason ws =
    if reason == 0 then (ws ▷ put_field m run ESR 0x900 ▷ put_field m run FAR 0x908 ▷ put_field m run HPFAR 0x910 ▷ put_gprs_in m run) else
    (if reason == 3 then put_gprs_in m run ws else
    (if reason == 4 then (ws ▷ put_field m run BASE 0xD00 ▷ put_field m run TOP 0xD08 ▷ put_field m run RIPAS_OUTPUT 0xD10) else
    (if reason == 5 then (ws ▷ put_field m run IMM 0xE00 ▷ put_gprs_in m run) else ws)))

-- appends the REC exit that a run page holds: its reason, and the fields for that reason
unfoldable pub put_exit : Machine → ℕ → List TraceWord → List TraceWord
put_exit m run ws = ws ▷ put_field m run EXIT 0x800 ▷ put_fields m run (field m run 0x800)
