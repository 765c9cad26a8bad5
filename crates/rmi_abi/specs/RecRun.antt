-- The fields of a REC's run page: the host's values for a REC entry, and the values from a REC exit. RMM 1.0,
-- RmiRecEnter from 0x000 on, and RmiRecExit from 0x800 on: each field is one of the page's 512 words.
use Rattle.std.specs.Prelude.{ℕ, ◌+◌, ◌/◌, ◌%◌, ◌==◌, Bool, List, if◌then◌else◌}
use Rattle.page_arena.specs.Word.{word_of_page}
use Rattle.rmi_abi.specs.declared.rec_run.ExitReason.{ExitReason}
use Rattle.rmi_abi.specs.declared.rec_run.ExitReason.TheVariants.{Sync, Irq, Psci, RipasChange, HostCall}
use Rattle.rmi_abi.specs.declared.rec_run.RecExit.{RecExit}

-- ---- RmiRecEnter

-- the flags of RMI_REC_ENTER in a run page
abbrev pub flags_in : List ℕ → ℕ
flags_in page = word_of_page page 0

-- the value that the host gives a REC's general-purpose register k at its entry, k from 0 to 30
abbrev pub entry_gpr_in : List ℕ → ℕ → ℕ
entry_gpr_in page k = word_of_page page (64 + k)

-- bit 0 of RmiRecEnterFlags, EMUL_MMIO, is set
abbrev pub emulates_mmio : ℕ → Bool
emulates_mmio flags = flags % 2 == 1

-- bit 1 of RmiRecEnterFlags, INJECT_SEA, is set
abbrev pub injects_sea : ℕ → Bool
injects_sea flags = flags / 2 % 2 == 1

-- bit 2 of RmiRecEnterFlags, TRAP_WFI, is set
abbrev pub traps_wfi : ℕ → Bool
traps_wfi flags = flags / 4 % 2 == 1

-- bit 3 of RmiRecEnterFlags, TRAP_WFE, is set
abbrev pub traps_wfe : ℕ → Bool
traps_wfe flags = flags / 8 % 2 == 1

-- bit 4 of RmiRecEnterFlags, RIPAS_RESPONSE, is set: the host rejects a RIPAS change
abbrev pub rejects_ripas : ℕ → Bool
rejects_ripas flags = flags / 16 % 2 == 1

-- ---- RmiRecExit

-- the number that encodes an exit reason, as in RmiRecExitReason
abbrev pub reason_code : ExitReason → ℕ
reason_code Sync = 0
reason_code Irq = 1
reason_code Psci = 3
reason_code RipasChange = 4
reason_code HostCall = 5

-- Word k of a run page, k from 256 to 511: the field of the exit in this word, or 0 if there is none.
abbrev pub exit_word : RecExit → ℕ → ℕ
exit_word e k =
    if k == 256 then reason_code e.reason else
    (if k == 288 then e.esr else
    (if k == 289 then e.far else
    (if k == 290 then e.hpfar else
    (if k == 320 then e.gpr0 else
    (if k == 321 then e.gpr1 else
    (if k == 322 then e.gpr2 else
    (if k == 323 then e.gpr3 else
    (if k == 416 then e.ripas_base else
    (if k == 417 then e.ripas_top else
    (if k == 418 then e.ripas else
    (if k == 448 then e.imm else 0)))))))))))

-- an exit with the given reason, and with 0 in all other fields
abbrev pub only_reason : ExitReason → RecExit
only_reason reason = record { reason = reason; esr = 0; far = 0; hpfar = 0; gpr0 = 0; gpr1 = 0; gpr2 = 0; gpr3 = 0; ripas_base = 0; ripas_top = 0; ripas = 0; imm = 0 }
