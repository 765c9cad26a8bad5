-- The encoding of RMI calls in registers: the function identifier in X0, and the operands in X1 to X5. RMM 1.0, RMI
-- function identifiers; SMCCC 1.2, SMC64 fast calls.
use Rattle.std.specs.Prelude.{ℕ, ◌==◌, nat_le, Option, Some, None, if◌then◌else◌}
use Rattle.rmi_abi.specs.declared.call.Call.{Call}
use Rattle.rmi_abi.specs.declared.call.Call.TheVariants.{Version, GranuleDelegate, GranuleUndelegate, DataCreate, DataCreateUnknown, DataDestroy, RealmActivate, RealmCreate, RealmDestroy, RecCreate, RecDestroy, RecEnter}
use Rattle.rmi_abi.specs.declared.call.Call.TheVariants.{RttCreate, RttDestroy, RttMapUnprotected, RttReadEntry, RttUnmapUnprotected, PsciComplete, Features, RttFold, RecAuxCount, RttInitRipas, RttSetRipas}
use Rattle.rmi_abi.specs.declared.registers.Registers.{Registers}

-- ---- from registers

-- the call that registers hold, if it is a known call with a function identifier up to that of REC_ENTER, and None
-- otherwise
abbrev pub first_call_in : Registers → Option Call
first_call_in r =
    if r.x0 == 0xC4000150 then Some (Version r.x1) else
    (if r.x0 == 0xC4000151 then Some (GranuleDelegate r.x1) else
    (if r.x0 == 0xC4000152 then Some (GranuleUndelegate r.x1) else
    (if r.x0 == 0xC4000153 then Some (DataCreate r.x1 r.x2 r.x3 r.x4 r.x5) else
    (if r.x0 == 0xC4000154 then Some (DataCreateUnknown r.x1 r.x2 r.x3) else
    (if r.x0 == 0xC4000155 then Some (DataDestroy r.x1 r.x2) else
    (if r.x0 == 0xC4000157 then Some (RealmActivate r.x1) else
    (if r.x0 == 0xC4000158 then Some (RealmCreate r.x1 r.x2) else
    (if r.x0 == 0xC4000159 then Some (RealmDestroy r.x1) else
    (if r.x0 == 0xC400015A then Some (RecCreate r.x1 r.x2 r.x3) else
    (if r.x0 == 0xC400015B then Some (RecDestroy r.x1) else
    (if r.x0 == 0xC400015C then Some (RecEnter r.x1 r.x2) else None)))))))))))

-- the call that registers hold, if it is a known call with a function identifier from that of RTT_CREATE on, and None
-- otherwise
abbrev pub last_call_in : Registers → Option Call
last_call_in r =
    if r.x0 == 0xC400015D then Some (RttCreate r.x1 r.x2 r.x3 r.x4) else
    (if r.x0 == 0xC400015E then Some (RttDestroy r.x1 r.x2 r.x3) else
    (if r.x0 == 0xC400015F then Some (RttMapUnprotected r.x1 r.x2 r.x3 r.x4) else
    (if r.x0 == 0xC4000161 then Some (RttReadEntry r.x1 r.x2 r.x3) else
    (if r.x0 == 0xC4000162 then Some (RttUnmapUnprotected r.x1 r.x2 r.x3) else
    (if r.x0 == 0xC4000164 then Some (PsciComplete r.x1 r.x2 r.x3) else
    (if r.x0 == 0xC4000165 then Some (Features r.x1) else
    (if r.x0 == 0xC4000166 then Some (RttFold r.x1 r.x2 r.x3) else
    (if r.x0 == 0xC4000167 then Some (RecAuxCount r.x1) else
    (if r.x0 == 0xC4000168 then Some (RttInitRipas r.x1 r.x2 r.x3) else
    (if r.x0 == 0xC4000169 then Some (RttSetRipas r.x1 r.x2 r.x3 r.x4) else None))))))))))

-- The call that registers hold, or None if the function is unknown.
abbrev pub call_in : Registers → Option Call
call_in r = if nat_le r.x0 0xC400015C then first_call_in r else last_call_in r

-- ---- to registers

-- the registers with a function identifier in X0, values in X1 to X4, and zeros after them
abbrev pub registers : ℕ → ℕ → ℕ → ℕ → ℕ → Registers
registers function x1 x2 x3 x4 = record { x0 = function; x1 = x1; x2 = x2; x3 = x3; x4 = x4; x5 = 0; x6 = 0 }

-- The registers that encode a call, with its function identifier, its operands, and zeros after them.
abbrev pub registers_of : Call → Registers
registers_of (Version requested) = registers 0xC4000150 requested 0 0 0
registers_of (GranuleDelegate address) = registers 0xC4000151 address 0 0 0
registers_of (GranuleUndelegate address) = registers 0xC4000152 address 0 0 0
registers_of (DataCreate rd page ipa source flags) = record (registers 0xC4000153 rd page ipa source) { x5 = flags }
registers_of (DataCreateUnknown rd page ipa) = registers 0xC4000154 rd page ipa 0
registers_of (DataDestroy rd ipa) = registers 0xC4000155 rd ipa 0 0
registers_of (RealmActivate rd) = registers 0xC4000157 rd 0 0 0
registers_of (RealmCreate rd params) = registers 0xC4000158 rd params 0 0
registers_of (RealmDestroy rd) = registers 0xC4000159 rd 0 0 0
registers_of (RecCreate rd rec params) = registers 0xC400015A rd rec params 0
registers_of (RecDestroy rec) = registers 0xC400015B rec 0 0 0
registers_of (RecEnter rec run) = registers 0xC400015C rec run 0 0
registers_of (RttCreate rd rtt ipa level) = registers 0xC400015D rd rtt ipa level
registers_of (RttDestroy rd ipa level) = registers 0xC400015E rd ipa level 0
registers_of (RttMapUnprotected rd ipa level descriptor) = registers 0xC400015F rd ipa level descriptor
registers_of (RttReadEntry rd ipa level) = registers 0xC4000161 rd ipa level 0
registers_of (RttUnmapUnprotected rd ipa level) = registers 0xC4000162 rd ipa level 0
registers_of (PsciComplete calling target status) = registers 0xC4000164 calling target status 0
registers_of (Features index) = registers 0xC4000165 index 0 0 0
registers_of (RttFold rd ipa level) = registers 0xC4000166 rd ipa level 0
registers_of (RecAuxCount rd) = registers 0xC4000167 rd 0 0 0
registers_of (RttInitRipas rd base top) = registers 0xC4000168 rd base top 0
registers_of (RttSetRipas rd rec base top) = registers 0xC4000169 rd rec base top

-- ---- operands

-- the number of a call's operands, which are in X1 and the registers after it
abbrev pub operand_count : Call → ℕ
operand_count (Version requested) = 1
operand_count (GranuleDelegate address) = 1
operand_count (GranuleUndelegate address) = 1
operand_count (DataCreate rd page ipa source flags) = 5
operand_count (DataCreateUnknown rd page ipa) = 3
operand_count (DataDestroy rd ipa) = 2
operand_count (RealmActivate rd) = 1
operand_count (RealmCreate rd params) = 2
operand_count (RealmDestroy rd) = 1
operand_count (RecCreate rd rec params) = 3
operand_count (RecDestroy rec) = 1
operand_count (RecEnter rec run) = 2
operand_count (RttCreate rd rtt ipa level) = 4
operand_count (RttDestroy rd ipa level) = 3
operand_count (RttMapUnprotected rd ipa level descriptor) = 4
operand_count (RttReadEntry rd ipa level) = 3
operand_count (RttUnmapUnprotected rd ipa level) = 3
operand_count (PsciComplete calling target status) = 3
operand_count (Features index) = 1
operand_count (RttFold rd ipa level) = 3
operand_count (RecAuxCount rd) = 1
operand_count (RttInitRipas rd base top) = 3
operand_count (RttSetRipas rd rec base top) = 4

-- the value x of register k if the register holds one of the first `count` operands, and 0 otherwise
abbrev pub operand : ℕ → ℕ → ℕ → ℕ
operand count k x = if nat_le k count then x else 0

-- The registers with their function identifier and first `count` operands, and zeros after those.
abbrev pub with_operands : ℕ → Registers → Registers
with_operands count r = record {
  x0 = r.x0;
  x1 = operand count 1 r.x1;
  x2 = operand count 2 r.x2;
  x3 = operand count 3 r.x3;
  x4 = operand count 4 r.x4;
  x5 = operand count 5 r.x5;
  x6 = operand count 6 r.x6;
}
