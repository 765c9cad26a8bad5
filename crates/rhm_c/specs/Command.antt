-- The conversion of a C program's commands and build numbers to the host's commands and builds.
use Rattle.std.specs.Prelude.{ℕ, ◌==◌, ◌&&◌, Bool, nat_le, nat_lt, List, take, Option, Some, None, Result, Ok, Err, option_map, if◌then◌else◌}
use Rattle.std.specs.List.{list_all}
use Rattle.arrayvec.specs.ArrayVec.{ArrayVec}
use Rattle.host_commands.specs.declared.cmd.Cmd.{Cmd}
use Rattle.host_commands.specs.declared.cmd.Cmd.TheVariants.{Take, Fill, Peek, Delegate, Realm, Rtt, Ripas, Data, Unknown, Rec, Activate, Enter, Exit, Poke}
use Rattle.rhm_c.specs.declared.command.RawCommand.{RawCommand}

-- ---- the operands

-- each operand of the command, except the auxiliary pages, is in its range
abbrev pub operands_fit : RawCommand → Bool
operands_fit c =
    nat_le c.order 0xFF && nat_le c.page 0xFFFF && nat_le c.second 0xFFFF && nat_le c.ipa 0xFFFFFFFF && nat_le c.level 0xFF
    && nat_le c.count 0xFFFF && nat_le c.width 0xFF && nat_le c.rec 0xFFFF && nat_lt c.offset 4096 && nat_le c.value 0xFF
    && nat_lt c.run 64 && nat_le c.aux_count 16

abbrev pub is_page_number : ℕ → Bool
is_page_number page = nat_le page 0xFFFF

-- the auxiliary pages of a REC, if each of them is a valid page number
abbrev pub auxiliaries_in : List ℕ → Option (ArrayVec ℕ)
auxiliaries_in pages = if list_all is_page_number pages then Some (record { items = pages }) else None

-- ---- the commands

-- the command with the kind and the operands of a C structure, if the kind is from 0 to 5
abbrev pub command_of_kinds_0_to_5 : RawCommand → Option Cmd
command_of_kinds_0_to_5 c =
    if c.kind == 0 then Some (Take c.order) else
    (if c.kind == 1 then Some (Fill c.page c.value) else
    (if c.kind == 2 then Some (Peek c.page c.offset) else
    (if c.kind == 3 then Some (Delegate c.page) else
    (if c.kind == 4 then Some (Realm c.page c.second c.width) else
    (if c.kind == 5 then Some (Rtt c.page c.ipa c.level) else None)))))

abbrev pub command_of_kinds_6_to_9 : RawCommand → Option Cmd
command_of_kinds_6_to_9 c =
    if c.kind == 6 then Some (Ripas c.ipa c.count) else
    (if c.kind == 7 then Some (Data c.page c.ipa c.second) else
    (if c.kind == 8 then Some (Unknown c.page c.ipa) else
    (if c.kind == 9 then option_map (λ pages. Rec c.page pages) (auxiliaries_in (take c.aux_count c.aux)) else None)))

abbrev pub command_of_kinds_10_to_13 : RawCommand → Option Cmd
command_of_kinds_10_to_13 c =
    if c.kind == 10 then Some Activate else
    (if c.kind == 11 then Some (Enter c.rec) else
    (if c.kind == 12 then Some (Exit c.rec) else
    (if c.kind == 13 then Some (Poke c.rec c.ipa c.offset c.value) else None)))

-- The command that a C structure encodes, if it encodes one. There is none for an unknown kind, or if an operand is out
-- of its range.
abbrev pub command_in : RawCommand → Option Cmd
command_in c =
    if operands_fit c then (if nat_le c.kind 5 then command_of_kinds_0_to_5 c else (if nat_le c.kind 9 then command_of_kinds_6_to_9 c else command_of_kinds_10_to_13 c)) else None

-- ---- builds

-- the build with this number, if the number is below 8: a host has at most eight builds
abbrev pub build_in : ℕ → Option ℕ
build_in build = if nat_lt build 8 then Some build else None

-- the status for a build that does not exist
abbrev pub no_such_build : ℕ
no_such_build = 1

-- the status for a structure that encodes no command
abbrev pub no_command : ℕ
no_command = 15

abbrev pub asked_of : ℕ → Option Cmd → Result (ℕ × Cmd) ℕ
asked_of build (Some cmd) = Ok (build, cmd)
asked_of build None = Err no_command

-- The build and the command that a C program asks for, or the status that says why one of them is not valid.
abbrev pub command_asked : ℕ → RawCommand → Result (ℕ × Cmd) ℕ
command_asked build raw = elim (build_in build) [ Some number ↦ asked_of number (command_in raw) | None ↦ Err no_such_build ]
