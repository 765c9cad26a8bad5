-- The pages that a command names, in the sequence of its operands.
use Rattle.std.specs.Prelude.{ℕ, ◌+◌, nat_le, List, ◌∷◌, if◌then◌else◌}
use Rattle.std.specs.List.{range_with_len}
use Rattle.host_commands.specs.Needs.{operands, tables_named}
use Rattle.host_commands.specs.declared.cmd.Cmd.{Cmd}
use Rattle.host_commands.specs.declared.cmd.Cmd.TheVariants.{Realm}

-- the number of starting tables that a Realm command names for an IPA width; 1 if the page number of the last table
-- would exceed 16 bits
abbrev pub tables_within : ℕ → ℕ → ℕ
tables_within root width = if nat_le (root + tables_named width) 65536 then tables_named width else 1

-- the pages that a command names, in the sequence of its operands
abbrev pub pages_named : Cmd → List ℕ
pages_named (Realm rd root width) = rd ∷ range_with_len root (tables_within root width)
pages_named cmd = operands cmd
