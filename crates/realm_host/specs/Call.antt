-- The calls that append one event to a host's history: commands and undos.
use Rattle.host_commands.specs.declared.cmd.Cmd.{Cmd}

-- a command of a build, or the undo of its newest open operation
pub data Call : Type 0 where
  Ask : Cmd → Call
  Undo : Call
