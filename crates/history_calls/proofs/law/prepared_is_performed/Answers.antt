use Rattle.std.proofs.Common.{ℕ, refl}
use Rattle.host_commands.specs.declared.cmd.Cmd.{Cmd}
use Rattle.host_commands.specs.declared.cmd.Cmd.TheVariants.{Peek}
use Rattle.host_ledger.specs.View.{HostView}
use Rattle.history_calls.specs.Prepared.{IsPreparedAsAsked}
use Rattle.history_calls.proofs.law.prepared_is_performed.Goals as goal

prepared_as_asked : (host : HostView) (build : ℕ) (cmd : Cmd) → IsPreparedAsAsked host build cmd
prepared_as_asked host build (Peek page offset) other = cc
prepared_as_asked host build _ other = refl

pub returns : goal.returns
returns c = λ host build cmd. prepared_as_asked host build cmd
