use Rattle.std.proofs.Common.{◌≡◌, ◌∙◌, true, ap, ap₂}
use Rattle.std.proofs.lemmas.Result.{IfOk-weaker}
use Rattle.clap.specs.Words.{App, app_of, with_subcommand}
use Rattle.command_line.specs.Realmhost.{realmhost_alone}
use Rattle.command_line.proofs.realmhost.with_replay.Goals as goal

pub returns : goal.returns
returns c =
    let replay = c.in_ok-replay.ensures in
    let alone : app_of c.disable_help_subcommand.result ≡ realmhost_alone =
    rw c.disable_help_subcommand.ensures (ap (λ (a : App). record a { top = record a.top { disable_help_subcommand = true } }) c.program.ensures) in
    IfOk-weaker c.subcommand.result _ _ (λ r h. h.shape replay.1 ∙ ap₂ with_subcommand alone (ap (λ (a : App). a.top) replay.0)) c.subcommand.ensures
