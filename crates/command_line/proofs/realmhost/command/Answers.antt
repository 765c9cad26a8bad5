use Rattle.std.proofs.Common.{◌∙◌, ap, ap₂}
use Rattle.std.proofs.lemmas.Result.{IfOk-weaker}
use Rattle.clap.specs.Words.{App, with_subcommand}
use Rattle.command_line.specs.Realmhost.{realmhost}
use Rattle.command_line.proofs.realmhost.command.Goals as goal

pub returns : goal.returns
unfolding realmhost
returns c =
    let run = c.subcommand.ensures in
    IfOk-weaker c.subcommand-2.result _ _
    (λ r h. h.shape run.local ∙ ap₂ with_subcommand c.in_ok-with_replay.ensures (ap (λ (a : App). a.top) run.app))
    c.subcommand-2.ensures
