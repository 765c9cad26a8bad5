use Rattle.std.proofs.Common.{◌∙◌, ap₂}
use Rattle.std.specs.Prelude.{◌||◌}
use Rattle.std.proofs.lemmas.Result.{IfOk-weaker}
use Rattle.clap.specs.Words.{with_rule}
use Rattle.command_line.proofs.realmhost.replay.Goals as goal

pub returns : goal.returns
returns c =
    let alone = c.subcommand.ensures in
    let option = c.erase.ensures in
    IfOk-weaker c.arg.result _ _
    (λ r h. (h.shape option.local ∙ ap₂ with_rule alone.app option.rule, h.globals ∙ ap₂ ◌||◌ alone.local option.local))
    c.arg.ensures
