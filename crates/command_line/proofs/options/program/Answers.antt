use Rattle.std.proofs.Common.{true, ap}
use Rattle.clap.specs.Words.{App}
use Rattle.command_line.proofs.options.program.Goals as goal

pub returns : goal.returns
returns c =
    rw (c.subcommand_required.ensures, c.about-named.ensures, c.version.ensures)
    (ap (λ (a : App). record a { top = record a.top { has_version = true; subcommand_required = true } }) c.new.ensures.app)
