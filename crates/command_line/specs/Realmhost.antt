-- The command line of `realmhost`: its `clap` definition, and the request that an accepted command line makes.
use Rattle.std.specs.Prelude.{◌≡◌, List, codes, true, Option, Some, None}
use Rattle.clap.specs.Words.{App, Row, Text, new_app, one_of, with_rule, with_subcommand}
use Rattle.command_line.specs.Options.{IsErase, erase_option, program_named}
use Rattle.command_line.specs.declared.realmhost.Line.{Line}
use Rattle.command_line.specs.declared.realmhost.Line.TheVariants.{Replay, Run}

abbrev pub replay_subcommand : App
replay_subcommand = with_rule (new_app (codes "replay")) erase_option

-- the subcommand `run`, which has no options
abbrev pub run_subcommand : App
run_subcommand = new_app (codes "run")

-- the program `realmhost` before its subcommands are added, with the subcommand `help` of `clap` disabled
abbrev pub realmhost_alone : App
realmhost_alone =
    let a = program_named (codes "realmhost") in
    record a { top = record a.top { disable_help_subcommand = true } }

unfoldable pub realmhost : App
realmhost = with_subcommand (with_subcommand realmhost_alone replay_subcommand.top) run_subcommand.top

-- the request is for the subcommand that `clap` found; a replay leaves out the build that `--erase` names
abbrev pub IsHostSubcommand : Option (Text × List Row) → Line → Type 0
IsHostSubcommand None line = ⊥
IsHostSubcommand (Some found) (Replay erase) = (found.0 ≡ codes "replay") × IsErase (one_of (codes "erase") found.1) erase
IsHostSubcommand (Some found) Run = found.0 ≡ codes "run"
