use Rattle.std.proofs.Common.{◌∙◌, refl, sym, ap, subst}
use Rattle.std.specs.Prelude.{option_map}
use Rattle.std.proofs.lemmas.Bool.{false≢true}
use Rattle.clap.specs.Words.{subcommand_rows_of}
use Rattle.command_line.specs.Realmhost.{IsHostSubcommand}
use Rattle.command_line.specs.declared.realmhost.Line.TheVariants.{Run}
use Rattle.command_line.proofs.HostWords.{erase_of_host, run_is_asked}
use Rattle.command_line.proofs.Subcommands.{is_named, name_of_rows}
use Rattle.command_line.proofs.realmhost.line_of.Goals as goal

pub erased-requires : goal.erased-requires
erased-requires c =
    let known = c.requires in
    erase_of_host known.0 known.1 _ (ap (option_map (λ p. p.1)) (sym known.2) ∙ c.in-Some.ensures.rows)

pub returns-in-Some : goal.returns-in-Some
returns-in-Some c =
    let name = sym (name_of_rows c.args.matches.now _ refl) ∙ c.in-Some.ensures.found.0 refl in
    rw (is_named (subcommand_rows_of c.args.matches.now) _ _ name c.in-Some.ensures.rows) (refl, c.erased.ensures)

pub returns-in-None : goal.returns-in-None
returns-in-None c =
    let known = c.requires in
    subst (λ sub. IsHostSubcommand sub Run) (sym known.2)
    (run_is_asked known.0 known.1 (λ is. false≢true (c.in-None.ensures.found.1 (name_of_rows c.args.matches.now _ known.2 ∙ is))))
