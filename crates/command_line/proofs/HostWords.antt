-- Proofs about accepted command lines of `realmhost`: the subcommand is `replay` or `run`, and a value of `--erase` has
-- passed its parser.
use Rattle.std.proofs.Common.{◌≡◌, List, [], ◌∷◌, refl, codes, inl}
use Rattle.std.specs.Prelude.{Some, option_map}
use Rattle.clap.specs.Simple.{built, filled, help_rule}
use Rattle.clap.specs.Words.{Row, Text, fault_of, subcommand_of}
use Rattle.command_line.specs.Options.{Each, IsPassed, built_erase}
use Rattle.command_line.specs.Realmhost.{IsHostSubcommand, realmhost}
use Rattle.command_line.specs.declared.realmhost.Line.TheVariants.{Run}
use Rattle.command_line.proofs.Passed.{AllAreOrAsk, AreOrAsk, others}
use Rattle.command_line.proofs.Subcommands.{IsKnown, by_name, last_is_asked, name_in, named_by, values_passed}

pub realmhost_is : IsKnown realmhost (codes "replay" ∷ codes "run" ∷ [])
unfolding realmhost
realmhost_is = record { is_free = refl; required = refl; named = named_by realmhost _ refl }

-- if a command line without a fault does not ask for a replay, it asks for a run
pub run_is_asked : (words : List Text) → fault_of realmhost words ≡ [] → ¬ (name_in (subcommand_of realmhost words) ≡ Some (codes "replay"))
    → IsHostSubcommand (subcommand_of realmhost words) Run
run_is_asked words e other =
    by_name (λ sub. IsHostSubcommand sub Run) (codes "run") (λ r is. is) _ (last_is_asked realmhost (codes "replay" ∷ []) (codes "run") realmhost_is words e (other, tt))

options_fit : AllAreOrAsk built_erase (built realmhost).subs
unfolding realmhost
options_fit =
    let help : AreOrAsk built_erase (filled help_rule ∷ []) = others built_erase (filled help_rule ∷ []) refl in
    ((inl refl, help), (help, tt))

pub erase_of_host : (words : List Text) → fault_of realmhost words ≡ [] → (rows : List Row) → option_map (λ p. p.1) (subcommand_of realmhost words) ≡ Some rows
    → Each (IsPassed built_erase) rows
erase_of_host words e = values_passed realmhost words e built_erase refl options_fit
