-- Parts of `clap` command lines, such as the option `--erase` and the file argument, and the condition that values have
-- passed their parsers.
use Rattle.std.specs.Prelude.{◌≡◌, ℕ, List, [], ◌∷◌, true, codes, Option, Some, None, Ok, pos, if◌then◌else◌}
use Rattle.std.specs.Str.{bytes_eq}
use Rattle.std.specs.Str.Parse.{ParsesUnsigned}
use Rattle.clap.specs.Faults.{values_fault}
use Rattle.clap.specs.Simple.{filled}
use Rattle.clap.specs.Walk.{reading_by}
use Rattle.clap.specs.Words.{App, Row, Rule, Text, found_of, new_app, new_rule, rows_of}
use Rattle.clap.specs.declared.builder.action.ArgAction.TheVariants.{Set}
use Rattle.clap.specs.declared.builder.value_parser.ValueParser.TheVariants as parser
use Rattle.clap.specs.declared.parser.matches.ArgMatches.{ArgMatches}

-- a program with this name, which has a version and requires a subcommand
abbrev pub program_named : Text → App
program_named name =
    let a = new_app name in
    record a { top = record a.top { has_version = true; subcommand_required = true } }

-- the option `--erase B`, where B is a number from 0 to 7
abbrev pub erase_option : Rule
erase_option = record (new_rule (codes "erase")) { long = Some (codes "erase"); value_names = 1; action = Some Set; parser = Some (parser.Signed (pos 0) (pos 7)) }

-- ---- texts of options

-- The option `--erase` names this build: its text is read as the build's number, which is below 8. `clap` accepts no
-- other text. Without a text there is no build.
abbrev pub IsErase : Option Text → Option ℕ → Type 0
IsErase None erase = erase ≡ None
IsErase (Some text) None = ⊥
IsErase (Some text) (Some build) = ParsesUnsigned {E = Unit {0}} 3 10 text (Ok build)

-- the file that an argument names; none for the argument `-`, which means standard input
abbrev pub named_file : Text → Option Text
named_file text = if bytes_eq text (codes "-") then None else Some text

-- ---- values that have passed the parser of their option

-- each row of a list has the property; a row is an argument with the values that were given for it
abbrev pub Each : (Row → Type 0) → List Row → Type 0
Each P [] = Unit {0}
Each P (r ∷ rs) = P r × Each P rs

-- if a row has the id of this rule, its values have passed the rule's parser, and are to be read as the rule says
abbrev pub IsPassed : Rule → Row → Type 0
IsPassed a r = bytes_eq r.id a.id ≡ true → (values_fault a r.values ≡ []) × (r.reading ≡ reading_by a)

-- the rule of the option `--erase` once `clap` has built the command
abbrev pub built_erase : Rule
built_erase = filled erase_option

-- all values that were matched for an option have passed the option's parser
abbrev pub ArePassed : Rule → ArgMatches → Type 0
ArePassed rule matches = Each (IsPassed rule) (rows_of (found_of matches))
