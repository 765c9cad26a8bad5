use Rattle.std.proofs.Common.{◌≡◌, Some, codes, ap, pos}
use Rattle.clap.specs.Words.{Rule}
use Rattle.clap.specs.declared.builder.action.ArgAction.TheVariants.{Set}
use Rattle.clap.specs.declared.builder.value_parser.ValueParser.TheVariants as parser
use Rattle.command_line.proofs.options.erase.Goals as goal

pub returns-clause-rule : goal.returns-clause-rule
returns-clause-rule c =
    let ends = c.new-2.ensures in
    let range : c.range.result ≡ parser.Signed (pos 0) (pos 7) = rw (c.value_parser.ensures, ends.start, ends.end) at c.range.ensures in
    let given = c.value_parser-2.ensures.given in
    rw (c.value_parser-2.ensures.others, given.1, given.2, range, c.action.ensures, c.help.ensures, c.value_name.ensures, c.long.ensures)
    (ap (λ (r : Rule). record r { long = Some (codes "erase"); value_names = 1; action = Some Set; parser = Some (parser.Signed (pos 0) (pos 7)) }) c.new.ensures.rule)

pub returns-clause-local : goal.returns-clause-local
returns-clause-local c = rw (c.value_parser-2.ensures.others, c.action.ensures, c.help.ensures, c.value_name.ensures, c.long.ensures) c.new.ensures.optional.1
