use Rattle.std.proofs.Common.{◌∙◌, refl, codes}
use Rattle.std.specs.Str.Parse.{ParsesUnsigned, ExplainsUnsignedError, HasUnsignedDigitsIfOk}
use Rattle.clap.specs.Words.{found_of, rows_of}
use Rattle.clap.proofs.WalkLemmas.{one_text-rows}
use Rattle.command_line.proofs.OptionTexts.{erase_from}
use Rattle.command_line.proofs.options.erased.Goals as goal

pub returns : goal.returns
returns c =
    let found = found_of c.args.matches.now in
    rw c.build_of.ensures
    (erase_from (rows_of found) _ c.get_one.result (λ bs r. ParsesUnsigned 8 10 bs r × ExplainsUnsignedError 10 bs r × HasUnsignedDigitsIfOk bs r) (λ t r g. g.0)
    c.requires refl
    (λ e. c.get_one.ensures.none (one_text-rows found (codes "erase") ∙ e))
    (λ t e. c.get_one.ensures.value t (one_text-rows found (codes "erase") ∙ e)))
