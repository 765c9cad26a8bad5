use Rattle.std.proofs.Common.{◌∙◌, ap, map, subst, string_bytes}
use Rattle.std.proofs.lemmas.Bool.{and_parts}
use Rattle.std.proofs.lemmas.Result.{IfOk-weaker}
use Rattle.clap.specs.Words.{App, FailsBy, fault_of, is_simple_and_free, subcommand_of}
use Rattle.command_line.proofs.options.matched.Goals as goal

pub returns-clause-ok : goal.returns-clause-ok
returns-clause-ok c =
    λ app is free. let same = rw c.in_ok-program.was at is in
    IfOk-weaker c.try_get_matches_from.result _ _
    (λ m h. (h (and_parts _ _ (ap is_simple_and_free same ∙ free)).0).1 ∙ ap (λ (a : App). subcommand_of a (map string_bytes c.args.words.now)) same)
    c.try_get_matches_from.ensures.matches

pub returns-clause-kinds : goal.returns-clause-kinds
returns-clause-kinds c =
    λ app is free. let same = rw c.in_ok-program.was at is in
    subst (λ (a : App). FailsBy (fault_of a (map string_bytes c.args.words.now)) c.try_get_matches_from.result) same
    (c.try_get_matches_from.ensures.kinds (ap is_simple_and_free same ∙ free))
