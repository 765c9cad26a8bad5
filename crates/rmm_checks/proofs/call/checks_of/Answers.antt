use Rattle.std.proofs.Common.{List, ap, ◌∙◌}
use Rattle.rmm_model.specs.Allowed.{allowed_words, or_success}
use Rattle.rmm_model.specs.Call.{command_of}
use Rattle.rmm_checks.specs.declared.evaluated.EvaluatedCheck.{EvaluatedCheck}
use Rattle.rmm_checks.specs.Evaluated.{failed_words, first_failed}
use Rattle.rmm_checks.proofs.Ordered.{ordered}
use Rattle.rmm_checks.proofs.Refusals.{first_failed-evaluated, failed_words-evaluated}
use Rattle.rmm_checks.proofs.call.checks_of.Goals as goal

pub returns-clause-deciding : goal.returns-clause-deciding
returns-clause-deciding g c =
    ap first_failed c.evaluate.ensures
    ∙ first_failed-evaluated (command_of c.args.call c.args.granules.now).checks (ordered c.args.call c.args.granules.now)

pub returns-clause-words : goal.returns-clause-words
unfolding allowed_words
returns-clause-words g c =
    ap (λ (rows : List EvaluatedCheck). or_success (failed_words rows)) c.evaluate.ensures
    ∙ ap or_success (failed_words-evaluated (command_of c.args.call c.args.granules.now).checks)
