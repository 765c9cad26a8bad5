use Rattle.std.proofs.Common.{rules, ◌≡◌, List, [], Option, Some, None, string_bytes, sym, subst, ◌∙◌}
use Rattle.std.proofs.lemmas.Result.{IfOk-weaker}
use Rattle.rmm_checks.specs.declared.evaluated.EvaluatedCheck.{EvaluatedCheck}
use Rattle.trace_program.specs.Refusal.{TellsDecision}
use Rattle.trace_program.proofs.Refused.{no_checks}
use Rattle.trace_program.proofs.session.Session.refusal.Goals as goal

pub returns-in-Some : goal.returns-in-Some
returns-in-Some c =
    let some = sym c.in-Some.is ∙ c.checks.ensures in
    IfOk-weaker c.checks_text.result _ _ (λ text e. (
      λ none. let not = some ∙ no_checks _ c.args.self.now.reply c.args.self.now.machine none in absurd (cc),
      subst (λ (it : Option (List EvaluatedCheck)). TellsDecision it (string_bytes text)) some e,
    )) c.checks_text.ensures

pub returns-in-None : goal.returns-in-None
returns-in-None c =
    let empty : string_bytes c.new.result ≡ [] = search rules in (
      λ none. empty,
      subst (λ (it : Option (List EvaluatedCheck)). TellsDecision it (string_bytes c.new.result)) (sym c.in-None.is ∙ c.checks.ensures) empty,
    )
