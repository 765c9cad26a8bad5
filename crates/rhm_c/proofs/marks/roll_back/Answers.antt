use Rattle.std.proofs.Common.{Option, refl, ap, subst, ◌∙◌}
use Rattle.host_ledger.specs.declared.mark.Mark.{Mark}
use Rattle.rhm_c.specs.Answer.{refused_as}
use Rattle.rhm_c.specs.Undoing.{IsBackTo}
use Rattle.rhm_c.proofs.marks.roll_back.Goals as goal

pub returns-in-Some : goal.returns-in-Some
returns-in-Some c =
    subst (λ (o : Option Mark). IsBackTo o c.args.host.now c.args.build c.counted.result c.rollback_to.new.self) c.in-Some.ensures.value
    (record { result = c.rollback_to.result; is_result = c.rollback_to.ensures; given_is = c.counted.ensures })

pub returns-in-None : goal.returns-in-None
returns-in-None c =
    subst (λ (o : Option Mark). IsBackTo o c.args.host.now c.args.build c.refused.result c.args.host.now) c.in-None.ensures.value
    (c.refused.ensures ∙ ap refused_as c.refusal_without_mark.ensures, refl)
