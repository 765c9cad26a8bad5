use Rattle.std.proofs.Common.{ℕ, ◌-◌, ◌∷◌, ◌++◌, [], take, sym, ap, ◌∙◌}
use Rattle.realm_model.proofs.Stack.{pushed_paired, pushed_other}
use Rattle.build_journal.proofs.Follows.{pushed_taken}
use Rattle.realm_program.proofs.audit.follow.Goals as goal

pub returns-in_ok-push : goal.returns-in_ok-push
returns-in_ok-push c =
    c.in_ok-push.ensures.items ∙ ap (λ act. c.args.opened.now.items ++ act ∷ []) c.clone.ensures
    ∙ sym (pushed_paired c.args.opened.now.items c.args.act.now (sym c.if-is_paired.ensures))

pub returns-then-is_reverse : goal.returns-then-is_reverse
returns-then-is_reverse c =
    c.pop.ensures.rest ∙ ap (λ (n : ℕ). take (n - 1) c.args.opened.now.items) c.args.opened.now.ok.0
    ∙ pushed_taken c.args.opened.now.items c.args.act.now (sym c.if-is_paired.ensures) (sym c.if-is_reverse.ensures)

pub returns-else-is_reverse : goal.returns-else-is_reverse
returns-else-is_reverse c = sym (pushed_other c.args.opened.now.items c.args.act.now (sym c.if-is_paired.ensures) (sym c.if-is_reverse.ensures))
