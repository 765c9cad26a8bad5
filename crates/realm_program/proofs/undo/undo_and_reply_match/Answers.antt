use Rattle.std.proofs.Common.{◌≡◌, Some, None, sym, ◌∙◌}
use Rattle.std.specs.List.{last_or}
use Rattle.std.proofs.lemmas.Bool.{eqb-true, eq-eqb}
use Rattle.realm_model.proofs.Booleans.{true_false}
use Rattle.build_journal.proofs.Ends.{slice_get-last}
use Rattle.realm_program.proofs.Done.{undone_act, undone_kind, undone_from}
use Rattle.realm_program.proofs.undo.undo_and_reply_match.Goals.{then-takes_back, else-takes_back}
use Rattle.realm_program.proofs.undo.undo_and_reply_match.Goals as goal

pub returns-then-is_of_kind : goal.returns-then-is_of_kind
returns-then-is_of_kind c =
    let last : last_or None c.args.opened.now ≡ Some c.in-Some.newest.now = sym (slice_get-last c.args.opened.now) ∙ sym c.in-Some.ensures.value in (
      (λ t. elim c.if-takes_back.branch [
        | then-takes_back w ↦ undone_from c.args.opened.now c.args.undone.now c.in-Some.newest.now c.args.act.now last
            (c.takes_back.ensures.0 w.if-takes_back.true) (w.is_of_kind.ensures.0 (sym w.value-is ∙ c.if-is_of_kind.true)) (eqb-true _ _ t)
        | else-takes_back w ↦ absurd (true_false _ c.if-is_of_kind.true (w.value-is ∙ w.if-takes_back.false))
      ]),
      (λ h. eq-eqb _ _ h.left_is),
    )

pub returns-else-is_of_kind : goal.returns-else-is_of_kind
returns-else-is_of_kind c =
    let last : last_or None c.args.opened.now ≡ Some c.in-Some.newest.now = sym (slice_get-last c.args.opened.now) ∙ sym c.in-Some.ensures.value in (
      (λ t. absurd (true_false _ t c.if-is_of_kind.false)),
      (λ h. elim c.if-takes_back.branch [
        | then-takes_back w ↦ w.value-is ∙ w.is_of_kind.ensures.1 (undone_kind c.args.opened.now c.args.undone.now c.in-Some.newest.now c.args.act.now last h)
        | else-takes_back w ↦ absurd (true_false _ (c.takes_back.ensures.1 (undone_act c.args.opened.now c.args.undone.now c.in-Some.newest.now c.args.act.now last h)) w.if-takes_back.false)
      ]),
    )
