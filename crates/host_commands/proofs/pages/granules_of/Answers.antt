use Rattle.std.proofs.Common.{List, ℕ, Ok, Err, subst}
use Rattle.std.proofs.lemmas.Result.{err_from_is_err_and}
use Rattle.host_commands.specs.Needs.{operands}
use Rattle.host_commands.specs.PageLookup.{AreFoundNext}
use Rattle.host_commands.proofs.FoundNext.{all_found, one_not_found}
use Rattle.host_commands.proofs.pages.granules_of.Goals as goal

pub returns-in_err-find_operands-clause-err : goal.returns-in_err-find_operands-clause-err
returns-in_err-find_operands-clause-err g c =
    let told = err_from_is_err_and c.from_residual.result c.from_residual.ensures.1 in
    let view = g.D.BuildsView.seen c.args.view.now in
    rw (told.1, told.2) (one_not_found view c.args.build (operands c.args.cmd.now) c.in_err-find_operands.field-0.0 c.find_operands.new.found.items
    (subst (λ (old : List ℕ). AreFoundNext view c.args.build (operands c.args.cmd.now) old (Err c.in_err-find_operands.field-0.0) c.find_operands.new.found.items)
    c.new-granules.ensures c.in_err-find_operands.ensures))

pub returns-clause-ok : goal.returns-clause-ok
returns-clause-ok g c =
    let view = g.D.BuildsView.seen c.args.view.now in
    all_found view c.args.build (operands c.args.cmd.now) c.find_operands.new.found.items
    (subst (λ (old : List ℕ). AreFoundNext view c.args.build (operands c.args.cmd.now) old (Ok tt) c.find_operands.new.found.items) c.new-granules.ensures c.in_ok-find_operands.ensures)
