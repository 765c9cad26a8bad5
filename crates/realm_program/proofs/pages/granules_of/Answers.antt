use Rattle.std.proofs.Common.{[], ◌∷◌}
use Rattle.std.specs.List.{flat_map}
use Rattle.host_commands.specs.Needs.{operands}
use Rattle.realm_model.specs.History.{pages_held}
use Rattle.realm_program.specs.Fitting.{HaveNoGranules}
use Rattle.realm_program.proofs.Pushed.{none_of_first, none_of_second}
use Rattle.realm_program.proofs.pages.granules_of.Goals as goal

pub returns-in_err-push_granules-in-Realm-clause-none : goal.returns-in_err-push_granules-in-Realm-clause-none
unfolding operands
returns-in_err-push_granules-in-Realm-clause-none c =
    let none : HaveNoGranules (flat_map pages_held c.args.opened.now) (operands c.args.cmd.now) =
    rw c.in-Realm.is (none_of_first (flat_map pages_held c.args.opened.now) (c.in-Realm.rd ∷ []) _ c.in_err-push_granules-in-Realm.ensures.none) in
    rw c.from_residual-in_err-push_granules-in-Realm.ensures none

pub returns-in_err-push_run-in-Realm-clause-none : goal.returns-in_err-push_run-in-Realm-clause-none
unfolding operands
returns-in_err-push_run-in-Realm-clause-none c =
    let none : HaveNoGranules (flat_map pages_held c.args.opened.now) (operands c.args.cmd.now) =
    rw (c.in-Realm.is, ← c.tables_named.ensures.value) (none_of_second (flat_map pages_held c.args.opened.now) (c.in-Realm.rd ∷ []) _ c.in_err-push_run-in-Realm.ensures.none) in
    rw c.from_residual-in_err-push_run-in-Realm.ensures none

pub returns-in_err-push_granules-in-Rec-clause-none : goal.returns-in_err-push_granules-in-Rec-clause-none
unfolding operands
returns-in_err-push_granules-in-Rec-clause-none c =
    let none : HaveNoGranules (flat_map pages_held c.args.opened.now) (operands c.args.cmd.now) =
    rw c.in-Rec.is (none_of_first (flat_map pages_held c.args.opened.now) (c.in-Rec.page ∷ []) _ c.in_err-push_granules-in-Rec.ensures.none) in
    rw c.from_residual-in_err-push_granules-in-Rec.ensures none

pub returns-in_err-push_granules-in-Rec-2-clause-none : goal.returns-in_err-push_granules-in-Rec-2-clause-none
unfolding operands
returns-in_err-push_granules-in-Rec-2-clause-none c =
    let none : HaveNoGranules (flat_map pages_held c.args.opened.now) (operands c.args.cmd.now) =
    rw (c.in-Rec.is, ← c.as_slice.ensures.value) (none_of_second (flat_map pages_held c.args.opened.now) (c.in-Rec.page ∷ []) _ c.in_err-push_granules-in-Rec-2.ensures.none) in
    rw c.from_residual-in_err-push_granules-in-Rec-2.ensures none
