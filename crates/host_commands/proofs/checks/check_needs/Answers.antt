use Rattle.std.proofs.Common.{◌≡◌, ℕ, List, Some, Ok, Err, ap, ◌∙◌}
use Rattle.std.proofs.lemmas.Result.{err_from_is_err_and}
use Rattle.host_commands.specs.declared.cmd.Cmd.{Cmd}
use Rattle.host_commands.specs.declared.refusal.Refusal.{Refusal}
use Rattle.host_commands.specs.BuildsSummary.{BuildsSummary}
use Rattle.host_commands.specs.Needs.{operands, needs_of}
use Rattle.host_commands.specs.Checks.{Check, checked, first_that_holds, build_checks, order_checks, page_checks, state_checks, checks_of}
use Rattle.host_commands.proofs.Refused.{none_of, some_of, is_checked_none, is_checked_some, by_first, by_second, by_third, by_last, all_there}
use Rattle.host_commands.proofs.checks.check_needs.Goals as goal

-- if one of the first three lists of checks gives a refusal, and no earlier list does, the command gets this refusal
module _ (view : BuildsSummary) (build : ℕ) (cmd : Cmd) (refusal : Refusal) where
  abbrev pages : List Check
  pages = page_checks view build (operands cmd)

  abbrev states : List Check
  states = state_checks view build (needs_of cmd)

  abbrev Refused : Type 0
  Refused = first_that_holds (checks_of view build cmd) ≡ Some refusal

  by_build : Err refusal ≡ checked (build_checks view build) → Refused
  unfolding checks_of
  by_build e = some_of (checks_of view build cmd) refusal (by_first (build_checks view build) (order_checks cmd) pages states refusal e)

  by_order : Ok tt ≡ checked (build_checks view build) → Err refusal ≡ checked (order_checks cmd) → Refused
  unfolding checks_of
  by_order build_is e = some_of (checks_of view build cmd) refusal (by_second (build_checks view build) (order_checks cmd) pages states refusal build_is e)

  by_page : Ok tt ≡ checked (build_checks view build) → Ok tt ≡ checked (order_checks cmd) → first_that_holds pages ≡ Some refusal → Refused
  unfolding checks_of
  by_page build_is order_is e = some_of (checks_of view build cmd) refusal
      (by_third (build_checks view build) (order_checks cmd) pages states refusal build_is order_is (is_checked_some pages refusal e))

pub returns-in_err-check_build-clause-refusal : goal.returns-in_err-check_build-clause-refusal
returns-in_err-check_build-clause-refusal g c =
    let told = err_from_is_err_and c.from_residual.result c.from_residual.ensures.1 in
    rw (told.1, told.2) (by_build (g.D.BuildsView.seen c.args.view.now) c.args.build c.args.cmd.now _ c.in_err-check_build.ensures)

pub returns-in_err-check_order-clause-refusal : goal.returns-in_err-check_order-clause-refusal
returns-in_err-check_order-clause-refusal g c =
    let told = err_from_is_err_and c.from_residual-in_err-check_order.result c.from_residual-in_err-check_order.ensures.1 in
    rw (told.1, told.2) (by_order (g.D.BuildsView.seen c.args.view.now) c.args.build c.args.cmd.now _ c.in_ok-check_build.ensures c.in_err-check_order.ensures)

pub returns-in_err-granules-clause-refusal : goal.returns-in_err-granules-clause-refusal
returns-in_err-granules-clause-refusal g c =
    let told = err_from_is_err_and c.from_residual-in_err-granules.result c.from_residual-in_err-granules.ensures.1 in
    rw (told.1, told.2) (by_page (g.D.BuildsView.seen c.args.view.now) c.args.build c.args.cmd.now _
    c.in_ok-check_build.ensures c.in_ok-check_order.ensures c.in_err-granules.ensures.err)

pub returns-in_err-check_state-clause-refusal : goal.returns-in_err-check_state-clause-refusal
unfolding checks_of
returns-in_err-check_state-clause-refusal g c =
    let told = err_from_is_err_and c.from_residual-in_err-check_state.result c.from_residual-in_err-check_state.ensures.1 in
    let view = g.D.BuildsView.seen c.args.view.now in
    let cmd = c.args.cmd.now in
    let pages = page_checks view c.args.build (operands cmd) in
    rw (told.1, told.2) (some_of (checks_of view c.args.build cmd) _ (
    c.in_err-check_state.ensures
    ∙ ap (λ needs. checked (state_checks view c.args.build needs)) c.needs.ensures
    ∙ by_last (build_checks view c.args.build) (order_checks cmd) pages (state_checks view c.args.build (needs_of cmd))
    c.in_ok-check_build.ensures c.in_ok-check_order.ensures (is_checked_none pages (all_there view c.args.build (operands cmd) c.in_ok-granules.granules.items c.in_ok-granules.ensures.ok))
    ))

pub returns-clause-none : goal.returns-clause-none
unfolding checks_of
returns-clause-none g c =
    let view = g.D.BuildsView.seen c.args.view.now in
    let cmd = c.args.cmd.now in
    let pages = page_checks view c.args.build (operands cmd) in
    none_of (checks_of view c.args.build cmd) (
    c.in_ok-check_state.ensures
    ∙ ap (λ needs. checked (state_checks view c.args.build needs)) c.needs.ensures
    ∙ by_last (build_checks view c.args.build) (order_checks cmd) pages (state_checks view c.args.build (needs_of cmd))
    c.in_ok-check_build.ensures c.in_ok-check_order.ensures (is_checked_none pages (all_there view c.args.build (operands cmd) c.in_ok-granules.granules.items c.in_ok-granules.ensures.ok))
    )
