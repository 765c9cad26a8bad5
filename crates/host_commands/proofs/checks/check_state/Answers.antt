use Rattle.std.proofs.Common.{◌∙◌}
use Rattle.std.proofs.lemmas.Result.{err_from_is_err_and}
use Rattle.host_commands.specs.Checks.{realm_checks, journal_checks, room_checks, vmid_checks, state_checks}
use Rattle.host_commands.proofs.Refused.{by_first, by_second, by_third, by_last}
use Rattle.host_commands.proofs.checks.check_state.Goals as goal

pub returns-in_err-check_realm : goal.returns-in_err-check_realm
unfolding state_checks
returns-in_err-check_realm g c =
    let told = err_from_is_err_and c.from_residual.result c.from_residual.ensures.1 in
    let view = g.D.BuildsView.seen c.args.view.now in
    let needs = c.args.needs.now in
    rw (told.1, told.2) (by_first
    (realm_checks view c.args.build needs.realm) (journal_checks view c.args.build needs.paired) (room_checks view c.args.build needs.room)
    (vmid_checks view needs.vmid) _ c.in_err-check_realm.ensures)

pub returns-in_err-check_journal : goal.returns-in_err-check_journal
unfolding state_checks
returns-in_err-check_journal g c =
    let told = err_from_is_err_and c.from_residual-in_err-check_journal.result c.from_residual-in_err-check_journal.ensures.1 in
    let view = g.D.BuildsView.seen c.args.view.now in
    let needs = c.args.needs.now in
    rw (told.1, told.2) (by_second
    (realm_checks view c.args.build needs.realm) (journal_checks view c.args.build needs.paired) (room_checks view c.args.build needs.room)
    (vmid_checks view needs.vmid) _ c.in_ok-check_realm.ensures c.in_err-check_journal.ensures)

pub returns-in_err-check_room : goal.returns-in_err-check_room
unfolding state_checks
returns-in_err-check_room g c =
    let told = err_from_is_err_and c.from_residual-in_err-check_room.result c.from_residual-in_err-check_room.ensures.1 in
    let view = g.D.BuildsView.seen c.args.view.now in
    let needs = c.args.needs.now in
    rw (told.1, told.2) (by_third
    (realm_checks view c.args.build needs.realm) (journal_checks view c.args.build needs.paired) (room_checks view c.args.build needs.room) (vmid_checks view needs.vmid) _
    c.in_ok-check_realm.ensures c.in_ok-check_journal.ensures c.in_err-check_room.ensures)

pub returns : goal.returns
unfolding state_checks
returns g c =
    let view = g.D.BuildsView.seen c.args.view.now in
    let needs = c.args.needs.now in
    c.check_vmid.ensures
    ∙ by_last (realm_checks view c.args.build needs.realm) (journal_checks view c.args.build needs.paired) (room_checks view c.args.build needs.room) (vmid_checks view needs.vmid)
    c.in_ok-check_realm.ensures c.in_ok-check_journal.ensures c.in_ok-check_room.ensures
