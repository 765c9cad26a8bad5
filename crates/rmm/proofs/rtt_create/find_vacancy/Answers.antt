use Rattle.std.proofs.Common.{◌≡◌, ℕ, ◌+◌, ◌-◌, [], Bool, not, List, Some, rules, ap, ◌∙◌}
use Rattle.rmm_model.specs.declared.entry.RmmRttEntry.{RmmRttEntry}
use Rattle.rmm_model.specs.declared.realm.RmmRealm.{RmmRealm}
use Rattle.rmm_model.specs.declared.realm.RttWalk.{RttWalk}
use Rattle.rmm_model.specs.declared.condition.Condition.TheVariants.{RttAlign, RttBound, RttState}
use Rattle.rmm_model.specs.Check.{Check, first_failing, error_rtt}
use Rattle.rmm_model.specs.Entry.{is_table}
use Rattle.rmm_model.specs.Walk.{entry_at, walk}
use Rattle.rmm_model.specs.Command.Operand.{delegated_checks, rd_checks, realm_at, ipa_checks, entry_checks}
use Rattle.rmm_model.specs.Command.RttCreate.{rtt_create}
use Rattle.rmm.proofs.Checks.{first_fails, second_fails, third_fails, fourth_decides}
use Rattle.rmm.proofs.Walks.{end_of_walk}
use Rattle.rmm.proofs.rtt_create.find_vacancy.Goals as goal

pub returns-in_err-table-clause-refusal : goal.returns-in_err-table-clause-refusal
unfolding rtt_create
returns-in_err-table-clause-refusal g c =
    let m = c.args.granules.now in
    let realm = realm_at m c.args.rd in
    let found = walk m realm c.args.ipa (c.args.level - 1) in
    let first : List Check = delegated_checks RttAlign RttBound RttState m c.args.rtt in
    let second : List Check = rd_checks m c.args.rd in
    let third : List Check = ipa_checks realm (realm.start_level + 1) c.args.level 1 c.args.ipa in
    let fourth : List Check = entry_checks [] found (c.args.level - 1) (not (is_table (entry_at m found c.args.ipa))) error_rtt in
    let fails : Some c.in_err-table.field-0.0 ≡ first_failing (rtt_create c.args.rd c.args.rtt c.args.ipa c.args.level m).checks =
    first_fails first second third fourth c.in_err-table.field-0.0 c.in_err-table.ensures.refusal in
    search rules

pub returns-in_err-owner-clause-refusal : goal.returns-in_err-owner-clause-refusal
unfolding rtt_create
returns-in_err-owner-clause-refusal g c =
    let m = c.args.granules.now in
    let realm = realm_at m c.args.rd in
    let found = walk m realm c.args.ipa (c.args.level - 1) in
    let first : List Check = delegated_checks RttAlign RttBound RttState m c.args.rtt in
    let second : List Check = rd_checks m c.args.rd in
    let third : List Check = ipa_checks realm (realm.start_level + 1) c.args.level 1 c.args.ipa in
    let fourth : List Check = entry_checks [] found (c.args.level - 1) (not (is_table (entry_at m found c.args.ipa))) error_rtt in
    let fails : Some c.in_err-owner.field-0.0 ≡ first_failing (rtt_create c.args.rd c.args.rtt c.args.ipa c.args.level m).checks =
    second_fails first second third fourth c.in_err-owner.field-0.0 c.in_ok-table.ensures.refusal c.in_err-owner.ensures.refusal in
    search rules

pub returns-in_err-level-clause-refusal : goal.returns-in_err-level-clause-refusal
unfolding rtt_create
returns-in_err-level-clause-refusal g c =
    let m = c.args.granules.now in
    let realm = realm_at m c.args.rd in
    let found = walk m realm c.args.ipa (c.args.level - 1) in
    let first : List Check = delegated_checks RttAlign RttBound RttState m c.args.rtt in
    let second : List Check = rd_checks m c.args.rd in
    let third : List Check = ipa_checks realm (realm.start_level + 1) c.args.level 1 c.args.ipa in
    let fourth : List Check = entry_checks [] found (c.args.level - 1) (not (is_table (entry_at m found c.args.ipa))) error_rtt in
    let fails : Some c.in_err-level.field-0.0 ≡ first_failing (rtt_create c.args.rd c.args.rtt c.args.ipa c.args.level m).checks =
    third_fails first second third fourth c.in_err-level.field-0.0 c.in_ok-table.ensures.refusal c.in_ok-owner.ensures.refusal (c.in_err-level.ensures.refusal ∙ ap (λ (r : RmmRealm). first_failing (ipa_checks r (r.start_level + 1) c.args.level 1 c.args.ipa)) c.in_ok-owner.ensures.realm) in
    search rules

pub returns-in_err-check_entry-clause-refusal : goal.returns-in_err-check_entry-clause-refusal
unfolding rtt_create
returns-in_err-check_entry-clause-refusal g c =
    let m = c.args.granules.now in
    let realm = realm_at m c.args.rd in
    let found = walk m realm c.args.ipa (c.args.level - 1) in
    let first : List Check = delegated_checks RttAlign RttBound RttState m c.args.rtt in
    let second : List Check = rd_checks m c.args.rd in
    let third : List Check = ipa_checks realm (realm.start_level + 1) c.args.level 1 c.args.ipa in
    let fourth : List Check = entry_checks [] found (c.args.level - 1) (not (is_table (entry_at m found c.args.ipa))) error_rtt in
    let fails : Some c.in_err-check_entry.field-0.0 ≡ first_failing (rtt_create c.args.rd c.args.rtt c.args.ipa c.args.level m).checks =
    c.in_err-check_entry.ensures
    ∙ ap (λ (b : Bool). first_failing (entry_checks [] c.walk-found.result (c.in_ok-level.level - 1) b error_rtt)) (ap not c.is_table.ensures)
    ∙ ap (λ (l : ℕ). first_failing (entry_checks [] c.walk-found.result (l - 1) (not (is_table c.entry_at-parent.result)) error_rtt)) c.in_ok-level.ensures.level
    ∙ end_of_walk (λ (w : RttWalk) (e : RmmRttEntry). first_failing (entry_checks [] w (c.args.level - 1) (not (is_table e)) error_rtt))
    m _ _ c.args.ipa _ _ _ _ c.in_ok-owner.ensures.realm (ap (λ (l : ℕ). l - 1) c.in_ok-level.ensures.level) c.walk-found.ensures.value c.entry_at-parent.ensures.value
    ∙ fourth_decides first second third fourth c.in_ok-table.ensures.refusal c.in_ok-owner.ensures.refusal (c.in_ok-level.ensures.refusal ∙ ap (λ (r : RmmRealm). first_failing (ipa_checks r (r.start_level + 1) c.args.level 1 c.args.ipa)) c.in_ok-owner.ensures.realm) in
    search rules

pub returns-clause-refusal : goal.returns-clause-refusal
unfolding rtt_create
returns-clause-refusal g c =
    let m = c.args.granules.now in
    let realm = realm_at m c.args.rd in
    let found = walk m realm c.args.ipa (c.args.level - 1) in
    let first : List Check = delegated_checks RttAlign RttBound RttState m c.args.rtt in
    let second : List Check = rd_checks m c.args.rd in
    let third : List Check = ipa_checks realm (realm.start_level + 1) c.args.level 1 c.args.ipa in
    let fourth : List Check = entry_checks [] found (c.args.level - 1) (not (is_table (entry_at m found c.args.ipa))) error_rtt in
    c.in_ok-check_entry.ensures
    ∙ ap (λ (b : Bool). first_failing (entry_checks [] c.walk-found.result (c.in_ok-level.level - 1) b error_rtt)) (ap not c.is_table.ensures)
    ∙ ap (λ (l : ℕ). first_failing (entry_checks [] c.walk-found.result (l - 1) (not (is_table c.entry_at-parent.result)) error_rtt)) c.in_ok-level.ensures.level
    ∙ end_of_walk (λ (w : RttWalk) (e : RmmRttEntry). first_failing (entry_checks [] w (c.args.level - 1) (not (is_table e)) error_rtt))
    m _ _ c.args.ipa _ _ _ _ c.in_ok-owner.ensures.realm (ap (λ (l : ℕ). l - 1) c.in_ok-level.ensures.level) c.walk-found.ensures.value c.entry_at-parent.ensures.value
    ∙ fourth_decides first second third fourth c.in_ok-table.ensures.refusal c.in_ok-owner.ensures.refusal (c.in_ok-level.ensures.refusal ∙ ap (λ (r : RmmRealm). first_failing (ipa_checks r (r.start_level + 1) c.args.level 1 c.args.ipa)) c.in_ok-owner.ensures.realm)
