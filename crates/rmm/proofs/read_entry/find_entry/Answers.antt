use Rattle.std.proofs.Common.{◌≡◌, Some, rules}
use Rattle.rmm_model.specs.Check.{first_failing}
use Rattle.rmm_model.specs.Command.Operand.{rd_checks, realm_at, ipa_checks}
use Rattle.rmm_model.specs.Command.RttReadEntry.{rtt_read_entry}
use Rattle.rmm.proofs.Checks.{failed}
use Rattle.rmm.proofs.read_entry.find_entry.Goals as goal

pub returns-in_err-owner-clause-refusal : goal.returns-in_err-owner-clause-refusal
unfolding rtt_read_entry
returns-in_err-owner-clause-refusal g c =
    let m = c.args.granules.now in
    let realm = realm_at m c.args.rd in
    let fails : Some c.in_err-owner.field-0.0 ≡ first_failing (rtt_read_entry c.args.rd c.args.ipa c.args.level m).checks =
    failed (rd_checks m c.args.rd) (ipa_checks realm realm.start_level c.args.level 0 c.args.ipa) c.in_err-owner.field-0.0 c.in_err-owner.ensures.refusal in
    search rules
