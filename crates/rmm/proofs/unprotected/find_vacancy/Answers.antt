use Rattle.std.proofs.Common.{◌≡◌, [], ◌∷◌, not, Some, rules}
use Rattle.rmm_model.specs.declared.condition.Condition.TheVariants.{LevelBound, DescBound}
use Rattle.rmm_model.specs.Check.{check, first_failing, error_input, error_rtt}
use Rattle.rmm_model.specs.Entry.{is_unassigned_ns}
use Rattle.rmm_model.specs.Walk.{entry_at, walk}
use Rattle.rmm_model.specs.Command.Operand.{rd_checks, realm_at, unprotected_checks, entry_checks}
use Rattle.rmm_model.specs.Command.RttMapUnprotected.{rtt_map_unprotected, is_descriptor}
use Rattle.rmm.proofs.Checks.{first_fails}
use Rattle.rmm.proofs.unprotected.find_vacancy.Goals as goal

pub returns-in_err-owner-clause-refusal : goal.returns-in_err-owner-clause-refusal
unfolding rtt_map_unprotected
returns-in_err-owner-clause-refusal g c =
    let m = c.args.granules.now in
    let realm = realm_at m c.args.rd in
    let found = walk m realm c.args.ipa c.args.level in
    let fails : Some c.in_err-owner.field-0.0 ≡ first_failing (rtt_map_unprotected c.args.rd c.args.ipa c.args.level c.args.desc m).checks =
    first_fails (rd_checks m c.args.rd) (unprotected_checks m.settings realm c.args.level c.args.ipa)
    (check DescBound (LevelBound ∷ []) (not (is_descriptor m.settings c.args.level c.args.desc)) error_input ∷ [])
    (entry_checks [] found c.args.level (is_unassigned_ns (entry_at m found c.args.ipa)) error_rtt) c.in_err-owner.field-0.0 c.in_err-owner.ensures.refusal in
    search rules
