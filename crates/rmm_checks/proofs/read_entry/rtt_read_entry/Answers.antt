use Rattle.std.proofs.Common.{subst, ℕ}
use Rattle.rmm_model.specs.Command.RttReadEntry.{rtt_read_entry}
use Rattle.rmm_model.specs.Command.Operand.{realm_at, ipa_checks}
use Rattle.rmm_checks.specs.Evaluated.{Adds}
use Rattle.rmm_checks.proofs.Rows.{on, from_none}
use Rattle.rmm_checks.proofs.read_entry.rtt_read_entry.Goals as goal

pub returns : goal.returns
unfolding rtt_read_entry
returns g c =
    from_none c.new-checks.ensures
    (on c.add_rd.ensures.rows (subst (λ (least : ℕ). Adds c.add_rd.new.checks (ipa_checks (realm_at c.args.granules.now c.args.rd) least c.args.level 0 c.args.ipa) c.add_ipa.new.checks) c.start_level_at-least.ensures.value c.add_ipa.ensures.rows))
