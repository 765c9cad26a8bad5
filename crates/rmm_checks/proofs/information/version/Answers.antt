use Rattle.std.proofs.Common.{not, ap}
use Rattle.rmm_model.specs.Command.Version.{version}
use Rattle.rmm_checks.proofs.Rows.{told, told_answer, from_none}
use Rattle.rmm_checks.proofs.information.version.Goals as goal

pub returns : goal.returns
unfolding version
returns g c =
    from_none c.new-checks.ensures
    (told_answer c.version_error.ensures (told (ap not c.is_version.ensures) c.add.ensures.rows))
