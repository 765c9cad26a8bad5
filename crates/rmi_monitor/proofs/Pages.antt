-- The proof that the host's read of a byte of a granule changes nothing.
use Rattle.std.proofs.Common.{◌≡◌, ℕ, Bool, true, false, [], cond, Ok, Err, refl}
use Rattle.realm_model.specs.Update.{machine_after_all}
use Rattle.realm_model.specs.Command.Check.{check, error_input, is_undelegated}
use Rattle.realm_model.specs.Command.Granule.{host_peek}
use Rattle.rmi_monitor.specs.View.{MonitorView, seen_in, after_command}

-- the read of a byte changes nothing, whether or not it is refused
pub after_peek : (monitor : MonitorView) (granule : ℕ) → monitor ≡ after_command (host_peek (seen_in monitor granule)) monitor
unfolding check machine_after_all
after_peek monitor granule = by_test (is_undelegated (seen_in monitor granule))
  where
    by_test : (t : Bool) → monitor ≡ after_command (cond t (Ok []) (Err error_input)) monitor
    by_test true = refl
    by_test false = refl
