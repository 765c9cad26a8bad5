-- The RMI status codes, and the result words of refusals. RMM 1.0, RMI command return codes.
use Rattle.std.specs.Prelude.{ℕ, ◌+◌, ◌*◌}
use Rattle.realm_model.specs.declared.rmi.Rmi.{Rmi}
use Rattle.realm_model.specs.declared.rmi.Status.{Status}
use Rattle.realm_model.specs.declared.rmi.Status.TheVariants.{Input, Realm, Rec, Rtt}

abbrev pub status_code : Status → ℕ
status_code Input = 1
status_code Realm = 2
status_code Rec = 3
status_code Rtt = 4

abbrev pub result_word : Rmi → ℕ
result_word rmi = status_code rmi.status + 256 * rmi.index
