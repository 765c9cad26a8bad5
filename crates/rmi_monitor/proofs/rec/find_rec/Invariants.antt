use Rattle.std.proofs.Common.{◌≡◌, ◌<◌, ℕ, Some}
use Rattle.realm_model.specs.Machine.{RecRow}
use Rattle.rmi_monitor.specs.Inside.{rec_of}
use Rattle.rmi_monitor.proofs.rec.find_rec.Given as goal

abbrev pub invariant-granules : goal.invariant-granules
invariant-granules l = (granule : ℕ) → granule < l.place → (row : RecRow) → rec_of l.granules l.recs l.rd granule ≡ Some (l.number, row) → ⊥
