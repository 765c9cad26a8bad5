-- Examples of realm measurements, and of the bytes of the measurement events that extend them.
use Rattle.std.proofs.Common.{◌≡◌, ℕ, List, [], ◌∷◌, ◌++◌, refl}
use Rattle.std.specs.Prelude.{replicate}
use Rattle.sha2.specs.Sha256.{sha256}
use Rattle.realm_model.specs.Measurement.{zero_measurement, measurement_after, data_event, ripas_event, rec_event}

measured : (old event : List ℕ) → measurement_after old event ≡ sha256 (old ++ event)
unfolding measurement_after
measured old event = refl

first-measured : zero_measurement ≡ replicate 32 0
unfolding zero_measurement
first-measured = refl

data-measured : (bytes : List ℕ) → data_event 67108863 bytes ≡ 1 ∷ 3 ∷ 255 ∷ 255 ∷ 255 ∷ sha256 bytes
unfolding data_event
data-measured bytes = refl

ram-measured : ripas_event 8 4 ≡ 2 ∷ 0 ∷ 0 ∷ 0 ∷ 8 ∷ 0 ∷ 0 ∷ 0 ∷ 4 ∷ []
unfolding ripas_event
ram-measured = refl

rec-measured : rec_event 258 ≡ 3 ∷ 0 ∷ 0 ∷ 1 ∷ 2 ∷ []
unfolding rec_event
rec-measured = refl
