-- The value of the Realm Initial Measurement (RIM) in a new realm, and its extension by measurement events. RMM 1.0,
-- Realm measurement; the bytes of an event are this profile's own.
use Rattle.std.specs.Prelude.{ℕ, List, ◌∷◌, ◌++◌, replicate}
use Rattle.std.specs.Int.{to_be_bytes, w32}
use Rattle.sha2.specs.Sha256.{sha256}

-- the measurement that a realm begins with: 32 zero bytes
unfoldable pub zero_measurement : List ℕ
zero_measurement = replicate 32 0

-- SHA-256 of the old measurement followed by a measurement event's bytes
unfoldable pub measurement_after : List ℕ → List ℕ → List ℕ
measurement_after old event = sha256 (old ++ event)

-- the bytes of the measurement event for a page of data: 1, its IPA granule, and the digest of the page
unfoldable pub data_event : ℕ → List ℕ → List ℕ
data_event ipa page = 1 ∷ to_be_bytes w32 ipa ++ sha256 page

-- the bytes of the measurement event for pages that become RAM: 2, the first IPA granule, and the number of pages
unfoldable pub ripas_event : ℕ → ℕ → List ℕ
ripas_event ipa count = 2 ∷ to_be_bytes w32 ipa ++ to_be_bytes w32 count

-- the bytes of the measurement event for a REC: 3, and its number
unfoldable pub rec_event : ℕ → List ℕ
rec_event number = 3 ∷ to_be_bytes w32 number
