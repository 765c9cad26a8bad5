-- The initial measurement of a realm, and its extensions. RMM 1.0, Realm measurement, RmmMeasurementDescriptorData,
-- -Rec and -Ripas.
use Rattle.std.specs.Prelude.{ℕ, List, ◌++◌, slice_range}
use Rattle.std.specs.Int.{to_le_bytes, w64}
use Rattle.sha2.specs.Sha256.{sha256}
use Rattle.sha2.specs.Sha512.{sha512}
use Rattle.rmi_abi.specs.declared.hash.HashAlgorithm.{HashAlgorithm}
use Rattle.rmi_abi.specs.declared.hash.HashAlgorithm.TheVariants.{Sha256, Sha512}
use Rattle.rmi_abi.specs.declared.realm_params.RealmParams.{RealmParams}
use Rattle.rmm_model.specs.declared.measure.Extension.{Extension}
use Rattle.rmm_model.specs.declared.measure.Extension.TheVariants.{Data, Rec, Ripas}
use Rattle.rmm_model.specs.Bytes.{zeros}

abbrev pub word : ℕ → List ℕ
word number = to_le_bytes w64 number

-- the 64-byte digest of a message; a SHA-256 digest is followed by zeros
unfoldable pub digest : HashAlgorithm → List ℕ → List ℕ
digest Sha256 message = sha256 message ++ zeros 32
digest Sha512 message = sha512 message

-- ---- initial measurements

-- the bytes of an RmiRealmParams page with the measured parameters of a realm, and zeros elsewhere
abbrev pub params_bytes : RealmParams → List ℕ
params_bytes p = word p.flags ++ word p.s2sz ++ word p.sve_vl ++ word p.num_bps ++ word p.num_wps ++ word p.pmu_num_ctrs ++ word p.hash_algo ++ zeros 4040

-- The measurement of a new realm.
unfoldable pub initial : HashAlgorithm → RealmParams → List ℕ
initial hash p = digest hash (params_bytes p)

-- ---- extensions

-- the type of an extension's measurement descriptor
abbrev pub type_of : Extension → ℕ
type_of (Data ipa flags page) = 0
type_of (Rec params) = 1
type_of (Ripas base top) = 2

-- the measurement descriptor that begins with the given 0x50 bytes, followed by the content of an extension and zeros
abbrev pub with_content : List ℕ → Extension → List ℕ
with_content front (Data ipa flags page) = front ++ word ipa ++ word flags ++ page ++ zeros 96
with_content front (Rec params) = front ++ params ++ zeros 112
with_content front (Ripas base top) = front ++ word base ++ word top ++ zeros 160

-- a measurement descriptor of 256 bytes: its type, its length, the old RIM and the content
abbrev pub descriptor : List ℕ → Extension → List ℕ
descriptor rim extension = with_content (word (type_of extension) ++ word 0x100 ++ rim) extension

-- The measurement after an extension.
unfoldable pub extended : HashAlgorithm → List ℕ → Extension → List ℕ
extended hash rim extension = digest hash (descriptor rim extension)

-- ---- RECs

-- the bytes of an RmiRecParams page with the flags, the pc and the gprs 0 to 7 of a given page, and zeros elsewhere
abbrev pub rec_bytes : List ℕ → List ℕ
rec_bytes page = slice_range page 0 8 ++ zeros 504 ++ slice_range page 512 520 ++ zeros 248 ++ slice_range page 768 832 ++ zeros 3264

-- The digest of a REC's measured parameters: flags, pc and gprs 0 to 7.
unfoldable pub rec_digest : HashAlgorithm → List ℕ → List ℕ
rec_digest hash page = digest hash (rec_bytes page)
