-- The command RMI_DATA_CREATE: its checks, its answer and its effect.
use Rattle.std.specs.Prelude.{ℕ, ◌%◌, ◌==◌, ◌||◌, Bool, not, nat_le, List, [], ◌∷◌, ◌++◌, if◌then◌else◌}
use Rattle.rmi_abi.specs.declared.hash.HashAlgorithm.{HashAlgorithm}
use Rattle.rmi_abi.specs.declared.settings.RmmSettings.{RmmSettings}
use Rattle.rmm_model.specs.declared.measure.Extension.TheVariants.{Data as DataExtension}
use Rattle.rmm_model.specs.Bytes.{zeros}
use Rattle.rmm_model.specs.Measure.{digest, extended}
use Rattle.rmm_model.specs.declared.condition.Condition.TheVariants.{FlagsValid, SrcAlign, SrcBound, SrcPas, DataAlign, DataBound, DataState, RealmState, RtteState, RtteRipas}
use Rattle.rmm_model.specs.declared.entry.RmmRttEntry.{RmmRttEntry}
use Rattle.rmm_model.specs.declared.entry.RmmRttEntry.TheVariants.{Assigned}
use Rattle.rmm_model.specs.declared.entry.RmmRipas.TheVariants.{Ram}
use Rattle.rmm_model.specs.declared.granule.RmmGranuleState.TheVariants.{Data}
use Rattle.rmm_model.specs.declared.realm.RmmRealm.{RmmRealm}
use Rattle.rmm_model.specs.declared.realm.RttWalk.{RttWalk as Walked}
use Rattle.rmm_model.specs.Check.{Command, Check, check, success, error_input, error_rtt}
use Rattle.rmm_model.specs.Entry.{is_unassigned, is_ram, ripas_in}
use Rattle.rmm_model.specs.Granule.{of_realm}
use Rattle.rmm_model.specs.Machine.{Machine, page_in, number_of, with_granule, with_page, with_realm}
use Rattle.rmm_model.specs.Realm.{with_rim}
use Rattle.rmm_model.specs.Walk.{entry_at, with_entry, walk}
use Rattle.rmm_model.specs.Command.Operand.{host_checks, delegated_checks, rd_checks, realm_at, page_checks, new_checks, entry_checks}

-- ---- checks

-- no bit above bit 0 of the flags is set, unless the settings ignore these bits
abbrev pub are_flags_valid : RmmSettings → ℕ → Bool
are_flags_valid s flags = s.ignores_data_flags || nat_le flags 1

-- checks that the flags are valid, that the source is a page of the host, and that the new page's granule is DELEGATED
unfoldable pub source_checks : Machine → ℕ → ℕ → ℕ → List Check
source_checks m page source flags =
    check FlagsValid [] (not (are_flags_valid m.settings flags)) error_input
    ∷ host_checks SrcAlign SrcBound SrcPas m source ++ delegated_checks DataAlign DataBound DataState m page

-- the RIPAS of an entry is RAM, or the settings allow any RIPAS
abbrev pub is_ripas_right : RmmSettings → RmmRttEntry → Bool
is_ripas_right s entry = not s.data_needs_ram || is_ram (ripas_in entry)

-- checks that a walk reached an UNASSIGNED entry of level 3, with an allowed RIPAS
abbrev pub vacancy_checks : RmmSettings → Walked → RmmRttEntry → List Check
vacancy_checks s found entry =
    entry_checks (RealmState ∷ []) found 3 (is_unassigned entry) error_rtt
    ++ check RtteRipas (RtteState ∷ []) (not (is_ripas_right s entry)) (error_rtt found.level) ∷ []

-- checks that a page's IPA is in the protected half of a NEW realm, and has an UNASSIGNED entry of level 3
unfoldable pub target_checks : Machine → ℕ → ℕ → List Check
target_checks m rd ipa =
    let realm = realm_at m rd in
    let found = walk m realm ipa 3 in
    rd_checks m rd ++ page_checks realm ipa ++ new_checks realm ++ vacancy_checks m.settings found (entry_at m found ipa)

-- ---- the measurement

-- the digest of a page if bit 0 of the flags says that the page is measured, otherwise zeros
unfoldable pub content_digest : HashAlgorithm → ℕ → List ℕ → List ℕ
content_digest hash flags page = if flags % 2 == 1 then digest hash page else zeros 64

-- the measurement of a realm, extended by a page of data
unfoldable pub rim_with_data : RmmRealm → ℕ → ℕ → List ℕ → List ℕ
rim_with_data realm ipa flags page = extended realm.hash realm.rim (DataExtension ipa flags (content_digest realm.hash flags page))

-- ---- the command

-- A DELEGATED granule becomes a page of a NEW realm, with the bytes of a page of the host and RIPAS RAM. The
-- measurement is extended. RMM 1.0, RMI_DATA_CREATE.
unfoldable pub data_create : ℕ → ℕ → ℕ → ℕ → ℕ → Machine → Command
data_create rd page ipa source flags m =
    let realm = realm_at m rd in
    let granule = number_of m page in
    let content = page_in m (number_of m source) in
    let mapped = with_entry (with_page (with_granule m granule (of_realm (number_of m rd) Data)) granule content) (walk m realm ipa 3) ipa (Assigned Ram page) in
    record {
      checks = source_checks m page source flags ++ target_checks m rd ipa;
      answer = success;
      machine = with_realm mapped (number_of m rd) (with_rim realm (rim_with_data realm ipa flags content));
    }
