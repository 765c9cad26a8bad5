-- The checks of operands that several RMI commands have in common. RMM 1.0, failure conditions of RMI commands.
use Rattle.std.specs.Prelude.{ℕ, ◌-◌, ◌%◌, ◌==◌, ◌&&◌, Bool, not, nat_le, List, [], ◌∷◌, ◌++◌, is_none, unwrap_or}
use Rattle.rmi_abi.specs.declared.registers.SmcResult.{SmcResult}
use Rattle.rmi_abi.specs.declared.settings.RmmSettings.{RmmSettings}
use Rattle.rmm_model.specs.declared.condition.Condition.{Condition}
use Rattle.rmm_model.specs.declared.condition.Condition.TheVariants.{RdAlign, RdBound, RdState, RealmState, LevelBound, IpaAlign, IpaBound, RttWalk, RtteState}
use Rattle.rmm_model.specs.declared.realm.RmmRealm.{RmmRealm}
use Rattle.rmm_model.specs.declared.realm.RttWalk.{RttWalk as Walked}
use Rattle.rmm_model.specs.declared.rec.RmmRec.{RmmRec}
use Rattle.rmm_model.specs.Check.{Check, check, error_input, error_realm}
use Rattle.rmm_model.specs.Granule.{is_undelegated, is_delegated, realm_of, rec_of}
use Rattle.rmm_model.specs.Level.{entry_size}
use Rattle.rmm_model.specs.Machine.{Machine, is_aligned, is_inside, is_secure, state_at}
use Rattle.rmm_model.specs.Realm.{no_realm, is_new, is_in_space, is_protected, is_unprotected}
use Rattle.rmm_model.specs.Rec.{no_rec}

-- ---- granules

-- checks that a granule of the machine begins at the given address
abbrev pub address_checks : Condition → Condition → Machine → ℕ → List Check
address_checks align bound m address = check align [] (not (is_aligned address)) error_input ∷ check bound (align ∷ []) (not (is_inside m address)) error_input ∷ []

-- checks that a DELEGATED granule begins at the given address
abbrev pub delegated_checks : Condition → Condition → Condition → Machine → ℕ → List Check
delegated_checks align bound state m address =
    address_checks align bound m address ++ check state (bound ∷ []) (not (is_delegated (state_at m address))) error_input ∷ []

-- the granule at an address belongs to the host, and not to the secure world
abbrev pub is_host_s : Machine → ℕ → Bool
is_host_s m address = is_undelegated (state_at m address) && not (is_secure m address)

-- checks that a page of the host begins at the given address
abbrev pub host_checks : Condition → Condition → Condition → Machine → ℕ → List Check
host_checks align bound pas m address =
    address_checks align bound m address ++ check pas (bound ∷ []) (not (is_host_s m address)) error_input ∷ []

-- ---- realms

-- checks that there is an RD at the given address
abbrev pub rd_checks : Machine → ℕ → List Check
rd_checks m rd = address_checks RdAlign RdBound m rd ++ check RdState (RdBound ∷ []) (is_none (realm_of (state_at m rd))) error_input ∷ []

-- the realm whose RD is at an address; `no_realm` if no RD is there
abbrev pub realm_at : Machine → ℕ → RmmRealm
realm_at m rd = unwrap_or (realm_of (state_at m rd)) no_realm

-- checks that a realm is NEW
abbrev pub new_checks : RmmRealm → List Check
new_checks realm = check RealmState (RdState ∷ []) (not (is_new realm.state)) error_realm ∷ []

-- ---- RECs

-- checks that there is a REC at the given address
abbrev pub rec_checks : Condition → Condition → Condition → Machine → ℕ → List Check
rec_checks align bound state m rec =
    address_checks align bound m rec ++ check state (bound ∷ []) (is_none (rec_of (state_at m rec))) error_input ∷ []

-- the REC at an address; `no_rec` if no REC is there
abbrev pub rec_at : Machine → ℕ → RmmRec
rec_at m rec = unwrap_or (rec_of (state_at m rec)) no_rec

-- ---- addresses of a realm

-- a level is at least `least` and at most 3
abbrev pub is_level : ℕ → ℕ → Bool
is_level least level = nat_le least level && nat_le level 3

-- an IPA is a multiple of a size
abbrev pub is_multiple : ℕ → ℕ → Bool
is_multiple ipa size = ipa % size == 0

-- checks that a level is allowed, and that an IPA is in the realm's address space and aligned. The level is between
-- `least` and 3. The IPA is aligned to an entry of level `level - above`.
abbrev pub ipa_checks : RmmRealm → ℕ → ℕ → ℕ → ℕ → List Check
ipa_checks realm least level above ipa =
    check LevelBound (RdState ∷ []) (not (is_level least level)) error_input
    ∷ check IpaAlign (LevelBound ∷ []) (not (is_multiple ipa (entry_size (level - above)))) error_input
    ∷ check IpaBound (RdState ∷ []) (not (is_in_space realm ipa)) error_input ∷ []

-- checks that an IPA is aligned to a page and is in the realm's protected half
abbrev pub page_checks : RmmRealm → ℕ → List Check
page_checks realm ipa =
    check IpaAlign [] (not (is_multiple ipa 4096)) error_input
    ∷ check IpaBound (RdState ∷ []) (not (is_protected realm ipa)) error_input ∷ []

-- checks that a level allows pages or blocks, and that an IPA is unprotected and aligned to an entry of the level
abbrev pub unprotected_checks : RmmSettings → RmmRealm → ℕ → ℕ → List Check
unprotected_checks s realm level ipa =
    check LevelBound (RdState ∷ []) (not (nat_le s.block_level level && is_level realm.start_level level)) error_input
    ∷ check IpaAlign (LevelBound ∷ []) (not (is_multiple ipa (entry_size level))) error_input
    ∷ check IpaBound (RdState ∷ []) (not (is_unprotected realm ipa)) error_input ∷ []

-- ---- walks

-- checks that a walk reached the given level, and that a test of the entry there succeeded. A failure is answered with
-- the level at which the walk ended.
abbrev pub entry_checks : List Condition → Walked → ℕ → Bool → (ℕ → SmcResult) → List Check
entry_checks more found level is answer =
    check RttWalk (RdState ∷ IpaAlign ∷ IpaBound ∷ more) (not (found.level == level)) (answer found.level)
    ∷ check RtteState (RttWalk ∷ []) (not is) (answer found.level) ∷ []
