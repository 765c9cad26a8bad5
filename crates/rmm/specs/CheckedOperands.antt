-- The conditions that the granules, entries and walk ends found by a command's checks are those that the command's
-- operands name.
use Rattle.std.specs.Prelude.{◌≡◌, ◌≢◌, ℕ, ◌-◌, ◌^◌, ◌<◌, ◌≤◌, Some}
use Rattle.rmm_model.specs.Entry.{descriptor_of}
use Rattle.rmm_model.specs.Machine.{Machine, granule_count, number_of}
use Rattle.rmm_model.specs.Realm.{IsServed}
use Rattle.rmm_model.specs.Rec.{is_on}
use Rattle.rmm_model.specs.declared.realm.RttWalk.{RttWalk}
use Rattle.rmm_model.specs.Walk.{entry_at, table_below, memory_below, walk}
use Rattle.rmm_model.specs.Command.Operand.{realm_at, rec_at}
use Rattle.rmm_model.specs.Command.RealmCreate.{params_at, realm_for}
use Rattle.rmm.specs.declared.data.Mapped.{Mapped}
use Rattle.rmm.specs.declared.data.PageVacancy.{PageVacancy}
use Rattle.rmm.specs.declared.data_create.NewPage.{NewPage}
use Rattle.rmm.specs.declared.data_create.Source.{Source}
use Rattle.rmm.specs.declared.data_create.Target.{Target}
use Rattle.rmm.specs.declared.fold.Foldable.{Foldable}
use Rattle.rmm.specs.declared.init_ripas.RipasRange.{RipasRange}
use Rattle.rmm.specs.declared.psci.Completion.{Completion}
use Rattle.rmm.specs.declared.realm_create.NewRealm.{NewRealm}
use Rattle.rmm.specs.declared.rec_create.NewRec.{NewRec}
use Rattle.rmm.specs.declared.rec_enter.Entering.{Entering}
use Rattle.rmm.specs.declared.rtt_create.Vacancy.{Vacancy}
use Rattle.rmm.specs.declared.rtt_destroy.Unused.{Unused}
use Rattle.rmm.specs.declared.set_ripas.RequestedRange.{RequestedRange}

-- the found RD, the new table, and the entry that is to lead to it are those that the operands of RMI_RTT_CREATE name
pub record IsVacancy (m : Machine) (rd rtt ipa level : ℕ) (vacancy : Vacancy) : Type 0 where
  pub owner : vacancy.rd ≡ number_of m rd
  pub table : vacancy.table ≡ number_of m rtt
  pub inside : vacancy.table < granule_count m
  pub at_level : vacancy.level ≡ level
  pub place : vacancy.found ≡ walk m (realm_at m rd) ipa (level - 1)
  pub above : vacancy.found.table < granule_count m
  pub parent : vacancy.parent ≡ entry_at m vacancy.found ipa
  pub fits : descriptor_of vacancy.parent < 2 ^ 48

-- the found table, its realm, and the entry that leads to it are those that the operands of RMI_RTT_DESTROY name
pub record IsUnused (m : Machine) (rd ipa level : ℕ) (unused : Unused) : Type 0 where
  pub realm : unused.realm ≡ realm_at m rd
  pub width : unused.realm.s2sz ≤ 48
  pub place : unused.found ≡ walk m (realm_at m rd) ipa (level - 1)
  pub above : unused.found.table < granule_count m
  pub parent : unused.parent ≡ entry_at m unused.found ipa
  pub table : table_below m unused.parent ≡ Some unused.table
  pub inside : unused.table < granule_count m
  pub low : ipa < 2 ^ 48

-- the found table and the entry that leads to it are those that the operands of RMI_RTT_FOLD name
pub record IsFoldable (m : Machine) (rd ipa level : ℕ) (foldable : Foldable) : Type 0 where
  pub place : foldable.found ≡ walk m (realm_at m rd) ipa (level - 1)
  pub above : foldable.found.table < granule_count m
  pub parent : foldable.parent ≡ entry_at m foldable.found ipa
  pub table : table_below m foldable.parent ≡ Some foldable.table
  pub inside : foldable.table < granule_count m

-- the found RD, the new page's granule, and the page's entry are those that the operands of RMI_DATA_CREATE_UNKNOWN
-- name
pub record IsPageVacancy (m : Machine) (rd page ipa : ℕ) (vacancy : PageVacancy) : Type 0 where
  pub owner : vacancy.rd ≡ number_of m rd
  pub granule : vacancy.data ≡ number_of m page
  pub inside : vacancy.data < granule_count m
  pub place : vacancy.found ≡ walk m (realm_at m rd) ipa 3
  pub above : vacancy.found.table < granule_count m
  pub entry : vacancy.entry ≡ entry_at m vacancy.found ipa

-- the found granules are those that RMI_DATA_CREATE names for the host's page to copy, and for the new page of data
pub record IsSource (m : Machine) (page source : ℕ) (found : Source) : Type 0 where
  pub content : found.page ≡ number_of m source
  pub content_inside : found.page < granule_count m
  pub granule : found.granule ≡ number_of m page
  pub inside : found.granule < granule_count m
  pub apart : found.granule ≢ found.page

-- `target` has the RD that RMI_DATA_CREATE names and its realm, and the end of the walk for the IPA of the new page
pub record IsTarget (m : Machine) (rd ipa : ℕ) (target : Target) : Type 0 where
  pub owner : target.owner.granule ≡ number_of m rd
  pub inside : target.owner.granule < granule_count m
  pub realm : target.owner.realm ≡ realm_at m rd
  pub served : IsServed (granule_count m) target.owner.realm
  pub place : target.found ≡ walk m (realm_at m rd) ipa 3
  pub above : target.found.table < granule_count m

-- the new page has the source, the granule and the realm that RMI_DATA_CREATE names, and its entry is where the walk
-- for its IPA ends
pub record IsNewPage (m : Machine) (rd page ipa source : ℕ) (new : NewPage) : Type 0 where
  pub content : new.source ≡ number_of m source
  pub content_inside : new.source < granule_count m
  pub granule : new.granule ≡ number_of m page
  pub inside : new.granule < granule_count m
  pub apart : new.granule ≢ new.source
  pub owner : new.owner.granule ≡ number_of m rd
  pub owner_inside : new.owner.granule < granule_count m
  pub realm : new.owner.realm ≡ realm_at m rd
  pub served : IsServed (granule_count m) new.owner.realm
  pub place : new.found ≡ walk m (realm_at m rd) ipa 3
  pub above : new.found.table < granule_count m

-- the found realm is the one that RMI_RTT_INIT_RIPAS names, and the found walk end is where the walk of the range's
-- base ends
pub record IsRipasRange (m : Machine) (rd base : ℕ) (range : RipasRange) : Type 0 where
  pub owner : range.owner.granule ≡ number_of m rd
  pub inside : range.owner.granule < granule_count m
  pub realm : range.owner.realm ≡ realm_at m rd
  pub served : IsServed (granule_count m) range.owner.realm
  pub place : range.found ≡ walk m (realm_at m rd) base 3
  pub above : range.found.table < granule_count m
  pub low : base < 2 ^ 48

-- the found REC is the one that RMI_RTT_SET_RIPAS names, the found request is that REC's, and the found walk end is
-- where the walk of the range's base ends
pub record IsRequestedRange (m : Machine) (rd rec base : ℕ) (range : RequestedRange) : Type 0 where
  pub named : range.granule ≡ number_of m rec
  pub inside : range.granule < granule_count m
  pub request : range.request ≡ (rec_at m rec).ripas
  pub place : range.found ≡ walk m (realm_at m rd) base 3
  pub above : range.found.table < granule_count m
  pub low : base < 2 ^ 48

-- the found page of data is mapped at the IPA by the found entry
pub record IsMapped (m : Machine) (rd ipa : ℕ) (mapped : Mapped) : Type 0 where
  pub place : mapped.found ≡ walk m (realm_at m rd) ipa 3
  pub above : mapped.found.table < granule_count m
  pub entry : mapped.entry ≡ entry_at m mapped.found ipa
  pub memory : memory_below m mapped.entry ≡ Some mapped.data
  pub inside : mapped.data < granule_count m
  pub low : ipa < 2 ^ 48

-- `found` is the end of the walk for an unprotected IPA towards the level that the command names
pub record IsUnprotected (m : Machine) (rd ipa level : ℕ) (found : RttWalk) : Type 0 where
  pub place : found ≡ walk m (realm_at m rd) ipa level
  pub inside : found.table < granule_count m
  pub low : ipa < 2 ^ 48

-- the new realm is as the parameters describe it, and the found granule is the one that RMI_REALM_CREATE names for its
-- RD
pub record IsNewRealm (m : Machine) (rd params : ℕ) (found : NewRealm) : Type 0 where
  pub place : found.rd ≡ number_of m rd
  pub inside : found.rd < granule_count m
  pub realm : found.realm ≡ realm_for m (params_at m params)
  pub served : IsServed (granule_count m) found.realm

-- the found granules are those that RMI_REC_CREATE names, and the realm of the RD can have one more REC
pub record IsNewRec (m : Machine) (rd rec params : ℕ) (found : NewRec) : Type 0 where
  pub place : found.rec ≡ number_of m rec
  pub inside : found.rec < granule_count m
  pub source : found.source ≡ number_of m params
  pub source_inside : found.source < granule_count m
  pub different : found.source ≢ found.rec
  pub owner : found.rd ≡ number_of m rd
  pub owner_inside : found.rd < granule_count m
  pub realm : found.realm ≡ realm_at m rd
  pub served : IsServed (granule_count m) found.realm
  pub next : found.realm.next_rec < 2 ^ 31
  pub count : found.realm.rec_count < 2 ^ 15

-- the found RECs are those that RMI_PSCI_COMPLETE names, the found request is the calling REC's, and `on` says whether
-- the target is on
pub record IsCompletion (m : Machine) (calling target : ℕ) (found : Completion) : Type 0 where
  pub place : found.calling ≡ number_of m calling
  pub inside : found.calling < granule_count m
  pub request : found.request ≡ (rec_at m calling).psci
  pub target_place : found.target ≡ number_of m target
  pub target_inside : found.target < granule_count m
  pub apart : found.calling ≢ found.target
  pub on : found.on ≡ is_on (rec_at m target)

-- the found granules are the REC and the run page that RMI_REC_ENTER names
pub record IsEntry (m : Machine) (rec address : ℕ) (found : Entering) : Type 0 where
  pub place : found.rec ≡ number_of m rec
  pub inside : found.rec < granule_count m
  pub page : found.run ≡ number_of m address
  pub page_inside : found.run < granule_count m
