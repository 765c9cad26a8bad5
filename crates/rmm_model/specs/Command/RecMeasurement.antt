-- The measurement of a realm after the creation of a REC. RMM 1.0, RMI_REC_CREATE and RmmMeasurementDescriptorRec.
use Rattle.std.specs.Prelude.{ℕ, ◌||◌, Bool, List, if◌then◌else◌}
use Rattle.rmi_abi.specs.declared.settings.RmmSettings.{RmmSettings}
use Rattle.rmi_abi.specs.RecParams.{is_runnable_in}
use Rattle.rmm_model.specs.declared.measure.Extension.TheVariants.{Rec as RecExtension}
use Rattle.rmm_model.specs.Measure.{extended, rec_digest}
use Rattle.rmm_model.specs.declared.realm.RmmRealm.{RmmRealm}

-- a REC is to be measured: it is runnable, or the settings say that all RECs are measured
abbrev pub is_rec_measured : RmmSettings → List ℕ → Bool
is_rec_measured s page = is_runnable_in page || s.measures_all_recs

-- the RIM of a realm, extended by the REC parameters in a page if the REC is measured
unfoldable pub rim_with_rec : RmmSettings → RmmRealm → List ℕ → List ℕ
rim_with_rec s realm page = if is_rec_measured s page then extended realm.hash realm.rim (RecExtension (rec_digest realm.hash page)) else realm.rim
