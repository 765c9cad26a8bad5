-- The granule state that a `GranuleRecord` represents.
use Rattle.rmm_model.specs.declared.granule.RmmGranuleState.{RmmGranuleState}
use Rattle.rmm_model.specs.declared.granule.RmmGranuleState.TheVariants as state
use Rattle.rmm_model.specs.declared.realm.RmmRealm.{RmmRealm}
use Rattle.rmm_model.specs.declared.rec.RmmRec.{RmmRec}
use Rattle.rmm_granules.specs.declared.record.GranuleKind.{GranuleKind}
use Rattle.rmm_granules.specs.declared.record.GranuleKind.TheVariants as kind

-- the granule state of the given kind, with the given realm if the kind is RD, or the given REC if the kind is REC
abbrev pub recorded_state : GranuleKind → RmmRealm → RmmRec → RmmGranuleState
recorded_state kind.Undelegated realm rec = state.Undelegated
recorded_state kind.Delegated realm rec = state.Delegated
recorded_state kind.Rd realm rec = state.Rd realm
recorded_state kind.Rec realm rec = state.Rec rec
recorded_state kind.RecAux realm rec = state.RecAux
recorded_state kind.Data realm rec = state.Data
recorded_state kind.Rtt realm rec = state.Rtt
