-- Proofs that a granule's state passes the test for UNDELEGATED only if it is UNDELEGATED, and the test for DELEGATED
-- only if it is DELEGATED.
use Rattle.std.proofs.Common.{◌≡◌, Bool, true, false, refl}
use Rattle.realm_model.specs.declared.states.GranuleState.{GranuleState}
use Rattle.realm_model.specs.declared.states.GranuleState.TheVariants.{Undelegated, Delegated}

abbrev pub undelegated_test : GranuleState → Bool
undelegated_test state = elim state [ Undelegated ↦ true | _ ↦ false ]

abbrev pub delegated_test : GranuleState → Bool
delegated_test state = elim state [ Delegated ↦ true | _ ↦ false ]

pub not_undelegated : (state : GranuleState) → (state ≡ Undelegated → ⊥) → undelegated_test state ≡ false
not_undelegated Undelegated h = absurd (h refl)
not_undelegated _ h = refl

pub not_delegated : (state : GranuleState) → (state ≡ Delegated → ⊥) → delegated_test state ≡ false
not_delegated Delegated h = absurd (h refl)
not_delegated _ h = refl

pub undelegated_state : (state : GranuleState) → undelegated_test state ≡ true → state ≡ Undelegated
undelegated_state Undelegated h = refl
undelegated_state _ h = cc

pub delegated_state : (state : GranuleState) → delegated_test state ≡ true → state ≡ Delegated
delegated_state Delegated h = refl
delegated_state _ h = cc
