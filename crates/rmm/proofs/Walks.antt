-- A proof that two walks of one IPA end at the same entry if their realms are equal, and their levels too. Values
-- computed from the two ends are then equal.
use Rattle.std.proofs.Common.{◌≡◌, ℕ, ap, ◌∙◌}
use Rattle.rmm_model.specs.declared.entry.RmmRttEntry.{RmmRttEntry}
use Rattle.rmm_model.specs.declared.realm.RmmRealm.{RmmRealm}
use Rattle.rmm_model.specs.declared.realm.RttWalk.{RttWalk}
use Rattle.rmm_model.specs.Machine.{Machine}
use Rattle.rmm_model.specs.Walk.{entry_at, walk}

-- `said` has the same value for the ends and entries of two walks of an IPA, if the realms are equal, and the levels
-- too
pub end_of_walk : {X : Type 0} (said : RttWalk → RmmRttEntry → X) (m : Machine) (realm named : RmmRealm) (ipa a b : ℕ) (found : RttWalk) (entry : RmmRttEntry)
    → realm ≡ named → a ≡ b → found ≡ walk m realm ipa a → entry ≡ entry_at m found ipa
    → said found entry ≡ said (walk m named ipa b) (entry_at m (walk m named ipa b) ipa)
end_of_walk said m realm named ipa a b found entry same to place at =
    ap (said found) at
    ∙ ap (λ (w : RttWalk). said w (entry_at m w ipa)) (place ∙ ap (λ (r : RmmRealm). walk m r ipa a) same ∙ ap (walk m named ipa) to)
