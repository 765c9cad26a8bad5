-- Proofs that the granule of a realm's RD is inside the machine and in the state RD.
use Rattle.std.proofs.Common.{◌≡◌, ◌≢◌, ℕ, ◌<◌, true, false, length, Some, None, is_some, refl, sym, ap, ◌∙◌, subst}
use Rattle.rtt.specs.Granules.{granule_at}
use Rattle.rtt.specs.declared.granule.Granule.{Granule}
use Rattle.realm_model.specs.declared.states.GranuleState.{GranuleState}
use Rattle.realm_model.specs.declared.states.GranuleState.TheVariants.{Rd as InRd, Rtt as InRtt}
use Rattle.realm_model.specs.Sound.{is_rd_state}
use Rattle.realm_model.proofs.Booleans.{none_from}
use Rattle.rmi_monitor.specs.Attributes.{RealmAttributes}
use Rattle.rtt.specs.Realm.{IsTableOf}
use Rattle.rmi_monitor.specs.Inside.{Fields, realm_at, IsSoundAt, IsWhole}
use Rattle.rmi_monitor.proofs.Listed.{some_inside}

rd_state : (state : GranuleState) → is_rd_state state ≡ true → state ≡ InRd
rd_state InRd h = refl
rd_state _ h = cc

module _ (fields : Fields) (whole : IsWhole fields) (rd : ℕ) (realm : RealmAttributes) (there : realm_at fields rd ≡ Some realm) where
  pub realm_inside : rd < length fields.granules
  realm_inside = subst (λ n. rd < n) whole.realm_places (some_inside fields.realms rd realm there)

  pub in_rd : (granule_at fields.granules rd).state ≡ InRd
  in_rd = rd_state (granule_at fields.granules rd).state (sym (whole.each rd).rd ∙ ap is_some there)

  -- a granule that is not in state RTT is none of the realm's tables
  pub no_table : (g : ℕ) → (granule_at fields.granules g).state ≢ InRtt → IsTableOf fields.pages realm.root g → ⊥
  no_table g not_rtt of = not_rtt (ap (λ (x : Granule). x.state) ((whole.tables rd realm there).own.tables of.level of.ipa g of.inside of.at).is)

-- a granule that is not in state RD is no realm's RD
pub no_realm_there : (fields : Fields) (g : ℕ) → IsSoundAt fields g → is_rd_state (granule_at fields.granules g).state ≡ false → realm_at fields g ≡ None
no_realm_there fields g sound h = none_from (realm_at fields g) (sound.rd ∙ h)
