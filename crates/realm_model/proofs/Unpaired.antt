-- The proof that an operation changes no ownership if it neither has a reverse nor is one.
use Rattle.std.proofs.Common.{◌≡◌, ℕ, false, List, [], ◌∷◌, map, Option, Some, None, Ok, Err, refl, sym, ap, ◌∙◌, subst}
use Rattle.std.specs.Cmp.{nat_cmp_total}
use Rattle.std.specs.FinMap.{get, insert}
use Rattle.std.proofs.lemmas.Option.{same_Some}
use Rattle.realm_model.specs.declared.act.Act.{Act}
use Rattle.realm_model.specs.declared.act.Act.TheVariants.{Take, UnTake, Fill, Peek, Delegate, Undelegate, Realm, UnRealm, Activate}
use Rattle.realm_model.specs.declared.act.Act.TheVariants.{Rtt, UnRtt, Ripas, Data, Unknown, UnData, Rec, UnRec, Enter, Exit, Poke}
use Rattle.realm_model.specs.declared.states.RealmState.TheVariants.{Active}
use Rattle.realm_model.specs.declared.states.RecState.TheVariants.{Ready, Running}
use Rattle.realm_model.specs.Rows.{with_ram}
use Rattle.granule_addr.specs.Page.{page_of}
use Rattle.realm_model.specs.Machine.{Limits, RecRow, RealmRow, Cell, Seen, cell_at, seen}
use Rattle.realm_model.specs.Act.{named, reverse_of, is_reverse, is_paired}
use Rattle.realm_model.specs.Update.{Outcome, Update}
use Rattle.realm_model.specs.Measurement.{measurement_after, ripas_event}
use Rattle.realm_model.specs.Outcome.{outcome_of}
use Rattle.realm_model.specs.World.{World, updated, updated_all, realm_of}
use Rattle.realm_model.specs.Step.{step, after_outcome, is_allowed, used_vmids}
use Rattle.realm_model.specs.Undoing.{by}
use Rattle.realm_model.specs.Ownership.{OwnsSame, SameRealm, SameCell, SameDescriptor, granules_of_rec}
use Rattle.realm_model.proofs.Booleans.{guarded}
use Rattle.realm_model.proofs.RealmOf.{IsAt, IsAt-realm_of}
use Rattle.realm_model.proofs.Outcomes.{Yields, Yields-Ok, Yields-with_rec, Yields-with_realm, Yields-with_end, Yields-check, Yields-Err, Yields-with_granule}
use Rattle.realm_model.proofs.OwnsSame.{own_updated, descriptor_itself, IsMild, own_itself}
use Rattle.realm_model.proofs.Rows.{same_rows}
use Rattle.realm_model.proofs.Maps.{same_insert}

abbrev pub AreMild : World → List Update → Type 0
AreMild w [] = Unit {0}
AreMild w (u ∷ []) = IsMild w u
AreMild w (u ∷ v ∷ us) = ⊥

pub own_updated_all : (b : ℕ) (us : List Update) (w v : World) → AreMild w us → updated_all b us w ≡ Some v → OwnsSame w v
unfolding updated_all
own_updated_all b [] w v mild e = let same : w ≡ v = cc in subst (OwnsSame w) same (own_itself w)
own_updated_all b (u ∷ []) w v mild e =
    let both = guarded _ _ _ e in
    let same : updated b u w ≡ v = same_Some _ _ both.1 in
    subst (OwnsSame w) same (own_updated b u w both.0 mild)
own_updated_all b (u ∷ x ∷ us) w v mild e = absurd mild

module _ (limits : Limits) (w : World) where
  realm_put : (rd : Seen) (r s : RealmRow) → cell_at w.machine rd.number ≡ rd.cell → rd.cell.descriptor ≡ Some r → SameRealm r s
      → SameCell (cell_at w.machine rd.number) (record rd.cell { descriptor = Some s })
  realm_put rd r s at is same = record {
    state = ap (λ (c : Cell). c.state) at;
    realm = ap (λ (c : Cell). c.realm) at;
    descriptor = subst (λ o. SameDescriptor o (Some s)) (sym (ap (λ (c : Cell). c.descriptor) at ∙ is)) same;
  }

  rec_put : (rd : Seen) (r : RealmRow) (n : ℕ) (rec new : RecRow) → cell_at w.machine rd.number ≡ rd.cell → rd.cell.descriptor ≡ Some r → get r.recs n ≡ Some rec
      → granules_of_rec rec ≡ granules_of_rec new
      → SameCell (cell_at w.machine rd.number) (record rd.cell { descriptor = Some (record r { recs = insert r.recs n new }) })
  rec_put rd r n rec new at is there alike =
      realm_put rd r (record r { recs = insert r.recs n new }) at is
      (record { vmid = refl; root = refl; recs = same_insert nat_cmp_total granules_of_rec r.recs r.recs n rec new there alike (λ q. refl); rows = λ q. refl })

  bytes_put : (c : Cell) (bytes : List ℕ) → SameCell c (record c { bytes = bytes })
  bytes_put c bytes = record { state = refl; realm = refl; descriptor = descriptor_itself c.descriptor }

  abbrev P : List Update → Type 0
  P = AreMild w

  pub mild : (act : Act) (realm : Option Seen) → is_paired act ≡ false → is_reverse act ≡ false → IsAt w.machine realm
      → Yields P (outcome_of limits.vmids limits.aux (used_vmids w.machine) act realm (map (seen w.machine) (named act)))
  unfolding outcome_of named reverse_of is_reverse with_ram
  mild (Fill g v) realm p r at = Yields-check P _ _ _ (λ _. Yields-Ok P _ (bytes_put (cell_at w.machine g) (page_of v)))
  mild (Peek g o v) realm p r at = Yields-check P _ _ _ (λ _. Yields-Ok P _ tt)
  mild Activate None p r at = Yields-Err P _
  mild Activate (Some rd) p r at = Yields-with_realm P _ _ (λ d is. Yields-check P _ _ _ (λ _. Yields-Ok P _
      (realm_put rd d (record d { state = Active }) at is (record { vmid = refl; root = refl; recs = λ n. refl; rows = λ q. refl }))))
  mild (Ripas ipa n) None p r at = Yields-Err P _
  mild (Ripas ipa n) (Some rd) p r at = Yields-with_realm P _ _ (λ d is. Yields-check P _ _ _ (λ _. Yields-check P _ _ _ (λ _.
      Yields-with_end P _ _ _ _ (λ end e. Yields-check P _ _ _ (λ _. Yields-check P _ _ _ (λ all. Yields-Ok P _
      (realm_put rd d (record d { rows = with_ram d.rows ipa n; measurement = measurement_after d.measurement (ripas_event ipa n) }) at is
      (record { vmid = refl; root = refl; recs = λ n. refl; rows = same_rows d.rows ipa n all }))))))))
  mild (Enter n) None p r at = Yields-Err P _
  mild (Enter n) (Some rd) p r at =
      Yields-with_realm P _ _ (λ d is. Yields-with_rec P _ _ _ (λ rec there. Yields-check P _ _ _
      (λ _. Yields-check P _ _ _ (λ _. Yields-Ok P _ (rec_put rd d n rec (record rec { state = Running }) at is there refl)))))
  mild (Exit n) None p r at = Yields-Err P _
  mild (Exit n) (Some rd) p r at =
      Yields-with_realm P _ _ (λ d is. Yields-with_rec P _ _ _ (λ rec there. Yields-check P _ _ _ (λ _. Yields-Ok P _ (rec_put rd d n rec (record rec { state = Ready }) at is there refl))))
  mild (Poke n ipa o v) None p r at = Yields-Err P _
  mild (Poke n ipa o v) (Some rd) p r at = Yields-with_realm P _ _ (λ d is. Yields-with_rec P _ _ _ (λ rec there. Yields-check P _ _ _ (λ _. Yields-check P _ _ _ (λ _.
      Yields-with_end P _ _ _ _ (λ end e. Yields-check P _ _ _ (λ _. Yields-with_granule P _ _ (λ g there. Yields-Ok P _ tt)))))))
  mild (Take order first) realm p r at = cc
  mild (UnTake order first) realm p r at = cc
  mild (Delegate g) realm p r at = cc
  mild (Undelegate g) realm p r at = cc
  mild (Realm rd root v) realm p r at = cc
  mild (UnRealm rd root v) realm p r at = cc
  mild (Rtt g ipa level) realm p r at = cc
  mild (UnRtt g ipa level) realm p r at = cc
  mild (Data g ipa source) realm p r at = cc
  mild (Unknown g ipa) realm p r at = cc
  mild (UnData g ipa) realm p r at = cc
  mild (Rec g aux n) realm p r at = cc
  mild (UnRec g aux n) realm p r at = cc

after_mild : (b : ℕ) (o : Outcome) (w v : World) → Yields (AreMild w) o → after_outcome b o w ≡ Some v → OwnsSame w v
after_mild b (Ok us) w v yields e = own_updated_all b us w v (yields.where_ok us refl) e
after_mild b (Err rmi) w v yields e = cc

pub own_step : (limits : Limits) (b : ℕ) (w v : World) (act : Act) → is_paired act ≡ false → is_reverse act ≡ false → step limits w (by b act) ≡ Some v → OwnsSame w v
unfolding step
own_step limits b w v act p r s =
    after_mild b (outcome_of limits.vmids limits.aux (used_vmids w.machine) act (realm_of b w) (map (seen w.machine) (named act))) w v
    (mild limits w act (realm_of b w) p r (IsAt-realm_of b w)) (guarded (is_allowed limits w (by b act)) _ v s).1
