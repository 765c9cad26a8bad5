-- Proofs that only the creation and the destruction of a REC change which RECs a build's realm has.
use Rattle.std.proofs.Common.{◌≡◌, ℕ, ◌+◌, ◌<◌, ◌==◌, Bool, true, false, cond, inl, inr, List, [], ◌∷◌, ◌++◌, map, Option, Some, None, refl, sym, ap, ◌∙◌, subst}
use Rattle.std.specs.Prelude.{option_map, is_some}
use Rattle.std.specs.Ordering.{eq_by_cmp, nat_cmp}
use Rattle.std.specs.FinMap.{get, insert, remove, len, empty_of_len, get-empty, get-insert, get-remove}
use Rattle.std.proofs.lemmas.Bool.{and_parts, eqb-true}
use Rattle.std.proofs.lemmas.Cmp.{nat_cmp_total}
use Rattle.std.proofs.lemmas.Option.{same_Some}
use Rattle.arrayvec.specs.declared.array_vec.ArrayVec.{ArrayVec}
use Rattle.granule_addr.specs.declared.width.Root.{Root}
use Rattle.realm_model.specs.declared.states.RecState.TheVariants.{Ready, Running}
use Rattle.realm_model.specs.declared.act.Act.{Act}
use Rattle.realm_model.specs.declared.act.Act.TheVariants.{Realm, UnRealm, Rec, UnRec, Enter, Exit}
use Rattle.realm_model.specs.Machine.{Limits, RecRow, RealmRow, Cell, Seen, cell_at, seen, numbers_of}
use Rattle.realm_model.specs.Measurement.{measurement_after, rec_event}
use Rattle.realm_model.specs.Update.{Update, Put}
use Rattle.realm_model.specs.Command.Realm.{new_realm}
use Rattle.realm_model.specs.Act.{named}
use Rattle.realm_model.specs.Outcome.{outcome_of, fits, realm_is}
use Rattle.realm_model.specs.OpenRealm.{makes_realm}
use Rattle.realm_model.specs.World.{World, realm_of, part_of}
use Rattle.realm_model.specs.Step.{step, used_vmids}
use Rattle.realm_model.specs.Undoing.{by}
use Rattle.realm_model.proofs.Booleans.{none_is}
use Rattle.realm_model.proofs.HiddenSteps.{step-part_of}
use Rattle.realm_model.proofs.Maps.{nat_place}
use Rattle.realm_model.proofs.Outcomes.{Yields, Yields-Ok, Yields-Err, Yields-check, Yields-with_realm}
use Rattle.realm_model.proofs.PartRealm.{part_realm, none_there, found}
use Rattle.realm_model.proofs.Parts.{IsSoundPart}
use Rattle.realm_model.proofs.RealmAfter.{Allows, turned_by, is_realm_destroy, realm_made_step, realm_gone_step}
use Rattle.realm_model.proofs.RealmOf.{IsAt, IsAt-realm_of, realm_test, realm_of-part_of}
use Rattle.realm_model.proofs.RoleChanges.{one_place}
use Rattle.realm_model.proofs.SoundParts.{IsSquare-part_of}
use Rattle.realm_model.proofs.StepBack.{done, asked}
use Rattle.realm_model.proofs.Vmids.{still_none}
use Rattle.realm_model.proofs.Written.{IsSquare, put_at, put_last, cell_put}
use Rattle.realm_model.proofs.ZeroPages.{IsKept}
use Rattle.realm_model.specs.Places.{rec_granule}

-- the granule of a realm's REC with the given number, or None if there is no such REC
abbrev pub granule_of : RealmRow → ℕ → Option ℕ
granule_of realm number = option_map (λ (rec : RecRow). rec.granule) (get realm.recs number)

-- ---- by the realm of a part

module _ (b : ℕ) (w : World) (kept : IsKept b w) (number : ℕ) where
  pub granule_at : (k : ℕ) (d : RealmRow) → (cell_at (part_of w b).machine k).descriptor ≡ Some d → rec_granule (realm_of b w) number ≡ granule_of d number
  granule_at k d is =
      ap (λ o. rec_granule o number) (found b w kept k d is)
      ∙ ap (λ o. rec_granule (Some (record { number = k; cell = record (cell_at (part_of w b).machine k) { descriptor = o } })) number) is

  pub no_granule : ((k : ℕ) → (cell_at (part_of w b).machine k).descriptor ≡ None) → rec_granule (realm_of b w) number ≡ None
  no_granule none = ap (λ o. rec_granule o number) (sym (realm_of-part_of b w)) ∙ by_realm (realm_of b (part_of w b)) (IsAt-realm_of b (part_of w b))
    where
      by_realm : (o : Option Seen) → IsAt (part_of w b).machine o → rec_granule o number ≡ None
      by_realm None at = refl
      by_realm (Some rd) at =
          ap (λ o. rec_granule (Some (record { number = rd.number; cell = record rd.cell { descriptor = o } })) number) (ap (λ (c : Cell). c.descriptor) (sym at) ∙ none rd.number)

-- ---- operations that make no REC and remove none

abbrev SameRecs : RealmRow → RealmRow → Type 0
SameRecs d e = (m : ℕ) → granule_of e m ≡ granule_of d m

-- replacing a REC by one with the same granule leaves the granule of each number the same
restated : (d : RealmRow) (n m : ℕ) (old new : RecRow) → get d.recs n ≡ Some old → new.granule ≡ old.granule → granule_of (record d { recs = insert d.recs n new }) m ≡ granule_of d m
restated d n m old new there same =
    ap (option_map (λ (rec : RecRow). rec.granule)) (get-insert nat_cmp_total d.recs n new m)
    ∙ elim (eq_by_cmp nat_cmp m n) as (λ t. eq_by_cmp nat_cmp m n ≡ t → option_map (λ (rec : RecRow). rec.granule) (cond t (Some new) (get d.recs m)) ≡ granule_of d m) [
      | true ↦ λ here. ap Some same ∙ ap (option_map (λ (rec : RecRow). rec.granule)) (sym there) ∙ ap (granule_of d) (sym (nat_place m n here))
      | false ↦ λ other. refl
    ] refl

abbrev pub is_of_recs : Act → Bool
is_of_recs (Rec granule auxiliaries number) = true
is_of_recs (UnRec granule auxiliaries number) = true
is_of_recs _ = false

keeps : (limits : Limits) (w : World) (sound : IsSoundPart w) (act : Act) → is_of_recs act ≡ false → is_realm_destroy act ≡ false → Allows limits w sound SameRecs act
keeps limits w sound (Realm rd root v) plain stay = tt
keeps limits w sound (UnRealm rd root v) plain stay = cc
keeps limits w sound (Rec g aux n) plain stay = cc
keeps limits w sound (UnRec g aux n) plain stay = cc
keeps limits w sound (Enter n) plain stay = λ d rec h there ready m. restated d n m rec (record rec { state = Running }) there refl
keeps limits w sound (Exit n) plain stay = λ d rec h there ready m. restated d n m rec (record rec { state = Ready }) there refl
keeps limits w sound act plain stay = λ d e same m. ap (λ (r : RealmRow). granule_of r m) same

-- ---- a realm that is destroyed has no RECs

destroyed : (limits : Limits) (w : World) (sound : IsSoundPart w) (rd : ℕ) (root : Root) (v : ℕ) (realm : Option Seen) → IsAt w.machine realm
    → Yields (λ us. (k : ℕ) (d : RealmRow) → (cell_at w.machine k).descriptor ≡ Some d → (m : ℕ) → granule_of d m ≡ None)
    (outcome_of limits.vmids limits.aux (used_vmids w.machine) (UnRealm rd root v) realm (map (seen w.machine) (named (UnRealm rd root v))))
unfolding outcome_of named
destroyed limits w sound rd root v realm at = Yields-with_realm P _ _ (λ d is. Yields-check P _ _ _ (λ empty. Yields-Ok P _ (λ k x there m.
    let same : d ≡ x = same_Some _ _ (sym is ∙ ap (λ j. (cell_at w.machine j).descriptor) (one_place w sound rd k d x is there) ∙ there) in
    ap (λ (y : RealmRow). granule_of y m) (sym same)
    ∙ ap (option_map (λ (rec : RecRow). rec.granule)) (ap (λ recs. get recs m) (empty_of_len d.recs (eqb-true (len d.recs) 0 (and_parts _ _ empty).0)) ∙ get-empty nat_cmp m))))
  where
    P : List Update → Type 0
    P us = (k : ℕ) (d : RealmRow) → (cell_at w.machine k).descriptor ≡ Some d → (m : ℕ) → granule_of d m ≡ None

module _ (limits : Limits) (b : ℕ) (w v : World) (kept : IsKept b w) (kept_v : IsKept b v) where
  abbrev W : World
  W = part_of w b

  square : IsSquare W
  square = IsSquare-part_of w b kept.sound.square

  no_rows : realm_of b W ≡ None → (k : ℕ) → (cell_at W.machine k).descriptor ≡ None
  no_rows none = none_there b w kept (sym (realm_of-part_of b w) ∙ none)

  abbrev StaysAll : Type 0
  StaysAll = (m : ℕ) → rec_granule (realm_of b v) m ≡ rec_granule (realm_of b w) m

  plain_stays : (act : Act) → makes_realm act ≡ false → is_of_recs act ≡ false → is_realm_destroy act ≡ false → step limits w (by b act) ≡ Some v → StaysAll
  plain_stays act plain recs stay s m =
      let to = step-part_of limits b w v (by b act) refl s in
      elim (part_realm b w kept) [
        | inl none ↦
            let none_after = still_none limits W (part_of v b) b act square plain to (none_there b w kept none) in
            no_granule b v kept_v m none_after ∙ sym (no_granule b w kept m (none_there b w kept none))
        | inr there ↦
            let then = turned_by limits b W (part_of v b) act SameRecs square kept.sound.part no_rows (keeps limits W kept.sound.part act recs stay) to there.0 there.1 there.2 in
            granule_at b v kept_v m there.0 then.0 then.1 ∙ then.2 m ∙ sym (granule_at b w kept m there.0 there.1 there.2)
      ]

  made_stays : (rd : ℕ) (root : Root) (vmid : ℕ) → step limits w (by b (Realm rd root vmid)) ≡ Some v → StaysAll
  unfolding fits new_realm
  made_stays rd root vmid s m =
      let act : Act = Realm rd root vmid in
      let to = step-part_of limits b w v (by b act) refl s in
      let none = no_rows (none_is _ (asked limits b W (part_of v b) act to).fit) in
      after none to ∙ sym (no_granule b w kept m none)
    where
      after : ((k : ℕ) → (cell_at W.machine k).descriptor ≡ None) → step limits W (by b (Realm rd root vmid)) ≡ Some (part_of v b) → rec_granule (realm_of b v) m ≡ None
      after none to = elim (part_realm b v kept_v) [
        | inl gone ↦ no_granule b v kept_v m (none_there b v kept_v gone)
        | inr there ↦
            granule_at b v kept_v m there.0 there.1 there.2
            ∙ ap (λ (y : RealmRow). granule_of y m) (realm_made_step limits b W (part_of v b) rd root vmid square none to there.0 there.1 there.2)
            ∙ ap (option_map (λ (rec : RecRow). rec.granule)) (get-empty nat_cmp m)
      ]

  gone_stays : (rd : ℕ) (root : Root) (vmid : ℕ) → step limits w (by b (UnRealm rd root vmid)) ≡ Some v → StaysAll
  gone_stays rd root vmid s m =
      let act : Act = UnRealm rd root vmid in
      let to = step-part_of limits b w v (by b act) refl s in
      let did = done limits b W (part_of v b) act (λ us. (k : ℕ) (d : RealmRow) → (cell_at W.machine k).descriptor ≡ Some d → (m : ℕ) → granule_of d m ≡ None)
      (destroyed limits W kept.sound.part rd root vmid (realm_of b W) (IsAt-realm_of b W)) to in
      no_granule b v kept_v m (realm_gone_step limits b W (part_of v b) rd root vmid square kept.sound.part to).0 ∙ sym (before did.1)
    where
      before : ((k : ℕ) (d : RealmRow) → (cell_at W.machine k).descriptor ≡ Some d → (m : ℕ) → granule_of d m ≡ None) → rec_granule (realm_of b w) m ≡ None
      before empty = elim (part_realm b w kept) [
        | inl none ↦ no_granule b w kept m (none_there b w kept none)
        | inr there ↦ granule_at b w kept m there.0 there.1 there.2 ∙ empty there.0 there.1 there.2 m
      ]

  -- an operation that neither creates nor destroys a REC leaves the RECs of the build's realm the same, by number and
  -- granule
  pub recs_stay : (act : Act) → is_of_recs act ≡ false → step limits w (by b act) ≡ Some v → StaysAll
  recs_stay (Realm rd root vmid) plain s = made_stays rd root vmid s
  recs_stay (UnRealm rd root vmid) plain s = gone_stays rd root vmid s
  recs_stay act plain s = plain_stays act refl plain refl s

-- ---- a REC is made

-- realm `e` has this granule for the next number of `d`, and for each other number the granule that `d` has
abbrev Gains : ℕ → RealmRow → RealmRow → Type 0
Gains granule d e = (m : ℕ) → granule_of e m ≡ cond (eq_by_cmp nat_cmp m d.next) (Some granule) (granule_of d m)

-- after the updates, each realm of the world still exists and has gained a REC with the given granule
abbrev GainsBy : World → ℕ → List Update → Type 0
GainsBy w granule us = (k : ℕ) (d : RealmRow) → (cell_at w.machine k).descriptor ≡ Some d → (e : RealmRow) × ((put_at us k (cell_at w.machine k)).descriptor ≡ Some e) × Gains granule d e

gained : (granule : ℕ) (d : RealmRow) (new : RecRow) (e : RealmRow) → new.granule ≡ granule → e.recs ≡ insert d.recs d.next new → Gains granule d e
gained granule d new e same recs m =
    ap (λ r. option_map (λ (rec : RecRow). rec.granule) (get r m)) recs
    ∙ ap (option_map (λ (rec : RecRow). rec.granule)) (get-insert nat_cmp_total d.recs d.next new m)
    ∙ elim (eq_by_cmp nat_cmp m d.next) as (λ t. option_map (λ (rec : RecRow). rec.granule) (cond t (Some new) (get d.recs m)) ≡ cond t (Some granule) (granule_of d m)) [
      | true ↦ ap Some same
      | false ↦ refl
    ]

realm_last : (w : World) (sound : IsSoundPart w) (granule : ℕ) (rd : Seen) (d e : RealmRow) (us : List Update) → cell_at w.machine rd.number ≡ rd.cell → rd.cell.descriptor ≡ Some d
    → Gains granule d e → GainsBy w granule (us ++ Put rd.number (record rd.cell { descriptor = Some e }) ∷ [])
realm_last w sound granule rd d e us at is gains k x there =
    let own : (cell_at w.machine rd.number).descriptor ≡ Some d = ap (λ (c : Cell). c.descriptor) at ∙ is in
    let place : k ≡ rd.number = one_place w sound k rd.number x d there own in
    let same : d ≡ x = same_Some _ _ (sym own ∙ ap (λ j. (cell_at w.machine j).descriptor) (sym place) ∙ there) in
    let z : Cell = record rd.cell { descriptor = Some e } in (
      e,
      ap (λ j. (put_at (us ++ Put rd.number z ∷ []) j (cell_at w.machine j)).descriptor) place ∙ ap (λ (c : Cell). c.descriptor) (put_last us rd.number z (cell_at w.machine rd.number)),
      subst (λ y. Gains granule y e) same gains,
    )

-- the realm with one more REC
abbrev with_one_more : RealmRow → RecRow → RealmRow
with_one_more d new = record d { recs = insert d.recs d.next new; next = d.next + 1; measurement = measurement_after d.measurement (rec_event d.next) }

abbrev made : World → ℕ → List ℕ → RecRow
made w granule auxiliaries = record { granule = granule; auxiliaries = numbers_of (map (seen w.machine) auxiliaries); state = Ready }

created : (limits : Limits) (w : World) (sound : IsSoundPart w) (granule : ℕ) (aux : ArrayVec ℕ 16 (Unit {0})) (n : ℕ) (realm : Option Seen) → IsAt w.machine realm
    → Yields (GainsBy w granule) (outcome_of limits.vmids limits.aux (used_vmids w.machine) (Rec granule aux n) realm (map (seen w.machine) (named (Rec granule aux n))))
unfolding outcome_of named
created limits w sound granule aux n None at = Yields-Err (GainsBy w granule) _
created limits w sound granule aux n (Some rd) at =
    Yields-with_realm (GainsBy w granule) _ _ (λ d is. Yields-check (GainsBy w granule) _ _ _ (λ _. Yields-check (GainsBy w granule) _ _ _ (λ _.
    Yields-Ok (GainsBy w granule) _
    (realm_last w sound granule rd d (with_one_more d (made w granule aux.items)) (Put granule _ ∷ map _ (map (seen w.machine) aux.items)) at is
    (gained granule d (made w granule aux.items) (with_one_more d (made w granule aux.items)) refl refl)))))

-- ---- a REC is removed

abbrev Loses : ℕ → RealmRow → RealmRow → Type 0
Loses n d e = (m : ℕ) → granule_of e m ≡ cond (eq_by_cmp nat_cmp m n) None (granule_of d m)

lost : (n : ℕ) (d : RealmRow) → Loses n d (record d { recs = remove d.recs n })
lost n d m =
    ap (option_map (λ (rec : RecRow). rec.granule)) (get-remove nat_cmp_total d.recs n m)
    ∙ elim (eq_by_cmp nat_cmp m n) as (λ t. option_map (λ (rec : RecRow). rec.granule) (cond t None (get d.recs m)) ≡ cond t None (granule_of d m)) [ true ↦ refl | false ↦ refl ]

-- ---- a number among those below the next

numbered : (d : RealmRow) (m : ℕ) → ((number : ℕ) (rec : RecRow) → get d.recs number ≡ Some rec → number < d.next) → is_some (granule_of d m) ≡ true → m < d.next
numbered d m below there = by_rec (get d.recs m) refl there
  where
    by_rec : (o : Option RecRow) → get d.recs m ≡ o → is_some (option_map (λ (rec : RecRow). rec.granule) o) ≡ true → m < d.next
    by_rec None e h = cc
    by_rec (Some rec) e h = below m rec e

abbrev nothing : Option ℕ
nothing = None

cond_none : (t : Bool) → cond t nothing nothing ≡ nothing
cond_none true = refl
cond_none false = refl

module _ (limits : Limits) (b : ℕ) (w v : World) (kept : IsKept b w) (kept_v : IsKept b v) where
  -- the step adds a REC with this granule and the number `n`, above all others, and each other REC keeps its granule
  pub record IsRecMade (granule n : ℕ) : Type 0 where
    pub below : (m : ℕ) → is_some (rec_granule (realm_of b w) m) ≡ true → m < n
    pub gains : (m : ℕ) → rec_granule (realm_of b v) m ≡ cond (eq_by_cmp nat_cmp m n) (Some granule) (rec_granule (realm_of b w) m)

  pub rec_is_made : (granule : ℕ) (aux : ArrayVec ℕ 16 (Unit {0})) (n : ℕ) → step limits w (by b (Rec granule aux n)) ≡ Some v → IsRecMade granule n
  unfolding fits
  rec_is_made granule aux n s =
      let act : Act = Rec granule aux n in
      let to = step-part_of limits b w v (by b act) refl s in
      let did = done limits b (part_of w b) (part_of v b) act (GainsBy (part_of w b) granule)
      (created limits (part_of w b) kept.sound.part granule aux n (realm_of b (part_of w b)) (IsAt-realm_of b (part_of w b))) to in
      let fit = (asked limits b (part_of w b) (part_of v b) act to).fit in
      elim (part_realm b w kept) [
        | inl none ↦ absurd (never (realm_of b (part_of w b)) (realm_of-part_of b w ∙ none) fit)
        | inr there ↦
            let then = did.1 there.0 there.1 there.2 in
            let here : realm_of b (part_of w b) ≡ Some (seen (part_of w b).machine there.0) = realm_of-part_of b w ∙ found b w kept there.0 there.1 there.2 in
            let next : n ≡ there.1.next =
            eqb-true n there.1.next (realm_test (seen (part_of w b).machine there.0) there.1 (λ rd row. n == row.next) (subst (λ o. realm_is o (λ rd row. n == row.next) ≡ true) here fit) there.2) in
            record {
              below = λ m is.
                  subst (λ x. m < x) (sym next) (numbered there.1 m ((kept.sound.part.cells there.0).row there.1 there.2).recs
                  (ap is_some (sym (granule_at b w kept m there.0 there.1 there.2)) ∙ is));
              gains = λ m.
                  granule_at b v kept_v m there.0 then.0 (ap (λ (c : Cell). c.descriptor) (cell_put b did.0 (part_of w b) (part_of v b) (square limits b w v kept kept_v) did.2 there.0) ∙ then.1)
                  ∙ then.2 m
                  ∙ (λ i. cond (eq_by_cmp nat_cmp m (sym next i)) (Some granule) (sym (granule_at b w kept m there.0 there.1 there.2) i));
            }
      ]
    where
      never : (o : Option Seen) → o ≡ None → realm_is o (λ rd row. n == row.next) ≡ true → ⊥
      never None e h = cc
      never (Some rd) e h = cc

  -- after UnRec, the number of the destroyed REC has no granule, and each other REC number has the granule that it had
  -- before
  pub rec_is_gone : (granule : ℕ) (aux : ArrayVec ℕ 16 (Unit {0})) (n : ℕ) → step limits w (by b (UnRec granule aux n)) ≡ Some v
      → (m : ℕ) → rec_granule (realm_of b v) m ≡ cond (eq_by_cmp nat_cmp m n) None (rec_granule (realm_of b w) m)
  rec_is_gone granule aux n s m =
      let act : Act = UnRec granule aux n in
      let to = step-part_of limits b w v (by b act) refl s in
      elim (part_realm b w kept) [
        | inl none ↦
            no_granule b v kept_v m (still_none limits (part_of w b) (part_of v b) b act (square limits b w v kept kept_v) refl to (none_there b w kept none))
            ∙ sym (cond_none (eq_by_cmp nat_cmp m n))
            ∙ ap (cond (eq_by_cmp nat_cmp m n) nothing) (sym (no_granule b w kept m (none_there b w kept none)))
        | inr there ↦
            let then = turned_by limits b (part_of w b) (part_of v b) act (Loses n) (square limits b w v kept kept_v) kept.sound.part (no_rows limits b w v kept kept_v)
            (λ d rec is ready. lost n d) to there.0 there.1 there.2 in
            granule_at b v kept_v m there.0 then.0 then.1 ∙ then.2 m ∙ ap (cond (eq_by_cmp nat_cmp m n) nothing) (sym (granule_at b w kept m there.0 there.1 there.2))
      ]
