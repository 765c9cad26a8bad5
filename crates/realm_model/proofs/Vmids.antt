-- The proof that, after any history, the VMIDs of realms are in range and distinct.
use Rattle.std.proofs.Common.{◌≡◌, ◌≢◌, ℕ, ◌≤◌, true, false, cond, ◌⊎◌, inl, inr, List, [], ◌∷◌, map, replicate, Option, Some, None, refl, sym, ap, ◌∙◌, subst}
use Rattle.std.specs.Prelude.{◌==◌, is_some}
use Rattle.std.proofs.lemmas.Bool.{eqb-true}
use Rattle.std.proofs.lemmas.Option.{same_Some}
use Rattle.granule_addr.specs.Root.{starting_tables}
use Rattle.granule_addr.specs.declared.width.Root.{Root}
use Rattle.realm_model.specs.declared.states.GranuleState.TheVariants.{RecAux, Rtt as InRtt}
use Rattle.realm_model.specs.declared.act.Act.{Act}
use Rattle.realm_model.specs.declared.act.Act.TheVariants.{Take, UnTake, Fill, Peek, Delegate, Undelegate, Realm, UnRealm, Activate}
use Rattle.realm_model.specs.declared.act.Act.TheVariants.{Rtt, UnRtt, Ripas, Data, Unknown, UnData, Rec, UnRec, Enter, Exit, Poke}
use Rattle.realm_model.specs.declared.act.Event.{Event}
use Rattle.realm_model.specs.Machine.{Limits, RealmRow, Cell, Seen, blank, left, held, cell_at, seen}
use Rattle.realm_model.specs.Update.{Update, Put, PutByte, Lease, Free, granule_of, cell_after}
use Rattle.realm_model.specs.Command.Realm.{new_realm}
use Rattle.realm_model.specs.Act.{named}
use Rattle.realm_model.specs.Outcome.{outcome_of}
use Rattle.realm_model.specs.World.{World, realm_of}
use Rattle.realm_model.specs.Step.{step, used_vmids}
use Rattle.realm_model.specs.History.{replay}
use Rattle.realm_model.specs.OpenRealm.{makes_realm}
use Rattle.realm_model.specs.Undoing.{by}
use Rattle.realm_model.proofs.Booleans.{true_false}
use Rattle.realm_model.specs.Command.Check.{is_in}
use Rattle.realm_model.proofs.NewRealms.{CanBeMade, can_be_made}
use Rattle.realm_model.proofs.UsedVmids.{used_at}
use Rattle.realm_model.proofs.Outcomes.{Yields, Yields-Ok, Yields-Err, Yields-check, Yields-with_realm, Yields-with_rec, Yields-with_end, Yields-with_granule}
use Rattle.realm_model.proofs.Leases.{cell_at-replicate}
use Rattle.realm_model.proofs.RealmOf.{IsAt, IsAt-realm_of}
use Rattle.realm_model.proofs.Written.{put_at, cell_put, put_seen, each_in_front, each_alone, IsSquare}
use Rattle.realm_model.proofs.StepBack.{done}
use Rattle.realm_model.proofs.Reached.{of_reached, IsSized, sized_step, sized_opening}

same_vmid : (r x : RealmRow) → ◌≡◌ {A = Option RealmRow} (Some r) (Some x) → r.vmid ≡ x.vmid
same_vmid r x h = ap (λ (y : RealmRow). y.vmid) (same_Some _ _ h)

new_vmid : (v : ℕ) (root : Root) → (new_realm v root).vmid ≡ v
unfolding new_realm
new_vmid v root = refl

module _ (limits : Limits) (w : World) (Made : ℕ → RealmRow → Type 0) where
  abbrev now : ℕ → Cell
  now k = cell_at w.machine k

  -- in world `w` the granule is the RD of a realm with the VMID of `e`, or `Made` holds of the granule and `e`
  abbrev pub From : ℕ → RealmRow → Type 0
  From k e = ((d : RealmRow) × ((now k).descriptor ≡ Some d) × (d.vmid ≡ e.vmid)) ⊎ Made k e

  abbrev FromCell : ℕ → Cell → Type 0
  FromCell k c = (e : RealmRow) → c.descriptor ≡ Some e → From k e

  abbrev KeepsVmid : Update → Type 0
  KeepsVmid (Put g x) = FromCell g x
  KeepsVmid _ = Unit {0}

  abbrev V : List Update → Type 0
  V [] = Unit {0}
  V (u ∷ us) = KeepsVmid u × V us

  from_now : (g : ℕ) → FromCell g (now g)
  from_now g e h = inl (e, h, refl)

  vmid_cell : (u : Update) (c : Cell) → KeepsVmid u → FromCell (granule_of u) c → FromCell (granule_of u) (cell_after u c)
  vmid_cell (Put g x) c keeps h = keeps
  vmid_cell (PutByte g o v) c keeps h = h
  vmid_cell (Lease g) c keeps h = h
  vmid_cell (Free g) c keeps h = λ e is. cc

  from_put : (us : List Update) (k : ℕ) (c : Cell) → V us → FromCell k c → FromCell k (put_at us k c)
  from_put [] k c keeps h = h
  from_put (u ∷ us) k c keeps h = from_put us k (cond (k == granule_of u) (cell_after u c) c) keeps.1
      (elim (k == granule_of u) as (λ t. (k == granule_of u) ≡ t → FromCell k (cond t (cell_after u c) c)) [
        | true ↦ λ e. let same : k ≡ granule_of u = eqb-true k (granule_of u) e in
            subst (λ j. FromCell j (cell_after u c)) (sym same) (vmid_cell u c keeps.0 (subst (λ j. FromCell j c) same h))
        | false ↦ λ e. h
      ] refl)

  vmid_takes : (gs : List Seen) → V (map (λ (g : Seen). Lease g.number) gs)
  vmid_takes [] = tt
  vmid_takes (g ∷ gs) = (tt, vmid_takes gs)

  vmid_frees : (gs : List Seen) → V (map (λ (g : Seen). Free g.number) gs)
  vmid_frees [] = tt
  vmid_frees (g ∷ gs) = (tt, vmid_frees gs)

  -- `From` holds of a realm's RD and a changed row of the realm, if the VMID is the same
  realm_vmid : (rd : Seen) (d : RealmRow) → now rd.number ≡ rd.cell → rd.cell.descriptor ≡ Some d → (e : RealmRow) → d.vmid ≡ e.vmid → From rd.number e
  realm_vmid rd d at is e same = inl (d, ap (λ (c : Cell). c.descriptor) at ∙ is, same)

  -- if the operation creates a realm and the realm can be made, `Made` holds of its RD and its row
  abbrev Makes : Act → Type 0
  Makes (Realm rd root v) = (e : RealmRow) → e.vmid ≡ v → CanBeMade limits.vmids (used_vmids w.machine) w.machine rd root v → Made rd e
  Makes _ = Unit {0}

  vmids : (act : Act) (realm : Option Seen) → Makes act → IsAt w.machine realm → Yields V (outcome_of limits.vmids limits.aux (used_vmids w.machine) act realm (map (seen w.machine) (named act)))
  unfolding outcome_of named
  vmids (Take order first) realm makes at = Yields-Ok V _ (vmid_takes _)
  vmids (UnTake order first) realm makes at = Yields-Ok V _ (vmid_frees _)
  vmids (Fill g v) realm makes at = Yields-check V _ _ _ (λ host. Yields-Ok V _ (from_now g, tt))
  vmids (Peek g o v) realm makes at = Yields-check V _ _ _ (λ _. Yields-Ok V _ tt)
  vmids (Delegate g) realm makes at = Yields-check V _ _ _ (λ _. Yields-Ok V _ (λ e h. cc, tt))
  vmids (Undelegate g) realm makes at = Yields-check V _ _ _ (λ _. Yields-Ok V _ (from_now g, tt))
  vmids (Realm rd root v) realm makes at = Yields-check V _ _ _ (λ all.
      let new = can_be_made limits.vmids (used_vmids w.machine) w.machine rd root v all in
      Yields-Ok V _ (
        λ e h. inr (makes e (ap (λ (x : RealmRow). x.vmid) (sym (same_Some _ _ h)) ∙ new_vmid v root) new),
        each_alone V (put_seen (held InRtt rd)) (λ a us h. (λ e h. cc, h)) (map (seen w.machine) (starting_tables root)) tt,
      ))
  vmids (UnRealm rd root v) realm makes at = Yields-with_realm V _ _ (λ d is. Yields-check V _ _ _ (λ _. Yields-Ok V _
      (λ e h. cc, each_alone V (λ g. Put g left) (λ g us h. (λ e h. cc, h)) (starting_tables d.root) tt)))
  vmids Activate None makes at = Yields-Err V _
  vmids Activate (Some rd) makes at = Yields-with_realm V _ _ (λ d is. Yields-check V _ _ _ (λ _. Yields-Ok V _ (λ x h. realm_vmid rd d at is x (same_vmid _ x h), tt)))
  vmids (Rtt g ipa level) None makes at = Yields-Err V _
  vmids (Rtt g ipa level) (Some rd) makes at = Yields-with_realm V _ _ (λ d is. Yields-check V _ _ _ (λ _. Yields-with_end V _ _ _ _ (λ end e. Yields-check V _ _ _ (λ _. Yields-check V _ _ _ (λ _.
      Yields-Ok V _ (λ e h. cc, (λ x h. realm_vmid rd d at is x (same_vmid _ x h), tt)))))))
  vmids (UnRtt g ipa level) None makes at = Yields-Err V _
  vmids (UnRtt g ipa level) (Some rd) makes at =
      Yields-with_realm V _ _ (λ d is. Yields-check V _ _ _ (λ _. Yields-with_end V _ _ _ _
      (λ end e. Yields-check V _ _ _ (λ _. Yields-check V _ _ _ (λ _. Yields-check V _ _ _ (λ _. Yields-with_granule V _ _ (λ pa to.
      Yields-Ok V _ (λ e h. cc, (λ x h. realm_vmid rd d at is x (same_vmid _ x h), tt)))))))))
  vmids (Ripas ipa n) None makes at = Yields-Err V _
  vmids (Ripas ipa n) (Some rd) makes at =
      Yields-with_realm V _ _ (λ d is. Yields-check V _ _ _ (λ _. Yields-check V _ _ _ (λ _. Yields-with_end V _ _ _ _ (λ end e. Yields-check V _ _ _ (λ _. Yields-check V _ _ _ (λ _.
      Yields-Ok V _ (λ x h. realm_vmid rd d at is x (same_vmid _ x h), tt)))))))
  vmids (Data g ipa source) None makes at = Yields-Err V _
  vmids (Data g ipa source) (Some rd) makes at =
      Yields-with_realm V _ _ (λ d is. Yields-check V _ _ _ (λ _. Yields-check V _ _ _ (λ _. Yields-with_end V _ _ _ _ (λ end e. Yields-check V _ _ _ (λ _. Yields-check V _ _ _ (λ _.
      Yields-Ok V _ (λ e h. cc, (λ x h. realm_vmid rd d at is x (same_vmid _ x h), tt))))))))
  vmids (Unknown g ipa) None makes at = Yields-Err V _
  vmids (Unknown g ipa) (Some rd) makes at = Yields-with_realm V _ _ (λ d is. Yields-check V _ _ _ (λ _. Yields-with_end V _ _ _ _ (λ end e. Yields-check V _ _ _ (λ _. Yields-check V _ _ _ (λ _.
      Yields-Ok V _ (λ e h. cc, (λ x h. realm_vmid rd d at is x (same_vmid _ x h), tt)))))))
  vmids (UnData g ipa) None makes at = Yields-Err V _
  vmids (UnData g ipa) (Some rd) makes at =
      Yields-with_realm V _ _ (λ d is. Yields-check V _ _ _ (λ _. Yields-with_end V _ _ _ _ (λ end e. Yields-check V _ _ _ (λ _. Yields-check V _ _ _ (λ _. Yields-with_granule V _ _ (λ pa to.
      Yields-Ok V _ (λ e h. cc, (λ x h. realm_vmid rd d at is x (same_vmid _ x h), tt))))))))
  vmids (Rec g aux m) None makes at = Yields-Err V _
  vmids (Rec g aux m) (Some rd) makes at = Yields-with_realm V _ _ (λ d is. Yields-check V _ _ _ (λ _. Yields-check V _ _ _ (λ _.
      Yields-Ok V _ (
        λ e h. cc,
        each_in_front V (put_seen (held RecAux rd.number)) (λ a us h. (λ e h. cc, h)) (map (seen w.machine) aux.items) _
            (λ x h. realm_vmid rd d at is x (same_vmid _ x h), tt),
      ))))
  vmids (UnRec g aux m) None makes at = Yields-Err V _
  vmids (UnRec g aux m) (Some rd) makes at = Yields-with_realm V _ _ (λ d is. Yields-with_rec V _ _ _ (λ rec there. Yields-check V _ _ _ (λ _.
      Yields-Ok V _ (λ e h. cc, each_in_front V (λ g. Put g left) (λ g us h. (λ e h. cc, h)) rec.auxiliaries _ (λ x h. realm_vmid rd d at is x (same_vmid _ x h), tt)))))
  vmids (Enter m) None makes at = Yields-Err V _
  vmids (Enter m) (Some rd) makes at =
      Yields-with_realm V _ _ (λ d is. Yields-with_rec V _ _ _ (λ rec there. Yields-check V _ _ _
      (λ _. Yields-check V _ _ _ (λ _. Yields-Ok V _ (λ x h. realm_vmid rd d at is x (same_vmid _ x h), tt)))))
  vmids (Exit m) None makes at = Yields-Err V _
  vmids (Exit m) (Some rd) makes at =
      Yields-with_realm V _ _ (λ d is. Yields-with_rec V _ _ _ (λ rec there. Yields-check V _ _ _ (λ _. Yields-Ok V _ (λ x h. realm_vmid rd d at is x (same_vmid _ x h), tt))))
  vmids (Poke m ipa o v) None makes at = Yields-Err V _
  vmids (Poke m ipa o v) (Some rd) makes at = Yields-with_realm V _ _ (λ d is. Yields-with_rec V _ _ _ (λ rec there. Yields-check V _ _ _ (λ _. Yields-check V _ _ _ (λ _.
      Yields-with_end V _ _ _ _ (λ end e. Yields-check V _ _ _ (λ used. Yields-with_granule V _ _ (λ pa to. Yields-Ok V _ (tt, tt))))))))

-- ---- worlds

pub record HasVmids (limits : Limits) (w : World) : Type 0 where
  pub range : (k : ℕ) (d : RealmRow) → (cell_at w.machine k).descriptor ≡ Some d → (1 ≤ d.vmid) × (d.vmid ≤ limits.vmids)
  pub apart : (k h : ℕ) (d e : RealmRow) → (cell_at w.machine k).descriptor ≡ Some d → (cell_at w.machine h).descriptor ≡ Some e → d.vmid ≡ e.vmid → k ≡ h

-- the operation creates a realm with the RD `k` and the VMID of `e`, and this realm can be made
abbrev pub IsMade : Limits → World → Act → ℕ → RealmRow → Type 0
IsMade limits w (Realm rd root v) k e = (k ≡ rd) × (e.vmid ≡ v) × CanBeMade limits.vmids (used_vmids w.machine) w.machine rd root v
IsMade limits w _ k e = ⊥

makes : (limits : Limits) (w : World) (act : Act) → Makes limits w (IsMade limits w act) act
makes limits w (Realm rd root v) = λ e same new. (refl, same, new)
makes limits w _ = tt

made_range : (limits : Limits) (w : World) (act : Act) (k : ℕ) (e : RealmRow) → IsMade limits w act k e → (1 ≤ e.vmid) × (e.vmid ≤ limits.vmids)
made_range limits w (Realm rd root v) k e m = let new = m.2 in (subst (λ n. 1 ≤ n) (sym m.1) new.least, subst (λ n. n ≤ limits.vmids) (sym m.1) new.most)
made_range limits w _ k e m = absurd m

made_once : (limits : Limits) (w : World) (act : Act) (k h : ℕ) (d e : RealmRow) → IsMade limits w act k d → IsMade limits w act h e → k ≡ h
made_once limits w (Realm rd root v) k h d e m n = m.0 ∙ sym n.0
made_once limits w _ k h d e m n = absurd m

made_apart : (limits : Limits) (w : World) (act : Act) (k h : ℕ) (d e : RealmRow) → (cell_at w.machine k).descriptor ≡ Some d → IsMade limits w act h e → d.vmid ≢ e.vmid
made_apart limits w (Realm rd root v) k h d e is m = λ same. let new = m.2 in true_false _ (used_at w.machine k d is) (ap (λ n. is_in n (used_vmids w.machine)) (same ∙ m.1) ∙ new.free)
made_apart limits w _ k h d e is m = absurd m

-- each realm after a step had the same RD and VMID before the step, or is created by the step
pub realm_before : (limits : Limits) (w v : World) (b : ℕ) (act : Act) → IsSquare w → step limits w (by b act) ≡ Some v
    → (k : ℕ) (e : RealmRow) → (cell_at v.machine k).descriptor ≡ Some e → From limits w (IsMade limits w act) k e
realm_before limits w v b act square s k e is =
    let did = done limits b w v act (V limits w (IsMade limits w act)) (vmids limits w (IsMade limits w act) act (realm_of b w) (makes limits w act) (IsAt-realm_of b w)) s in
    from_put limits w (IsMade limits w act) did.0 k (cell_at w.machine k) did.1 (from_now limits w (IsMade limits w act) k) e
    (ap (λ (c : Cell). c.descriptor) (sym (cell_put b did.0 w v square did.2 k)) ∙ is)

-- an operation that does not create a realm does not satisfy `IsMade`; so (`still_none`) it leaves no realm where there
-- was none
none_made : (limits : Limits) (w : World) (act : Act) (k : ℕ) (e : RealmRow) → makes_realm act ≡ false → IsMade limits w act k e → ⊥
none_made limits w (Realm rd root v) k e plain made = cc
none_made limits w _ k e plain made = made

pub still_none : (limits : Limits) (w v : World) (b : ℕ) (act : Act) → IsSquare w → makes_realm act ≡ false → step limits w (by b act) ≡ Some v
    → ((k : ℕ) → (cell_at w.machine k).descriptor ≡ None) → (k : ℕ) → (cell_at v.machine k).descriptor ≡ None
still_none limits w v b act square plain s none k = by_row (cell_at v.machine k).descriptor refl
  where
    by_row : (o : Option RealmRow) → (cell_at v.machine k).descriptor ≡ o → o ≡ None
    by_row None is = refl
    by_row (Some e) is = elim (realm_before limits w v b act square s k e is) [
      | inl was ↦ absurd (true_false _ (ap is_some was.1) (ap is_some (none k)))
      | inr made ↦ absurd (none_made limits w act k e plain made)
    ]

vmids_step : (limits : Limits) (w v : World) (b : ℕ) (act : Act) → IsSized limits w → HasVmids limits w → step limits w (by b act) ≡ Some v → HasVmids limits v
vmids_step limits w v b act sized old s =
    let square : IsSquare w = sized.leases ∙ sym sized.machine in
    let from = realm_before limits w v b act square s in
    record {
      range = λ k e is. elim (from k e is) [
        | inl was ↦ let r = old.range k was.0 was.1 in (subst (λ n. 1 ≤ n) was.2 r.0, subst (λ n. n ≤ limits.vmids) was.2 r.1)
        | inr made ↦ made_range limits w act k e made
      ];
      apart = λ k h d e is it same. elim (from k d is) [
        | inl was ↦ elim (from h e it) [
          | inl too ↦ old.apart k h was.0 too.0 was.1 too.1 (was.2 ∙ same ∙ sym too.2)
          | inr made ↦ absurd (made_apart limits w act k h was.0 e was.1 made (was.2 ∙ same))
        ]
        | inr made ↦ elim (from h e it) [
          | inl too ↦ absurd (made_apart limits w act h k too.0 d too.1 made (too.2 ∙ sym same))
          | inr both ↦ made_once limits w act k h d e made both
        ]
      ];
    }

pub vmids_reached : (limits : Limits) (history : List Event) (w : World) → replay limits history ≡ Some w → HasVmids limits w
vmids_reached limits history w at_w = (of_reached limits (λ w. IsSized limits w × HasVmids limits w)
    (λ w v e h s. (sized_step limits w v e h.0 s, vmids_step limits w v e.build e.act h.0 h.1 s))
    (sized_opening limits, record { range = λ k d is. absurd (none_there k d is); apart = λ k h d e is it same. absurd (none_there k d is) })
    history w at_w).1
  where
    none_there : (k : ℕ) (d : RealmRow) → (cell_at (replicate limits.pages blank) k).descriptor ≡ Some d → ⊥
    none_there k d is = true_false _ (ap is_some is) (ap (λ (c : Cell). is_some c.descriptor) (cell_at-replicate limits.pages k))
