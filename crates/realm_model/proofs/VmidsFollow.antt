-- The proof that only the creation and destruction of realms change the VMIDs in use.
use Rattle.std.proofs.Common.{◌≡◌, ℕ, ◌≤◌, Bool, true, false, ◌||◌, List, [], ◌∷◌, ◌++◌, length, Option, Some, None, refl, sym, ap, ◌∙◌, subst, arith, ⊎_elim}
use Rattle.std.specs.Prelude.{◌==◌, slice_get, filter}
use Rattle.std.specs.List.{flat_map}
use Rattle.std.proofs.lemmas.Bool.{cases_eq, eqb-true, ne_eqb}
use Rattle.std.proofs.lemmas.List.{length-append}
use Rattle.std.proofs.lemmas.Option.{same_Some}
use Rattle.realm_model.specs.declared.act.Act.{Act}
use Rattle.realm_model.specs.declared.act.Act.TheVariants.{Realm, UnRealm}
use Rattle.realm_model.specs.declared.act.Event.{Event}
use Rattle.realm_model.specs.Machine.{Limits, RealmRow, Cell, Seen}
use Rattle.realm_model.specs.Act.{is_reverse, reverse_of}
use Rattle.realm_model.specs.OpenRealm.{makes_realm, maker, makers}
use Rattle.realm_model.specs.World.{World, realm_of}
use Rattle.realm_model.specs.Step.{step, used_vmids}
use Rattle.realm_model.specs.History.{open_entries, replay, IsLegal, IsInTurn}
use Rattle.realm_model.specs.Undoing.{by}
use Rattle.realm_model.proofs.Booleans.{or_none, or_true, false_from}
use Rattle.realm_model.proofs.Growth.{Grows, grows, open_entries-other}
use Rattle.realm_model.proofs.Leases.{leased}
use Rattle.realm_model.specs.Command.Check.{is_in}
use Rattle.realm_model.proofs.Lists.{is_in_head, is_in-append}
use Rattle.realm_model.proofs.OpenRealm.{maker_at, realm_is_open}
use Rattle.realm_model.proofs.Reachable.{realm_of_build, reachable_worlds}
use Rattle.realm_model.proofs.RealmAfter.{is_realm_destroy}
use Rattle.realm_model.proofs.RealmOf.{IsAt, IsAt-realm_of, IsHeld, IsHeld-realm_of}
use Rattle.realm_model.proofs.UsedVmids.{used_at, used_by}
use Rattle.realm_model.proofs.ZeroPages.{kept_reached}
use Rattle.realm_model.proofs.Made.{taken_back, opens, closes, stays}
use Rattle.realm_model.specs.VmidsUsed.{VmidsFollowSteps}

-- ---- the VMIDs of open operations

-- the VMID that an operation gives to a new realm, as a list of at most one element; `vmid_removed` is that of a realm
-- that the operation destroys
abbrev vmid_made : Act → List ℕ
vmid_made (Realm rd root vmid) = vmid ∷ []
vmid_made _ = []

abbrev vmid_removed : Act → List ℕ
vmid_removed act = vmid_made (taken_back act)

abbrev vmids_open : ℕ → List Event → List ℕ
vmids_open build history = flat_map vmid_made (open_entries build history)

none_made : (act : Act) → makes_realm act ≡ false → vmid_made act ≡ []
none_made (Realm rd root vmid) plain = cc
none_made _ plain = refl

none_removed : (act : Act) → is_realm_destroy act ≡ false → vmid_removed act ≡ []
none_removed (UnRealm rd root vmid) plain = cc
none_removed _ plain = refl

among_makers : (acts : List Act) → flat_map vmid_made acts ≡ flat_map vmid_made (filter makes_realm acts)
among_makers [] = refl
among_makers (Realm rd root vmid ∷ acts) = ap (λ xs. vmid ∷ xs) (among_makers acts)
among_makers (_ ∷ acts) = among_makers acts

-- ---- a VMID in use is that of one build's realm

-- a build's realm has the VMID
record HasVmid (b v : ℕ) (w : World) : Type 0 where
  rd : Seen
  realm : RealmRow
  is : realm_of b w ≡ Some rd
  row : rd.cell.descriptor ≡ Some realm
  same : realm.vmid ≡ v

alone_in : (v u : ℕ) → is_in v (u ∷ []) ≡ true → u ≡ v
alone_in v u h = sym (eqb-true v u (sym (or_none (v == u)) ∙ h))

has_vmid : (b v : ℕ) (w : World) (o : Option Seen) → realm_of b w ≡ o → is_in v (flat_map vmid_made (makers o)) ≡ true → HasVmid b v w
has_vmid b v w None is h = cc
has_vmid b v w (Some rd) is h = by_row rd.cell.descriptor refl h
  where
    by_row : (o : Option RealmRow) → rd.cell.descriptor ≡ o → is_in v (flat_map vmid_made (elim o [ Some realm ↦ maker rd.number realm ∷ [] | None ↦ [] ])) ≡ true → HasVmid b v w
    by_row None row h = cc
    by_row (Some realm) row h = record { rd = rd; realm = realm; is = is; row = row; same = alone_in v realm.vmid h }

-- the operations that created a build's realm gave it at most one VMID
one_at_most : (o : Option Seen) → length (flat_map vmid_made (makers o)) ≤ 1
one_at_most None = omega arith
one_at_most (Some rd) = by_row rd.cell.descriptor
  where
    by_row : (d : Option RealmRow) → length (flat_map vmid_made (elim d [ Some realm ↦ maker rd.number realm ∷ [] | None ↦ [] ])) ≤ 1
    by_row None = omega arith
    by_row (Some realm) = omega arith

only_one : (o : Option Seen) (xs : List ℕ) (v : ℕ) → flat_map vmid_made (makers o) ≡ xs ++ v ∷ [] → xs ≡ []
only_one o [] v e = refl
only_one o (x ∷ xs) v e =
    let few = one_at_most o in
    let many = ap length e ∙ length-append (x ∷ xs) (v ∷ []) in
    absurd (omega arith)

module _ (limits : Limits) (history : List Event) (w : World) (legal : IsLegal limits history) (at_w : replay limits history ≡ Some w) where
  vmids_are : (b : ℕ) → vmids_open b history ≡ flat_map vmid_made (makers (realm_of b w))
  vmids_are b = among_makers (open_entries b history) ∙ ap (flat_map vmid_made) (realm_is_open limits history w b legal at_w)

  user : (b v : ℕ) → is_in v (vmids_open b history) ≡ true → HasVmid b v w
  user b v h = has_vmid b v w (realm_of b w) refl (ap (is_in v) (sym (vmids_are b)) ∙ h)

  stands : (b v : ℕ) (has : HasVmid b v w) → IsAt w.machine (Some has.rd)
  stands b v has = subst (IsAt w.machine) has.is (IsAt-realm_of b w)

  holds : (b v : ℕ) (has : HasVmid b v w) → slice_get w.leases has.rd.number ≡ Some (Some b)
  holds b v has = leased (Some b) w.leases has.rd.number (subst (IsHeld b w.leases) has.is (IsHeld-realm_of b w))

  used : (b v : ℕ) → is_in v (vmids_open b history) ≡ true → is_in v (used_vmids w.machine) ≡ true
  used b v h =
      let has = user b v h in
      ap (λ x. is_in x (used_vmids w.machine)) (sym has.same)
      ∙ used_at w.machine has.rd.number has.realm (ap (λ (c : Cell). c.descriptor) (stands b v has) ∙ has.row)

  opened : (v : ℕ) → is_in v (used_vmids w.machine) ≡ true → (b : ℕ) × (is_in v (vmids_open b history) ≡ true)
  opened v h =
      let by_realm = used_by v w.machine h in
      let own = realm_of_build limits history w at_w by_realm.at by_realm.realm by_realm.there in (
        own.0,
        ap (is_in v) (vmids_are own.0 ∙ ap (flat_map vmid_made) (maker_at own.0 w (kept_reached limits own.0 history w at_w) by_realm.at by_realm.realm own.2))
            ∙ ap (λ x. is_in v (x ∷ [])) by_realm.same ∙ is_in_head v [],
      )

  one_user : (b c v : ℕ) → is_in v (vmids_open b history) ≡ true → is_in v (vmids_open c history) ≡ true → b ≡ c
  one_user b c v in_b in_c =
      let has = user b v in_b in
      let also = user c v in_c in
      let place : has.rd.number ≡ also.rd.number = (reachable_worlds limits history w at_w).vmids has.rd.number also.rd.number has.realm also.realm
      (ap (λ (x : Cell). x.descriptor) (stands b v has) ∙ has.row) (ap (λ (x : Cell). x.descriptor) (stands c v also) ∙ also.row) (has.same ∙ sym also.same) in
      same_Some _ _ (same_Some _ _ (sym (holds b v has) ∙ ap (slice_get w.leases) place ∙ holds c v also))

-- ---- after an operation

both_ways : (s t : Bool) → (s ≡ true → t ≡ true) → (t ≡ true → s ≡ true) → s ≡ t
both_ways true t to from = sym (to refl)
both_ways false true to from = from refl
both_ways false false to from = refl

not_the_last : (x v : ℕ) (xs : List ℕ) → (x ≡ v → ⊥) → is_in x (xs ++ v ∷ []) ≡ is_in x xs
not_the_last x v xs apart =
    is_in-append x xs (v ∷ []) ∙ ap (λ t. is_in x xs || (t || false)) (ne_eqb x v apart) ∙ or_none (is_in x xs)

the_last : (v : ℕ) (xs : List ℕ) → is_in v (xs ++ v ∷ []) ≡ true
the_last v xs = is_in-append v xs (v ∷ []) ∙ ap (λ t. is_in v xs || t) (is_in_head v []) ∙ or_true (is_in v xs)

module _ (limits : Limits) (before : List Event) (w v : World) (legal : IsLegal limits before) (at_w : replay limits before ≡ Some w) (b : ℕ) (act : Act)
    (turn : IsInTurn before (by b act)) (s : step limits w (by b act) ≡ Some v) where
  abbrev later : List Event
  later = before ++ by b act ∷ []

  grown : Grows limits before (by b act) v
  grown = grows limits before (by b act) w v legal at_w s turn

  same_open : makes_realm act ≡ false → is_realm_destroy act ≡ false → vmids_open b later ≡ vmids_open b before
  same_open plain stay = stays vmid_made (λ granule ipa source. refl) b before act turn (none_made act plain) (none_removed act stay)

  others_open : (c : ℕ) → (c ≡ b → ⊥) → vmids_open c later ≡ vmids_open c before
  others_open c apart = ap (flat_map vmid_made) (open_entries-other c before (by b act) (λ e. apart (sym e)))

  -- if the step does not change whether the build's open operations have a VMID, it does not change whether the VMID is
  -- in use
  same_used : (x : ℕ) → is_in x (vmids_open b later) ≡ is_in x (vmids_open b before) → is_in x (used_vmids v.machine) ≡ is_in x (used_vmids w.machine)
  same_used x own =
      both_ways _ _
      (λ h. let o = opened limits later v grown.legal grown.world_is x h in used limits before w legal at_w o.0 x (sym (each o.0) ∙ o.1))
      (λ h. let o = opened limits before w legal at_w x h in used limits later v grown.legal grown.world_is o.0 x (each o.0 ∙ o.1))
    where
      each : (c : ℕ) → is_in x (vmids_open c later) ≡ is_in x (vmids_open c before)
      each c = ⊎_elim
          (λ same. ap (λ n. is_in x (vmids_open n later)) same ∙ own ∙ ap (λ n. is_in x (vmids_open n before)) (sym same))
          (λ apart. ap (is_in x) (others_open c apart))
          (cases_eq c b)

  plain_follows : makes_realm act ≡ false → is_realm_destroy act ≡ false → (x : ℕ) → is_in x (used_vmids v.machine) ≡ is_in x (used_vmids w.machine)
  plain_follows plain stay x = same_used x (ap (is_in x) (same_open plain stay))

  -- a VMID that the step adds to those of the build's open operations is in use, and nothing changes for other VMIDs
  made_follows : (vmid : ℕ) → vmids_open b later ≡ vmids_open b before ++ vmid ∷ []
      → (is_in vmid (used_vmids v.machine) ≡ true) × ((x : ℕ) → (x ≡ vmid → ⊥) → is_in x (used_vmids v.machine) ≡ is_in x (used_vmids w.machine))
  made_follows vmid is = (
    used limits later v grown.legal grown.world_is b vmid (ap (is_in vmid) is ∙ the_last vmid (vmids_open b before)),
    λ x apart. same_used x (ap (is_in x) is ∙ not_the_last x vmid (vmids_open b before) apart),
  )

  gone_follows : (vmid : ℕ) → vmids_open b before ≡ vmids_open b later ++ vmid ∷ []
      → (is_in vmid (used_vmids v.machine) ≡ false) × ((x : ℕ) → (x ≡ vmid → ⊥) → is_in x (used_vmids v.machine) ≡ is_in x (used_vmids w.machine))
  gone_follows vmid is = (
    false_from _ (λ h.
        let o = opened limits later v grown.legal grown.world_is vmid h in
        ⊎_elim
        (λ same.
        let none : vmids_open b later ≡ [] = only_one (realm_of b w) (vmids_open b later) vmid (sym (vmids_are limits before w legal at_w b) ∙ is) in
        let never : false ≡ true = ap (is_in vmid) (sym none) ∙ ap (λ n. is_in vmid (vmids_open n later)) (sym same) ∙ o.1 in
        cc)
        (λ apart. apart (one_user limits before w legal at_w o.0 b vmid
        (ap (is_in vmid) (sym (others_open o.0 apart)) ∙ o.1)
        (ap (is_in vmid) is ∙ the_last vmid (vmids_open b later))))
        (cases_eq o.0 b)),
    λ x apart. same_used x (sym (ap (is_in x) is ∙ not_the_last x vmid (vmids_open b later) apart)),
  )

pub vmids_follow : (limits : Limits) (history : List Event) (world : World) (build : ℕ) (act : Act) (next : World) → IsLegal limits history → replay limits history ≡ Some world
    → VmidsFollowSteps limits history world build act next
unfolding reverse_of is_reverse
vmids_follow limits history world build (Realm rd root vmid) next legal at turn s =
    let act : Act = Realm rd root vmid in
    let done = made_follows limits history world next legal at build act turn s vmid (opens vmid_made (λ granule ipa source. refl) build history act turn refl) in
    record { one = done.0; others = done.1 }
vmids_follow limits history world build (UnRealm rd root vmid) next legal at turn s =
    let act : Act = UnRealm rd root vmid in
    let done = gone_follows limits history world next legal at build act turn s vmid (closes vmid_made (λ granule ipa source. refl) build history act turn refl refl) in
    record { one = done.0; others = done.1 }
vmids_follow limits history world build act next legal at turn s = plain_follows limits history world next legal at build act turn s refl refl
