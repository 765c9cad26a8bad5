-- The proof that the VMIDs in use are those of the Realm operations that builds have open.
use Rattle.std.proofs.Common.{◌≡◌, ℕ, true, cond, ◌||◌, List, [], ◌∷◌, Option, Some, None, refl, sym, ap, ◌∙◌}
use Rattle.std.specs.Prelude.{◌==◌, filter}
use Rattle.std.specs.List.{list_any, Contains}
use Rattle.std.proofs.lemmas.Bool.{eq-eqb, eqb-true}
use Rattle.realm_model.specs.declared.act.Act.{Act}
use Rattle.realm_model.specs.declared.act.Act.TheVariants.{Realm}
use Rattle.realm_model.specs.declared.act.Event.{Event}
use Rattle.realm_model.specs.Machine.{Limits, RealmRow, Cell, Seen}
use Rattle.realm_model.specs.World.{World, realm_of}
use Rattle.realm_model.specs.Step.{used_vmids}
use Rattle.realm_model.specs.History.{open_entries, replay, IsLegal}
use Rattle.realm_model.specs.OpenRealm.{makes_realm, maker, makers, uses_vmid, VmidIsOpen}
use Rattle.realm_model.proofs.Booleans.{or_none}
use Rattle.realm_model.specs.Command.Check.{is_in}
use Rattle.realm_model.proofs.Lists.{Contains-from_in, in_from_Contains}
use Rattle.realm_model.proofs.UsedVmids.{used_at, used_by}
use Rattle.realm_model.proofs.OpenRealm.{maker_at, realm_is_open}
use Rattle.realm_model.proofs.Reachable.{realm_of_build}
use Rattle.realm_model.proofs.RealmOf.{IsAt, IsAt-realm_of}
use Rattle.realm_model.proofs.ZeroPages.{kept_reached}

-- leaving out an operation that creates no realm does not change whether some operation uses a VMID
one_more : (vmid : ℕ) (act : Act) (acts : List Act) → list_any (uses_vmid vmid) (cond (makes_realm act) (act ∷ acts) acts) ≡ (uses_vmid vmid act || list_any (uses_vmid vmid) acts)
one_more vmid (Realm rd root v) acts = refl
one_more vmid _ acts = refl

among_makers : (vmid : ℕ) (acts : List Act) → list_any (uses_vmid vmid) (filter makes_realm acts) ≡ list_any (uses_vmid vmid) acts
among_makers vmid [] = refl
among_makers vmid (act ∷ acts) = one_more vmid act (filter makes_realm acts) ∙ ap (λ t. uses_vmid vmid act || t) (among_makers vmid acts)

uses_one : (vmid k : ℕ) (d : RealmRow) → d.vmid ≡ vmid → list_any (uses_vmid vmid) (maker k d ∷ []) ≡ true
uses_one vmid k d same = or_none (d.vmid == vmid) ∙ eq-eqb d.vmid vmid same

uses_there : (vmid : ℕ) (rd : Seen) (o : Option RealmRow) → list_any (uses_vmid vmid) (elim o [ Some realm ↦ maker rd.number realm ∷ [] | None ↦ [] ]) ≡ true
    → (realm : RealmRow) × (o ≡ Some realm) × (realm.vmid ≡ vmid)
uses_there vmid rd None h = cc
uses_there vmid rd (Some realm) h = (realm, refl, eqb-true realm.vmid vmid (sym (or_none (realm.vmid == vmid)) ∙ h))

pub vmid_is_open : (limits : Limits) (history : List Event) (w : World) (vmid : ℕ) → IsLegal limits history → replay limits history ≡ Some w → VmidIsOpen history w vmid
vmid_is_open limits history w vmid legal at_w = (opened, λ h. used h.0 (realm_of h.0 w) (IsAt-realm_of h.0 w) (there h.0 h.1))
  where
    opened : Contains (used_vmids w.machine) vmid → (build : ℕ) × (list_any (uses_vmid vmid) (open_entries build history) ≡ true)
    opened h =
        let user = used_by vmid w.machine (in_from_Contains (used_vmids w.machine) vmid h) in
        let own = realm_of_build limits history w at_w user.at user.realm user.there in (
          own.0,
          sym (among_makers vmid (open_entries own.0 history))
              ∙ ap (list_any (uses_vmid vmid)) (realm_is_open limits history w own.0 legal at_w ∙ maker_at own.0 w (kept_reached limits own.0 history w at_w) user.at user.realm own.2)
              ∙ uses_one vmid user.at user.realm user.same,
        )

    there : (build : ℕ) → list_any (uses_vmid vmid) (open_entries build history) ≡ true → list_any (uses_vmid vmid) (makers (realm_of build w)) ≡ true
    there build h = ap (list_any (uses_vmid vmid)) (sym (realm_is_open limits history w build legal at_w)) ∙ among_makers vmid (open_entries build history) ∙ h

    used : (build : ℕ) (o : Option Seen) → IsAt w.machine o → list_any (uses_vmid vmid) (makers o) ≡ true → Contains (used_vmids w.machine) vmid
    used build None at h = cc
    used build (Some rd) at h =
        let realm = uses_there vmid rd rd.cell.descriptor h in
        Contains-from_in (used_vmids w.machine) vmid
        (ap (λ v. is_in v (used_vmids w.machine)) (sym realm.2) ∙ used_at w.machine rd.number realm.0 (ap (λ (c : Cell). c.descriptor) at ∙ realm.1))
