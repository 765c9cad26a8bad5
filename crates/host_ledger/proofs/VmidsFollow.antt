-- Proofs that the ledger's update of the VMID pool gives the VMIDs in use after one more operation.
use Rattle.std.proofs.Common.{◌≡◌, ℕ, ◌%◌, ◌==◌, Bool, true, false, not, ◌&&◌, List, map, Ok, Some, refl, sym, ap, ◌∙◌, ⊎_elim}
use Rattle.std.specs.Prelude.{nat_le}
use Rattle.std.specs.List.{list_all}
use Rattle.std.proofs.lemmas.Bool.{and_parts, and_from, cases_eq}
use Rattle.granule_addr.specs.Ipa.{is_width}
use Rattle.granule_addr.specs.Root.{start_count, starting_tables}
use Rattle.granule_addr.specs.declared.width.Root.{Root}
use Rattle.granule_addr.specs.Vmids.{is_used}
use Rattle.build_journal.specs.Vmids.{Vmids}
use Rattle.realm_model.specs.declared.act.Act.{Act}
use Rattle.realm_model.specs.declared.act.Act.TheVariants.{Realm, UnRealm}
use Rattle.realm_model.specs.declared.rmi.Rmi.{Rmi}
use Rattle.realm_model.specs.Machine.{Limits, Machine, seen}
use Rattle.realm_model.specs.Update.{Outcome, Update}
use Rattle.realm_model.specs.Act.{named}
use Rattle.realm_model.specs.Command.Check.{check, is_delegated}
use Rattle.realm_model.specs.Command.Realm.{is_start}
use Rattle.realm_model.specs.Outcome.{outcome_of}
use Rattle.realm_model.specs.World.{World}
use Rattle.realm_model.specs.Step.{step, outcome_in}
use Rattle.realm_model.specs.Undoing.{by}
use Rattle.realm_model.proofs.StepSays.{step_is}
use Rattle.realm_model.specs.VmidsUsed.{is_vmid_used, VmidsFollow}
use Rattle.host_ledger.specs.Vmids.{CanFollowVmids, IsVmidsAfter}

passed : (t : Bool) (rmi : Rmi) (o : Outcome) (us : List Update) → check t rmi o ≡ Ok us → t ≡ true
unfolding check
passed true rmi o us e = refl
passed false rmi o us e = cc

last_three : (a b c d e f g : Bool) → (a && b && c && d && e && f && g) ≡ true → (e && f && g) ≡ true
last_three a b c d e f g all =
    let last = and_parts (a && b && c && d && e && f) g all in
    let high = and_parts (a && b && c && d && e) f last.0 in
    let low = and_parts (a && b && c && d) e high.0 in
    and_from (e && f) g (and_from e f low.1 high.1) last.1

-- if a realm can be created with a VMID, the VMID is in range, and no realm has it yet
free_for : (limits : Limits) (w : World) (build rd : ℕ) (root : Root) (vmid : ℕ) (us : List Update) → outcome_in limits w (by build (Realm rd root vmid)) ≡ Ok us
    → (nat_le 1 vmid && nat_le vmid limits.vmids && not (is_vmid_used w.machine vmid)) ≡ true
unfolding outcome_of named
free_for limits w build rd root vmid us e =
    let all : (is_width root.width && root.first % start_count root.width == 0 && is_delegated (seen w.machine rd)
    && list_all (is_start (seen w.machine rd)) (map (seen w.machine) (starting_tables root)) && nat_le 1 vmid && nat_le vmid limits.vmids
    && not (is_vmid_used w.machine vmid)) ≡ true = passed _ _ _ us e in
    last_three (is_width root.width) (root.first % start_count root.width == 0) (is_delegated (seen w.machine rd))
    (list_all (is_start (seen w.machine rd)) (map (seen w.machine) (starting_tables root))) (nat_le 1 vmid) (nat_le vmid limits.vmids)
    (not (is_vmid_used w.machine vmid)) all

module _ (limits : Limits) (w : World) (vmids : Vmids) (range : vmids.vmids ≡ limits.vmids)
    (are : (vmid : ℕ) → is_used vmids.used vmid ≡ is_vmid_used w.machine vmid) where
  pub can_follow_vmids : (build : ℕ) (act : Act) (v : World) → step limits w (by build act) ≡ Some v → CanFollowVmids vmids act
  can_follow_vmids build (Realm rd root vmid) v s =
      let is = step_is limits w v (by build (Realm rd root vmid)) s in
      (λ i. nat_le 1 vmid && nat_le vmid (range i) && not (are vmid i)) ∙ free_for limits w build rd root vmid is.updates is.outcome
  can_follow_vmids build _ v s = tt

  pub vmids_are_after : (act : Act) (new : Vmids) (machine : Machine) → IsVmidsAfter act vmids new → VmidsFollow act w.machine machine
      → (vmid : ℕ) → is_used new.used vmid ≡ is_vmid_used machine vmid
  vmids_are_after (Realm rd root used) new machine after follow vmid = ⊎_elim
      (λ same. ap (is_used new.used) same ∙ after.marked.one ∙ sym follow.one ∙ ap (is_vmid_used machine) (sym same))
      (λ other. after.marked.others vmid other ∙ are vmid ∙ sym (follow.others vmid other))
      (cases_eq vmid used)
  vmids_are_after (UnRealm rd root used) new machine after follow vmid = ⊎_elim
      (λ same. ap (is_used new.used) same ∙ after.marked.one ∙ sym follow.one ∙ ap (is_vmid_used machine) (sym same))
      (λ other. after.marked.others vmid other ∙ are vmid ∙ sym (follow.others vmid other))
      (cases_eq vmid used)
  vmids_are_after act new machine after follow vmid = ap (λ (v : Vmids). is_used v.used vmid) after ∙ are vmid ∙ sym (follow vmid)

-- an operation does not change the number of all VMIDs in the pool, free or in use
pub same_range : (act : Act) (old new : Vmids) → IsVmidsAfter act old new → new.vmids ≡ old.vmids
same_range (Realm rd root used) old new after = after.range
same_range (UnRealm rd root used) old new after = after.range
same_range act old new after = ap (λ (v : Vmids). v.vmids) after
