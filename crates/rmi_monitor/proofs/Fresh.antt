-- Proofs that the fields of an RMM that has just been built satisfy the invariant and represent a fresh machine.
use Rattle.std.proofs.Common.{◌≡◌, ℕ, ◌<◌, Bool, true, false, List, [], length, replicate, None, is_some, refl, sym, ap, ◌∙◌, subst}
use Rattle.std.specs.FinMap.{empty, len, len-empty}
use Rattle.std.specs.Ordering.{nat_cmp}
use Rattle.std.proofs.lemmas.List.{length-replicate, get_or-replicate}
use Rattle.std.proofs.lemmas.Option.{none-some}
use Rattle.rtt.specs.Granules.{granule_at, undelegated}
use Rattle.rtt.specs.declared.granule.Granule.{Granule}
use Rattle.granule_addr.specs.Page.{zero_page}
use Rattle.realm_model.specs.declared.states.GranuleState.TheVariants.{Undelegated}
use Rattle.realm_model.specs.Machine.{RecRow, blank}
use Rattle.realm_model.specs.Sound.{is_rd_state}
use Rattle.rmi_monitor.specs.Inside.{Fields, fields_of, realm_at, rec_at, rec_of, recs_of, machine_of, seen_as, is_rec_state, IsSoundAt, IsWhole}
use Rattle.rmi_monitor.specs.View.{fresh}
use Rattle.granule_addr.specs.Vmids.{is_used}
use Rattle.rmi_monitor.proofs.Gathered.{gathered-none}
use Rattle.rmi_monitor.proofs.RecEntries.{rec_of-none}
use Rattle.rmi_monitor.proofs.UsedVmids.{used-none}
use Rattle.rmi_monitor.proofs.Machines.{length-machine_of, cell_at-machine_of, same_machine}
use Rattle.rmi_monitor.proofs.HostMoves.{cell_of-host}
use Rattle.granule_addr.proofs.Same.{same_each}

-- the fields of an RMM with `n` granules that has just been built
abbrev pub new_fields : ℕ → ℕ → List Bool → ℕ → Fields
new_fields vmids aux used n =
    fields_of vmids aux used (replicate n undelegated) (replicate n zero_page) (replicate n true) (replicate n None) (replicate n 0) (replicate n None)

module _ (vmids aux n : ℕ) (used : List Bool) (unused : (vmid : ℕ) → is_used used vmid ≡ false) where
  abbrev new : Fields
  new = new_fields vmids aux used n

  granule_is : (g : ℕ) → granule_at new.granules g ≡ undelegated
  granule_is g = same_each n g undelegated

  state_is : (g : ℕ) → (granule_at new.granules g).state ≡ Undelegated
  state_is g = ap (λ (x : Granule). x.state) (granule_is g)

  no_realm : (g : ℕ) → realm_at new g ≡ None
  no_realm g = same_each n g None

  no_rec : (g : ℕ) → rec_at new g ≡ None
  no_rec g = same_each n g None

  sound : (g : ℕ) → IsSoundAt new g
  sound g = record {
    host = λ h. ap (λ (x : Granule). x.realm) (granule_is g);
    zero = λ h. let at = state_is g in cc;
    rd = ap is_some (no_realm g) ∙ sym (ap is_rd_state (state_is g));
    rec = ap is_some (no_rec g) ∙ sym (ap is_rec_state (state_is g));
  }

  no_recs_of : (rd : ℕ) → recs_of new.granules new.recs rd ≡ empty
  unfolding recs_of
  no_recs_of rd = gathered-none (rec_of new.granules new.recs rd) (length new.granules) (λ g inside. rec_of-none new.granules new.recs rd g (no_rec g))

  pub whole_new : IsWhole (new_fields vmids aux used n)
  whole_new = record {
    backed = record { as_many = length-replicate n undelegated ∙ sym (length-replicate n zero_page); taken = λ g inside used. absurd (used (state_is g)) };
    realm_places = length-replicate n None ∙ sym (length-replicate n undelegated);
    count_places = length-replicate n 0 ∙ sym (length-replicate n undelegated);
    rec_places = length-replicate n None ∙ sym (length-replicate n undelegated);
    each = sound;
    tables = λ rd realm there. absurd (none-some realm (sym (no_realm rd) ∙ there));
    recs = record {
      of = λ g rec e. absurd (none-some rec (sym (no_rec g) ∙ e));
      once = λ g h rec other e e' same numbers. absurd (none-some rec (sym (no_rec g) ∙ e));
      auxiliaries = λ g rec i auxiliary e listed. absurd (none-some rec (sym (no_rec g) ∙ e));
      auxiliaries_once = λ g h rec other i j auxiliary e e' listed listed'. absurd (none-some rec (sym (no_rec g) ∙ e));
    };
    counted = λ rd. same_each n rd 0 ∙ sym (ap len (no_recs_of rd) ∙ len-empty nat_cmp RecRow);
    vmids_used = used-none n used unused;
  }

  machine_new : machine_of new ≡ replicate n blank
  machine_new =
      let long : length (machine_of new) ≡ n = length-machine_of new ∙ length-replicate n undelegated in
      same_machine (machine_of new) (replicate n blank) (long ∙ sym (length-replicate n blank)) (λ g h.
      let inside : g < n = subst (λ m. g < m) long h in
      cell_at-machine_of new g (subst (λ m. g < m) (sym (length-replicate n undelegated)) inside)
      ∙ cell_of-host new g (sound g) (state_is g) refl (get_or-replicate n g zero_page [] inside)
      ∙ sym (same_each n g blank))

  pub seen_new : seen_as (new_fields vmids aux used n) ≡ fresh vmids aux n
  seen_new i = record { vmids = vmids; aux = aux; machine = machine_new i; free = replicate n true }
