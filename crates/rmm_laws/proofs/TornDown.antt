-- A proof that some sequence of successful calls tears down a realm without running RECs, if some granule is DELEGATED.
use Rattle.std.proofs.Common.{◌≡◌, ◌≢◌, ℕ, zero, suc, ◌+◌, ◌-◌, ◌*◌, ◌<◌, ◌≤◌, ◌⊎◌, inl, inr, Bool, true, false, not, List, [], ◌∷◌, length, get_or, Option, Some, refl, sym, ap, subst, ◌∙◌, ⊎_elim, arith}
use Rattle.std.specs.Prelude.{is_none}
use Rattle.std.proofs.lemmas.Bool.{cases_eq, cases_lt}
use Rattle.rmi_abi.specs.declared.call.Call.{Call}
use Rattle.rmi_abi.specs.declared.call.Call.TheVariants.{DataDestroy, GranuleUndelegate, RealmDestroy, RecDestroy, RttCreate, RttDestroy, RttUnmapUnprotected}
use Rattle.rmi_abi.specs.declared.word.Word.TheVariants.{Success}
use Rattle.rmm_model.specs.declared.granule.RmmGranule.{RmmGranule}
use Rattle.rmm_model.specs.declared.granule.RmmGranuleState.{RmmGranuleState}
use Rattle.rmm_model.specs.declared.granule.RmmGranuleState.TheVariants.{Undelegated, Delegated, Rd, Rec as IsRec, Data, Rtt}
use Rattle.rmm_model.specs.declared.realm.RmmRealm.{RmmRealm}
use Rattle.rmm_model.specs.declared.rec.RmmRec.{RmmRec}
use Rattle.rmm_model.specs.Call.{performed}
use Rattle.rmm_model.specs.Granule.{of_realm, realm_of}
use Rattle.rmm_model.specs.Machine.{Machine, granule_at, number_of, state_at, is_vmid_used}
use Rattle.rmm_model.specs.Rec.{is_running}
use Rattle.rmm_model.specs.Command.Operand.{realm_at}
use Rattle.rmm_laws.specs.Apart.{rd_named, IsOfRealm, IsSameAt, named_realm, IsSpare}
use Rattle.rmm_laws.specs.Owner.{is_rd}
use Rattle.rmm_laws.specs.Proper.{IsProper}
use Rattle.rmm_laws.specs.Step.{IsAssignedAt, IsTeardown, HasNextStep, IsRemoval, HasRemoval, IsOfTeardown, LeadsDown, CanBeTornDown}
use Rattle.rmm_laws.specs.Walk.{IsTableOf}
use Rattle.rmm_laws.proofs.Freed.{rtt_destroy_back, data_destroy_back}
use Rattle.rmm_laws.proofs.LeftAlone.{left_alone}
use Rattle.rmm_laws.proofs.Passed.{realm_of-some, rd_named-is}
use Rattle.rmm_laws.proofs.RecsGone.{fixed_of}
use Rattle.rmm_laws.proofs.Steps.{begin_number, begin_aligned, begin_inside, page_removal, step_or_end}
use Rattle.rmm_laws.proofs.Teardown.{rd_tests, granule_step, undelegated, nothing_left}
use Rattle.rmm_laws.proofs.Wiping.{is_or_not}
use Rattle.rmm_laws.proofs.Writes.{inside-same, number-same, taken_inside}
use Rattle.rmm_laws.proofs.Weights.{IsGivenBack, undelegate_then, realm_then, IsKept, IsKin, IsStep, IsFreed, HasUnfolded, heavy, mapped, weight, step_weight, freed_weight, data_weight, unfold_weight, unfolded_level, unfold_then, unmap_then, rec_freed, of_back, data_kin, table_kin, kept_then, rd_then, fixed_then, rec_before}

-- ---- the way from a machine

some_rd : (s : RmmGranuleState) → is_rd s ≡ true → is_none (realm_of s) ≡ false
some_rd (Rd realm) sure = refl
some_rd _ sure = absurd (cc)

module _ (o : Machine) (rd r : ℕ) where
  -- the VMID of the realm
  abbrev old_vmid : ℕ
  old_vmid = (realm_at o rd).vmid

  -- some successful calls make the granules that the realm had at the start UNDELEGATED and zero, free its VMID, and
  -- leave granules of other realms unchanged
  abbrev Down : Machine → Type 0
  Down m = (calls : List Call) × (after : Machine) × LeadsDown rd m calls after × ((g : ℕ) → IsOfRealm o (Some r) g → IsGivenBack after g)
      × ((g : ℕ) → (IsOfRealm m (Some r) g → ⊥) → (IsSpare m g → ⊥) → IsSameAt m after g) × (is_vmid_used after old_vmid ≡ false)

  -- a call is on the realm of RD `r`, or on no realm
  abbrev IsOn : Machine → Call → Type 0
  IsOn m call = (g : ℕ) → IsOfRealm m (named_realm m call) g → IsOfRealm m (Some r) g

  by_named : (m : Machine) (call : Call) → named_realm m call ≡ Some r → IsOn m call
  by_named m call named g ours = subst (λ (owner : Option ℕ). IsOfRealm m owner g) named ours

  then_same : (m n k : Machine) (g : ℕ) → (IsOfRealm m (Some r) g → ⊥) → (IsSpare m g → ⊥) → IsSameAt m n g → ((IsOfRealm n (Some r) g → ⊥) → (IsSpare n g → ⊥) → IsSameAt n k g) → IsSameAt m k g
  then_same m n k g not_ours not_spare same rest =
      let now =
      rest
      (λ ours. not_ours (⊎_elim (λ (it : g ≡ r). inl it) (λ (owned : (granule_at n g).owner ≡ Some r). inr (sym (ap (λ (c : RmmGranule). c.owner) same.0) ∙ owned)) ours))
      (λ spare. not_spare (⊎_elim
      (λ (host : (granule_at n g).state ≡ Undelegated). inl (sym (ap (λ (c : RmmGranule). c.state) same.0) ∙ host))
      (λ (free : (granule_at n g).state ≡ Delegated). inr (sym (ap (λ (c : RmmGranule). c.state) same.0) ∙ free))
      spare)) in
      (now.0 ∙ same.0, now.1 ∙ same.1)

  one_call : (m : Machine) (call : Call) → IsProper m → IsOn m call → IsOfTeardown m rd call → (performed call m).0.word ≡ Success → Down (performed call m).1 → Down m
  one_call m call proper on kind success rest = (
    call ∷ rest.0,
    rest.1,
    (kind, success, rest.2),
    rest.3,
    λ g not_ours not_spare.
        then_same m (performed call m).1 rest.1 g not_ours not_spare (left_alone call m g proper (λ ours. not_ours (on g ours)) not_spare) (λ ours spare. rest.4 g ours spare),
    rest.5,
  )

  -- ---- the granules are undelegated

  -- the granules of the realm in `o` satisfy `IsGivenBack` below `p` and are DELEGATED from `p` on; the realm's VMID is
  -- free
  record IsFreeing (p : ℕ) (m : Machine) : Type 0 where
    proper : IsProper m
    count : length m.granules ≡ length o.granules
    done : (g : ℕ) → IsOfRealm o (Some r) g → g < p → IsGivenBack m g
    rest : (g : ℕ) → IsOfRealm o (Some r) g → p ≤ g → (granule_at m g).state ≡ Delegated
    vmid : is_vmid_used m old_vmid ≡ false

  is_ours : (g : ℕ) → IsOfRealm o (Some r) g ⊎ (IsOfRealm o (Some r) g → ⊥)
  is_ours g =
      ⊎_elim
      (λ (it : g ≡ r). inl (inl it))
      (λ (other : g ≢ r). ⊎_elim
      (λ (owned : (granule_at o g).owner ≡ Some r). inl (inr owned))
      (λ (not_owned : (granule_at o g).owner ≢ Some r). inr (λ had. ⊎_elim other not_owned had))
      (is_or_not (granule_at o g).owner r))
      (cases_eq g r)

  free_one : (p : ℕ) (m : Machine) → IsFreeing p m → IsOfRealm o (Some r) p
      → ((performed (GranuleUndelegate (m.settings.base + p * 4096)) m).0.word ≡ Success) × IsFreeing (suc p) (performed (GranuleUndelegate (m.settings.base + p * 4096)) m).1
  free_one p m freeing had =
      let a : ℕ = m.settings.base + p * 4096 in
      let number : number_of m a ≡ p = begin_number m p in
      let state : (granule_at m p).state ≡ Delegated = freeing.rest p had (omega arith) in
      let within : p < length m.granules = taken_inside m p (λ free. cc) in
      let there : (granule_at m (number_of m a)).state ≡ Delegated = ap (λ (g : ℕ). (granule_at m g).state) number ∙ state in
      let success = granule_step m a (begin_aligned m p freeing.proper.linked.sound) (begin_inside m p within) there in
      let n : Machine = (performed (GranuleUndelegate a) m).1 in
      let then_is = undelegate_then m a freeing.proper success in
      let now : IsGivenBack n p = subst (IsGivenBack n) number (undelegated m a freeing.proper success) in
      let others : (g : ℕ) → g ≢ p → IsSameAt m n g = λ g other. then_is.others g (λ same. other (same ∙ number)) in (
        success,
        record {
          proper = then_is.kin.0;
          count = then_is.kin.2 ∙ freeing.count;
          done = λ g was lt. ⊎_elim
              (λ (here : g ≡ p). subst (IsGivenBack n) (sym here) now)
              (λ (other : g ≢ p). (let same = others g other in let before = freeing.done g was (omega arith) in (same.0 ∙ before.0, same.1 ∙ before.1)))
              (cases_eq g p);
          rest = λ g was past.
              let other : g ≢ p = λ same. omega arith in
              ap (λ (c : RmmGranule). c.state) (others g other).0 ∙ freeing.rest g was (omega arith);
          vmid = ap (λ (used : List Bool). get_or used old_vmid false) then_is.vmids ∙ freeing.vmid;
        },
      )

  free_from : (fuel p : ℕ) (m : Machine) → p + fuel ≡ length o.granules → IsFreeing p m → Down m
  free_from zero p m all freeing = (
    [],
    m,
    refl,
    λ g had. ⊎_elim
        (λ (lt : g < p). freeing.done g had lt)
        (λ (past : p ≤ g).
        let state = freeing.rest g had past in
        let within = taken_inside m g (λ free. cc) in
        let count = freeing.count in
        absurd (omega arith))
        (cases_lt g p),
    λ g not_ours not_spare. (refl, refl),
    freeing.vmid,
  )
  free_from (suc fuel) p m all freeing =
      ⊎_elim
      (λ (had : IsOfRealm o (Some r) p).
      let a : ℕ = m.settings.base + p * 4096 in
      let one = free_one p m freeing had in
      one_call m (GranuleUndelegate a) freeing.proper (λ g never. absurd never) tt one.0 (free_from fuel (suc p) (performed (GranuleUndelegate a) m).1 (omega arith) one.1))
      (λ (none : IsOfRealm o (Some r) p → ⊥).
      free_from fuel (suc p) m (omega arith)
      (record {
        proper = freeing.proper;
        count = freeing.count;
        done = λ g had lt. ⊎_elim
            (λ (here : g ≡ p). absurd (none (subst (IsOfRealm o (Some r)) here had)))
            (λ (other : g ≢ p). freeing.done g had (omega arith))
            (cases_eq g p);
        rest = λ g had past. freeing.rest g had (omega arith);
        vmid = freeing.vmid;
      }))
      (is_ours p)

  -- ---- the realm is taken down

  -- the realm still exists and none of its RECs runs; each granule of the realm in `o` still belongs to the realm, or
  -- is DELEGATED
  record IsGoingDown (m : Machine) : Type 0 where
    kin : IsKin o m
    number : number_of m rd ≡ r
    named : rd_named m rd ≡ Some (number_of m rd)
    ready : (g : ℕ) (rec : RmmRec) → granule_at m g ≡ of_realm r (IsRec rec) → is_running rec.state ≡ false
    ours : (g : ℕ) → IsOfRealm o (Some r) g → IsKept m r g
    vmid : (realm_at m rd).vmid ≡ old_vmid

  named_r : (m : Machine) → IsGoingDown m → rd_named m rd ≡ Some r
  named_r m going = going.named ∙ ap (λ (h : ℕ). Some h) going.number

  step_down : (m n : Machine) (x : ℕ) → IsGoingDown m → IsStep m n r x → IsGoingDown n
  step_down m n x going step =
      let kin = step.kin in
      let number : number_of n rd ≡ r = number-same m n kin.1 kin.2 rd ∙ going.number in
      let tests = rd_tests m rd going.named in
      let was : is_rd (granule_at m r).state ≡ true =
      subst (λ (g : ℕ). is_rd (granule_at m g).state ≡ true) going.number (ap is_rd (realm_of-some (state_at m rd) tests.2)) in
      let still : is_rd (granule_at n r).state ≡ true = rd_then r x r (granule_at m r) (granule_at n r) (step.each r) was in
      record {
        kin = (kin.0, kin.1 ∙ going.kin.1, kin.2 ∙ going.kin.2);
        number = number;
        named = rd_named-is n rd tests.0 (ap not (inside-same m n kin.1 kin.2 rd) ∙ tests.1) (some_rd (state_at n rd) (ap (λ (g : ℕ). is_rd (granule_at n g).state) number ∙ still));
        ready = λ g rec is. going.ready g rec (rec_before r x g (granule_at m g) (granule_at n g) rec (step.each g) is);
        ours = λ g had. kept_then m n r x g (step.each g) (going.ours g had);
        vmid = ap (λ (g : ℕ). (fixed_of (granule_at n g).state).vmid) number
            ∙ ap (λ (realm : RmmRealm). realm.vmid) (fixed_then r x r (granule_at m r) (granule_at n r) (step.each r) was)
            ∙ sym (ap (λ (g : ℕ). (fixed_of (granule_at m g).state).vmid) going.number)
            ∙ going.vmid;
      }

  -- the teardown can be completed if RMI_REALM_DESTROY succeeds
  last_call : (m : Machine) → IsGoingDown m → (performed (RealmDestroy rd) m).0.word ≡ Success → Down m
  last_call m going success =
      let n : Machine = (performed (RealmDestroy rd) m).1 in
      let then_is = realm_then m rd going.kin.0 success in
      let count : length n.granules ≡ length o.granules = then_is.0.2 ∙ going.kin.2 in
      one_call m (RealmDestroy rd) going.kin.0 (by_named m (RealmDestroy rd) (named_r m going)) refl success
      (free_from (length o.granules) 0 n (omega arith)
      (record {
        proper = then_is.0.0;
        count = count;
        done = λ g had lt. absurd (omega arith);
        rest = λ g had past. ⊎_elim
            (λ (still : IsOfRealm m (Some r) g).
            ap (λ (c : RmmGranule). c.state) (nothing_left m rd g going.kin.0 success (subst (λ (h : ℕ). IsOfRealm m (Some h) g) (sym going.number) still)).0)
            (λ (free : (granule_at m g).state ≡ Delegated). then_is.1 g free)
            (going.ours g had);
        vmid = subst (λ (v : ℕ). is_vmid_used n v ≡ false) going.vmid then_is.2;
      }))

  -- if some granule is DELEGATED and the realm's weight is below `w`, the teardown can be completed
  abbrev Lighter : ℕ → Type 0
  Lighter w = (n : Machine) (spare : ℕ) → IsGoingDown n → (granule_at n spare).state ≡ Delegated → heavy r n < w → Down n

  freed_down : (w : ℕ) (m : Machine) (call : Call) (x y : ℕ) → Lighter w → IsGoingDown m → heavy r m < suc w → named_realm m call ≡ Some r → IsOfTeardown m rd call → (performed call m).0.word ≡ Success → y ≡ r → IsFreed m (performed call m).1 y x → Down m
  freed_down w m call x y rest going light named kind success same freed =
      let n : Machine = (performed call m).1 in
      let it : IsFreed m n r x = subst (λ (h : ℕ). IsFreed m n h x) same freed in
      let less = freed_weight m n r x it in
      one_call m call going.kin.0 (by_named m call named) kind success (rest n x (step_down m n x going it.step) (ap (λ (c : RmmGranule). c.state) it.free) (omega arith))

  data_down : (w : ℕ) (m : Machine) (ipa : ℕ) → Lighter w → IsGoingDown m → heavy r m < suc w → (performed (DataDestroy rd ipa) m).0.word ≡ Success → Down m
  data_down w m ipa rest going light success =
      let back = data_destroy_back m rd ipa going.kin.0 success in
      let x1 : ℕ = (performed (DataDestroy rd ipa) m).0.x1 in
      freed_down w m (DataDestroy rd ipa) (number_of m x1) (number_of m rd) rest going light (named_r m going) refl success going.number
      (of_back m (performed (DataDestroy rd ipa) m).1 (number_of m rd) x1 Data refl (λ same. cc) back (data_kin m rd ipa going.kin.0 success))

  table_down : (w : ℕ) (m : Machine) (ipa level : ℕ) → Lighter w → IsGoingDown m → heavy r m < suc w → (performed (RttDestroy rd ipa level) m).0.word ≡ Success → Down m
  table_down w m ipa level rest going light success =
      let back = rtt_destroy_back m rd ipa level going.kin.0 success in
      let x1 : ℕ = (performed (RttDestroy rd ipa level) m).0.x1 in
      freed_down w m (RttDestroy rd ipa level) (number_of m x1) (number_of m rd) rest going light (named_r m going) refl success going.number
      (of_back m (performed (RttDestroy rd ipa level) m).1 (number_of m rd) x1 Rtt refl (λ same. cc) back (table_kin m rd ipa level going.kin.0 success))

  -- if `Lighter w` holds and the realm's weight is at most `w`, the teardown can be completed after unfolding a block
  -- and destroying its first page
  block_down : (w : ℕ) (m : Machine) (rtt ipa level : ℕ) → Lighter w → IsGoingDown m → heavy r m < suc w → IsAssignedAt m rd ipa (level - 1) → (performed (RttCreate rd rtt ipa level) m).0.word ≡ Success → Down m
  block_down w m rtt ipa level rest going light block success =
      let n : Machine = (performed (RttCreate rd rtt ipa level) m).1 in
      let x : ℕ = number_of m rtt in
      let unfolded : HasUnfolded m n r x = subst (λ (h : ℕ). HasUnfolded m n h x) going.number (unfold_then m rd rtt ipa level going.kin.0 block success) in
      let next : IsGoingDown n = step_down m n x going unfolded.step in
      let proper : IsProper n = next.kin.0 in
      let deepest = unfolded_level n proper r x unfolded.first unfolded.ripas unfolded.table unfolded.pages in
      let table : IsTableOf n (number_of n rd) x = subst (λ (h : ℕ). IsTableOf n h x) (sym next.number) unfolded.table in
      let page = page_removal n proper rd next.named x 0 unfolded.ripas (unfolded.first + 0 * 4096) table (omega arith) deepest (unfolded.pages 0 (omega arith)) in
      let back = data_destroy_back n rd page.0 proper page.1 in
      let k : Machine = (performed (DataDestroy rd page.0) n).1 in
      let y : ℕ = number_of n (performed (DataDestroy rd page.0) n).0.x1 in
      let freed : IsFreed n k r y =
      subst (λ (h : ℕ). IsFreed n k h y) next.number (of_back n k (number_of n rd) (performed (DataDestroy rd page.0) n).0.x1 Data refl (λ same. cc) back (data_kin n rd page.0 proper page.1)) in
      let first_weight = unfold_weight m n r x unfolded in
      let then_weight = data_weight n k r y freed (back.was ∙ ap (λ (h : ℕ). of_realm h Data) next.number) in
      one_call m (RttCreate rd rtt ipa level) going.kin.0 (by_named m (RttCreate rd rtt ipa level) (named_r m going)) (refl, block) success
      (one_call n (DataDestroy rd page.0) proper (by_named n (DataDestroy rd page.0) (named_r n next)) refl page.1 (rest k y (step_down n k y next freed.step) (ap (λ (c : RmmGranule). c.state) freed.free) (omega arith)))

  -- if some granule is DELEGATED, the realm's weight is at most `w`, and there are fewer than `ns` mappings of host
  -- memory, the teardown can be completed
  abbrev Fewer : ℕ → ℕ → Type 0
  Fewer w ns = (n : Machine) (spare : ℕ) → IsGoingDown n → (granule_at n spare).state ≡ Delegated → heavy r n < suc w → mapped n < ns → Down n

  unmap_down : (w ns : ℕ) (m : Machine) (spare ipa level : ℕ) → Fewer w ns → IsGoingDown m → (granule_at m spare).state ≡ Delegated → heavy r m < suc w → mapped m < suc ns
      → (performed (RttUnmapUnprotected rd ipa level) m).0.word ≡ Success → Down m
  unmap_down w ns m spare ipa level again going free light few success =
      let n : Machine = (performed (RttUnmapUnprotected rd ipa level) m).1 in
      let it = unmap_then m rd ipa level going.kin.0 success in
      let step : IsStep m n r spare = record { kin = it.kin; each = λ g. inl (inl (it.same g)) } in
      let sum = step_weight m n r spare step (taken_inside m spare (λ undelegated_is. cc)) in
      let same : weight r (granule_at n spare) ≡ weight r (granule_at m spare) = ap (weight r) (it.same spare) in
      let less = it.less in
      one_call m (RttUnmapUnprotected rd ipa level) going.kin.0 (by_named m (RttUnmapUnprotected rd ipa level) (named_r m going)) refl success
      (again n spare (step_down m n spare going step) (ap (λ (c : RmmGranule). c.state) (it.same spare) ∙ free) (omega arith) (omega arith))

  next_down : (w ns : ℕ) (m : Machine) (spare address : ℕ) (call : Call) → Lighter w → Fewer w ns → IsGoingDown m → (granule_at m spare).state ≡ Delegated → heavy r m < suc w → mapped m < suc ns
      → IsTeardown m rd address call → (performed call m).0.word ≡ Success → Down m
  next_down w ns m spare address (DataDestroy of ipa) rest again going free light few kind success =
      data_down w m ipa rest going light (subst (λ (d : ℕ). (performed (DataDestroy d ipa) m).0.word ≡ Success) kind success)
  next_down w ns m spare address (RttUnmapUnprotected of ipa level) rest again going free light few kind success =
      unmap_down w ns m spare ipa level again going free light few (subst (λ (d : ℕ). (performed (RttUnmapUnprotected d ipa level) m).0.word ≡ Success) kind success)
  next_down w ns m spare address (RttDestroy of ipa level) rest again going free light few kind success =
      table_down w m ipa level rest going light (subst (λ (d : ℕ). (performed (RttDestroy d ipa level) m).0.word ≡ Success) kind success)
  next_down w ns m spare address (RttCreate of rtt ipa level) rest again going free light few kind success =
      block_down w m rtt ipa level rest going light kind.2 (subst (λ (d : ℕ). (performed (RttCreate d rtt ipa level) m).0.word ≡ Success) kind.0 success)
  next_down w ns m spare address _ rest again going free light few kind success = absurd kind

  removal_down : (w : ℕ) (m : Machine) (call : Call) → Lighter w → IsGoingDown m → heavy r m < suc w → IsRemoval m rd call → (performed call m).0.word ≡ Success → Down m
  removal_down w m (RecDestroy rec) rest going light kind success =
      freed_down w m (RecDestroy rec) (number_of m rec) (number_of m rd) rest going light (kind ∙ ap (λ (h : ℕ). Some h) going.number) kind success going.number (rec_freed m rd rec going.kin.0 kind success)
  removal_down w m (RealmDestroy of) rest going light kind success = last_call m going (subst (λ (d : ℕ). (performed (RealmDestroy d) m).0.word ≡ Success) kind success)
  removal_down w m _ rest going light kind success = absurd kind

  fewer : (w : ℕ) → Lighter w → (ns : ℕ) → Fewer w ns
  fewer w rest zero m spare going free light few = absurd (omega arith)
  fewer w rest (suc ns) m spare going free light few =
      let a : ℕ = m.settings.base + spare * 4096 in
      let within : spare < length m.granules = taken_inside m spare (λ undelegated_is. cc) in
      let there : (granule_at m (number_of m a)).state ≡ Delegated = ap (λ (g : ℕ). (granule_at m g).state) (begin_number m spare) ∙ free in
      ⊎_elim
      (λ (next : HasNextStep m rd a). next_down w ns m spare a next.0 rest (fewer w rest ns) going free light few next.1 next.2)
      (λ (removal : HasRemoval m rd). removal_down w m removal.0 rest going light removal.1 removal.2)
      (step_or_end m going.kin.0 rd going.named a (begin_aligned m spare going.kin.0.linked.sound) (begin_inside m spare within) there
      (λ g rec is. going.ready g rec (is ∙ ap (λ (h : ℕ). of_realm h (IsRec rec)) going.number)))

  lighter : (w : ℕ) → Lighter w
  lighter zero m spare going free light = absurd (omega arith)
  lighter (suc w) m spare going free light = fewer w (lighter w) (suc (mapped m)) m spare going free light (omega arith)

pub torn_down : (m : Machine) (rd spare : ℕ) → IsProper m → rd_named m rd ≡ Some (number_of m rd) → (granule_at m spare).state ≡ Delegated
    → ((g : ℕ) (rec : RmmRec) → granule_at m g ≡ of_realm (number_of m rd) (IsRec rec) → is_running rec.state ≡ false) → CanBeTornDown m rd
torn_down m rd spare proper named free ready =
    let r : ℕ = number_of m rd in
    let down =
    lighter m rd r (suc (heavy r m)) m spare (record { kin = (proper, refl, refl); number = refl; named = named; ready = ready; ours = λ g had. inl had; vmid = refl }) free (omega arith) in
    record { calls = down.0; after = down.1; succeed = down.2; others = down.4; free = down.3; vmid = down.5 }
