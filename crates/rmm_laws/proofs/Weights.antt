-- Proofs of how teardown calls change two numbers that bound a teardown: the weight of the realm's granules, and the
-- count of host mappings. A DATA granule of the realm weighs two, and each other granule that the realm owns weighs
-- one.
use Rattle.std.proofs.Common.{◌≡◌, ◌≢◌, ℕ, zero, suc, ◌+◌, ◌-◌, ◌*◌, ◌%◌, ◌^◌, ◌<◌, ◌≤◌, ◌⊎◌, inl, inr, Bool, true, false, List, length, set, get_or, Option, Some, None, refl, sym, ap, subst, ◌∙◌, ⊎_elim, arith}
use Rattle.std.specs.Prelude.{nat_le, nat_lt}
use Rattle.std.proofs.lemmas.Bool.{cases_eq, cases_lt, and_parts, both_ways, cond-true, eq-eqb, eqb-true, leb-true, ltb-true}
use Rattle.std.proofs.lemmas.List.{length-set, get_or-set_same, get_or_past}
use Rattle.granule_addr.specs.Page.{zero_page}
use Rattle.rmi_abi.specs.declared.call.Call.TheVariants.{DataDestroy, GranuleUndelegate, RealmDestroy, RecDestroy, RttCreate, RttDestroy, RttUnmapUnprotected}
use Rattle.rmi_abi.specs.declared.registers.SmcResult.{SmcResult}
use Rattle.rmi_abi.specs.declared.word.Word.TheVariants.{Success}
use Rattle.rmm_model.specs.declared.entry.RmmRipas.{RmmRipas}
use Rattle.rmm_model.specs.declared.entry.RmmRttEntry.{RmmRttEntry}
use Rattle.rmm_model.specs.declared.entry.RmmRttEntry.TheVariants.{Assigned, Table, UnassignedNs}
use Rattle.rmm_model.specs.declared.granule.RmmGranule.{RmmGranule}
use Rattle.rmm_model.specs.declared.granule.RmmGranuleState.{RmmGranuleState}
use Rattle.rmm_model.specs.declared.granule.RmmGranuleState.TheVariants.{Undelegated, Delegated, Rd, Rec as IsRec, Data, Rtt}
use Rattle.rmm_model.specs.declared.realm.RmmRealm.{RmmRealm}
use Rattle.rmm_model.specs.declared.realm.RttWalk.{RttWalk}
use Rattle.rmm_model.specs.declared.rec.RmmRec.{RmmRec}
use Rattle.rmm_model.specs.Call.{performed}
use Rattle.rmm_model.specs.Entry.{is_assigned_ns}
use Rattle.rmm_model.specs.Granule.{of_no_realm, of_realm, is_delegated}
use Rattle.rmm_model.specs.Guest.{is_rec_named}
use Rattle.rmm_model.specs.Level.{entry_size, entry_index}
use Rattle.rmm_model.specs.Machine.{Machine, granule_at, page_in, is_aligned, is_inside, number_of, state_at, with_granule, is_vmid_used}
use Rattle.rmm_model.specs.Realm.{is_in_space}
use Rattle.rmm_model.specs.Table.{entry_in_page, children_page}
use Rattle.rmm_model.specs.Walk.{entry_at, with_entry, walk}
use Rattle.rmm_model.specs.Command.DataDestroy.{data_destroy}
use Rattle.rmm_model.specs.Command.GranuleUndelegate.{granule_undelegate}
use Rattle.rmm_model.specs.Command.Operand.{realm_at, is_level}
use Rattle.rmm_model.specs.Command.RealmDestroy.{realm_destroy, has_live_table, is_realm_live, without_tables}
use Rattle.rmm_model.specs.Command.RecDestroy.{rec_destroy}
use Rattle.rmm_model.specs.Command.RttCreate.{rtt_create}
use Rattle.rmm_model.specs.Command.RttDestroy.{rtt_destroy}
use Rattle.rmm_model.specs.Command.RttUnmapUnprotected.{rtt_unmap_unprotected}
use Rattle.rmm_laws.specs.Apart.{realm_of_rec, IsOfRealm, IsSameAt}
use Rattle.rmm_laws.specs.Back.{ComesBack}
use Rattle.rmm_laws.specs.Owner.{is_rd, is_owner}
use Rattle.rmm_laws.specs.Proper.{IsProper}
use Rattle.rmm_laws.specs.Step.{IsAssignedAt}
use Rattle.rmm_laws.specs.Walk.{IsTableOf}
use Rattle.rmm_laws.proofs.Blocks.{sizes}
use Rattle.rmm_laws.proofs.Children.{length-children}
use Rattle.rmm_laws.proofs.Entries.{number_inside, address_few, entry-same, entry-other}
use Rattle.rmm_laws.proofs.Freed.{succeeded, rec_destroy_back}
use Rattle.rmm_laws.proofs.Mapped.{content_now}
use Rattle.rmm_laws.proofs.Mappings.{place_is, unprotected_within, data_gone, host_unmapped}
use Rattle.rmm_laws.proofs.Mistakes.{named_twice}
use Rattle.rmm_laws.proofs.Ordering.{rtt_create_ordered, rtt_destroy_ordered, unmap_ordered, data_destroy_ordered, undelegate_ordered}
use Rattle.rmm_laws.proofs.Passed.{yes_from, is_delegated-true, realm_of-some, rec_of-there, some_same}
use Rattle.rmm_laws.proofs.Plain.{undelegated as undelegated_linked}
use Rattle.rmm_laws.proofs.RealmOrders.{gone_like, gone_spare, none_if, realm_destroyed}
use Rattle.rmm_laws.proofs.Realms.{or_none}
use Rattle.rmm_laws.proofs.RecsGone.{fixed_of, rec_destroyed, destroyed_changed}
use Rattle.rmm_laws.proofs.Tables.{table_made, table_gone}
use Rattle.rmm_laws.proofs.Unfolding.{page_in_machine, child_entry_is}
use Rattle.rmm_laws.proofs.Walks.{IsPlace, entry_index-few}
use Rattle.rmm_laws.proofs.Writes.{granule_at-same, granule_at-other, page_in-other, taken_inside}

-- ---- sums

-- the sum of a function's values at the numbers below a bound
total : (ℕ → ℕ) → ℕ → ℕ
total f zero = 0
total f (suc k) = total f k + f k

total_most : (f h : ℕ → ℕ) (k : ℕ) → ((g : ℕ) → g < k → f g ≤ h g) → total f k ≤ total h k
unfolding total
total_most f h zero each = omega arith
total_most f h (suc k) each =
    let rest = total_most f h k (λ g lt. each g (omega arith)) in
    let last = each k (omega arith) in
    omega arith

-- if `f` is at most `h` everywhere but at `x`, the sum of `f` plus `h x` is at most the sum of `h` plus `f x`
total_but : (f h : ℕ → ℕ) (x k : ℕ) → x < k → ((g : ℕ) → g < k → g ≢ x → f g ≤ h g) → total f k + h x ≤ total h k + f x
unfolding total
total_but f h x zero within each = absurd (omega arith)
total_but f h x (suc k) within each =
    ⊎_elim
    (λ (last : k ≡ x).
    let rest = total_most f h k (λ g lt. each g (omega arith) (λ same. omega arith)) in
    subst (λ (y : ℕ). total f k + f k + h y ≤ total h k + h k + f y) last (omega arith))
    (λ (before : k ≢ x).
    let rest = total_but f h x k (omega arith) (λ g lt other. each g (omega arith) other) in
    let one = each k (omega arith) before in
    omega arith)
    (cases_eq k x)

most_if : (a b : ℕ) → a ≡ b → a ≤ b
most_if a b same = omega arith

none_most : (a b : ℕ) → a ≡ 0 → a ≤ b
none_most a b none = omega arith

-- ---- weights

abbrev pub weight_by : Bool → RmmGranuleState → ℕ
weight_by false s = 0
weight_by true Data = 2
weight_by true _ = 1

-- The weight of a granule: 2 if it is DATA of realm `r`, 1 if `r` owns it in another state, else 0. So a block that is
-- unfolded, and of which a page is destroyed, weighs one less than before.
abbrev pub weight : ℕ → RmmGranule → ℕ
weight r a = weight_by (is_owner r a.owner) a.state

owned_weight : (r : ℕ) (s : RmmGranuleState) → weight r (of_realm r s) ≡ weight_by true s
owned_weight r s = ap (λ (b : Bool). weight_by b s) (eq-eqb r r refl)

-- the weight of a realm, which is the sum of its granules' weights
pub heavy : ℕ → Machine → ℕ
heavy r m = total (λ g. weight r (granule_at m g)) (length m.granules)

abbrev one_if : Bool → ℕ
one_if true = 1
one_if false = 0

abbrev ns_at : List ℕ → ℕ → ℕ
ns_at page i = one_if (is_assigned_ns (entry_in_page page i))

-- the number of entries that map memory of the host
pub mapped : Machine → ℕ
mapped m = total (λ g. total (ns_at (page_in m g)) 512) (length m.granules)

-- ---- steps

-- A granule stays as it was, or it was no RD and becomes DELEGATED, or it is the RD of realm `r` and keeps its fixed
-- attributes.
abbrev pub IsLess : ℕ → ℕ → RmmGranule → RmmGranule → Type 0
IsLess r g a b = (b ≡ a) ⊎ (((is_rd a.state ≡ false) × (b ≡ of_no_realm Delegated)) ⊎ ((g ≡ r) × (is_rd b.state ≡ true) × (b.owner ≡ None) × (fixed_of b.state ≡ fixed_of a.state)))

-- A granule changes as `IsLess` says, or it is the DELEGATED granule `x` and becomes a table of the realm.
abbrev pub IsNext : ℕ → ℕ → ℕ → RmmGranule → RmmGranule → Type 0
IsNext r x g a b = IsLess r g a b ⊎ ((g ≡ x) × (a.state ≡ Delegated) × (b ≡ of_realm r Rtt))

less_weight : (r g : ℕ) (a b : RmmGranule) → IsLess r g a b → weight r b ≤ weight r a
less_weight r g a b (inl same) = most_if (weight r b) (weight r a) (ap (weight r) same)
less_weight r g a b (inr (inl freed)) = none_most (weight r b) (weight r a) (ap (weight r) freed.1)
less_weight r g a b (inr (inr rd)) = none_most (weight r b) (weight r a) (ap (λ (o : Option ℕ). weight_by (is_owner r o) b.state) rd.2)

other_weight : (r x g : ℕ) (a b : RmmGranule) → IsNext r x g a b → g ≢ x → weight r b ≤ weight r a
other_weight r x g a b (inl less) other = less_weight r g a b less
other_weight r x g a b (inr made) other = absurd (other made.0)

pub rd_then : (r x g : ℕ) (a b : RmmGranule) → IsNext r x g a b → is_rd a.state ≡ true → is_rd b.state ≡ true
rd_then r x g a b (inl (inl same)) sure = ap (λ (c : RmmGranule). is_rd c.state) same ∙ sure
rd_then r x g a b (inl (inr (inl freed))) sure = absurd (both_ways (is_rd a.state) freed.0 sure)
rd_then r x g a b (inl (inr (inr rd))) sure = rd.1
rd_then r x g a b (inr made) sure = absurd (both_ways (is_rd a.state) (ap is_rd made.1) sure)

pub fixed_then : (r x g : ℕ) (a b : RmmGranule) → IsNext r x g a b → is_rd a.state ≡ true → fixed_of b.state ≡ fixed_of a.state
fixed_then r x g a b (inl (inl same)) sure = ap (λ (c : RmmGranule). fixed_of c.state) same
fixed_then r x g a b (inl (inr (inl freed))) sure = absurd (both_ways (is_rd a.state) freed.0 sure)
fixed_then r x g a b (inl (inr (inr rd))) sure = rd.3
fixed_then r x g a b (inr made) sure = absurd (both_ways (is_rd a.state) (ap is_rd made.1) sure)

pub rec_before : (r x g : ℕ) (a b : RmmGranule) (rec : RmmRec) → IsNext r x g a b → b ≡ of_realm r (IsRec rec) → a ≡ of_realm r (IsRec rec)
rec_before r x g a b rec (inl (inl same)) is = sym same ∙ is
rec_before r x g a b rec (inl (inr (inl freed))) is = (let states : Delegated ≡ IsRec rec = ap (λ (c : RmmGranule). c.state) (sym freed.1 ∙ is) in absurd (cc))
rec_before r x g a b rec (inl (inr (inr rd))) is = absurd (both_ways (is_rd b.state) (ap (λ (c : RmmGranule). is_rd c.state) is) rd.1)
rec_before r x g a b rec (inr made) is = (let states : Rtt ≡ IsRec rec = ap (λ (c : RmmGranule). c.state) (sym made.2 ∙ is) in absurd (cc))

-- a granule belongs to the realm, or is DELEGATED
abbrev pub IsKept : Machine → ℕ → ℕ → Type 0
IsKept m r g = IsOfRealm m (Some r) g ⊎ ((granule_at m g).state ≡ Delegated)

pub kept_then : (m n : Machine) (r x g : ℕ) → IsNext r x g (granule_at m g) (granule_at n g) → IsKept m r g → IsKept n r g
kept_then m n r x g (inl (inl same)) (inl (inl at)) = inl (inl at)
kept_then m n r x g (inl (inl same)) (inl (inr owned)) = inl (inr (ap (λ (c : RmmGranule). c.owner) same ∙ owned))
kept_then m n r x g (inl (inl same)) (inr free) = inr (ap (λ (c : RmmGranule). c.state) same ∙ free)
kept_then m n r x g (inl (inr (inl freed))) was = inr (ap (λ (c : RmmGranule). c.state) freed.1)
kept_then m n r x g (inl (inr (inr rd))) was = inl (inl rd.0)
kept_then m n r x g (inr made) was = inl (inr (ap (λ (c : RmmGranule). c.owner) made.2))

-- the second machine is proper, with the settings and the number of granules of the first
abbrev pub IsKin : Machine → Machine → Type 0
IsKin m n = IsProper n × (n.settings ≡ m.settings) × (length n.granules ≡ length m.granules)

-- a step of the teardown of realm `r` leads from `m` to `n`, and granule `x` may have become a table
pub record IsStep (m n : Machine) (r x : ℕ) : Type 0 where
  pub kin : IsKin m n
  pub each : (g : ℕ) → IsNext r x g (granule_at m g) (granule_at n g)

pub step_weight : (m n : Machine) (r x : ℕ) → IsStep m n r x → x < length m.granules → heavy r n + weight r (granule_at m x) ≤ heavy r m + weight r (granule_at n x)
unfolding heavy
step_weight m n r x step inside =
    subst (λ (k : ℕ). total (λ g. weight r (granule_at n g)) k + weight r (granule_at m x) ≤ total (λ g. weight r (granule_at m g)) (length m.granules) + weight r (granule_at n x)) (sym step.kin.2)
    (total_but (λ g. weight r (granule_at n g)) (λ g. weight r (granule_at m g)) x (length m.granules) inside (λ g lt other. other_weight r x g (granule_at m g) (granule_at n g) (step.each g) other))

-- ---- steps by which a granule comes back

back_step : (m n : Machine) (r address : ℕ) (s : RmmGranuleState) → is_rd s ≡ false → ComesBack m n r s address → IsKin m n → IsStep m n r (number_of m address)
back_step m n r address s plain back kin = record {
  kin = kin;
  each = λ g. ⊎_elim
      (λ (here : g ≡ number_of m address).
      inl (inr (inl (ap (λ (y : ℕ). is_rd (granule_at m y).state) here ∙ ap (λ (c : RmmGranule). is_rd c.state) back.was ∙ plain, ap (granule_at n) here ∙ back.is))))
      (λ (other : g ≢ number_of m address). inl (inl (back.others g other)))
      (cases_eq g (number_of m address));
}

-- a step of the teardown of realm `r` leads from `m` to `n`, and makes granule `x` of the realm DELEGATED
pub record IsFreed (m n : Machine) (r x : ℕ) : Type 0 where
  pub step : IsStep m n r x
  pub inside : x < length m.granules
  pub was : (granule_at m x).owner ≡ Some r
  pub free : granule_at n x ≡ of_no_realm Delegated

pub data_kin : (m : Machine) (rd ipa : ℕ) → IsProper m → (performed (DataDestroy rd ipa) m).0.word ≡ Success → IsKin m (performed (DataDestroy rd ipa) m).1
unfolding data_destroy
data_kin m rd ipa proper success =
    succeeded (IsKin m (performed (DataDestroy rd ipa) m).1) (DataDestroy rd ipa) m refl success
    (λ ok now.
    subst (λ (p : SmcResult × Machine). IsKin m p.1) (sym now)
    (record { linked = data_gone rd ipa m proper.linked ok; ordered = data_destroy_ordered rd ipa m proper ok }, refl, length-set m.granules _ (of_no_realm Delegated)))

pub table_kin : (m : Machine) (rd ipa level : ℕ) → IsProper m → (performed (RttDestroy rd ipa level) m).0.word ≡ Success → IsKin m (performed (RttDestroy rd ipa level) m).1
unfolding rtt_destroy
table_kin m rd ipa level proper success =
    succeeded (IsKin m (performed (RttDestroy rd ipa level) m).1) (RttDestroy rd ipa level) m refl success
    (λ ok now.
    subst (λ (p : SmcResult × Machine). IsKin m p.1) (sym now)
    (record { linked = table_gone rd ipa level m proper.linked ok; ordered = rtt_destroy_ordered rd ipa level m proper ok }, refl, length-set m.granules _ (of_no_realm Delegated)))

pub of_back : (m n : Machine) (r address : ℕ) (s : RmmGranuleState) → is_rd s ≡ false → s ≢ Undelegated → ComesBack m n r s address → IsKin m n → IsFreed m n r (number_of m address)
of_back m n r address s plain taken back kin = record {
  step = back_step m n r address s plain back kin;
  inside = taken_inside m (number_of m address) (λ free. taken (sym (ap (λ (c : RmmGranule). c.state) back.was) ∙ free));
  was = ap (λ (c : RmmGranule). c.owner) back.was;
  free = back.is;
}

as_next : (r x g : ℕ) (a b : RmmGranule) (owner : Option ℕ) → owner ≡ Some r
    → (b ≡ a) ⊎ (((is_rd a.state ≡ false) × (b ≡ of_no_realm Delegated)) ⊎ ((owner ≡ Some g) × (is_rd b.state ≡ true) × (b.owner ≡ None) × (fixed_of b.state ≡ fixed_of a.state))) → IsNext r x g a b
as_next r x g a b owner of_r (inl same) = inl (inl same)
as_next r x g a b owner of_r (inr (inl freed)) = inl (inr (inl freed))
as_next r x g a b owner of_r (inr (inr rd)) = inl (inr (inr (some_same (sym rd.0 ∙ of_r), rd.1, rd.2, rd.3)))

-- an RMI_REC_DESTROY that succeeds makes the granule of the REC DELEGATED, as `IsFreed` says
pub rec_freed : (m : Machine) (rd rec : ℕ) → IsProper m → realm_of_rec m rec ≡ Some (number_of m rd) → (performed (RecDestroy rec) m).0.word ≡ Success
    → IsFreed m (performed (RecDestroy rec) m).1 (number_of m rd) (number_of m rec)
unfolding rec_destroy
rec_freed m rd rec proper of_rd success =
    let back = rec_destroy_back m rec proper success in
    let x : ℕ = number_of m rec in
    let state = rec_of-there (state_at m rec) (and_parts _ _ back.was).1 in
    record {
      step = succeeded (IsStep m (performed (RecDestroy rec) m).1 (number_of m rd) (number_of m rec)) (RecDestroy rec) m refl success
          (λ ok now.
          let changed = destroyed_changed rec m proper ok in
          subst (λ (p : SmcResult × Machine). IsStep m p.1 (number_of m rd) (number_of m rec)) (sym now)
          (record {
            kin = (rec_destroyed rec m proper ok, changed.0, changed.1);
            each = λ g. as_next (number_of m rd) (number_of m rec) g (granule_at m g) (granule_at (rec_destroy rec m).machine g) (realm_of_rec m rec) of_rd (changed.2 g);
          }));
      inside = taken_inside m x (λ free. cc);
      was = sym (cond-true (is_rec_named m rec) (granule_at m x).owner None back.was) ∙ of_rd;
      free = back.is;
    }

owner_weight : (r : ℕ) (s : RmmGranuleState) → 1 ≤ weight_by true s
owner_weight r Undelegated = omega arith
owner_weight r Delegated = omega arith
owner_weight r (Rd realm) = omega arith
owner_weight r (IsRec rec) = omega arith
owner_weight r Data = omega arith
owner_weight r _ = omega arith

-- a step of a teardown that satisfies `IsFreed` makes the realm's weight smaller
pub freed_weight : (m n : Machine) (r x : ℕ) → IsFreed m n r x → heavy r n < heavy r m
freed_weight m n r x freed =
    let sum = step_weight m n r x freed.step freed.inside in
    let now : weight r (granule_at n x) ≡ 0 = ap (weight r) freed.free in
    let owned : is_owner r (granule_at m x).owner ≡ true = ap (is_owner r) freed.was ∙ eq-eqb r r refl in
    let before : weight r (granule_at m x) ≡ weight_by true (granule_at m x).state = ap (λ (b : Bool). weight_by b (granule_at m x).state) owned in
    let some = owner_weight r (granule_at m x).state in
    omega arith

pub data_weight : (m n : Machine) (r x : ℕ) → IsFreed m n r x → granule_at m x ≡ of_realm r Data → heavy r n + 2 ≤ heavy r m
data_weight m n r x freed was =
    let sum = step_weight m n r x freed.step freed.inside in
    let now : weight r (granule_at n x) ≡ 0 = ap (weight r) freed.free in
    let before : weight r (granule_at m x) ≡ 2 = ap (weight r) was ∙ owned_weight r Data in
    omega arith

-- ---- a mapping that is removed

pub record IsUnmapped (m n : Machine) : Type 0 where
  pub kin : IsKin m n
  pub same : (g : ℕ) → granule_at n g ≡ granule_at m g
  pub less : mapped n < mapped m

module _ (m : Machine) (found : RttWalk) (ipa : ℕ) (proper : IsProper m) (inside : found.table < length m.granules) (is : is_assigned_ns (entry_at m found ipa) ≡ true) where
  abbrev i : ℕ
  i = entry_index found.level ipa

  abbrev n : Machine
  n = with_entry m found ipa UnassignedNs

  there : total (ns_at (page_in n found.table)) 512 + 1 ≤ total (ns_at (page_in m found.table)) 512
  unfolding entry_at
  there =
      let sound = proper.linked.sound in
      let index : i < 512 = entry_index-few found.level ipa in
      let sum =
      total_but (ns_at (page_in n found.table)) (ns_at (page_in m found.table)) i 512 index
      (λ j lt other. most_if _ _ (ap (λ (e : RmmRttEntry). one_if (is_assigned_ns e)) (entry-other m found.table i UnassignedNs sound inside index j lt other))) in
      let now : ns_at (page_in n found.table) i ≡ 0 = ap (λ (e : RmmRttEntry). one_if (is_assigned_ns e)) (entry-same m found.table i UnassignedNs sound inside index (omega arith)) in
      let before : ns_at (page_in m found.table) i ≡ 1 = ap one_if is in
      omega arith

  less_mapped : mapped n < mapped m
  unfolding mapped
  less_mapped =
      let sum =
      total_but (λ g. total (ns_at (page_in n g)) 512) (λ g. total (ns_at (page_in m g)) 512) found.table (length m.granules) inside
      (λ g lt other. most_if _ _ (ap (λ (p : List ℕ). total (ns_at p) 512) (page_in-other m found.table g _ other))) in
      let one = there in
      omega arith

pub unmap_then : (m : Machine) (rd ipa level : ℕ) → IsProper m → (performed (RttUnmapUnprotected rd ipa level) m).0.word ≡ Success → IsUnmapped m (performed (RttUnmapUnprotected rd ipa level) m).1
unfolding rtt_unmap_unprotected
unmap_then m rd ipa level proper success =
    succeeded (IsUnmapped m (performed (RttUnmapUnprotected rd ipa level) m).1) (RttUnmapUnprotected rd ipa level) m refl success
    (λ ok now.
    let realm : RmmRealm = realm_at m rd in
    let is = realm_of-some (state_at m rd) ok.1.1.0 in
    let levels = and_parts (nat_le m.settings.block_level level) (is_level realm.start_level level) (yes_from _ ok.1.1.1.0) in
    let least : realm.start_level ≤ level = leb-true _ _ (and_parts (nat_le realm.start_level level) (nat_le level 3) levels.1).0 in
    let within = unprotected_within realm ipa (yes_from _ ok.1.1.1.1.1.0) in
    let found : RttWalk = walk m realm ipa level in
    let end : IsPlace m proper.linked (number_of m rd) ipa found = place_is m proper.linked (number_of m rd) ipa level realm is within least in
    let table_is : (granule_at m found.table).state ≡ Rtt = ap (λ (c : RmmGranule). c.state) end.table in
    subst (λ (p : SmcResult × Machine). IsUnmapped m p.1) (sym now)
    (record {
      kin = (record { linked = host_unmapped rd ipa level m proper.linked ok; ordered = unmap_ordered rd ipa level m proper ok }, refl, refl);
      same = λ g. refl;
      less = less_mapped m found ipa proper (taken_inside m found.table (λ free. cc)) (yes_from _ ok.1.1.1.1.1.1.1.0);
    }))

-- ---- a block that is unfolded

-- a block that is unfolded is at level 2, since a machine has too few granules for a larger block
unfolded_deep : (m : Machine) (proper : IsProper m) (rd rtt ipa level : ℕ) (place : RttWalk) (end : IsPlace m proper.linked rd ipa place) → place.level + 1 ≡ level → level ≤ 3 → is_inside m rtt ≡ true → rtt % 4096 ≡ 0
    → (granule_at m (number_of m rtt)).state ≡ Delegated → (ripas : RmmRipas) (a : ℕ) → entry_at m place ipa ≡ Assigned ripas a → level ≡ 3
unfolded_deep m proper rd rtt ipa level place end one_below most inside aligned free ripas a at =
    ⊎_elim
    (λ (high : place.level < 2).
    let first = sizes place.level (omega arith) in
    let second = sizes (place.level + 1) (omega arith) in
    let parts = first.1 in
    let more = second.1 in
    let some = second.2 in
    let within = page_in_machine m proper.linked rd rtt ipa level place end one_below most inside aligned free ripas a at 4096 (omega arith) in
    let few = proper.linked.sound.few in
    absurd (omega arith))
    (λ (low : 2 ≤ place.level). omega arith)
    (cases_lt place.level 2)

-- a step of the teardown of realm `r` leads from `m` to `n`, where granule `x` is a table whose entries map the pages
-- of a block
pub record HasUnfolded (m n : Machine) (r x : ℕ) : Type 0 where
  pub step : IsStep m n r x
  pub inside : x < length m.granules
  pub free : (granule_at m x).state ≡ Delegated
  pub table : IsTableOf n r x
  pub ripas : RmmRipas
  pub first : ℕ
  pub pages : (j : ℕ) → j < 512 → entry_in_page (page_in n x) j ≡ Assigned ripas (first + j * 4096)

page_size_is : (l : ℕ) → l ≡ 3 → entry_size l ≡ 4096
unfolding entry_size
page_size_is l is = ap entry_size is

pub unfold_then : (m : Machine) (rd rtt ipa level : ℕ) → IsProper m → IsAssignedAt m rd ipa (level - 1) → (performed (RttCreate rd rtt ipa level) m).0.word ≡ Success
    → HasUnfolded m (performed (RttCreate rd rtt ipa level) m).1 (number_of m rd) (number_of m rtt)
unfolding rtt_create
unfold_then m rd rtt ipa level proper block success =
    succeeded (HasUnfolded m (performed (RttCreate rd rtt ipa level) m).1 (number_of m rd) (number_of m rtt)) (RttCreate rd rtt ipa level) m refl success
    (λ ok now.
    let linked = proper.linked in
    let r : ℕ = number_of m rd in
    let x : ℕ = number_of m rtt in
    let realm : RmmRealm = realm_at m rd in
    let aligned : rtt % 4096 ≡ 0 = eqb-true _ _ (yes_from (is_aligned rtt) ok.0) in
    let inside : is_inside m rtt ≡ true = yes_from (is_inside m rtt) ok.1.0 in
    let free : state_at m rtt ≡ Delegated = is_delegated-true (state_at m rtt) (yes_from (is_delegated (state_at m rtt)) ok.1.1.0) in
    let is = realm_of-some (state_at m rd) ok.1.1.1.1.1.0 in
    let levels = and_parts (nat_le (realm.start_level + 1) level) (nat_le level 3) (yes_from _ ok.1.1.1.1.1.1.0) in
    let least : realm.start_level + 1 ≤ level = leb-true _ _ levels.0 in
    let most : level ≤ 3 = leb-true _ _ levels.1 in
    let within : ipa < 2 ^ realm.s2sz = ltb-true _ _ (yes_from (is_in_space realm ipa) ok.1.1.1.1.1.1.1.1.0) in
    let place : RttWalk = walk m realm ipa (level - 1) in
    let there : place.level ≡ level - 1 = eqb-true _ _ (yes_from _ ok.1.1.1.1.1.1.1.1.1.0) in
    let end : IsPlace m linked r ipa place = place_is m linked r ipa (level - 1) realm is within (omega arith) in
    let one_below : place.level + 1 ≡ level = omega arith in
    let ripas : RmmRipas = block.0 in
    let a : ℕ = block.1 in
    let at : entry_at m place ipa ≡ Assigned ripas a = block.2 in
    let in_machine : x < length m.granules = number_inside m rtt inside in
    let content : List ℕ = children_page (entry_at m place ipa) level in
    let deepest : level ≡ 3 = unfolded_deep m proper r rtt ipa level place end one_below most inside aligned free ripas a at in
    let size : entry_size (place.level + 1) ≡ 4096 = page_size_is (place.level + 1) (omega arith) in
    subst (λ (p : SmcResult × Machine). HasUnfolded m p.1 (number_of m rd) (number_of m rtt)) (sym now)
    (record {
      step = record {
        kin = (record { linked = table_made rd rtt ipa level m linked ok; ordered = rtt_create_ordered rd rtt ipa level m proper ok }, refl, length-set m.granules x (of_realm r Rtt));
        each = λ g. ⊎_elim
            (λ (here : g ≡ x).
            inr (here, ap (λ (y : ℕ). (granule_at m y).state) here ∙ free, ap (granule_at (with_granule m x (of_realm r Rtt))) here ∙ granule_at-same m x (of_realm r Rtt) in_machine))
            (λ (other : g ≢ x). inl (inl (granule_at-other m x g (of_realm r Rtt) other)))
            (cases_eq g x);
      };
      inside = in_machine;
      free = free;
      table = granule_at-same m x (of_realm r Rtt) in_machine;
      ripas = ripas;
      first = a;
      pages = λ j lt.
          ap (λ (p : List ℕ). entry_in_page p j)
          (content_now m linked r ipa place end x in_machine free Rtt content (length-children (entry_at m place ipa) level) (Table rtt) tt (address_few m rtt linked.sound inside))
          ∙ ap (λ (e : RmmRttEntry). entry_in_page (children_page e level) j) at
          ∙ child_entry_is m linked r rtt ipa level place end one_below most inside aligned free ripas a at j lt
          ∙ ap (λ (s : ℕ). Assigned ripas (a + j * s)) size;
    }))

pub unfold_weight : (m n : Machine) (r x : ℕ) → HasUnfolded m n r x → heavy r n ≤ heavy r m + 1
unfold_weight m n r x unfolded =
    let sum = step_weight m n r x unfolded.step unfolded.inside in
    let now : weight r (granule_at n x) ≡ 1 = ap (weight r) unfolded.table ∙ owned_weight r Rtt in
    omega arith

-- a table whose entries map 512 consecutive pages is of level 3, since at a higher level two entries would map the same
-- page
pub unfolded_level : (n : Machine) (proper : IsProper n) (r x first : ℕ) (ripas : RmmRipas) → IsTableOf n r x → ((j : ℕ) → j < 512 → entry_in_page (page_in n x) j ≡ Assigned ripas (first + j * 4096))
    → proper.linked.level x ≡ 3
unfolded_level n proper r x first ripas table pages =
    ⊎_elim
    (λ (high : proper.linked.level x < 3).
    let s = sizes (proper.linked.level x) (omega arith) in
    let whole = s.1 in
    let some = s.2 in
    let twice =
    named_twice n proper r r x 0 1 x 1 0 (first + 0 * 4096) (first + 1 * 4096) ripas ripas table table (omega arith) (omega arith) (pages 0 (omega arith)) (pages 1 (omega arith)) (omega arith) (omega arith) (omega arith) in
    let never : 0 ≡ 1 = twice.1 in
    absurd (omega arith))
    (λ (low : 3 ≤ proper.linked.level x). (let most = proper.linked.most x (ap (λ (c : RmmGranule). c.state) table) in omega arith))
    (cases_lt (proper.linked.level x) 3)

-- ---- granules that are undelegated

-- `n` is a proper machine with the settings and VMIDs of `m`, and only granule `x` may differ
pub record IsUndelegated (m n : Machine) (x : ℕ) : Type 0 where
  pub kin : IsKin m n
  pub vmids : n.vmids ≡ m.vmids
  pub others : (g : ℕ) → g ≢ x → IsSameAt m n g

pub undelegate_then : (m : Machine) (address : ℕ) → IsProper m → (performed (GranuleUndelegate address) m).0.word ≡ Success → IsUndelegated m (performed (GranuleUndelegate address) m).1 (number_of m address)
unfolding granule_undelegate
undelegate_then m address proper success =
    succeeded (IsUndelegated m (performed (GranuleUndelegate address) m).1 (number_of m address)) (GranuleUndelegate address) m refl success
    (λ ok now.
    let x : ℕ = number_of m address in
    subst (λ (p : SmcResult × Machine). IsUndelegated m p.1 (number_of m address)) (sym now)
    (record {
      kin = (record { linked = undelegated_linked address m proper.linked ok; ordered = undelegate_ordered address m proper ok }, refl, length-set m.granules x (of_no_realm Undelegated));
      vmids = refl;
      others = λ g other. (granule_at-other m x g (of_no_realm Undelegated) other, page_in-other (with_granule m x (of_no_realm Undelegated)) x g zero_page other);
    }))

abbrev pub IsGivenBack : Machine → ℕ → Type 0
IsGivenBack m g = (granule_at m g ≡ of_no_realm Undelegated) × (page_in m g ≡ zero_page)

-- ---- the end of a realm

-- the flag of a VMID is false once it is set to false, even if the list has no flag for the VMID
vmid_free : (vmids : List Bool) (vmid : ℕ) → get_or (set vmids vmid false) vmid false ≡ false
vmid_free vmids vmid =
    ⊎_elim
    (λ (lt : vmid < length vmids). get_or-set_same vmids vmid false false lt)
    (λ (past : length vmids ≤ vmid). get_or_past (set vmids vmid false) vmid false (subst (λ (c : ℕ). c ≤ vmid) (sym (length-set vmids vmid false)) past))
    (cases_lt vmid (length vmids))

-- after an RMI_REALM_DESTROY that succeeds, the machine is proper, DELEGATED granules are still DELEGATED, and the
-- realm's VMID is free
pub realm_then : (m : Machine) (rd : ℕ) → IsProper m → (performed (RealmDestroy rd) m).0.word ≡ Success
    → IsKin m (performed (RealmDestroy rd) m).1 × ((g : ℕ) → (granule_at m g).state ≡ Delegated → (granule_at (performed (RealmDestroy rd) m).1 g).state ≡ Delegated)
    × (is_vmid_used (performed (RealmDestroy rd) m).1 (realm_at m rd).vmid ≡ false)
unfolding realm_destroy is_realm_live
realm_then m rd proper success =
    succeeded
    (IsKin m (performed (RealmDestroy rd) m).1 × ((g : ℕ) → (granule_at m g).state ≡ Delegated → (granule_at (performed (RealmDestroy rd) m).1 g).state ≡ Delegated)
    × (is_vmid_used (performed (RealmDestroy rd) m).1 (realm_at m rd).vmid ≡ false))
    (RealmDestroy rd) m refl success
    (λ ok now.
    let r : ℕ = number_of m rd in
    let realm : RmmRealm = realm_at m rd in
    let is = realm_of-some (state_at m rd) ok.1.1.0 in
    let parts = or_none (nat_lt 0 realm.rec_count) (has_live_table m realm.first_table realm.table_count) ok.1.1.1.0 in
    let none = none_if realm.rec_count parts.0 in
    let like = gone_like m proper r realm is parts.1 none in
    subst (λ (p : SmcResult × Machine). IsKin m p.1 × ((g : ℕ) → (granule_at m g).state ≡ Delegated → (granule_at p.1 g).state ≡ Delegated) × (is_vmid_used p.1 (realm_at m rd).vmid ≡ false)) (sym now)
    ((realm_destroyed rd m proper ok, like.0, like.1), gone_spare m proper r realm is parts.1 none, vmid_free (without_tables m realm realm.table_count).vmids realm.vmid))
