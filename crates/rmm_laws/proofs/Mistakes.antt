-- Proofs that the machines that result from certain wrong definitions of commands break the invariant `IsProper`.
use Rattle.std.proofs.Common.{◌≡◌, ◌≢◌, ℕ, ◌+◌, ◌*◌, ◌<◌, ◌==◌, Bool, true, false, List, length, Option, Some, None, option_map, refl, sym, ap, subst, ◌∙◌, arith}
use Rattle.std.specs.Prelude.{cond}
use Rattle.std.specs.List.{count_by}
use Rattle.std.proofs.lemmas.Bool.{cond-true, eq-eqb, lt-ltb, both_ways}
use Rattle.std.proofs.lemmas.List.{length-set}
use Rattle.granule_addr.specs.Page.{zero_page}
use Rattle.rmm_model.specs.declared.entry.RmmRipas.{RmmRipas}
use Rattle.rmm_model.specs.declared.entry.RmmRttEntry.{RmmRttEntry}
use Rattle.rmm_model.specs.declared.entry.RmmRttEntry.TheVariants.{Assigned, Table}
use Rattle.rmm_model.specs.declared.granule.RmmGranule.{RmmGranule}
use Rattle.rmm_model.specs.declared.granule.RmmGranuleState.{RmmGranuleState}
use Rattle.rmm_model.specs.declared.granule.RmmGranuleState.TheVariants.{Undelegated, Delegated, Rd, Rec as IsRec, RecAux, Data, Rtt}
use Rattle.rmm_model.specs.declared.realm.RttWalk.{RttWalk}
use Rattle.rmm_model.specs.declared.realm.RmmRealm.{RmmRealm}
use Rattle.rmm_model.specs.declared.rec.RmmRec.{RmmRec}
use Rattle.rmm_model.specs.Granule.{of_no_realm}
use Rattle.rmm_model.specs.Machine.{Machine, granule_at, page_in, number_of, with_granule, with_blank}
use Rattle.rmm_model.specs.Table.{entry_in_page}
use Rattle.rmm_model.specs.Walk.{granule_named, table_below}
use Rattle.rmm_model.specs.Command.Auxiliary.{with_aux}
use Rattle.rmm_model.specs.Command.RealmDestroy.{without_tables}
use Rattle.rmm_laws.specs.Owner.{is_rd, IsOwner, IsOrderly, is_rec_in}
use Rattle.rmm_laws.specs.Proper.{IsProper}
use Rattle.rmm_laws.specs.Role.{used, page_count, entry_uses, uses, IsLinked, LeadsInside}
use Rattle.rmm_laws.specs.Walk.{IsTableOf}
use Rattle.rmm_laws.proofs.Entries.{named_inside}
use Rattle.rmm_laws.proofs.Orders.{owner_is, rd_is, rd_of}
use Rattle.rmm_laws.proofs.Realms.{gone_count, gone_other}
use Rattle.rmm_laws.proofs.RecsGone.{beside_gone, gone_total, rd_apart}
use Rattle.rmm_laws.proofs.Walks.{IsPlace, right, one_place, table_right, uses-entry, by_entry}
use Rattle.rmm_laws.proofs.Writes.{granule_at-same, granule_at-other, page_in-other, named-same, taken_inside}

-- a table of a realm, with the level that `linked` gives it, satisfies `IsPlace` for that realm
at_level : (m : Machine) (linked : IsLinked m) (rd table : ℕ) → IsTableOf m rd table → IsPlace m linked rd 0 (record { table = table; level = linked.level table })
at_level m linked rd table is = record { table = is; level = refl }

-- a TABLE entry in a realm's table leads to a table of that realm, one level further down
below_at : (m : Machine) (linked : IsLinked m) (rd table i g : ℕ) → IsTableOf m rd table → i < 512 → table_below m (entry_in_page (page_in m table) i) ≡ Some g
    → (granule_at m g ≡ record { state = Rtt; owner = Some rd }) × (linked.level g ≡ linked.level table + 1)
below_at m linked rd table i g is lt leads =
    let place : RttWalk = record { table = table; level = linked.level table } in
    let gives = uses-entry m linked rd 0 place i 0 (at_level m linked rd table is) lt ∙ by_entry m linked rd 0 (Some rd) (linked.level table) g (entry_in_page (page_in m table) i) leads in
    table_right m linked (Some rd) (linked.level table + 1) g (right m linked table i 0 (used Rtt (Some rd) (linked.level table + 1) g) gives)

pub below_same : (m n : Machine) (entry : RmmRttEntry) → n.settings ≡ m.settings → length n.granules ≡ length m.granules → table_below n entry ≡ table_below m entry
below_same m n (Table address) settings count = named-same m n settings count address
below_same m n _ settings count = refl

-- making a table DELEGATED while an entry leads to it breaks `IsProper`
pub entry_left : (m : Machine) (rd table i g : ℕ) → IsProper m → IsTableOf m rd table → i < 512 → table_below m (entry_in_page (page_in m table) i) ≡ Some g → IsProper (with_blank m g Delegated) → ⊥
entry_left m rd table i g proper is lt leads after =
    let n : Machine = with_blank m g Delegated in
    let there = below_at m proper.linked rd table i g is lt leads in
    let state : (granule_at m g).state ≡ Rtt = ap (λ (r : RmmGranule). r.state) there.0 in
    let inside : g < length m.granules = taken_inside m g (λ free. cc) in
    let apart : table ≢ g = λ same. (let levels : proper.linked.level table ≡ proper.linked.level g = ap proper.linked.level same in let one = there.1 in omega arith) in
    let still : IsTableOf n rd table = granule_at-other m g table (of_no_realm Delegated) apart ∙ is in
    let page : page_in n table ≡ page_in m table = page_in-other (with_granule m g (of_no_realm Delegated)) g table zero_page apart in
    let leads_then : table_below n (entry_in_page (page_in n table) i) ≡ Some g =
    ap (λ (p : List ℕ). table_below n (entry_in_page p i)) page ∙ below_same m n (entry_in_page (page_in m table) i) refl (length-set m.granules g (of_no_realm Delegated)) ∙ leads in
    let table_then : (granule_at n g).state ≡ Rtt = ap (λ (r : RmmGranule). r.state) (below_at n after.linked rd table i g still lt leads_then).0 in
    let free : (granule_at n g).state ≡ Delegated = ap (λ (r : RmmGranule). r.state) (granule_at-same m g (of_no_realm Delegated) inside) in
    cc

-- part `part` of an ASSIGNED entry uses the DATA granule that is `part` granules after the entry's first granule
page_of : (m : Machine) (linked : IsLinked m) (rd table i part address g : ℕ) (ripas : RmmRipas) → IsTableOf m rd table → i < 512 → part < page_count (linked.level table) → entry_in_page (page_in m table) i ≡ Assigned ripas address
    → granule_named m address ≡ Some g → uses m linked.level table i part ≡ Some (used Data (Some rd) 0 (g + part))
page_of m linked rd table i part address g ripas is lt few entry named =
    let place : RttWalk = record { table = table; level = linked.level table } in
    uses-entry m linked rd 0 place i part (at_level m linked rd table is) lt
    ∙ ap (λ (e : RmmRttEntry). entry_uses m (Some rd) (linked.level table) e part) entry
    ∙ cond-true _ _ _ (lt-ltb part (page_count (linked.level table)) few)
    ∙ ap (option_map (λ first. used Data (Some rd) 0 (first + part))) named

same_number : (base address other g h p q : ℕ) → address ≡ base + g * 4096 → other ≡ base + h * 4096 → address + p * 4096 ≡ other + q * 4096 → g + p ≡ h + q
same_number base address other g h p q one two same = omega arith

-- if page `p` of one ASSIGNED entry and page `q` of a second have the same memory address, both are the same page of
-- the same entry
pub named_twice : (m : Machine) (proper : IsProper m) (rd s x i p y j q address other : ℕ) (a b : RmmRipas) → IsTableOf m rd x → IsTableOf m s y → i < 512 → j < 512 → entry_in_page (page_in m x) i ≡ Assigned a address
    → entry_in_page (page_in m y) j ≡ Assigned b other → p < page_count (proper.linked.level x) → q < page_count (proper.linked.level y) → address + p * 4096 ≡ other + q * 4096 → (x ≡ y) × (i ≡ j) × (p ≡ q)
named_twice m proper rd s x i p y j q address other a b one two lt also first second few_p few_q same =
    let linked = proper.linked in
    let g : ℕ = number_of m address in
    let h : ℕ = number_of m other in
    let begin = subst (LeadsInside m) first (linked.inside x i (ap (λ (r : RmmGranule). r.state) one) lt) in
    let begin_other = subst (LeadsInside m) second (linked.inside y j (ap (λ (r : RmmGranule). r.state) two) also) in
    one_place m linked x i p y j q (used Data (Some rd) 0 (g + p)) (used Data (Some s) 0 (h + q))
    (page_of m linked rd x i p address g a one lt few_p first (named_inside m address begin.0)) (page_of m linked s y j q other h b two also few_q second (named_inside m other begin_other.0))
    (same_number m.settings.base address other g h p q begin.1 begin_other.1 same)

one_missing : (now before : ℕ) → now ≡ before → now + 1 ≡ before → ⊥
one_missing now before same sum = omega arith

-- making a REC and its auxiliary granules DELEGATED while its realm still counts the REC breaks `IsProper`
pub rec_still_counted : (m : Machine) (g : ℕ) (rec : RmmRec) → IsProper m → (granule_at m g).state ≡ IsRec rec → IsProper (with_blank (with_aux m g (of_no_realm Delegated) m.settings.aux) g Delegated) → ⊥
rec_still_counted m g rec proper is after =
    let aux : ℕ = m.settings.aux in
    let n : Machine = with_blank (with_aux m g (of_no_realm Delegated) aux) g Delegated in
    let owner = owner_is m (granule_at m g).owner (rd_of m g proper.ordered (IsRec rec) is refl) in
    let rd : ℕ = owner.0 in
    let there = rd_is (granule_at m rd).state owner.2 in
    let apart = rd_apart m g aux proper.linked rec is refl rd owner.2 in
    let kept = beside_gone m g aux proper.linked rec is refl rd apart.0 apart.1 in
    let before = proper.ordered.recs rd there.0 there.1 in
    let now = after.ordered.recs rd there.0 (ap (λ (r : RmmGranule). r.state) kept.0 ∙ there.1) in
    let one : cond (rd == rd) 1 0 ≡ 1 = ap (λ (b : Bool). cond b 1 0) (eq-eqb rd rd refl) in
    let sum = gone_total m g aux proper.linked rec is refl rd rd owner.1 in
    one_missing (count_by (is_rec_in rd) n.granules) (count_by (is_rec_in rd) m.granules) (sym now ∙ before)
    (ap (λ (k : ℕ). count_by (is_rec_in rd) n.granules + k) (sym one) ∙ sum)

-- an owner of a granule is an RD
owned_of : (m : Machine) (s : RmmGranuleState) (owner : Option ℕ) (page : List ℕ) (rd : ℕ) → owner ≡ Some rd → IsOrderly m s owner page → is_rd (granule_at m rd).state ≡ true
owned_of m (IsRec rec) owner page rd owned fine = subst (IsOwner m) owned fine.0
owned_of m RecAux owner page rd owned fine = subst (IsOwner m) owned fine
owned_of m Data owner page rd owned fine = subst (IsOwner m) owned fine
owned_of m Rtt owner page rd owned fine = subst (IsOwner m) owned fine
owned_of m Undelegated owner page rd owned fine = let never : None ≡ Some rd = sym fine ∙ owned in absurd (cc)
owned_of m Delegated owner page rd owned fine = let never : None ≡ Some rd = sym fine.0 ∙ owned in absurd (cc)
owned_of m (Rd realm) owner page rd owned fine = let never : None ≡ Some rd = sym fine ∙ owned in absurd (cc)

-- making an RD and its starting tables DELEGATED while its realm owns another granule breaks `IsProper`
pub owner_removed : (m : Machine) (rd g : ℕ) (realm : RmmRealm) → IsProper m → (granule_at m rd).state ≡ Rd realm → (granule_at m g).owner ≡ Some rd → ((k : ℕ) → k < realm.table_count → g ≢ realm.first_table + k)
    → IsProper (with_blank (without_tables m realm realm.table_count) rd Delegated) → ⊥
owner_removed m rd g realm proper is owned beside after =
    let cleared : Machine = without_tables m realm realm.table_count in
    let n : Machine = with_blank cleared rd Delegated in
    let within = taken_inside m rd (λ free. cc) in
    let count = gone_count m realm realm.table_count in
    let none : (granule_at m rd).owner ≡ None = subst (λ (s : RmmGranuleState). IsOrderly m s (granule_at m rd).owner (page_in m rd)) is (proper.ordered.each rd) in
    let apart : g ≢ rd = λ same. (let some : None ≡ Some rd = sym none ∙ sym (ap (λ (x : ℕ). (granule_at m x).owner) same) ∙ owned in cc) in
    let still : (granule_at n g).owner ≡ Some rd = ap (λ (r : RmmGranule). r.owner) (granule_at-other cleared rd g (of_no_realm Delegated) apart ∙ (gone_other m realm realm.table_count g beside).0) ∙ owned in
    let now : is_rd (granule_at n rd).state ≡ true = owned_of n (granule_at n g).state (granule_at n g).owner (page_in n g) rd still (after.ordered.each g) in
    let free : is_rd (granule_at n rd).state ≡ false = ap (λ (r : RmmGranule). is_rd r.state) (granule_at-same cleared rd (of_no_realm Delegated) (omega arith)) in
    both_ways (is_rd (granule_at n rd).state) free now

-- under `IsProper` each DELEGATED granule is zero, so a DELEGATED granule that is not zero breaks `IsProper`
pub wipe_left_out : (m : Machine) (g : ℕ) → IsProper m → (granule_at m g).state ≡ Delegated → page_in m g ≡ zero_page
wipe_left_out m g proper is = (subst (λ (s : RmmGranuleState). IsOrderly m s (granule_at m g).owner (page_in m g)) is (proper.ordered.each g)).1
