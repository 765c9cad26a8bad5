-- Proofs that a single write leaves each granule with the owner that its state requires, and keeps the counts of RECs
-- correct. The granule that is written has to be orderly afterwards, and to satisfy `CountAlike` if its attributes
-- change.
use Rattle.std.proofs.Common.{◌≡◌, ◌≢◌, ℕ, ◌+◌, ◌<◌, ◌≤◌, ◌⊎◌, inl, inr, ◌&&◌, Bool, true, false, cond, List, [], ◌∷◌, length, set, get_or, Option, Some, None, refl, sym, ap, subst, ◌∙◌, ⊎_elim, arith}
use Rattle.std.specs.Prelude.{is_some, suc}
use Rattle.std.specs.List.{count_by}
use Rattle.std.proofs.lemmas.Bool.{cases_eq, cases_lt, and_left, and_from, and_parts, eq-eqb, eqb-true, both_ways, cases_Bool}
use Rattle.std.proofs.lemmas.List.{length-set, get_or_past}
use Rattle.std.proofs.lemmas.List.Sums.{sum_by-set, sum_by-cons}
use Rattle.rmi_abi.specs.declared.settings.RmmSettings.{RmmSettings}
use Rattle.rmm_model.specs.declared.granule.RmmGranule.{RmmGranule}
use Rattle.rmm_model.specs.declared.granule.RmmGranuleState.{RmmGranuleState}
use Rattle.rmm_model.specs.declared.granule.RmmGranuleState.TheVariants.{Undelegated, Delegated, Rd, Rec as IsRec, RecAux, Data, Rtt}
use Rattle.rmm_model.specs.declared.realm.RmmRealm.{RmmRealm}
use Rattle.rmm_model.specs.declared.rec.RmmRec.{RmmRec}
use Rattle.rmm_model.specs.Granule.{of_no_realm, rec_of}
use Rattle.rmm_model.specs.Machine.{Machine, granule_at, page_in, with_granule, with_page, with_vmid}
use Rattle.rmm_model.specs.Rec.{aux_of}
use Rattle.rmm_model.specs.Command.PsciComplete.{with_rec}
use Rattle.rmm_laws.specs.Owner.{is_rd, IsOwner, IsOrderly, IsOrderlyAt, is_owner, is_rec_in, IsOrdered}
use Rattle.rmm_laws.specs.Half.{HasHalves}
use Rattle.rmm_laws.specs.Role.{IsBegin}
use Rattle.rmm_laws.proofs.Halves.{SameSpace, has_space, plain_page, plain_granule, same_space, vmid_halves}
use Rattle.rmm_laws.proofs.Writes.{granule_at-same, granule_at-other, page_in-same, page_in-other, begin-same}

-- ---- owners

-- an owner is the RD of a realm
pub owner_is : (m : Machine) (owner : Option ℕ) → IsOwner m owner → (rd : ℕ) × (owner ≡ Some rd) × (is_rd (granule_at m rd).state ≡ true)
owner_is m (Some rd) is = (rd, refl, is)
owner_is m None is = absurd is

pub rd_is : (s : RmmGranuleState) → is_rd s ≡ true → (realm : RmmRealm) × (s ≡ Rd realm)
rd_is (Rd realm) is = (realm, refl)
rd_is _ is = absurd (cc)

-- an owner that is an RD in the first machine is an RD in the second
abbrev pub KeepsOwner : Machine → Machine → Option ℕ → Type 0
KeepsOwner m n owner = (rd : ℕ) → owner ≡ Some rd → is_rd (granule_at m rd).state ≡ true → is_rd (granule_at n rd).state ≡ true

module _ (m n : Machine) (settings : n.settings ≡ m.settings) (count : length n.granules ≡ length m.granules) where
  owner_still : (owner : Option ℕ) → KeepsOwner m n owner → IsOwner m owner → IsOwner n owner
  owner_still (Some rd) keeps is = keeps rd refl is
  owner_still None keeps is = absurd is

  pub orderly_still : (state : RmmGranuleState) (owner : Option ℕ) (page : List ℕ) → KeepsOwner m n owner → IsOrderly m state owner page → IsOrderly n state owner page
  orderly_still Undelegated owner page keeps is = is
  orderly_still Delegated owner page keeps is = is
  orderly_still (Rd realm) owner page keeps is = is
  orderly_still (IsRec rec) owner page keeps is =
      (owner_still owner keeps is.0, λ k lt. begin-same m n settings count (aux_of page k) (is.1 k (subst (λ (s : RmmSettings). k < s.aux) settings lt)))
  orderly_still RecAux owner page keeps is = owner_still owner keeps is
  orderly_still Data owner page keeps is = owner_still owner keeps is
  orderly_still Rtt owner page keeps is = owner_still owner keeps is

  -- a granule with the same attributes and contents in both machines still satisfies `IsOrderly` if its owner is still
  -- an RD
  pub orderly_same : (h : ℕ) → granule_at n h ≡ granule_at m h → page_in n h ≡ page_in m h → KeepsOwner m n (granule_at m h).owner → IsOrderlyAt m h → IsOrderlyAt n h
  orderly_same h same page keeps is =
      subst (λ (r : RmmGranule). IsOrderly n r.state r.owner (page_in n h)) (sym same)
      (subst (λ (p : List ℕ). IsOrderly n (granule_at m h).state (granule_at m h).owner p) (sym page)
      (orderly_still (granule_at m h).state (granule_at m h).owner (page_in m h) keeps is))

  -- each RD is still an RD in a machine that differs at one granule, unless that granule was an RD and is none now
  rds_but : (g : ℕ) → ((h : ℕ) → h ≢ g → granule_at n h ≡ granule_at m h) → (is_rd (granule_at m g).state ≡ true → is_rd (granule_at n g).state ≡ true) → (rd : ℕ)
      → is_rd (granule_at m rd).state ≡ true → is_rd (granule_at n rd).state ≡ true
  rds_but g same there rd is =
      ⊎_elim
      (λ (at : rd ≡ g). subst (λ (x : ℕ). is_rd (granule_at n x).state ≡ true) (sym at) (there (subst (λ (x : ℕ). is_rd (granule_at m x).state ≡ true) at is)))
      (λ (other : rd ≢ g). ap (λ (r : RmmGranule). is_rd r.state) (same rd other) ∙ is)
      (cases_eq rd g)

  -- if only one granule changes, satisfies `IsOrderly` afterwards, and does not cease to be an RD, all granules still
  -- satisfy `IsOrderly`
  pub orderly_but : (g : ℕ) → ((h : ℕ) → h ≢ g → (granule_at n h ≡ granule_at m h) × (page_in n h ≡ page_in m h)) → (is_rd (granule_at m g).state ≡ true → is_rd (granule_at n g).state ≡ true)
      → IsOrderlyAt n g → ((h : ℕ) → IsOrderlyAt m h) → (h : ℕ) → IsOrderlyAt n h
  orderly_but g same there here before h =
      ⊎_elim
      (λ (at : h ≡ g). subst (λ (x : ℕ). IsOrderlyAt n x) (sym at) here)
      (λ (other : h ≢ g). (let s = same h other in orderly_same h s.0 s.1 (λ rd named is. rds_but g (λ x ne. (same x ne).0) there rd is) (before h)))
      (cases_eq h g)

-- ---- counts

-- the number of RECs that an RD's realm has counted; `None` for another state
abbrev pub counted : RmmGranuleState → Option ℕ
counted (Rd realm) = Some realm.rec_count
counted _ = None

-- a state is that of an RD or a REC, on which the counts of RECs depend
abbrev pub is_counter : RmmGranuleState → Bool
is_counter (Rd realm) = true
is_counter (IsRec rec) = true
is_counter _ = false

-- both granules are RECs of the same realm or neither is one, and both are RDs with the same count of RECs or neither
-- is an RD
abbrev pub CountAlike : RmmGranule → RmmGranule → Type 0
CountAlike old new = ((rd : ℕ) → is_rec_in rd new ≡ is_rec_in rd old) × (counted new.state ≡ counted old.state)

pub no_rd : (s : RmmGranuleState) → is_counter s ≡ false → is_rd s ≡ true → ⊥
no_rd (Rd realm) plain is = absurd (cc)
no_rd _ plain is = absurd (cc)

no_rec : (s : RmmGranuleState) → is_counter s ≡ false → (is_some (rec_of s) ≡ false) × (counted s ≡ None)
no_rec Undelegated plain = (refl, refl)
no_rec Delegated plain = (refl, refl)
no_rec RecAux plain = (refl, refl)
no_rec Data plain = (refl, refl)
no_rec Rtt plain = (refl, refl)
no_rec (Rd realm) plain = absurd (cc)
no_rec (IsRec rec) plain = absurd (cc)

pub plain_in : (r : RmmGranule) (rd : ℕ) → is_counter r.state ≡ false → is_rec_in rd r ≡ false
plain_in r rd plain = and_left (is_some (rec_of r.state)) (is_owner rd r.owner) (no_rec r.state plain).0

pub plain_alike : (old new : RmmGranule) → is_counter old.state ≡ false → is_counter new.state ≡ false → CountAlike old new
plain_alike old new before after = (
  λ rd. plain_in new rd after ∙ sym (plain_in old rd before),
  (no_rec new.state after).1 ∙ sym (no_rec old.state before).1,
)

some_counted : (s : RmmGranuleState) (n : ℕ) → counted s ≡ Some n → (realm : RmmRealm) × (s ≡ Rd realm) × (realm.rec_count ≡ n)
some_counted (Rd realm) n is = (realm, refl, (let same : realm.rec_count ≡ n = cc in same))
some_counted _ n is = absurd (cc)

same_sum : (now before one : ℕ) → now + one ≡ before + one → now ≡ before
same_sum now before one is = omega arith

-- writing a granule changes a realm's count of RECs by at most one: minus one if the granule was counted, plus one if
-- it is counted now
pub total-set : (m : Machine) (g : ℕ) (kept : RmmGranule) (rd : ℕ) → g < length m.granules
    → count_by (is_rec_in rd) (with_granule m g kept).granules + cond (is_rec_in rd (granule_at m g)) 1 0 ≡ count_by (is_rec_in rd) m.granules + cond (is_rec_in rd kept) 1 0
total-set m g kept rd inside = sum_by-set (λ (r : RmmGranule). cond (is_rec_in rd r) 1 0) m.granules g kept (of_no_realm Undelegated) inside

pub total-alike : (m : Machine) (g : ℕ) (kept : RmmGranule) (rd : ℕ) → g < length m.granules → is_rec_in rd kept ≡ is_rec_in rd (granule_at m g)
    → count_by (is_rec_in rd) (with_granule m g kept).granules ≡ count_by (is_rec_in rd) m.granules
total-alike m g kept rd inside same =
    let now : ℕ = count_by (is_rec_in rd) (with_granule m g kept).granules in
    let before : ℕ = count_by (is_rec_in rd) m.granules in
    let one : ℕ = cond (is_rec_in rd (granule_at m g)) 1 0 in
    let sum : now + one ≡ before + one = total-set m g kept rd inside ∙ ap (λ (b : Bool). count_by (is_rec_in rd) m.granules + cond b 1 0) same in
    same_sum now before one sum

pub recs-set : (m : Machine) (g : ℕ) (kept : RmmGranule) → g < length m.granules → CountAlike (granule_at m g) kept → IsOrdered m
    → (rd : ℕ) (realm : RmmRealm) → (granule_at (with_granule m g kept) rd).state ≡ Rd realm → realm.rec_count ≡ count_by (is_rec_in rd) (with_granule m g kept).granules
recs-set m g kept inside alike ordered rd realm is =
    let total = total-alike m g kept rd inside (alike.0 rd) in
    ⊎_elim
    (λ (here : rd ≡ g).
    let now : kept.state ≡ Rd realm =
    sym (ap (λ (r : RmmGranule). r.state) (granule_at-same m g kept inside)) ∙ subst (λ (x : ℕ). (granule_at (with_granule m g kept) x).state ≡ Rd realm) here is in
    let old = some_counted (granule_at m g).state realm.rec_count (sym alike.1 ∙ ap counted now) in
    let there : (granule_at m rd).state ≡ Rd old.0 = ap (λ (x : ℕ). (granule_at m x).state) here ∙ old.1 in
    sym old.2 ∙ ordered.recs rd old.0 there ∙ sym total)
    (λ (other : rd ≢ g). ordered.recs rd realm (sym (ap (λ (r : RmmGranule). r.state) (granule_at-other m g rd kept other)) ∙ is) ∙ sym total)
    (cases_eq rd g)

-- the count of a realm's RECs is 0 if no granule is a REC of the realm
none_in : (rd : ℕ) (d : RmmGranule) (granules : List RmmGranule) → ((h : ℕ) → is_rec_in rd (get_or granules h d) ≡ false) → count_by (is_rec_in rd) granules ≡ 0
none_in rd d [] none = refl
none_in rd d (x ∷ rest) none =
    sum_by-cons (λ (r : RmmGranule). cond (is_rec_in rd r) 1 0) x rest
    ∙ ap (λ (b : Bool). cond b 1 0 + count_by (is_rec_in rd) rest) (none 0)
    ∙ ap (λ (n : ℕ). 0 + n) (none_in rd d rest (λ h. none (suc h)))

pub none_counted : (m : Machine) (rd : ℕ) → ((h : ℕ) → is_rec_in rd (granule_at m h) ≡ false) → count_by (is_rec_in rd) m.granules ≡ 0
none_counted m rd none = none_in rd (of_no_realm Undelegated) m.granules none

more_than_none : (now before : ℕ) → now + 1 ≡ before + 0 → 0 < before
more_than_none now before is = omega arith

-- the count of a realm's RECs is above 0 if some granule is a REC of the realm
pub some_rec : (m : Machine) (g rd : ℕ) → g < length m.granules → is_rec_in rd (granule_at m g) ≡ true → 0 < count_by (is_rec_in rd) m.granules
some_rec m g rd inside is =
    let now : ℕ = count_by (is_rec_in rd) (with_granule m g (of_no_realm Undelegated)).granules in
    let before : ℕ = count_by (is_rec_in rd) m.granules in
    let sum : now + 1 ≡ before + 0 = ap (λ (b : Bool). count_by (is_rec_in rd) (with_granule m g (of_no_realm Undelegated)).granules + cond b 1 0) (sym is) ∙ total-set m g (of_no_realm Undelegated) rd inside in
    more_than_none now before sum

-- ---- single writes

page_either : (m : Machine) (g : ℕ) (page : List ℕ) → (page_in (with_page m g page) g ≡ page) ⊎ (page_in (with_page m g page) g ≡ page_in m g)
page_either m g page =
    ⊎_elim
    (λ (inside : g < length m.pages). inl (page_in-same m g page inside))
    (λ (past : length m.pages ≤ g).
    inr (get_or_past (set m.pages g page) g [] (subst (λ (n : ℕ). n ≤ g) (sym (length-set m.pages g page)) past) ∙ sym (get_or_past m.pages g [] past)))
    (cases_lt g (length m.pages))

-- writing a granule's page keeps `IsOrdered`, if the granule satisfies `IsOrderly` with the new page and `HasHalves`
-- still holds
pub ordered_page : (m : Machine) (g : ℕ) (page : List ℕ) → IsOrdered m → IsOrderly m (granule_at m g).state (granule_at m g).owner page → HasHalves (with_page m g page)
    → IsOrdered (with_page m g page)
ordered_page m g page ordered fine halves =
    let n : Machine = with_page m g page in
    let there : (p : List ℕ) → page_in n g ≡ p → IsOrderly m (granule_at m g).state (granule_at m g).owner p → IsOrderlyAt n g =
    λ p is right. subst (λ (q : List ℕ). IsOrderly n (granule_at m g).state (granule_at m g).owner q) (sym is)
    (orderly_still m n refl refl (granule_at m g).state (granule_at m g).owner p (λ rd named sure. sure) right) in
    record {
      each = orderly_but m n refl refl g (λ h other. (refl, page_in-other m g h page other)) (λ sure. sure)
          (⊎_elim (λ (now : page_in n g ≡ page). there page now fine) (λ (old : page_in n g ≡ page_in m g). there (page_in m g) old (ordered.each g)) (page_either m g page)) ordered.each;
      recs = ordered.recs;
      halves = halves;
    }

-- giving a granule attributes that satisfy `IsOrderly` and `CountAlike` keeps `IsOrdered`, if no RD ceases to be one
-- and `HasHalves` still holds
pub ordered_granule : (m : Machine) (g : ℕ) (kept : RmmGranule) → g < length m.granules → IsOrdered m → (is_rd (granule_at m g).state ≡ true → is_rd kept.state ≡ true) → CountAlike (granule_at m g) kept
    → IsOrderly m kept.state kept.owner (page_in m g) → HasHalves (with_granule m g kept) → IsOrdered (with_granule m g kept)
ordered_granule m g kept inside ordered rds alike fine halves =
    let n : Machine = with_granule m g kept in
    let count : length n.granules ≡ length m.granules = length-set m.granules g kept in
    let now : granule_at n g ≡ kept = granule_at-same m g kept inside in
    let there : is_rd (granule_at m g).state ≡ true → is_rd (granule_at n g).state ≡ true = λ sure. ap (λ (r : RmmGranule). is_rd r.state) now ∙ rds sure in
    record {
      each = orderly_but m n refl count g (λ h other. (granule_at-other m g h kept other, refl)) there
          (subst (λ (r : RmmGranule). IsOrderly n r.state r.owner (page_in m g)) (sym now)
          (orderly_still m n refl count kept.state kept.owner (page_in m g) (λ rd named sure. rds_but m n refl count g (λ h other. granule_at-other m g h kept other) there rd sure) fine)) ordered.each;
      recs = recs-set m g kept inside alike ordered;
      halves = halves;
    }

-- giving a granule a page and attributes that satisfy `IsOrderly` and `CountAlike` keeps `IsOrdered`, if no RD ceases
-- to be one and `HasHalves` still holds
pub ordered_both : (m : Machine) (g : ℕ) (kept : RmmGranule) (page : List ℕ) → g < length m.granules → g < length m.pages → IsOrdered m → (is_rd (granule_at m g).state ≡ true → is_rd kept.state ≡ true)
    → CountAlike (granule_at m g) kept → IsOrderly m kept.state kept.owner page → HasHalves (with_page (with_granule m g kept) g page) → IsOrdered (with_page (with_granule m g kept) g page)
ordered_both m g kept page inside has_page ordered rds alike fine halves =
    let k : Machine = with_granule m g kept in
    let n : Machine = with_page k g page in
    let count : length n.granules ≡ length m.granules = length-set m.granules g kept in
    let now : granule_at n g ≡ kept = granule_at-same m g kept inside in
    let there : is_rd (granule_at m g).state ≡ true → is_rd (granule_at n g).state ≡ true = λ sure. ap (λ (r : RmmGranule). is_rd r.state) now ∙ rds sure in
    record {
      each = orderly_but m n refl count g (λ h other. (granule_at-other m g h kept other, page_in-other k g h page other)) there
          (subst (λ (r : RmmGranule). IsOrderly n r.state r.owner (page_in n g)) (sym now)
          (subst (λ (p : List ℕ). IsOrderly n kept.state kept.owner p) (sym (page_in-same k g page has_page))
          (orderly_still m n refl count kept.state kept.owner page (λ rd named sure. rds_but m n refl count g (λ h other. granule_at-other m g h kept other) there rd sure) fine))) ordered.each;
      recs = recs-set m g kept inside alike ordered;
      halves = halves;
    }

-- ---- writes of RDs, RECs, tables and pages

pub ordered_realm : (m : Machine) (rd : ℕ) (realm other : RmmRealm) → rd < length m.granules → (granule_at m rd).state ≡ Rd realm → other.rec_count ≡ realm.rec_count → SameSpace other realm
    → IsOrdered m → IsOrdered (with_granule m rd (of_no_realm (Rd other)))
ordered_realm m rd realm other inside is same space ordered =
    ordered_granule m rd (of_no_realm (Rd other)) inside ordered (λ sure. refl)
    (λ h. sym (and_left (is_some (rec_of (granule_at m rd).state)) (is_owner h (granule_at m rd).owner) (ap (λ (s : RmmGranuleState). is_some (rec_of s)) is)), ap (λ (n : ℕ). Some n) same ∙ sym (ap counted is))
    refl (same_space m rd realm other inside is space ordered.halves)

pub ordered_rec : (m : Machine) (g : ℕ) (old rec : RmmRec) → g < length m.granules → (granule_at m g).state ≡ IsRec old → IsOrdered m → IsOrdered (with_rec m g rec)
ordered_rec m g old rec inside is ordered =
    ordered_granule m g (record (granule_at m g) { state = IsRec rec }) inside ordered (λ sure. let never : false ≡ true = sym (ap is_rd is) ∙ sure in absurd (cc))
    (λ rd. sym (ap (λ (s : RmmGranuleState). is_some (rec_of s) && is_owner rd (granule_at m g).owner) is), sym (ap counted is))
    (subst (λ (s : RmmGranuleState). IsOrderly m s (granule_at m g).owner (page_in m g)) is (ordered.each g))
    (plain_granule m g (record (granule_at m g) { state = IsRec rec }) inside refl ordered.halves)

-- writing a REC's page keeps `IsOrdered`, if the new page names the same auxiliary granules
pub ordered_rec_page : (m : Machine) (g : ℕ) (rec : RmmRec) (page : List ℕ) → (granule_at m g).state ≡ IsRec rec → ((k : ℕ) → k < m.settings.aux → aux_of page k ≡ aux_of (page_in m g) k) → IsOrdered m
    → IsOrdered (with_page m g page)
ordered_rec_page m g rec page is same ordered =
    let before = subst (λ (s : RmmGranuleState). IsOrderly m s (granule_at m g).owner (page_in m g)) is (ordered.each g) in
    ordered_page m g page ordered
    (subst (λ (s : RmmGranuleState). IsOrderly m s (granule_at m g).owner page) (sym is) (before.0, λ k lt. subst (IsBegin m) (sym (same k lt)) (before.1 k lt)))
    (plain_page m g page (ap has_space is) ordered.halves)

-- writing a table's page keeps `IsOrdered`, if `HasHalves` still holds
pub ordered_table : (m : Machine) (t : ℕ) (page : List ℕ) → (granule_at m t).state ≡ Rtt → IsOrdered m → HasHalves (with_page m t page) → IsOrdered (with_page m t page)
ordered_table m t page is ordered halves =
    let before = subst (λ (s : RmmGranuleState). IsOrderly m s (granule_at m t).owner (page_in m t)) is (ordered.each t) in
    ordered_page m t page ordered (subst (λ (s : RmmGranuleState). IsOrderly m s (granule_at m t).owner page) (sym is) before) halves

-- a state is DATA, for a page of a realm, or UNDELEGATED, for a page of the host
abbrev pub is_memory_state : RmmGranuleState → Bool
is_memory_state Data = true
is_memory_state Undelegated = true
is_memory_state _ = false

memory_fine : (m : Machine) (s : RmmGranuleState) (owner : Option ℕ) (page other : List ℕ) → is_memory_state s ≡ true → IsOrderly m s owner page → IsOrderly m s owner other
memory_fine m Data owner page other is fine = fine
memory_fine m Undelegated owner page other is fine = fine
memory_fine m _ owner page other is fine = absurd (cc)

memory_no_space : (s : RmmGranuleState) → is_memory_state s ≡ true → has_space s ≡ false
memory_no_space Data is = refl
memory_no_space Undelegated is = refl
memory_no_space _ is = absurd (cc)

pub ordered_memory : (m : Machine) (g : ℕ) (page : List ℕ) → is_memory_state (granule_at m g).state ≡ true → IsOrdered m → IsOrdered (with_page m g page)
ordered_memory m g page is ordered = ordered_page m g page ordered (memory_fine m (granule_at m g).state (granule_at m g).owner (page_in m g) page is (ordered.each g))
    (plain_page m g page (memory_no_space (granule_at m g).state is) ordered.halves)

-- a granule in the given state is owned by a realm
abbrev pub has_owner : RmmGranuleState → Bool
has_owner (IsRec rec) = true
has_owner RecAux = true
has_owner Data = true
has_owner Rtt = true
has_owner _ = false

owned : (m : Machine) (s : RmmGranuleState) (owner : Option ℕ) (page : List ℕ) → has_owner s ≡ true → IsOrderly m s owner page → IsOwner m owner
owned m (IsRec rec) owner page has fine = fine.0
owned m RecAux owner page has fine = fine
owned m Data owner page has fine = fine
owned m Rtt owner page has fine = fine
owned m _ owner page has fine = absurd (cc)

-- a granule whose state requires an owner is owned by an RD
pub rd_of : (m : Machine) (g : ℕ) → IsOrdered m → (s : RmmGranuleState) → (granule_at m g).state ≡ s → has_owner s ≡ true → IsOwner m (granule_at m g).owner
rd_of m g ordered s is has = owned m s (granule_at m g).owner (page_in m g) has (subst (λ (t : RmmGranuleState). IsOrderly m t (granule_at m g).owner (page_in m g)) is (ordered.each g))

-- marking a VMID as used or free keeps `IsOrdered`
pub ordered_vmid : (m : Machine) (vmid : ℕ) (is_used : Bool) → IsOrdered m → IsOrdered (with_vmid m vmid is_used)
ordered_vmid m vmid is_used ordered = record {
  each = λ h. orderly_same m (with_vmid m vmid is_used) refl refl h refl refl (λ rd named sure. sure) (ordered.each h);
  recs = ordered.recs;
  halves = vmid_halves m vmid is_used ordered.halves;
}

-- ---- RECs of a realm

owner_true : (rd : ℕ) (owner : Option ℕ) → is_owner rd owner ≡ true → owner ≡ Some rd
owner_true rd (Some other) is = ap (λ (x : ℕ). Some x) (eqb-true other rd is)
owner_true rd None is = absurd (cc)

rec_some : (s : RmmGranuleState) → is_some (rec_of s) ≡ true → (rec : RmmRec) × (s ≡ IsRec rec)
rec_some (IsRec rec) is = (rec, refl)
rec_some _ is = absurd (cc)

-- a granule that is counted as a REC of a realm is a REC whose owner is the realm's RD
pub rec_in : (rd : ℕ) (r : RmmGranule) → is_rec_in rd r ≡ true → (rec : RmmRec) × (r.state ≡ IsRec rec) × (r.owner ≡ Some rd)
rec_in rd r is =
    let parts = and_parts (is_some (rec_of r.state)) (is_owner rd r.owner) is in
    let some = rec_some r.state parts.0 in
    (some.0, some.1, owner_true rd r.owner parts.1)

pub rec_in-true : (rd : ℕ) (r : RmmGranule) (rec : RmmRec) → r.state ≡ IsRec rec → r.owner ≡ Some rd → is_rec_in rd r ≡ true
rec_in-true rd r rec is owned = and_from (is_some (rec_of r.state)) (is_owner rd r.owner) (ap (λ (s : RmmGranuleState). is_some (rec_of s)) is) (ap (is_owner rd) owned ∙ eq-eqb rd rd refl)

-- a granule that is no RD owns no REC
pub no_rec_of : (m : Machine) (rd : ℕ) → IsOrdered m → is_rd (granule_at m rd).state ≡ false → (h : ℕ) → is_rec_in rd (granule_at m h) ≡ false
no_rec_of m rd ordered never h =
    ⊎_elim
    (λ (sure : is_rec_in rd (granule_at m h) ≡ true).
    let it = rec_in rd (granule_at m h) sure in
    let owns : IsOwner m (Some rd) = subst (IsOwner m) it.2 (rd_of m h ordered (IsRec it.0) it.1 refl) in
    absurd (both_ways (is_rd (granule_at m rd).state) never owns))
    (λ (no : is_rec_in rd (granule_at m h) ≡ false). no)
    (cases_Bool (is_rec_in rd (granule_at m h)))
