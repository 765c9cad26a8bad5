-- Proofs that RMI_RTT_INIT_RIPAS and RMI_RTT_SET_RIPAS set the RIPAS of the protected addresses from the base up to X1,
-- and of no other protected address.
use Rattle.std.proofs.Common.{◌≡◌, ◌≢◌, ℕ, zero, suc, ◌+◌, ◌-◌, ◌*◌, ◌/◌, ◌%◌, ◌^◌, ◌<◌, ◌≤◌, ◌⊎◌, inl, inr, true, false, List, length, unwrap_or, refl, sym, ap, subst, ◌∙◌, ⊎_elim, arith}
use Rattle.std.specs.Prelude.{nat_le}
use Rattle.std.proofs.lemmas.Bool.{and_parts, cases_eq, cond_both, cond-true, eqb-true, leb-true}
use Rattle.rmi_abi.specs.declared.call.Call.TheVariants.{RttInitRipas, RttSetRipas}
use Rattle.rmi_abi.specs.declared.registers.SmcResult.{SmcResult}
use Rattle.rmi_abi.specs.declared.word.Word.TheVariants.{Success}
use Rattle.rmm_model.specs.declared.entry.Changeable.{Changeable}
use Rattle.rmm_model.specs.declared.entry.RmmRipas.{RmmRipas}
use Rattle.rmm_model.specs.declared.entry.RmmRipas.TheVariants.{Ram}
use Rattle.rmm_model.specs.declared.entry.RmmRttEntry.{RmmRttEntry}
use Rattle.rmm_model.specs.declared.granule.RmmGranule.{RmmGranule}
use Rattle.rmm_model.specs.declared.granule.RmmGranuleState.TheVariants.{Rd, Rtt}
use Rattle.rmm_model.specs.declared.realm.RmmRealm.{RmmRealm}
use Rattle.rmm_model.specs.declared.realm.RttWalk.{RttWalk}
use Rattle.rmm_model.specs.declared.rec.RipasRequest.{RipasRequest}
use Rattle.rmm_model.specs.Call.{performed}
use Rattle.rmm_model.specs.Entry.{can_change, entry_with_ripas, entry_word, is_table, ripas_in}
use Rattle.rmm_model.specs.Granule.{rec_of}
use Rattle.rmm_model.specs.Level.{entry_size, entry_index}
use Rattle.rmm_model.specs.Machine.{Machine, granule_at, page_in, number_of, state_at}
use Rattle.rmm_model.specs.Realm.{is_protected}
use Rattle.rmm_model.specs.Rec.{no_rec}
use Rattle.rmm_model.specs.Table.{entry_in_page, first_fixed, with_words_from}
use Rattle.rmm_model.specs.Walk.{entry_at, walk}
use Rattle.rmm_model.specs.Command.Operand.{realm_at, rec_at}
use Rattle.rmm_model.specs.Command.RipasRange.{entries_below, change_count, with_ripas_from}
use Rattle.rmm_model.specs.Command.RttInitRipas.{rtt_init_ripas, range_checks, init_changeable}
use Rattle.rmm_model.specs.Command.RttSetRipas.{rtt_set_ripas, ripas_request_checks, set_changeable, is_rec_of}
use Rattle.rmm_laws.specs.Proper.{IsProper}
use Rattle.rmm_laws.specs.Request.{IsRestFrom}
use Rattle.rmm_laws.specs.Ripas.{IsBetween, IsRipasSet}
use Rattle.rmm_laws.proofs.EntryReads.{IsChanged, changed, can_in_range, change_below, changed_to, covered}
use Rattle.rmm_laws.proofs.Freed.{succeeded}
use Rattle.rmm_laws.proofs.Halves.{none_below}
use Rattle.rmm_laws.proofs.LeftAlone.{touches_of}
use Rattle.rmm_laws.proofs.Mappings.{served, place_table, protected_within, owned_protected, change_count-few, entry_changed, entry_kept, changed_or_kept}
use Rattle.rmm_laws.proofs.Passed.{Passed, yes_from, realm_of-some, rec_of-some}
use Rattle.rmm_laws.proofs.Seats.{found_few, walk_seat}
use Rattle.rmm_laws.proofs.Serving.{level_cases}
use Rattle.rmm_laws.proofs.Tops.{same_end}
use Rattle.rmm_laws.proofs.Walks.{entry_index-few, entry_size-positive}
use Rattle.rmm_laws.proofs.Writes.{granule_at-same, page_in-same, page_in-other, taken_inside}

-- ---- addresses of entries

-- an address in the range of `k` entries from `base` on is covered by one of these entries
in_entries : (l : ℕ) → l ≤ 3 → (base x k : ℕ) → base % entry_size l ≡ 0 → base ≤ x → x < base + k * entry_size l → entry_index l base + k ≤ 512
    → (entry_index l base ≤ entry_index l x) × (entry_index l x < entry_index l base + k) × (x / entry_size l / 512 ≡ base / entry_size l / 512)
unfolding entry_size entry_index
in_entries l few =
    level_cases
    (λ (j : ℕ). (base x k : ℕ) → base % entry_size j ≡ 0 → base ≤ x → x < base + k * entry_size j → entry_index j base + k ≤ 512
    → (entry_index j base ≤ entry_index j x) × (entry_index j x < entry_index j base + k) × (x / entry_size j / 512 ≡ base / entry_size j / 512))
    (λ base x k begins low high most. (omega arith, omega arith, omega arith))
    (λ base x k begins low high most. (omega arith, omega arith, omega arith))
    (λ base x k begins low high most. (omega arith, omega arith, omega arith))
    (λ base x k begins low high most. (omega arith, omega arith, omega arith))
    l few

-- an address covered by one of the `k` entries from `base` on is in the range of these entries
of_entries : (l : ℕ) → l ≤ 3 → (base x k j : ℕ) → base % entry_size l ≡ 0 → x / entry_size l ≡ base / entry_size l / 512 * 512 + j → entry_index l base ≤ j → j < entry_index l base + k → IsBetween base (base + k * entry_size l) x
unfolding entry_size entry_index
of_entries l few =
    level_cases
    (λ (i : ℕ). (base x k j : ℕ) → base % entry_size i ≡ 0 → x / entry_size i ≡ base / entry_size i / 512 * 512 + j → entry_index i base ≤ j → j < entry_index i base + k → IsBetween base (base + k * entry_size i) x)
    (λ base x k j begins covers low high. (omega arith, omega arith))
    (λ base x k j begins covers low high. (omega arith, omega arith))
    (λ base x k j begins covers low high. (omega arith, omega arith))
    (λ base x k j begins covers low high. (omega arith, omega arith))
    l few

-- `k` entries from `base` on end at or below `top`, if `k` is at most the distance to `top` divided by the entry size
ends_below : (l : ℕ) → l ≤ 3 → (base top k : ℕ) → base < top → k ≤ (top - base) / entry_size l → base + k * entry_size l ≤ top
unfolding entry_size
ends_below l few =
    level_cases (λ (j : ℕ). (base top k : ℕ) → base < top → k ≤ (top - base) / entry_size j → base + k * entry_size j ≤ top)
    (λ base top k some below. omega arith) (λ base top k some below. omega arith) (λ base top k some below. omega arith) (λ base top k some below. omega arith) l few

-- at least one entry fits below a top that is an entry's size or more above `base`
one_below : (l : ℕ) → l ≤ 3 → (base top : ℕ) → base + entry_size l ≤ top → 0 < (top - base) / entry_size l
unfolding entry_size
one_below l few =
    level_cases (λ (j : ℕ). (base top : ℕ) → base + entry_size j ≤ top → 0 < (top - base) / entry_size j)
    (λ base top fits. omega arith) (λ base top fits. omega arith) (λ base top fits. omega arith) (λ base top fits. omega arith) l few

more_than : (l : ℕ) → l ≤ 3 → (base k : ℕ) → 0 < k → base < base + k * entry_size l
unfolding entry_size
more_than l few =
    level_cases (λ (j : ℕ). (base k : ℕ) → 0 < k → base < base + k * entry_size j)
    (λ base k some. omega arith) (λ base k some. omega arith) (λ base k some. omega arith) (λ base k some. omega arith) l few

-- ---- progress

first_fixed-least : (changeable : Changeable) (page : List ℕ) (count i : ℕ) → i ≤ first_fixed changeable page count i
unfolding first_fixed
first_fixed-least changeable page zero i = omega arith
first_fixed-least changeable page (suc count) i =
    cond_both (can_change changeable (entry_in_page page i)) (first_fixed changeable page count (i + 1)) i (λ (j : ℕ). i ≤ j) (λ can. (let rest = first_fixed-least changeable page count (i + 1) in omega arith)) (λ cannot. omega arith)

fixed_later : (changeable : Changeable) (page : List ℕ) (count i : ℕ) → 0 < count → can_change changeable (entry_in_page page i) ≡ true → i < first_fixed changeable page count i
unfolding first_fixed
fixed_later changeable page zero i some can = absurd (omega arith)
fixed_later changeable page (suc count) i some can =
    let rest = first_fixed-least changeable page count (i + 1) in
    subst (λ (j : ℕ). i < j) (sym (cond-true (can_change changeable (entry_in_page page i)) (first_fixed changeable page count (i + 1)) i can)) (omega arith)

some_below : (found : RttWalk) (base top : ℕ) → 0 < (top - base) / entry_size found.level → 0 < entries_below found base top
unfolding entries_below
some_below found base top some =
    let few = entry_index-few found.level base in
    cond_both (nat_le ((top - base) / entry_size found.level) (512 - entry_index found.level base)) _ _ (λ (j : ℕ). 0 < j) (λ sure. some) (λ never. omega arith)

some_changed : (m : Machine) (changeable : Changeable) (found : RttWalk) (base top : ℕ) → 0 < (top - base) / entry_size found.level → can_change changeable (entry_at m found base) ≡ true → 0 < change_count m changeable found base top
unfolding change_count entry_at
some_changed m changeable found base top some can =
    let later = fixed_later changeable (page_in m found.table) (entries_below found base top) (entry_index found.level base) (some_below found base top some) can in
    omega arith

-- ---- ranges

module _ (m n : Machine) (proper : IsProper m) (settings : n.settings ≡ m.settings) (count : length n.granules ≡ length m.granules) (r base top : ℕ) (realm : RmmRealm) (is : (granule_at m r).state ≡ Rd realm)
    (within : base < 2 ^ realm.s2sz) (changeable : Changeable) (ripas : RmmRipas) (begins : base % entry_size (walk m realm base 3).level ≡ 0) (can : can_change changeable (entry_at m (walk m realm base 3) base) ≡ true)
    (fits : base + entry_size (walk m realm base 3).level ≤ top)
    (page : page_in n (walk m realm base 3).table
    ≡ page_in (with_ripas_from m (walk m realm base 3).table (entry_index (walk m realm base 3).level base) ripas (change_count m changeable (walk m realm base 3) base top)) (walk m realm base 3).table)
    (others : (h : ℕ) → h ≢ (walk m realm base 3).table → page_in n h ≡ page_in m h) where
  abbrev found : RttWalk
  found = walk m realm base 3

  abbrev k : ℕ
  k = change_count m changeable (walk m realm base 3) base top

  abbrev at : ℕ
  at = entry_index found.level base

  abbrev stop : ℕ
  stop = base + k * entry_size found.level

  start_few : realm.start_level ≤ 3
  start_few = (served m r realm proper.linked is).level

  level_few : found.level ≤ 3
  level_few = found_few m proper.linked proper.ordered.halves r base realm is within 3

  few : at + k ≤ 512
  few = change_count-few m changeable found base top

  table : (granule_at m found.table).state ≡ Rtt
  table = place_table m proper.linked r base 3 realm is within start_few

  in_pages : found.table < length m.pages
  in_pages = let t = table in let pages = proper.linked.sound.pages in let lt = taken_inside m found.table (λ free. cc) in omega arith

  page_there : page_in n found.table ≡ with_words_from at k (λ (j : ℕ). entry_word (entry_with_ripas ripas (entry_in_page (page_in m found.table) j))) (page_in m found.table)
  unfolding with_ripas_from
  page_there = page ∙ page_in-same m found.table _ in_pages

  set_there : (j : ℕ) → at ≤ j → j < at + k → entry_in_page (page_in n found.table) j ≡ entry_with_ripas ripas (entry_in_page (page_in m found.table) j)
  set_there j low high = ap (λ (p : List ℕ). entry_in_page p j) page_there ∙ entry_changed m found.table at k ripas proper.linked table few j low high

  kept_there : (j : ℕ) → j < 512 → (j < at) ⊎ (at + k ≤ j) → entry_in_page (page_in n found.table) j ≡ entry_in_page (page_in m found.table) j
  kept_there j lt beside = ap (λ (p : List ℕ). entry_in_page p j) page_there ∙ entry_kept m found.table at k ripas proper.linked table few j lt beside

  each : (x j : ℕ) → j < 512 → IsChanged m n proper settings count r base 3 realm is within x RmmRipas (λ e l. ripas_in e) (λ was now. Unit {0}) j
  each x j lt =
      let old : RmmRttEntry = entry_in_page (page_in m found.table) j in
      ⊎_elim
      (λ (it : (at ≤ j) × (j < at + k)).
      let to = changed_to changeable ripas old (can_in_range m changeable found base top j it.0 it.1) in
      inr (to.0, ap is_table (set_there j it.0 it.1) ∙ to.1, λ covers. inr tt))
      (λ (kept : (j < at) ⊎ (at + k ≤ j)). inl (kept_there j lt kept))
      (changed_or_kept m found.table at k ripas proper.linked table few j)

  -- the walk of a protected address ends at the same place in both machines
  same_walk : (x : ℕ) → is_protected realm x ≡ true → walk n realm x 3 ≡ walk m realm x 3
  same_walk x protected = (changed m n proper settings count r base 3 realm is within x RmmRipas (λ e l. ripas_in e) (λ was now. Unit {0}) (each x) (λ h here other. others h other) realm refl refl (protected_within realm x protected)).0

  -- `x` is a protected address in the range of addresses whose RIPAS is changed.
  module _ (x : ℕ) (between : IsBetween base (base + change_count m changeable (walk m realm base 3) base top * entry_size (walk m realm base 3).level) x) (protected : is_protected realm x ≡ true) where
    abbrev j : ℕ
    j = entry_index (walk m realm base 3).level x

    abbrev old : RmmRttEntry
    old = entry_in_page (page_in m (walk m realm base 3).table) (entry_index (walk m realm base 3).level x)

    place : (at ≤ j) × (j < at + k) × (x / entry_size found.level / 512 ≡ base / entry_size found.level / 512)
    place = in_entries found.level level_few base x k begins between.0 between.1 few

    to : (is_table old ≡ false) × (is_table (entry_with_ripas ripas old) ≡ false) × (ripas_in (entry_with_ripas ripas old) ≡ ripas)
    to = changed_to changeable ripas old (can_in_range m changeable found base top j place.0 place.1)

    walk_before : walk m realm x 3 ≡ found
    unfolding entry_at
    walk_before = same_end m proper.linked r base 3 realm is within start_few (omega arith) x place.2 (none_below m old old refl to.0)

    entry_then : entry_at n (walk n realm x 3) x ≡ entry_with_ripas ripas old
    unfolding entry_at
    entry_then = ap (λ (q : RttWalk). entry_at n q x) (same_walk x protected ∙ walk_before) ∙ set_there j place.0 place.1

    entry_before : entry_at m (walk m realm x 3) x ≡ old
    unfolding entry_at
    entry_before = ap (λ (q : RttWalk). entry_at m q x) walk_before

  -- the entry of a protected address outside the range is the same in both machines
  entry_beside : (x : ℕ) → is_protected realm x ≡ true → (IsBetween base stop x → ⊥) → entry_at n (walk m realm x 3) x ≡ entry_at m (walk m realm x 3) x
  unfolding entry_at
  entry_beside x protected out =
      let p : RttWalk = walk m realm x 3 in
      let i : ℕ = entry_index p.level x in
      ⊎_elim
      (λ (here : p.table ≡ found.table).
      let seat = walk_seat m proper.linked proper.ordered.halves r x realm is (protected_within realm x protected) 3 in
      let covers = (covered m n proper settings count r base 3 realm is within x p seat here).1 in
      let kept : entry_in_page (page_in n found.table) i ≡ entry_in_page (page_in m found.table) i =
      ⊎_elim
      (λ (it : (at ≤ i) × (i < at + k)). absurd (out (of_entries found.level level_few base x k i begins covers it.0 it.1)))
      (λ (beside : (i < at) ⊎ (at + k ≤ i)). kept_there i (entry_index-few p.level x) beside)
      (changed_or_kept m found.table at k ripas proper.linked table few i) in
      subst (λ (t : ℕ). entry_in_page (page_in n t) i ≡ entry_in_page (page_in m t) i) (sym here) kept)
      (λ (other : p.table ≢ found.table). ap (λ (q : List ℕ). entry_in_page q i) (others p.table other))
      (cases_eq p.table found.table)

  pub range_set : IsRipasSet m n realm ripas base stop
  range_set = record {
    further = more_than found.level level_few base k (some_changed m changeable found base top (one_below found.level level_few base top fits) can);
    walks = same_walk;
    set = λ x between protected. ap ripas_in (entry_then x between protected) ∙ (to x between protected).2;
    kept = λ x between protected. entry_then x between protected ∙ ap (entry_with_ripas ripas) (sym (entry_before x between protected));
    beside = λ x out protected. ap (λ (q : RttWalk). entry_at n q x) (same_walk x protected) ∙ entry_beside x protected out;
  }

  pub stop_most : stop ≤ top
  stop_most =
      let size = entry_size-positive found.level in
      let fit = fits in
      ends_below found.level level_few base top k (omega arith) (change_below m changeable found base top)

-- ---- the commands

no_later : (x top last : ℕ) → x ≤ top → top ≤ last → x ≤ last
no_later x top last below within = omega arith

set_after : (rd rec base top : ℕ) (m : Machine) → IsProper m → Passed (rtt_set_ripas rd rec base top m).checks
    → IsRipasSet m (rtt_set_ripas rd rec base top m).machine (realm_at m rd) (rec_at m rec).ripas.ripas base (rtt_set_ripas rd rec base top m).answer.x1 × ((rtt_set_ripas rd rec base top m).answer.x1 ≤ top)
    × ((rtt_set_ripas rd rec base top m).answer.x1 ≤ (rec_at m rec).ripas.top)
unfolding rtt_set_ripas ripas_request_checks with_ripas_from
set_after rd rec base top m proper ok =
    let realm : RmmRealm = realm_at m rd in
    let r : ℕ = number_of m rd in
    let n : Machine = (rtt_set_ripas rd rec base top m).machine in
    let asked : RipasRequest = (rec_at m rec).ripas in
    let changeable : Changeable = set_changeable asked in
    let found : RttWalk = walk m realm base 3 in
    let count = (touches_of (RttSetRipas rd rec base top) m proper ok).count in
    let is = realm_of-some (state_at m rd) ok.1.1.1.0 in
    let within = protected_within realm base (owned_protected realm (is_rec_of m rd rec) _ (nat_le top base) base ok.1.1.1.1.1.1.1.1.1.0 ok.0 (yes_from _ ok.1.1.1.1.1.1.1.1.1.1.1.0)) in
    let begins : base % entry_size found.level ≡ 0 = eqb-true _ _ (yes_from _ ok.1.1.1.1.1.1.1.1.1.1.1.1.0) in
    let can = yes_from _ ok.1.1.1.1.1.1.1.1.1.1.1.1.1.0 in
    let fits : base + entry_size found.level ≤ top = leb-true _ _ (yes_from _ ok.1.1.1.1.1.1.1.1.1.1.1.1.1.1.0) in
    let others : (h : ℕ) → h ≢ found.table → page_in n h ≡ page_in m h = λ h other. page_in-other m found.table h _ other in
    let most = stop_most m n proper refl count r base top realm is within changeable asked.ripas begins can fits refl others in
    let asked_top : top ≤ asked.top = leb-true top asked.top (and_parts (nat_le top asked.top) _ (yes_from _ ok.1.1.1.1.1.1.1.1.1.1.1.0)).0 in (
      range_set m n proper refl count r base top realm is within changeable asked.ripas begins can fits refl others,
      most,
      no_later _ top asked.top most asked_top,
    )

init_after : (rd base top : ℕ) (m : Machine) → IsProper m → Passed (rtt_init_ripas rd base top m).checks
    → IsRipasSet m (rtt_init_ripas rd base top m).machine (realm_at m rd) Ram base (rtt_init_ripas rd base top m).answer.x1 × ((rtt_init_ripas rd base top m).answer.x1 ≤ top)
unfolding rtt_init_ripas range_checks with_ripas_from
init_after rd base top m proper ok =
    let realm : RmmRealm = realm_at m rd in
    let r : ℕ = number_of m rd in
    let n : Machine = (rtt_init_ripas rd base top m).machine in
    let changeable : Changeable = init_changeable m.settings in
    let found : RttWalk = walk m realm base 3 in
    let count = (touches_of (RttInitRipas rd base top) m proper ok).count in
    let is = realm_of-some (state_at m rd) ok.1.1.1.0 in
    let within = protected_within realm base (yes_from _ ok.1.1.1.1.1.1.0) in
    let begins : base % entry_size found.level ≡ 0 = eqb-true _ _ (yes_from _ ok.1.1.1.1.1.1.1.1.1.0) in
    let can = yes_from _ ok.1.1.1.1.1.1.1.1.1.1.0 in
    let fits : base + entry_size found.level ≤ top = leb-true _ _ (yes_from _ ok.1.1.1.1.1.1.1.1.1.1.1.0) in
    let others : (h : ℕ) → h ≢ found.table → page_in n h ≡ page_in m h = λ h other. page_in-other m found.table h _ other in (
      range_set m n proper refl count r base top realm is within changeable Ram begins can fits refl others,
      stop_most m n proper refl count r base top realm is within changeable Ram begins can fits refl others,
    )

-- A successful RMI_RTT_SET_RIPAS sets the RIPAS of protected addresses from `base` up to X1 as requested, and of no
-- other protected address. X1 is at most `top`, and at most the top of the request.
pub range_after : (m : Machine) (rd rec base top : ℕ) → IsProper m → (performed (RttSetRipas rd rec base top) m).0.word ≡ Success
    → IsRipasSet m (performed (RttSetRipas rd rec base top) m).1 (realm_at m rd) (rec_at m rec).ripas.ripas base (performed (RttSetRipas rd rec base top) m).0.x1 × ((performed (RttSetRipas rd rec base top) m).0.x1 ≤ top)
    × ((performed (RttSetRipas rd rec base top) m).0.x1 ≤ (rec_at m rec).ripas.top)
unfolding rtt_set_ripas ripas_request_checks
range_after m rd rec base top proper success =
    succeeded
    (IsRipasSet m (performed (RttSetRipas rd rec base top) m).1 (realm_at m rd) (rec_at m rec).ripas.ripas base (performed (RttSetRipas rd rec base top) m).0.x1 × ((performed (RttSetRipas rd rec base top) m).0.x1 ≤ top)
    × ((performed (RttSetRipas rd rec base top) m).0.x1 ≤ (rec_at m rec).ripas.top))
    (RttSetRipas rd rec base top) m refl success
    (λ ok now. subst (λ (p : SmcResult × Machine). IsRipasSet m p.1 (realm_at m rd) (rec_at m rec).ripas.ripas base p.0.x1 × (p.0.x1 ≤ top) × (p.0.x1 ≤ (rec_at m rec).ripas.top)) (sym now) (set_after rd rec base top m proper ok))

-- A successful RMI_RTT_INIT_RIPAS sets the RIPAS of protected addresses from `base` up to X1 to RAM, and of no other
-- protected address. X1 is at most `top`.
pub range_inited : (m : Machine) (rd base top : ℕ) → IsProper m → (performed (RttInitRipas rd base top) m).0.word ≡ Success
    → IsRipasSet m (performed (RttInitRipas rd base top) m).1 (realm_at m rd) Ram base (performed (RttInitRipas rd base top) m).0.x1 × ((performed (RttInitRipas rd base top) m).0.x1 ≤ top)
unfolding rtt_init_ripas range_checks
range_inited m rd base top proper success =
    succeeded
    (IsRipasSet m (performed (RttInitRipas rd base top) m).1 (realm_at m rd) Ram base (performed (RttInitRipas rd base top) m).0.x1 × ((performed (RttInitRipas rd base top) m).0.x1 ≤ top)) (RttInitRipas rd base top) m refl
    success
    (λ ok now. subst (λ (p : SmcResult × Machine). IsRipasSet m p.1 (realm_at m rd) Ram base p.0.x1 × (p.0.x1 ≤ top)) (sym now) (init_after rd base top m proper ok))

-- ---- the rest of a request

-- the range of a successful RMI_RTT_SET_RIPAS begins where the REC's request does, and afterwards the REC requests the
-- rest from X1 on
pub rest_after : (m : Machine) (rd rec base top : ℕ) → (performed (RttSetRipas rd rec base top) m).0.word ≡ Success → IsRestFrom m (performed (RttSetRipas rd rec base top) m).1 rec base (performed (RttSetRipas rd rec base top) m).0.x1
unfolding rtt_set_ripas ripas_request_checks with_ripas_from
rest_after m rd rec base top success =
    succeeded (IsRestFrom m (performed (RttSetRipas rd rec base top) m).1 rec base (performed (RttSetRipas rd rec base top) m).0.x1) (RttSetRipas rd rec base top) m refl success
    (λ ok now.
    let asking = rec_of-some (state_at m rec) ok.1.1.1.1.1.1.0 in
    let inside : number_of m rec < length m.granules = taken_inside m (number_of m rec) (λ free. cc) in
    subst (λ (p : SmcResult × Machine). IsRestFrom m p.1 rec base p.0.x1) (sym now)
    (eqb-true base (rec_at m rec).ripas.base (yes_from _ ok.1.1.1.1.1.1.1.1.1.1.0), ap (λ (c : RmmGranule). (unwrap_or (rec_of c.state) no_rec).ripas) (granule_at-same m (number_of m rec) _ inside)))
