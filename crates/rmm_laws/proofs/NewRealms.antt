-- A proof that each entry of a new realm's starting tables is in a state that is allowed in its half of the address
-- space.
use Rattle.std.proofs.Common.{◌≡◌, ◌≢◌, ℕ, ◌+◌, ◌-◌, ◌*◌, ◌/◌, ◌^◌, ◌<◌, ◌≤◌, ◌&&◌, Bool, true, false, List, Some, refl, sym, ap, subst, ◌∙◌, ⊎_elim, lit≤, arith}
use Rattle.std.specs.Prelude.{nat_le, nat_lt, if◌then◌else◌}
use Rattle.std.proofs.lemmas.Bool.{cases_eq, cases_lt, cases_Bool, cond_both, cond-true, cond-false, and_from, and_left, and_right, le-leb, lt-ltb, lt-leb, le-ltb, ltb-true, ltb-false}
use Rattle.granule_addr.specs.Page.{zero_page}
use Rattle.page_arena.specs.Pages.{length-page_of}
use Rattle.rmi_abi.specs.declared.settings.RmmSettings.{RmmSettings}
use Rattle.rmm_model.specs.declared.entry.RmmRttEntry.{RmmRttEntry}
use Rattle.rmm_model.specs.declared.granule.RmmGranule.{RmmGranule}
use Rattle.rmm_model.specs.declared.entry.RmmRttEntry.TheVariants.{Unassigned, UnassignedNs}
use Rattle.rmm_model.specs.declared.entry.RmmRipas.TheVariants.{Empty}
use Rattle.rmm_model.specs.declared.granule.RmmGranuleState.TheVariants.{Delegated, Rd, Rtt}
use Rattle.rmm_model.specs.declared.realm.RmmRealm.{RmmRealm}
use Rattle.rmm_model.specs.Entry.{entry_of, entry_word, is_table}
use Rattle.rmm_model.specs.Granule.{of_realm}
use Rattle.rmm_model.specs.Level.{entry_size}
use Rattle.rmm_model.specs.Machine.{Machine, granule_at, page_in}
use Rattle.rmm_model.specs.Realm.{is_protected}
use Rattle.rmm_model.specs.Table.{entry_in_page}
use Rattle.rmm_model.specs.Walk.{table_below}
use Rattle.rmm_model.specs.Command.RealmCreate.{start_entry, start_page}
use Rattle.rmm_laws.specs.Half.{IsOfHalf, IsPlaced, HasHalves}
use Rattle.rmm_laws.specs.Role.{IsLinked}
use Rattle.rmm_laws.proofs.EntryWords.{entry_word-fits}
use Rattle.rmm_laws.proofs.Placing.{placed_none, placed_word}
use Rattle.rmm_laws.proofs.Halves.{half_alike, word_kind, below_same, none_below, realm_same, no_rtt}
use Rattle.rmm_laws.proofs.PageWords.{word_of_page-with_words}
use Rattle.rmm_laws.proofs.Passed.{some_same}
use Rattle.rmm_laws.proofs.Realms.{IsRealm, IsStart, NoStart, start_or_none}
use Rattle.rmm_laws.proofs.Sides.{side, half_size, entry_start}
use Rattle.rmm_laws.proofs.Seats.{start_table, child_table}

start_leaf : (realm : RmmRealm) (n : ℕ) → is_table (start_entry realm n) ≡ false
start_leaf realm n = cond_both (is_protected realm (n * entry_size realm.start_level)) _ _ (λ (e : RmmRttEntry). is_table e ≡ false) (λ sure. refl) (λ never. refl)

start_placed : (s : RmmSettings) (level : ℕ) (realm : RmmRealm) (n : ℕ) → IsPlaced s level (entry_of (entry_word (start_entry realm n)))
start_placed s level realm n =
    cond_both (is_protected realm (n * entry_size realm.start_level)) (Unassigned Empty) UnassignedNs (λ (e : RmmRttEntry). IsPlaced s level (entry_of (entry_word e)))
    (λ sure. placed_word s level (Unassigned Empty) (omega arith) (placed_none s level (Unassigned Empty) refl))
    (λ never. placed_word s level UnassignedNs (omega arith) (placed_none s level UnassignedNs refl))

pub start_entry_is : (realm : RmmRealm) (k j : ℕ) → j < 512 → entry_in_page (start_page realm k) j ≡ entry_of (entry_word (start_entry realm (k * 512 + j)))
unfolding start_page entry_in_page
start_entry_is realm k j lt =
    ap entry_of (word_of_page-with_words (λ (i : ℕ). entry_word (start_entry realm (k * 512 + i))) zero_page (length-page_of 0) 512 j (lit≤ tt) lt (entry_word-fits (start_entry realm (k * 512 + j))))

-- an entry of the starting tables is allowed in the half of each address that it covers
start_half : (realm : RmmRealm) (n ipa : ℕ) → realm.start_level ≤ 3 → entry_size realm.start_level < 2 ^ realm.s2sz → ipa / entry_size realm.start_level ≡ n → IsOfHalf realm ipa (start_entry realm n)
start_half realm n ipa few wide covers =
    let begin = entry_start realm.start_level few n ipa covers in
    ⊎_elim
    (λ (sure : is_protected realm (n * entry_size realm.start_level) ≡ true).
    subst (IsOfHalf realm ipa) (sym (cond-true (is_protected realm (n * entry_size realm.start_level)) _ _ sure))
    (side realm.start_level few (realm.s2sz - 1) (n * entry_size realm.start_level) ipa (half_size realm.start_level few realm.s2sz wide) (begin.1 ∙ sym covers) (ltb-true _ _ sure)))
    (λ (never : is_protected realm (n * entry_size realm.start_level) ≡ false).
    let low : 2 ^ (realm.s2sz - 1) ≤ n * entry_size realm.start_level = ltb-false _ _ never in
    let more = begin.0 in
    subst (IsOfHalf realm ipa) (sym (cond-false (is_protected realm (n * entry_size realm.start_level)) _ _ never)) (omega arith))
    (cases_Bool (is_protected realm (n * entry_size realm.start_level)))

module _ (p q : Machine) (linked : IsLinked p) (halves : HasHalves p) (rd : ℕ) (realm : RmmRealm) (after : ℕ → ℕ) (step : IsRealm p q linked.level after rd realm)
    (wide : entry_size realm.start_level < 2 ^ realm.s2sz) (few : realm.start_level ≤ 3)
    (pages : (i : ℕ) → i < realm.table_count → page_in q (realm.first_table + i) ≡ start_page realm i) (unowned : (g : ℕ) → granule_at p g ≡ of_realm rd Rtt → ⊥) where
  abbrev is_new : ℕ → Bool
  is_new g = nat_le realm.first_table g && nat_lt g (realm.first_table + realm.table_count)

  abbrev level : ℕ → ℕ
  level g = if nat_le realm.first_table g && nat_lt g (realm.first_table + realm.table_count) then realm.start_level else halves.level g

  abbrev place : ℕ → ℕ
  place g = if nat_le realm.first_table g && nat_lt g (realm.first_table + realm.table_count) then g - realm.first_table else halves.place g

  start_at : (i : ℕ) → i < realm.table_count → (level (realm.first_table + i) ≡ realm.start_level) × (place (realm.first_table + i) ≡ i)
  start_at i lt =
      let is : is_new (realm.first_table + i) ≡ true =
      and_from _ _ (le-leb realm.first_table (realm.first_table + i) (omega arith)) (lt-ltb (realm.first_table + i) (realm.first_table + realm.table_count) (omega arith)) in
      let left : realm.first_table + i - realm.first_table ≡ i = omega arith in
      (cond-true (is_new (realm.first_table + i)) _ _ is, cond-true (is_new (realm.first_table + i)) _ _ is ∙ left)

  other_at : (g : ℕ) → NoStart realm g → (level g ≡ halves.level g) × (place g ≡ halves.place g)
  other_at g none =
      let out : is_new g ≡ false =
      ⊎_elim
      (λ (below : g < realm.first_table). and_left (nat_le realm.first_table g) (nat_lt g (realm.first_table + realm.table_count)) (lt-leb realm.first_table g below))
      (λ (above : realm.first_table ≤ g). and_right (nat_le realm.first_table g) (nat_lt g (realm.first_table + realm.table_count)) (le-ltb g (realm.first_table + realm.table_count)
      (⊎_elim (λ (within : g < realm.first_table + realm.table_count). absurd (none (g - realm.first_table) (omega arith) (omega arith))) (λ (past : realm.first_table + realm.table_count ≤ g). past)
      (cases_lt g (realm.first_table + realm.table_count)))))
      (cases_lt g realm.first_table) in
      (cond-false (is_new g) _ _ out, cond-false (is_new g) _ _ out)

  -- a granule that was a table before is no starting table of the new realm
  old_table : (g : ℕ) → (granule_at p g).state ≡ Rtt → NoStart realm g
  old_table g is i lt same =
      let free : (granule_at p g).state ≡ Delegated = ap (λ (x : ℕ). (granule_at p x).state) same ∙ step.free i lt in
      cc

  -- an RD other than the new one was the RD of the same realm before
  old_realm : (x : ℕ) (other : RmmRealm) → (granule_at q x).state ≡ Rd other → x ≢ rd → (granule_at p x).state ≡ Rd other
  old_realm x other is ne =
      ⊎_elim
      (λ (start : IsStart realm x). absurd (no_rtt other (sym is ∙ ap (λ (y : ℕ). (granule_at q y).state) start.2 ∙ ap (λ (r : RmmGranule). r.state) (step.made start.0 start.1))))
      (λ (none : NoStart realm x). sym (ap (λ (r : RmmGranule). r.state) (step.beside x ne none).0) ∙ is)
      (start_or_none realm x)

  new_realm : (x : ℕ) (other : RmmRealm) → (granule_at q x).state ≡ Rd other → x ≡ rd → realm ≡ other
  new_realm x other is here = realm_same realm other (sym step.rd_made ∙ sym (ap (λ (y : ℕ). (granule_at q y).state) here) ∙ is)

  start_then : (x k : ℕ) (other : RmmRealm) → (granule_at q x).state ≡ Rd other → k < other.table_count → (level (other.first_table + k) ≡ other.start_level) × (place (other.first_table + k) ≡ k)
  start_then x k other is lt =
      ⊎_elim
      (λ (here : x ≡ rd).
      let it = new_realm x other is here in
      subst (λ (r : RmmRealm). (level (r.first_table + k) ≡ r.start_level) × (place (r.first_table + k) ≡ k)) it (start_at k (subst (λ (r : RmmRealm). k < r.table_count) (sym it) lt)))
      (λ (ne : x ≢ rd).
      let was = old_realm x other is ne in
      let same = other_at (other.first_table + k) (old_table (other.first_table + k) (ap (λ (r : RmmGranule). r.state) (start_table p linked x k other was lt))) in
      let before = halves.is.start x k other was lt in
      (same.0 ∙ before.0, same.1 ∙ before.1))
      (cases_eq x rd)

  not_rd : (g : ℕ) → (granule_at q g).state ≡ Rtt → g ≢ rd
  not_rd g is same = no_rtt realm (sym step.rd_made ∙ sym (ap (λ (y : ℕ). (granule_at q y).state) same) ∙ is)

  below_then : (table i child : ℕ) → (granule_at q table).state ≡ Rtt → i < 512 → table_below q (entry_in_page (page_in q table) i) ≡ Some child
      → (level child ≡ level table + 1) × (place child ≡ place table * 512 + i)
  below_then table i child is lt leads =
      ⊎_elim
      (λ (start : IsStart realm table).
      let entry : entry_in_page (page_in q table) i ≡ entry_of (entry_word (start_entry realm (start.0 * 512 + i))) =
      ap (λ (x : ℕ). entry_in_page (page_in q x) i) start.2 ∙ ap (λ (page : List ℕ). entry_in_page page i) (pages start.0 start.1) ∙ start_entry_is realm start.0 i lt in
      let none = ap (table_below q) entry ∙ none_below q (entry_of (entry_word (start_entry realm (start.0 * 512 + i)))) (start_entry realm (start.0 * 512 + i)) (word_kind (start_entry realm (start.0 * 512 + i))) (start_leaf realm (start.0 * 512 + i)) in
      absurd (cc))
      (λ (none : NoStart realm table).
      let same = step.beside table (not_rd table is) none in
      let was : (granule_at p table).state ≡ Rtt = sym (ap (λ (r : RmmGranule). r.state) same.0) ∙ is in
      let leads_before : table_below p (entry_in_page (page_in p table) i) ≡ Some child =
      sym (below_same p q step.settings step.count (entry_in_page (page_in q table) i) ∙ ap (λ (page : List ℕ). table_below p (entry_in_page page i)) same.1) ∙ leads in
      let before = halves.is.below table i child was lt leads_before in
      let at = other_at table none in
      let child_at = other_at child (old_table child (child_table p linked table i child was lt leads_before)) in
      (child_at.0 ∙ before.0 ∙ ap (λ (l : ℕ). l + 1) (sym at.0), child_at.1 ∙ before.1 ∙ ap (λ (n : ℕ). n * 512 + i) (sym at.1)))
      (start_or_none realm table)

  half_then : (x table i ipa : ℕ) (other : RmmRealm) → (granule_at q x).state ≡ Rd other → granule_at q table ≡ of_realm x Rtt → i < 512
      → ipa / entry_size (level table) ≡ place table * 512 + i → IsOfHalf other ipa (entry_in_page (page_in q table) i)
  half_then x table i ipa other is owned lt covers =
      ⊎_elim
      (λ (start : IsStart realm table).
      let k : ℕ = start.0 in
      let entry : entry_in_page (page_in q table) i ≡ entry_of (entry_word (start_entry realm (k * 512 + i))) =
      ap (λ (y : ℕ). entry_in_page (page_in q y) i) start.2 ∙ ap (λ (page : List ℕ). entry_in_page page i) (pages k start.1) ∙ start_entry_is realm k i lt in
      let owner : granule_at q table ≡ of_realm rd Rtt = ap (granule_at q) start.2 ∙ step.made k start.1 in
      let here : x ≡ rd = some_same (ap (λ (r : RmmGranule). r.owner) (sym owned ∙ owner)) in
      let at = start_at k start.1 in
      let covers_there : ipa / entry_size realm.start_level ≡ k * 512 + i =
      ap (λ (l : ℕ). ipa / entry_size l) (sym (ap level start.2 ∙ at.0)) ∙ covers ∙ ap (λ (n : ℕ). n * 512 + i) (ap place start.2 ∙ at.1) in
      subst (λ (r : RmmRealm). IsOfHalf r ipa (entry_in_page (page_in q table) i)) (new_realm x other is here)
      (subst (IsOfHalf realm ipa) (sym entry)
      (half_alike realm ipa (start_entry realm (k * 512 + i)) (entry_of (entry_word (start_entry realm (k * 512 + i)))) (sym (word_kind (start_entry realm (k * 512 + i))))
      (start_half realm (k * 512 + i) ipa few wide covers_there))))
      (λ (none : NoStart realm table).
      let same = step.beside table (not_rd table (ap (λ (r : RmmGranule). r.state) owned)) none in
      let at = other_at table none in
      let was : granule_at p table ≡ of_realm x Rtt = sym same.0 ∙ owned in
      let ne : x ≢ rd = λ here. unowned table (was ∙ ap (λ (y : ℕ). of_realm y Rtt) here) in
      subst (λ (page : List ℕ). IsOfHalf other ipa (entry_in_page page i)) (sym same.1)
      (halves.is.half x table i ipa other (old_realm x other is ne) was lt (ap (λ (l : ℕ). ipa / entry_size l) (sym at.0) ∙ covers ∙ ap (λ (n : ℕ). n * 512 + i) at.1)))
      (start_or_none realm table)

  pub new_halves : HasHalves q
  new_halves = record {
    level = level;
    place = place;
    is = record {
      wide = λ x other is. ⊎_elim
          (λ (here : x ≡ rd). subst (λ (r : RmmRealm). entry_size r.start_level < 2 ^ r.s2sz) (new_realm x other is here) wide)
          (λ (ne : x ≢ rd). halves.is.wide x other (old_realm x other is ne))
          (cases_eq x rd);
      start = start_then;
      below = below_then;
      half = half_then;
      block = λ table i is lt. ⊎_elim
          (λ (start : IsStart realm table).
          let entry : entry_in_page (page_in q table) i ≡ entry_of (entry_word (start_entry realm (start.0 * 512 + i))) =
          ap (λ (x : ℕ). entry_in_page (page_in q x) i) start.2 ∙ ap (λ (page : List ℕ). entry_in_page page i) (pages start.0 start.1) ∙ start_entry_is realm start.0 i lt in
          let first = start_placed q.settings (level table) realm (start.0 * 512 + i) in
          subst (IsPlaced q.settings (level table)) (sym entry) first)
          (λ (none : NoStart realm table).
          let same = step.beside table (not_rd table is) none in
          subst (λ (s : RmmSettings). IsPlaced s (level table) (entry_in_page (page_in q table) i)) (sym step.settings)
          (subst (λ (l : ℕ). IsPlaced p.settings l (entry_in_page (page_in q table) i)) (sym (other_at table none).0)
          (subst (λ (page : List ℕ). IsPlaced p.settings (halves.level table) (entry_in_page page i)) (sym same.1) (halves.is.block table i (sym (ap (λ (r : RmmGranule). r.state) same.0) ∙ is) lt))))
          (start_or_none realm table);
    };
  }
