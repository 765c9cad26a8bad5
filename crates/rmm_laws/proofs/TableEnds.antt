-- Proofs that replacing an entry by a table, or a table by an entry, changes a property of addresses, such as RIPAS, at
-- the addresses of that entry alone.
use Rattle.std.proofs.Common.{◌≡◌, ◌≢◌, ℕ, zero, suc, ◌+◌, ◌*◌, ◌/◌, ◌^◌, ◌<◌, ◌≤◌, ◌⊎◌, inl, inr, false, List, length, Some, None, refl, sym, ap, subst, ◌∙◌, ⊎_elim, arith}
use Rattle.std.specs.Prelude.{nat_lt, ◌==◌}
use Rattle.std.proofs.lemmas.Bool.{cases_eq, cond-true, and_from, lt-ltb}
use Rattle.rmm_model.specs.declared.entry.RmmRttEntry.{RmmRttEntry}
use Rattle.rmm_model.specs.declared.granule.RmmGranule.{RmmGranule}
use Rattle.rmm_model.specs.declared.granule.RmmGranuleState.{RmmGranuleState}
use Rattle.rmm_model.specs.declared.granule.RmmGranuleState.TheVariants.{Rd, Rtt}
use Rattle.rmm_model.specs.declared.realm.RmmRealm.{RmmRealm}
use Rattle.rmm_model.specs.declared.realm.RttWalk.{RttWalk}
use Rattle.rmm_model.specs.Entry.{is_table}
use Rattle.rmm_model.specs.Level.{entry_size, entry_index, start_table_index}
use Rattle.rmm_model.specs.Machine.{Machine, granule_at, page_in}
use Rattle.rmm_model.specs.Table.{entry_in_page}
use Rattle.rmm_model.specs.Walk.{entry_at, table_below, walk_from, start_of, walk}
use Rattle.rmm_laws.specs.Proper.{IsProper}
use Rattle.rmm_laws.specs.Role.{used, state_uses, uses}
use Rattle.rmm_laws.specs.Walk.{IsTableOf}
use Rattle.rmm_laws.proofs.Along.{IsMet, along, stops, goes}
use Rattle.rmm_laws.proofs.EntryReads.{covered}
use Rattle.rmm_laws.proofs.Halves.{no_rtt, none_below}
use Rattle.rmm_laws.proofs.KeptTables.{on_same}
use Rattle.rmm_laws.proofs.Mappings.{served}
use Rattle.rmm_laws.proofs.Seats.{IsSeat, seat_next, walk_seat}
use Rattle.rmm_laws.proofs.Serving.{few_at}
use Rattle.rmm_laws.proofs.Sides.{whole_index}
use Rattle.rmm_laws.proofs.Walks.{by_entry, one_place, start_inside, uses-entry, entry_index-few}

-- The machines differ in one entry of a realm's table and in the table to which that entry leads. `F` gives the value
-- that is read at an address, from the entry where its walk ends and that entry's level.
module _ (m n : Machine) (proper : IsProper m) (settings : n.settings ≡ m.settings) (count : length n.granules ≡ length m.granules) (rd ipa level : ℕ) (realm : RmmRealm)
    (is : (granule_at m rd).state ≡ Rd realm) (within : ipa < 2 ^ realm.s2sz) (g : ℕ)
    (beside : (j : ℕ) → j < 512 → j ≢ entry_index (walk m realm ipa level).level ipa
    → entry_in_page (page_in n (walk m realm ipa level).table) j ≡ entry_in_page (page_in m (walk m realm ipa level).table) j) (x : ℕ) (A : Type 0) (F : RmmRttEntry → ℕ → A) where
  abbrev found : RttWalk
  found = walk m realm ipa level

  abbrev at : ℕ
  at = entry_index (walk m realm ipa level).level ipa

  abbrev Seat : RttWalk → Type 0
  Seat p = IsSeat m proper.linked proper.ordered.halves rd x realm p

  there : IsSeat m proper.linked proper.ordered.halves rd ipa realm (walk m realm ipa level)
  there = walk_seat m proper.linked proper.ordered.halves rd ipa realm is within level

  abbrev child : RttWalk → RttWalk
  child p = record { table = g; level = p.level + 1 }

  abbrev entry_here : RttWalk → RmmRttEntry
  entry_here p = entry_in_page (page_in n (walk m realm ipa level).table) (entry_index p.level x)

  -- an address at another index of the table has the same entry in both machines
  same_beside : (p : RttWalk) → p.table ≡ (walk m realm ipa level).table → entry_index p.level x ≢ entry_index (walk m realm ipa level).level ipa → entry_at n p x ≡ entry_at m p x
  unfolding entry_at
  same_beside p here other =
      subst (λ (t : ℕ). entry_in_page (page_in n t) (entry_index p.level x) ≡ entry_in_page (page_in m t) (entry_index p.level x)) (sym here) (beside (entry_index p.level x) (entry_index-few p.level x) other)

  -- an address at the index of `ipa` in the table has the entry that differs
  same_place : (k : Machine) (p : RttWalk) → p.table ≡ (walk m realm ipa level).table → entry_index p.level x ≡ entry_index (walk m realm ipa level).level ipa
      → entry_at k p x ≡ entry_in_page (page_in k (walk m realm ipa level).table) (entry_index (walk m realm ipa level).level ipa)
  unfolding entry_at
  same_place k p here same = ap (λ (t : ℕ). entry_in_page (page_in k t) (entry_index p.level x)) here ∙ ap (λ (j : ℕ). entry_in_page (page_in k found.table) j) same

  -- an address at the index of `ipa` in the table is covered by the entry that differs
  same_entry : (p : RttWalk) → Seat p → p.table ≡ (walk m realm ipa level).table → entry_index p.level x ≡ entry_index (walk m realm ipa level).level ipa
      → x / entry_size (walk m realm ipa level).level ≡ ipa / entry_size (walk m realm ipa level).level
  unfolding entry_at
  same_entry p seat here same =
      let at_entry = covered m n proper settings count rd ipa level realm is within x p seat here in
      let number : ipa / entry_size found.level / 512 * 512 + entry_index p.level x ≡ ipa / entry_size found.level / 512 * 512 + entry_index found.level ipa = ap (λ (j : ℕ). ipa / entry_size found.level / 512 * 512 + j) same in
      let whole : ipa / entry_size found.level / 512 * 512 + entry_index found.level ipa ≡ ipa / entry_size found.level = whole_index found.level ipa in
      at_entry.1 ∙ number ∙ whole

  -- ---- a table that is made

  module _ (leaf : is_table (entry_at m (walk m realm ipa level) ipa) ≡ false)
      (leads : table_below n (entry_in_page (page_in n (walk m realm ipa level).table) (entry_index (walk m realm ipa level).level ipa)) ≡ Some g)
      (others : (h : ℕ) → IsTableOf m rd h → h ≢ (walk m realm ipa level).table → page_in n h ≡ page_in m h) (few : (walk m realm ipa level).level ≤ 2)
      (flat : (j : ℕ) → j < 512 → table_below n (entry_in_page (page_in n g) j) ≡ None)
      (alike : x / entry_size (walk m realm ipa level).level ≡ ipa / entry_size (walk m realm ipa level).level
      → F (entry_in_page (page_in n g) (entry_index ((walk m realm ipa level).level + 1) x)) ((walk m realm ipa level).level + 1) ≡ F (entry_at m (walk m realm ipa level) ipa) (walk m realm ipa level).level) where
    abbrev Same : RttWalk → RttWalk → Type 0
    Same p q = F (entry_at n q x) q.level ≡ F (entry_at m p x) p.level

    abbrev MetSame : RttWalk → Type 0
    MetSame p = IsMet m n proper.linked proper.ordered.halves rd x realm (λ table. Unit {0}) Same p

    on_as_before : (p : RttWalk) → entry_at n p x ≡ entry_at m p x → MetSame p
    on_as_before p entry = inl (on_same m n proper settings count rd x realm (λ table. Unit {0}) Same p entry (λ table leads. tt) (ap (λ (e : RmmRttEntry). F e p.level) entry))

    made_here : (p : RttWalk) → Seat p → p.table ≡ (walk m realm ipa level).table → entry_index p.level x ≡ entry_index (walk m realm ipa level).level ipa → (levels : ℕ) → p.level + levels ≡ 3
        → Same (walk_from m x levels p) (walk_from n x levels p)
    unfolding entry_at
    made_here p seat here same zero far = (let level_is = (covered m n proper settings count rd ipa level realm is within x p seat here).0 in absurd (omega arith))
    made_here p seat here same (suc levels) far =
        let entry : entry_at m p x ≡ entry_at m found ipa = same_place m p here same in
        let none = ap (λ (e : RmmRttEntry). table_below m e) entry ∙ none_below m (entry_at m found ipa) (entry_at m found ipa) refl leaf in
        let on : table_below n (entry_at n p x) ≡ Some g = ap (λ (e : RmmRttEntry). table_below n e) (same_place n p here same) ∙ leads in
        let depth = (covered m n proper settings count rd ipa level realm is within x p seat here).0 in
        ap (λ (q : RttWalk). F (entry_at n q x) q.level) (goes n x levels g p on ∙ stops n x levels (child p) (flat (entry_index (p.level + 1) x) (entry_index-few (p.level + 1) x)))
        ∙ ap (λ (l : ℕ). F (entry_in_page (page_in n g) (entry_index (l + 1) x)) (l + 1)) depth
        ∙ alike (same_entry p seat here same)
        ∙ ap (λ (l : ℕ). F (entry_at m found ipa) l) (sym depth)
        ∙ ap (λ (e : RmmRttEntry). F e p.level) (sym entry)
        ∙ ap (λ (q : RttWalk). F (entry_at m q x) q.level) (sym (stops m x (suc levels) p none))

    met_made : (p : RttWalk) → Seat p → Unit {0} → MetSame p
    unfolding entry_at
    met_made p seat good =
        ⊎_elim
        (λ (here : p.table ≡ found.table). ⊎_elim
        (λ (same : entry_index p.level x ≡ at). inr (made_here p seat here same))
        (λ (other : entry_index p.level x ≢ at). on_as_before p (same_beside p here other))
        (cases_eq (entry_index p.level x) at))
        (λ (other : p.table ≢ found.table). on_as_before p (ap (λ (q : List ℕ). entry_in_page q (entry_index p.level x)) (others p.table seat.is.table other)))
        (cases_eq p.table found.table)

    pub made_read : (after : RmmRealm) → after.start_level ≡ realm.start_level → after.first_table ≡ realm.first_table → x < 2 ^ realm.s2sz
        → F (entry_at n (walk n after x 3) x) (walk n after x 3).level ≡ F (entry_at m (walk m realm x 3) x) (walk m realm x 3).level
    made_read after start first inside = along m n proper.linked proper.ordered.halves rd x realm (λ table. Unit {0}) Same after start first is inside tt met_made

  -- ---- a table that is gone

  module _ (leads : table_below m (entry_at m (walk m realm ipa level) ipa) ≡ Some g)
      (leaf : is_table (entry_in_page (page_in n (walk m realm ipa level).table) (entry_index (walk m realm ipa level).level ipa)) ≡ false)
      (others : (h : ℕ) → IsTableOf m rd h → h ≢ (walk m realm ipa level).table → h ≢ g → page_in n h ≡ page_in m h)
      (flat : (j : ℕ) → j < 512 → table_below m (entry_in_page (page_in m g) j) ≡ None) (G : A → A → Type 0)
      (given : x / entry_size (walk m realm ipa level).level ≡ ipa / entry_size (walk m realm ipa level).level
      → (F (entry_in_page (page_in n (walk m realm ipa level).table) (entry_index (walk m realm ipa level).level ipa)) (walk m realm ipa level).level
      ≡ F (entry_in_page (page_in m g) (entry_index ((walk m realm ipa level).level + 1) x)) ((walk m realm ipa level).level + 1))
      ⊎ G (F (entry_in_page (page_in m g) (entry_index ((walk m realm ipa level).level + 1) x)) ((walk m realm ipa level).level + 1))
      (F (entry_in_page (page_in n (walk m realm ipa level).table) (entry_index (walk m realm ipa level).level ipa)) (walk m realm ipa level).level)) where
    abbrev Q : RttWalk → RttWalk → Type 0
    Q p q = (F (entry_at n q x) q.level ≡ F (entry_at m p x) p.level) ⊎ G (F (entry_at m p x) p.level) (F (entry_at n q x) q.level)

    abbrev Other : ℕ → Type 0
    Other table = table ≢ g

    abbrev Met : RttWalk → Type 0
    Met p = IsMet m n proper.linked proper.ordered.halves rd x realm Other Q p

    -- the table `g` is used by the entry that differs
    user : uses m proper.linked.level (walk m realm ipa level).table (entry_index (walk m realm ipa level).level ipa) 0 ≡ Some (used Rtt (Some rd) ((walk m realm ipa level).level + 1) g)
    unfolding entry_at
    user =
        uses-entry m proper.linked rd ipa found at 0 there.is (entry_index-few found.level ipa)
        ∙ by_entry m proper.linked rd ipa (Some rd) found.level g (entry_in_page (page_in m found.table) at) leads

    -- no other entry on the walk of the address leads to the table `g`
    only_here : (p : RttWalk) → Seat p → table_below m (entry_at m p x) ≡ Some g → (p.table ≡ (walk m realm ipa level).table) × (entry_index p.level x ≡ entry_index (walk m realm ipa level).level ipa)
    unfolding entry_at
    only_here p seat to =
        let j : ℕ = entry_index p.level x in
        let other : uses m proper.linked.level p.table j 0 ≡ Some (used Rtt (Some rd) (p.level + 1) g) =
        uses-entry m proper.linked rd x p j 0 seat.is (entry_index-few p.level x) ∙ by_entry m proper.linked rd x (Some rd) p.level g (entry_in_page (page_in m p.table) j) to in
        let one = one_place m proper.linked p.table j 0 found.table at 0 (used Rtt (Some rd) (p.level + 1) g) (used Rtt (Some rd) (found.level + 1) g) other user refl in
        (one.0, one.1)

    start_other : x < 2 ^ realm.s2sz → (start_of realm x).table ≢ g
    unfolding uses start_of
    start_other inside same =
        let k : ℕ = start_table_index realm.start_level x in
        let fit = served m rd realm proper.linked is in
        let lt = start_inside realm.start_level x realm.s2sz realm.table_count inside fit.served in
        let gives : uses m proper.linked.level rd k 0 ≡ Some (used Rtt (Some rd) realm.start_level (realm.first_table + k)) =
        ap (λ (s : RmmGranuleState). state_uses m s (granule_at m rd).owner (proper.linked.level rd) (page_in m rd) rd k 0) is
        ∙ cond-true _ _ _ (and_from (nat_lt k realm.table_count) (0 == 0) (lt-ltb k realm.table_count lt) refl) in
        let one = one_place m proper.linked rd k 0 found.table at 0 (used Rtt (Some rd) realm.start_level (realm.first_table + k)) (used Rtt (Some rd) (found.level + 1) g) gives user same in
        no_rtt realm (sym is ∙ ap (λ (h : ℕ). (granule_at m h).state) one.0 ∙ ap (λ (c : RmmGranule). c.state) there.is.table)

    gone_here : (p : RttWalk) → Seat p → p.table ≡ (walk m realm ipa level).table → entry_index p.level x ≡ entry_index (walk m realm ipa level).level ipa → (levels : ℕ) → p.level + levels ≡ 3
        → Q (walk_from m x levels p) (walk_from n x levels p)
    unfolding entry_at
    gone_here p seat here same zero far =
        let on : table_below m (entry_at m p x) ≡ Some g = ap (λ (e : RmmRttEntry). table_below m e) (same_place m p here same) ∙ leads in
        let few = few_at m proper.linked rd x realm (child p) (seat_next m proper.linked proper.ordered.halves rd x realm p g seat on).is in
        absurd (omega arith)
    gone_here p seat here same (suc levels) far =
        let on : table_below m (entry_at m p x) ≡ Some g = ap (λ (e : RmmRttEntry). table_below m e) (same_place m p here same) ∙ leads in
        let entry = same_place n p here same in
        let e : RmmRttEntry = entry_in_page (page_in n found.table) at in
        let none = ap (λ (e : RmmRttEntry). table_below n e) entry ∙ none_below n e e refl leaf in
        let depth = (covered m n proper settings count rd ipa level realm is within x p seat here).0 in
        let there : (F e p.level ≡ F (entry_in_page (page_in m g) (entry_index (p.level + 1) x)) (p.level + 1)) ⊎ G (F (entry_in_page (page_in m g) (entry_index (p.level + 1) x)) (p.level + 1)) (F e p.level) =
        subst (λ (l : ℕ). (F e l ≡ F (entry_in_page (page_in m g) (entry_index (l + 1) x)) (l + 1)) ⊎ G (F (entry_in_page (page_in m g) (entry_index (l + 1) x)) (l + 1)) (F e l)) (sym depth) (given (same_entry p seat here same)) in
        let here_then : Q (child p) p =
        subst (λ (f : RmmRttEntry). (F f p.level ≡ F (entry_in_page (page_in m g) (entry_index (p.level + 1) x)) (p.level + 1)) ⊎ G (F (entry_in_page (page_in m g) (entry_index (p.level + 1) x)) (p.level + 1)) (F f p.level)) (sym entry) there in
        subst (λ (q : RttWalk). Q q (walk_from n x (suc levels) p)) (sym (goes m x levels g p on ∙ stops m x levels (child p) (flat (entry_index (p.level + 1) x) (entry_index-few (p.level + 1) x))))
        (subst (λ (q : RttWalk). Q (child p) q) (sym (stops n x (suc levels) p none)) here_then)

    met_gone : (p : RttWalk) → Seat p → Other p.table → Met p
    unfolding entry_at
    met_gone p seat good =
        ⊎_elim
        (λ (here : p.table ≡ found.table). ⊎_elim
        (λ (same : entry_index p.level x ≡ at). inr (gone_here p seat here same))
        (λ (other : entry_index p.level x ≢ at).
        let entry = same_beside p here other in
        inl (on_same m n proper settings count rd x realm Other Q p entry (λ table to it. other (only_here p seat (to ∙ ap (λ (t : ℕ). Some t) it)).1) (inl (ap (λ (f : RmmRttEntry). F f p.level) entry))))
        (cases_eq (entry_index p.level x) at))
        (λ (other : p.table ≢ found.table).
        let entry : entry_at n p x ≡ entry_at m p x = ap (λ (q : List ℕ). entry_in_page q (entry_index p.level x)) (others p.table seat.is.table other good) in
        inl (on_same m n proper settings count rd x realm Other Q p entry (λ table to it. other (only_here p seat (to ∙ ap (λ (t : ℕ). Some t) it)).0) (inl (ap (λ (f : RmmRttEntry). F f p.level) entry))))
        (cases_eq p.table found.table)

    pub gone_read : (after : RmmRealm) → after.start_level ≡ realm.start_level → after.first_table ≡ realm.first_table → x < 2 ^ realm.s2sz → Q (walk m realm x 3) (walk n after x 3)
    gone_read after start first inside = along m n proper.linked proper.ordered.halves rd x realm Other Q after start first is inside (start_other inside) met_gone
