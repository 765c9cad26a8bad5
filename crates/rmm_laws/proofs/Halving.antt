-- Proofs that a command's writes to tables leave each entry in a state that is allowed in its half of the address
-- space.
use Rattle.std.proofs.Common.{◌≡◌, ◌≢◌, ℕ, ◌+◌, ◌*◌, ◌/◌, ◌^◌, ◌<◌, ◌≤◌, ◌⊎◌, inl, inr, ◌==◌, true, false, List, length, Some, refl, sym, ap, subst, ◌∙◌, ⊎_elim, arith}
use Rattle.std.specs.Prelude.{if◌then◌else◌}
use Rattle.std.proofs.lemmas.Bool.{cases_eq, cases_lt, cond-true, cond-false, eq-eqb, ne_eqb}
use Rattle.std.proofs.lemmas.List.{length-set}
use Rattle.page_arena.specs.Word.{word_of_page}
use Rattle.rmm_model.specs.declared.entry.RmmRipas.{RmmRipas}
use Rattle.rmm_model.specs.declared.entry.RmmRttEntry.{RmmRttEntry}
use Rattle.rmm_model.specs.declared.entry.RmmRttEntry.TheVariants.{Unassigned, Assigned, Table, UnassignedNs, AssignedNs}
use Rattle.rmm_model.specs.declared.granule.RmmGranule.{RmmGranule}
use Rattle.rmm_model.specs.declared.granule.RmmGranuleState.TheVariants.{Delegated, Rd, Rtt}
use Rattle.rmm_model.specs.declared.realm.RmmRealm.{RmmRealm}
use Rattle.rmm_model.specs.declared.realm.RttWalk.{RttWalk}
use Rattle.rmm_model.specs.Entry.{entry_of, entry_word, child_entry, descriptor_of, entry_with_ripas, is_mapping, is_table}
use Rattle.rmm_model.specs.Granule.{of_realm}
use Rattle.rmm_model.specs.Level.{entry_size, entry_index}
use Rattle.rmm_model.specs.Machine.{Machine, granule_at, page_in, is_inside, number_of, with_granule, with_page}
use Rattle.rmm_model.specs.Table.{entry_in_page, has_parts, children_page, with_words_from}
use Rattle.rmm_model.specs.Walk.{entry_at, with_entry, table_below, walk}
use Rattle.rmm_model.specs.Command.RipasRange.{with_ripas_from}
use Rattle.rmm_laws.specs.Half.{IsOfHalf, IsPlaced, IsHalved, HasHalves}
use Rattle.rmm_laws.specs.Role.{IsLinked}
use Rattle.rmm_laws.proofs.Children.{children_word, part_word}
use Rattle.rmm_laws.proofs.Entries.{named_inside}
use Rattle.rmm_laws.proofs.EntryWords.{descriptor-few, entry_of-entry_word}
use Rattle.rmm_laws.proofs.Halves.{kind_of, half_alike, word_kind, none_below, plain_halved, below_same, no_rtt, Fits, fits_before, page_halved, has_space, plain_both, entry_halved, leaf_halved, alike_halved}
use Rattle.rmm_laws.proofs.Mappings.{place_table, entry_changed, entry_kept}
use Rattle.rmm_laws.proofs.Placing.{placed_child, placed_none, placed_ripas, placed_word}
use Rattle.rmm_laws.proofs.Passed.{some_same}
use Rattle.rmm_laws.proofs.Seats.{start_table, child_table, walk_seat, in_space, at_seat}
use Rattle.rmm_laws.proofs.Sides.{above, whole_index}
use Rattle.rmm_laws.proofs.Walks.{next, entry_index-few}
use Rattle.rmm_laws.proofs.Writes.{taken_inside, granule_at-same, granule_at-other, page_in-same, page_in-other}

-- ---- kinds of children

pub child_kind : (e : RmmRttEntry) (level k : ℕ) → kind_of (child_entry e level k) ≡ kind_of e
child_kind (Unassigned ripas) level k = refl
child_kind (Assigned ripas address) level k = refl
child_kind UnassignedNs level k = refl
child_kind (AssignedNs desc) level k = refl
child_kind (Table address) level k = refl

-- each child of an entry has the same `kind_of` as the entry
children_kind : (e : RmmRttEntry) (level j : ℕ) → j < 512 → kind_of (entry_in_page (children_page e level) j) ≡ kind_of e
unfolding entry_in_page
children_kind e level j lt = ap (λ (w : ℕ). kind_of (entry_of w)) (children_word e level j lt) ∙ word_kind (child_entry e level j) ∙ child_kind e level j

ripas_kind : (ripas : RmmRipas) (e : RmmRttEntry) → kind_of (entry_with_ripas ripas e) ≡ kind_of e
ripas_kind ripas (Unassigned old) = refl
ripas_kind ripas (Assigned old address) = refl
ripas_kind ripas UnassignedNs = refl
ripas_kind ripas (AssignedNs desc) = refl
ripas_kind ripas (Table address) = refl

ripas_below : (m : Machine) (ripas : RmmRipas) (e : RmmRttEntry) → table_below m (entry_with_ripas ripas e) ≡ table_below m e
ripas_below m ripas (Unassigned old) = refl
ripas_below m ripas (Assigned old address) = refl
ripas_below m ripas UnassignedNs = refl
ripas_below m ripas (AssignedNs desc) = refl
ripas_below m ripas (Table address) = refl

-- ---- RIPAS of a table

module _ (m : Machine) (linked : IsLinked m) (halves : HasHalves m) (t first count : ℕ) (ripas : RmmRipas) (is : (granule_at m t).state ≡ Rtt) (few : first + count ≤ 512) where
  abbrev ripas_page : List ℕ
  ripas_page = with_words_from first count (λ i. entry_word (entry_with_ripas ripas (entry_in_page (page_in m t) i))) (page_in m t)

  inside : t < length m.pages
  inside = let pages = linked.sound.pages in let lt = taken_inside m t (λ free. cc) in omega arith

  fits_page : (j : ℕ) → j < 512 → Fits m halves.level halves.place t j (entry_in_page ripas_page j)
  fits_page j lt =
      let before = fits_before m halves.level halves.place halves.is t j is lt in
      let kept : (j < first) ⊎ (first + count ≤ j) → Fits m halves.level halves.place t j (entry_in_page ripas_page j) =
      λ beside. subst (Fits m halves.level halves.place t j) (sym (entry_kept m t first count ripas linked is few j lt beside)) before in
      ⊎_elim
      (λ (low : j < first). kept (inl low))
      (λ (from : first ≤ j). ⊎_elim
      (λ (to : j < first + count).
      subst (Fits m halves.level halves.place t j) (sym (entry_changed m t first count ripas linked is few j from to)) (
        λ rd ipa realm there owned covers. half_alike realm ipa (entry_in_page (page_in m t) j) (entry_with_ripas ripas (entry_in_page (page_in m t) j)) (sym (ripas_kind ripas (entry_in_page (page_in m t) j)))
            (before.0 rd ipa realm there owned covers),
        λ child leads. before.1 child (sym (ripas_below m ripas (entry_in_page (page_in m t) j)) ∙ leads),
        placed_ripas m.settings (halves.level t) ripas (entry_in_page (page_in m t) j) before.2,
      ))
      (λ (past : first + count ≤ j). kept (inr past))
      (cases_lt j (first + count)))
      (cases_lt j first)

  pub ripas_halves : HasHalves (with_ripas_from m t first ripas count)
  unfolding with_ripas_from
  ripas_halves = record {
    level = halves.level;
    place = halves.place;
    is = page_halved m t ripas_page halves.level halves.place halves.is (λ j lt. subst (λ (p : List ℕ). Fits m halves.level halves.place t j (entry_in_page p j)) (sym (page_in-same m t ripas_page inside)) (fits_page j lt));
  }

-- ---- an entry at the end of a walk

module _ (m : Machine) (linked : IsLinked m) (halves : HasHalves m) (rd ipa level : ℕ) (realm : RmmRealm) (is : (granule_at m rd).state ≡ Rd realm) (within : ipa < 2 ^ realm.s2sz) (least : realm.start_level ≤ level) where
  abbrev found : RttWalk
  found = walk m realm ipa level

  abbrev t : ℕ
  t = (walk m realm ipa level).table

  abbrev i : ℕ
  i = entry_index (walk m realm ipa level).level ipa

  table_is : (granule_at m t).state ≡ Rtt
  table_is = place_table m linked rd ipa level realm is within least

  t_in : t < length m.granules
  t_in = let s = table_is in taken_inside m t (λ free. cc)

  has_page : t < length m.pages
  has_page = let pages = linked.sound.pages in let lt = t_in in omega arith

  whole : length (page_in m t) ≡ 4096
  whole = linked.sound.whole t t_in

  index : i < 512
  index = entry_index-few found.level ipa

  pub entry_at_end : (e : RmmRttEntry) → is_table e ≡ false → descriptor_of e < 2 ^ 48 → IsPlaced m.settings (walk m realm ipa level).level e
      → ((x : ℕ) → x / entry_size (walk m realm ipa level).level ≡ ipa / entry_size (walk m realm ipa level).level → IsOfHalf realm x e)
      → HasHalves (with_entry m (walk m realm ipa level) ipa e)
  entry_at_end e leaf fits block half =
      leaf_halved m t i e has_page whole index table_is leaf halves fits (subst (λ (l : ℕ). IsPlaced m.settings l e) (sym (walk_seat m linked halves rd ipa realm is within level).depth) block) (λ other x some there owned covers. at_seat m linked halves rd ipa realm is within level e half other x some there owned covers)

  pub entry_alike : (e : RmmRttEntry) → is_table e ≡ false → descriptor_of e < 2 ^ 48 → is_mapping e ≡ false → ((x : ℕ) (some : RmmRealm) → IsOfHalf some x (entry_at m (walk m realm ipa level) ipa) → IsOfHalf some x e)
      → HasHalves (with_entry m (walk m realm ipa level) ipa e)
  unfolding entry_at
  entry_alike e leaf fits none same = alike_halved m t i e has_page whole index table_is leaf halves fits (placed_none m.settings (halves.level t) e none) same

  -- A DELEGATED granule becomes one that is no table and no RD, before the entry at the end of a walk is written.
  module _ (g : ℕ) (kept : RmmGranule) (content : List ℕ) (inside : g < length m.granules) (free : (granule_at m g).state ≡ Delegated) where
    abbrev mid : Machine
    mid = with_page (with_granule m g kept) g content

    other : t ≢ g
    other same =
        let states : (granule_at m t).state ≡ (granule_at m g).state = ap (λ (k : ℕ). (granule_at m k).state) same in
        let s = table_is in
        cc

    table_there : granule_at mid t ≡ granule_at m t
    table_there = granule_at-other m g t kept other

    page_there : page_in mid t ≡ page_in m t
    page_there = page_in-other (with_granule m g kept) g t content other

    page_inside : t < length mid.pages
    page_inside = let count = length-set m.pages g content in let lt = has_page in omega arith

    pub mid_halves : has_space kept.state ≡ false → HasHalves (with_page (with_granule m g kept) g content)
    mid_halves plain = plain_both m g kept content inside plain halves

    pub entry_beside : (e : RmmRttEntry) → has_space kept.state ≡ false → is_table e ≡ false → descriptor_of e < 2 ^ 48 → IsPlaced m.settings (walk m realm ipa level).level e → ((x : ℕ) (some : RmmRealm) → IsOfHalf some x (entry_at m (walk m realm ipa level) ipa) → IsOfHalf some x e)
        → HasHalves (with_entry (with_page (with_granule m g kept) g content) (walk m realm ipa level) ipa e)
    unfolding entry_at
    entry_beside e plain leaf fits block same =
        alike_halved mid t i e page_inside (ap (length {A = ℕ}) page_there ∙ whole) index (ap (λ (r : RmmGranule). r.state) table_there ∙ table_is) leaf
        (record { level = halves.level; place = halves.place; is = plain_halved m g kept content halves.level halves.place inside plain halves.is }) fits
        (subst (λ (l : ℕ). IsPlaced m.settings l e) (sym (walk_seat m linked halves rd ipa realm is within level).depth) block)
        (λ x some before. same x some (subst (λ (p : List ℕ). IsOfHalf some x (entry_in_page p i)) page_there before))

  -- a TABLE entry is replaced by the first entry of the table below it, and that table's entries are the children of
  -- the new entry
  module _ (g to : ℕ) (named : table_below m (entry_at m (walk m realm ipa level) ipa) ≡ Some g) (few : (walk m realm ipa level).level ≤ 2) (leaf : is_table (entry_in_page (page_in m g) 0) ≡ false)
      (parts : has_parts (page_in m g) (entry_in_page (page_in m g) 0) to 512 0 ≡ true)
      (block : IsPlaced m.settings (walk m realm ipa level).level (entry_in_page (page_in m g) 0)) where
    part_kind : (j : ℕ) → j < 512 → kind_of (entry_in_page (page_in m g) j) ≡ kind_of (entry_in_page (page_in m g) 0)
    unfolding entry_in_page
    part_kind j lt =
        ap (λ (w : ℕ). kind_of (entry_of w)) (part_word (page_in m g) (entry_in_page (page_in m g) 0) to 512 0 j parts (omega arith) (omega arith))
        ∙ word_kind (child_entry (entry_in_page (page_in m g) 0) to j)
        ∙ child_kind (entry_in_page (page_in m g) 0) to j

    pub entry_folded : HasHalves (with_entry m (walk m realm ipa level) ipa (entry_in_page (page_in m g) 0))
    unfolding entry_at entry_in_page
    entry_folded =
        let seat = walk_seat m linked halves rd ipa realm is within level in
        let below = halves.is.below t i g table_is index named in
        leaf_halved m t i (entry_in_page (page_in m g) 0) has_page whole index table_is leaf halves (descriptor-few (word_of_page (page_in m g) 0))
        (subst (λ (l : ℕ). IsPlaced m.settings l (entry_in_page (page_in m g) 0)) (sym seat.depth) block) (λ other x some there owned covers.
        let l : ℕ = halves.level t in
        let depth = seat.depth in
        let j : ℕ = entry_index (halves.level t + 1) x in
        let here : other ≡ rd = some_same (ap (λ (r : RmmGranule). r.owner) (sym owned ∙ seat.is.table)) in
        let of_g : granule_at m g ≡ of_realm other Rtt = (next m linked rd ipa found g seat.is named).table ∙ ap (λ (r : ℕ). of_realm r Rtt) (sym here) in
        let deeper : x / entry_size (halves.level g) ≡ halves.place g * 512 + j =
        ap (λ (k : ℕ). x / entry_size k) below.0
        ∙ sym (whole_index (halves.level t + 1) x)
        ∙ ap (λ (q : ℕ). q * 512 + j) (above (halves.level t) x (omega arith) ∙ covers ∙ sym below.1) in
        half_alike some x (entry_in_page (page_in m g) j) (entry_in_page (page_in m g) 0) (part_kind j (entry_index-few (halves.level t + 1) x))
        (halves.is.half other g j x some there of_g (entry_index-few (halves.level t + 1) x) deeper))

  -- a new table takes the place of an entry, and the table's entries are the children of that entry
  module _ (rtt to : ℕ) (inside : is_inside m rtt ≡ true) (g_in : number_of m rtt < length m.granules) (free : (granule_at m (number_of m rtt)).state ≡ Delegated) (low : rtt < 2 ^ 48)
      (leaf : is_table (entry_at m (walk m realm ipa level) ipa) ≡ false) (few : (walk m realm ipa level).level ≤ 2) (next_level : to ≡ (walk m realm ipa level).level + 1) where
    abbrev g : ℕ
    g = number_of m rtt

    abbrev parent : RmmRttEntry
    parent = entry_at m (walk m realm ipa level) ipa

    abbrev content : List ℕ
    content = children_page (entry_at m (walk m realm ipa level) ipa) to

    abbrev marked : Machine
    marked = with_granule m (number_of m rtt) (of_realm rd Rtt)

    abbrev made : Machine
    made = with_page (with_granule m (number_of m rtt) (of_realm rd Rtt)) (number_of m rtt) content

    abbrev deep : ℕ → ℕ
    deep h = if h == number_of m rtt then halves.level t + 1 else halves.level h

    abbrev seat : ℕ → ℕ
    seat h = if h == number_of m rtt then halves.place t * 512 + i else halves.place h

    at_g : (deep g ≡ halves.level t + 1) × (seat g ≡ halves.place t * 512 + i)
    at_g = (cond-true (g == g) _ _ (eq-eqb g g refl), cond-true (g == g) _ _ (eq-eqb g g refl))

    at_other : (h : ℕ) → h ≢ g → (deep h ≡ halves.level h) × (seat h ≡ halves.place h)
    at_other h ne = (cond-false (h == g) _ _ (ne_eqb h g ne), cond-false (h == g) _ _ (ne_eqb h g ne))

    -- a granule that was a table before is not the granule of the new table
    old_table : (h : ℕ) → (granule_at m h).state ≡ Rtt → h ≢ g
    old_table h table same =
        let states : (granule_at m h).state ≡ (granule_at m (number_of m rtt)).state = ap (λ (k : ℕ). (granule_at m k).state) same in
        cc

    now : granule_at made g ≡ of_realm rd Rtt
    now = granule_at-same m g (of_realm rd Rtt) g_in

    content_now : page_in made g ≡ content
    content_now = let pages = linked.sound.pages in page_in-same marked g content (omega arith)

    kept : (h : ℕ) → h ≢ g → (granule_at made h ≡ granule_at m h) × (page_in made h ≡ page_in m h)
    kept h ne = (granule_at-other m g h (of_realm rd Rtt) ne, page_in-other marked g h content ne)

    same_count : length made.granules ≡ length m.granules
    same_count = length-set m.granules g (of_realm rd Rtt)

    old_realm : (x : ℕ) (some : RmmRealm) → (granule_at made x).state ≡ Rd some → (granule_at m x).state ≡ Rd some
    old_realm x some there =
        ⊎_elim
        (λ (here : x ≡ g). absurd (no_rtt some (sym there ∙ ap (λ (h : ℕ). (granule_at made h).state) here ∙ ap (λ (r : RmmGranule). r.state) now)))
        (λ (ne : x ≢ g). sym (ap (λ (r : RmmGranule). r.state) (kept x ne).0) ∙ there)
        (cases_eq x g)

    start_made : (x k : ℕ) (some : RmmRealm) → (granule_at made x).state ≡ Rd some → k < some.table_count → (deep (some.first_table + k) ≡ some.start_level) × (seat (some.first_table + k) ≡ k)
    start_made x k some there lt =
        let was = old_realm x some there in
        let same = at_other (some.first_table + k) (old_table (some.first_table + k) (ap (λ (r : RmmGranule). r.state) (start_table m linked x k some was lt))) in
        let before = halves.is.start x k some was lt in
        (same.0 ∙ before.0, same.1 ∙ before.1)

    below_made : (table j child : ℕ) → (granule_at made table).state ≡ Rtt → j < 512 → table_below made (entry_in_page (page_in made table) j) ≡ Some child → (deep child ≡ deep table + 1) × (seat child ≡ seat table * 512 + j)
    below_made table j child there lt leads =
        ⊎_elim
        (λ (here : table ≡ g).
        let entry : entry_in_page (page_in made table) j ≡ entry_in_page content j = ap (λ (h : ℕ). entry_in_page (page_in made h) j) here ∙ ap (λ (p : List ℕ). entry_in_page p j) content_now in
        let none = ap (table_below made) entry ∙ none_below made (entry_in_page content j) parent (children_kind parent to j lt) leaf in
        absurd (cc))
        (λ (ne : table ≢ g).
        let same = kept table ne in
        let was : (granule_at m table).state ≡ Rtt = sym (ap (λ (r : RmmGranule). r.state) same.0) ∙ there in
        let leads_before : table_below m (entry_in_page (page_in m table) j) ≡ Some child =
        sym (below_same m made refl same_count (entry_in_page (page_in made table) j) ∙ ap (λ (p : List ℕ). table_below m (entry_in_page p j)) same.1) ∙ leads in
        let before = halves.is.below table j child was lt leads_before in
        let child_at = at_other child (old_table child (child_table m linked table j child was lt leads_before)) in
        let at = at_other table ne in
        (child_at.0 ∙ before.0 ∙ ap (λ (l : ℕ). l + 1) (sym at.0), child_at.1 ∙ before.1 ∙ ap (λ (p : ℕ). p * 512 + j) (sym at.1)))
        (cases_eq table g)

    half_made : (other table j x : ℕ) (some : RmmRealm) → (granule_at made other).state ≡ Rd some → granule_at made table ≡ of_realm other Rtt → j < 512 → x / entry_size (deep table) ≡ seat table * 512 + j
        → IsOfHalf some x (entry_in_page (page_in made table) j)
    unfolding entry_at
    half_made other table j x some there owned lt covers =
        let was = old_realm other some there in
        ⊎_elim
        (λ (here : table ≡ g).
        let walked = walk_seat m linked halves rd ipa realm is within level in
        let depth = walked.depth in
        let entry : entry_in_page (page_in made table) j ≡ entry_in_page content j = ap (λ (h : ℕ). entry_in_page (page_in made h) j) here ∙ ap (λ (p : List ℕ). entry_in_page p j) content_now in
        let owner : other ≡ rd = some_same (ap (λ (r : RmmGranule). r.owner) (sym owned ∙ ap (granule_at made) here ∙ now)) in
        let table_owned : granule_at m t ≡ of_realm other Rtt = walked.is.table ∙ ap (λ (r : ℕ). of_realm r Rtt) (sym owner) in
        let deeper : x / entry_size (halves.level t + 1) ≡ (halves.place t * 512 + i) * 512 + j =
        ap (λ (l : ℕ). x / entry_size l) (sym (ap deep here ∙ at_g.0)) ∙ covers ∙ ap (λ (p : ℕ). p * 512 + j) (ap seat here ∙ at_g.1) in
        let higher = above (halves.level t) x (omega arith) in
        let covered : x / entry_size (halves.level t) ≡ halves.place t * 512 + i = omega arith in
        subst (IsOfHalf some x) (sym entry)
        (half_alike some x parent (entry_in_page content j) (sym (children_kind parent to j lt)) (halves.is.half other t i x some was table_owned index covered)))
        (λ (ne : table ≢ g).
        let same = kept table ne in
        let at = at_other table ne in
        subst (λ (p : List ℕ). IsOfHalf some x (entry_in_page p j)) (sym same.1)
        (halves.is.half other table j x some was (sym same.0 ∙ owned) lt (ap (λ (l : ℕ). x / entry_size l) (sym at.0) ∙ covers ∙ ap (λ (p : ℕ). p * 512 + j) at.1)))
        (cases_eq table g)

    block_made : (table j : ℕ) → (granule_at made table).state ≡ Rtt → j < 512 → IsPlaced m.settings (deep table) (entry_in_page (page_in made table) j)
    unfolding entry_at entry_in_page
    block_made table j there lt =
        ⊎_elim
        (λ (here : table ≡ g).
        let entry : entry_in_page (page_in made table) j ≡ entry_in_page content j = ap (λ (h : ℕ). entry_in_page (page_in made h) j) here ∙ ap (λ (p : List ℕ). entry_in_page p j) content_now in
        let depth = (walk_seat m linked halves rd ipa realm is within level).depth in
        let same : to ≡ halves.level t + 1 = next_level ∙ ap (λ (l : ℕ). l + 1) (sym depth) in
        let child = placed_child m.settings (halves.level t) j parent (omega arith) (halves.is.block t i table_is index) in
        let read : entry_in_page content j ≡ entry_of (entry_word (child_entry parent (halves.level t + 1) j)) =
        ap entry_of (children_word parent to j lt) ∙ ap (λ (l : ℕ). entry_of (entry_word (child_entry parent l j))) same in
        subst (IsPlaced m.settings (deep table)) (sym (entry ∙ read)) (subst (λ (l : ℕ). IsPlaced m.settings l (entry_of (entry_word (child_entry parent (halves.level t + 1) j)))) (sym (ap deep here ∙ at_g.0)) child))
        (λ (ne : table ≢ g).
        let same = kept table ne in
        subst (λ (l : ℕ). IsPlaced m.settings l (entry_in_page (page_in made table) j)) (sym (at_other table ne).0)
        (subst (λ (p : List ℕ). IsPlaced m.settings (halves.level table) (entry_in_page p j)) (sym same.1) (halves.is.block table j (sym (ap (λ (r : RmmGranule). r.state) same.0) ∙ there) lt)))
        (cases_eq table g)

    made_is : IsHalved made deep seat
    made_is = record { wide = λ x some there. halves.is.wide x some (old_realm x some there); start = start_made; below = below_made; half = half_made; block = block_made }

    pub made_halves : HasHalves (with_page (with_granule m (number_of m rtt) (of_realm rd Rtt)) (number_of m rtt) (children_page (entry_at m (walk m realm ipa level) ipa) to))
    made_halves = record { level = deep; place = seat; is = made_is }

    not_g : t ≢ g
    not_g = old_table t table_is

    table_fits : Fits made deep seat t i (entry_of (entry_word (Table rtt)))
    table_fits =
        let at = at_other t not_g in
        let same = kept t not_g in (
          λ other x some there owned covers. half_alike some x (Table rtt) (entry_of (entry_word (Table rtt))) (sym (word_kind (Table rtt)))
              (at_seat m linked halves rd ipa realm is within level (Table rtt) (λ y covered. in_space m linked halves rd ipa realm is within level y covered) other x some (old_realm other some there)
              (sym same.0 ∙ owned) (ap (λ (l : ℕ). x / entry_size l) (sym at.0) ∙ covers ∙ ap (λ (p : ℕ). p * 512 + i) at.1)),
          λ child leads.
              let named : Some g ≡ Some child =
              sym (below_same m made refl same_count (Table rtt) ∙ named_inside m rtt inside) ∙ sym (ap (table_below made) (entry_of-entry_word (Table rtt) low)) ∙ leads in
              let it : g ≡ child = some_same named in (
                ap deep (sym it) ∙ at_g.0 ∙ ap (λ (l : ℕ). l + 1) (sym at.0),
                ap seat (sym it) ∙ at_g.1 ∙ ap (λ (p : ℕ). p * 512 + i) (sym at.1),
              ),
          placed_word m.settings (deep t) (Table rtt) low (placed_none m.settings (deep t) (Table rtt) refl),
        )

    pub table_halves : HasHalves (with_entry (with_page (with_granule m (number_of m rtt) (of_realm rd Rtt)) (number_of m rtt) (children_page (entry_at m (walk m realm ipa level) ipa) to)) (walk m realm ipa level) ipa (Table rtt))
    table_halves =
        let same = kept t not_g in
        let count = length-set m.pages g content in
        let lt = has_page in
        entry_halved made t i (Table rtt) (omega arith) (ap (length {A = ℕ}) same.1 ∙ whole) index (ap (λ (r : RmmGranule). r.state) same.0 ∙ table_is) (record { level = deep; place = seat; is = made_is }) table_fits
