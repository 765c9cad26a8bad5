-- Proofs that each granule keeps one role when a realm or a REC changes but still uses the same granules.
use Rattle.std.proofs.Common.{true, ◌≡◌, ◌≢◌, ℕ, ◌+◌, ◌*◌, ◌<◌, ◌≤◌, ◌⊎◌, inl, inr, ◌==◌, ◌&&◌, false, List, length, Option, Some, None, option_map, refl, sym, ap, subst, ◌∙◌, ⊎_elim, arith}
use Rattle.std.specs.Prelude.{nat_lt, if◌then◌else◌}
use Rattle.std.proofs.lemmas.Bool.{cases_lt, and_left, le-ltb, cond-false}
use Rattle.page_arena.specs.Word.{page_with_word}
use Rattle.page_arena.specs.Words.{word_of_page-page_with_word_other}
use Rattle.rmm_model.specs.declared.granule.RmmGranule.{RmmGranule}
use Rattle.rmm_model.specs.declared.granule.RmmGranuleState.{RmmGranuleState}
use Rattle.rmm_model.specs.declared.granule.RmmGranuleState.TheVariants.{Undelegated, Rd, Rec as IsRec, RecAux, Data, Rtt}
use Rattle.rmm_model.specs.declared.realm.RmmRealm.{RmmRealm}
use Rattle.rmm_model.specs.declared.realm.RmmRealmState.TheVariants.{SystemOff as IsSystemOff}
use Rattle.rmm_model.specs.declared.rec.RmmRec.{RmmRec}
use Rattle.rmm_model.specs.Granule.{of_no_realm}
use Rattle.rmm_model.specs.Machine.{Machine, granule_at, page_in, is_secure, with_granule, with_page, with_word}
use Rattle.rmm_model.specs.Realm.{IsServed}
use Rattle.rmm_model.specs.Rec.{aux_of}
use Rattle.rmm_model.specs.Table.{with_words_from}
use Rattle.rmm_model.specs.Walk.{granule_named}
use Rattle.rmm_model.specs.Command.PsciComplete.{with_rec}
use Rattle.rmm_laws.specs.Owner.{is_rd, IsOrdered}
use Rattle.rmm_laws.specs.Proper.{IsProper}
use Rattle.rmm_laws.specs.Role.{used, has_user, state_uses, IsLinked}
use Rattle.rmm_laws.specs.State.{HasRim, fixed}
use Rattle.rmm_laws.proofs.Keeping.{keep_page, keep_granule}
use Rattle.rmm_laws.proofs.Orders.{is_memory_state, ordered_realm, ordered_rec, ordered_rec_page, ordered_memory}
use Rattle.rmm_laws.proofs.PageWords.{length-page_with_word, length-with_words_from, word_of_page-with_words_from_other}
use Rattle.rmm_laws.proofs.Plain.{keep_plain_page}
use Rattle.rmm_laws.proofs.Lasting.{Lasts, lasts_all, lasts_plain, lasts_realm}
use Rattle.rmm_laws.proofs.Releasing.{Held, held_all, held_granule}
use Rattle.rmm_laws.proofs.States.{IsAsBefore, same_realm, write_back}
use Rattle.rmm_laws.proofs.RecOwners.{RecsStay, recs_all, recs_plain, recs_rec}
use Rattle.rmm_laws.proofs.SameTables.{KeepsTables, tables_all, tables_granule, tables_page}
use Rattle.rmm_laws.proofs.Touching.{Touches, IsMine, untouched, mine_before, touch_granule, touch_page}
use Rattle.rmm_laws.proofs.Writes.{is_user, granule_at-same, granule_at-other, page_in-other, taken_inside}

-- a granule whose state is DATA or UNDELEGATED uses no granule
pub memory_plain : (s : RmmGranuleState) → is_memory_state s ≡ true → is_user s ≡ false
memory_plain Data is = refl
memory_plain Undelegated is = refl
memory_plain _ is = absurd (cc)

-- ---- RDs

-- replacing an RD's realm by one with the same starting tables keeps `IsLinked`
pub keep_realm : (m : Machine) (rd : ℕ) (realm other : RmmRealm) → IsLinked m → (granule_at m rd).state ≡ Rd realm → other.table_count ≡ realm.table_count → other.first_table ≡ realm.first_table
    → other.start_level ≡ realm.start_level → IsServed (length m.granules) other → IsLinked (with_granule m rd (of_no_realm (Rd other)))
keep_realm m rd realm other proper is count first level served =
    keep_granule m rd (of_no_realm (Rd other)) proper (taken_inside m rd (λ free. cc)) (ap has_user is) refl
    (λ l page i part.
    ap (λ (n : ℕ). if nat_lt i n && part == 0 then Some (used Rtt (Some rd) other.start_level (other.first_table + i)) else None) count
    ∙ ap (λ (n : ℕ). if nat_lt i realm.table_count && part == 0 then Some (used Rtt (Some rd) n (other.first_table + i)) else None) level
    ∙ ap (λ (n : ℕ). if nat_lt i realm.table_count && part == 0 then Some (used Rtt (Some rd) realm.start_level (n + i)) else None) first
    ∙ sym (ap (λ (s : RmmGranuleState). state_uses m s (granule_at m rd).owner l page rd i part) is))
    served

-- ---- RECs

-- writing the attributes of a REC keeps `IsLinked`
pub keep_rec : (m : Machine) (g : ℕ) (old rec : RmmRec) → IsLinked m → (granule_at m g).state ≡ IsRec old → IsLinked (with_rec m g rec)
keep_rec m g old rec proper is =
    keep_granule m g (record (granule_at m g) { state = IsRec rec }) proper (taken_inside m g (λ free. cc)) (ap has_user is) refl
    (λ level page i part. sym (ap (λ (s : RmmGranuleState). state_uses m s (granule_at m g).owner level page g i part) is))
    tt

same_aux : (m : Machine) (rec : RmmRec) (owner : Option ℕ) (level : ℕ) (page other : List ℕ) (g i part : ℕ) → m.settings.aux ≤ 16
    → ((k : ℕ) → k < 16 → aux_of page k ≡ aux_of other k) → state_uses m (IsRec rec) owner level page g i part ≡ state_uses m (IsRec rec) owner level other g i part
same_aux m rec owner level page other g i part few same =
    ⊎_elim
    (λ (lt : i < m.settings.aux).
    ap (λ (a : ℕ). if nat_lt i m.settings.aux && part == 0 then option_map (used RecAux owner 0) (granule_named m a) else None) (same i (omega arith)))
    (λ (past : m.settings.aux ≤ i).
    let out = and_left (nat_lt i m.settings.aux) (part == 0) (le-ltb i m.settings.aux past) in
    cond-false (nat_lt i m.settings.aux && part == 0) (option_map (used RecAux owner 0) (granule_named m (aux_of page i))) None out
    ∙ sym (cond-false (nat_lt i m.settings.aux && part == 0) (option_map (used RecAux owner 0) (granule_named m (aux_of other i))) None out))
    (cases_lt i m.settings.aux)

-- writing the page of a REC keeps `IsLinked`, if the new page names the same auxiliary granules
pub keep_rec_page : (m : Machine) (g : ℕ) (rec : RmmRec) (page : List ℕ) → IsLinked m → (granule_at m g).state ≡ IsRec rec → length page ≡ 4096
    → ((k : ℕ) → k < 16 → aux_of page k ≡ aux_of (page_in m g) k) → IsLinked (with_page m g page)
keep_rec_page m g rec page proper is whole same =
    keep_page m g page proper (taken_inside m g (λ free. cc)) whole
    (λ owner level i part.
    ap (λ (s : RmmGranuleState). state_uses m s owner level page g i part) is
    ∙ same_aux m rec owner level page (page_in m g) g i part proper.sound.platform.aux same
    ∙ sym (ap (λ (s : RmmGranuleState). state_uses m s owner level (page_in m g) g i part) is))
    (λ table. absurd (cc))

-- a granule whose state is DATA or UNDELEGATED is no table
no_memory : (s : RmmGranuleState) → is_memory_state s ≡ true → s ≡ Rtt → ⊥
no_memory s memory table = let never : is_memory_state s ≡ false = ap is_memory_state table in cc

-- an UNDELEGATED granule keeps its attributes when a granule in another state is written
host_beside : (o m : Machine) (x : ℕ) (kept : RmmGranule) (h : ℕ) → (granule_at o h).state ≡ Undelegated → ((granule_at m x).state ≡ Undelegated → ⊥) → granule_at m h ≡ granule_at o h
    → granule_at (with_granule m x kept) h ≡ granule_at o h
host_beside o m x kept h free plain same =
    granule_at-other m x h kept (λ here. plain (ap (λ (y : ℕ). (granule_at m y).state) (sym here) ∙ ap (λ (r : RmmGranule). r.state) same ∙ free)) ∙ same

-- ---- machines in which a granule is a REC

-- a granule is UNDELEGATED, and of the secure world
abbrev pub IsSecureHost : Machine → ℕ → Type 0
IsSecureHost m h = ((granule_at m h).state ≡ Undelegated) × (is_secure m (m.settings.base + h * 4096) ≡ true)

-- Granule `g` is a REC of realm `w` in machine `m`, after writes since `o` that touched only granules of that realm or
-- of no realm. The writes keep the invariants `IsLinked` and `IsOrdered`, the VMIDs, and the tables. Each realm has its
-- old state and RIM, or is realm `w`, SYSTEM_OFF with its old RIM.
pub record IsGoing (o : Machine) (w : ℕ) (g : ℕ) (m : Machine) : Type 0 where
  pub proper : IsLinked m
  pub ordered : IsOrdered m
  pub rec : RmmRec
  pub is : (granule_at m g).state ≡ IsRec rec
  pub touches : Touches true o m (Some w)
  pub owned : (granule_at m g).owner ≡ Some w
  pub mine : IsMine true o (Some w) g
  pub vmids : m.vmids ≡ o.vmids
  pub held : Held o m
  pub lasts : Lasts o m
  pub tables : KeepsTables o m
  pub hosts : (h : ℕ) → (granule_at o h).state ≡ Undelegated → granule_at m h ≡ granule_at o h
  pub secure : (h : ℕ) → IsSecureHost o h → page_in m h ≡ page_in o h
  pub recs : RecsStay o m
  pub states : (rd : ℕ) (realm : RmmRealm) → (granule_at m rd).state ≡ Rd realm → IsAsBefore o rd realm ⊎ ((rd ≡ w) × (realm.state ≡ IsSystemOff) × HasRim o rd realm.rim)

-- `IsGoing` holds of a REC before any write
pub going_first : (g w : ℕ) (m : Machine) (rec : RmmRec) → IsProper m → (granule_at m g).state ≡ IsRec rec → (granule_at m g).owner ≡ Some w → IsGoing m w g m
going_first g w m rec proper is owned = record { proper = proper.linked; ordered = proper.ordered; rec = rec; is = is; touches = untouched true m (Some w); owned = owned; mine = inl (inr owned); vmids = refl; held = held_all m; lasts = lasts_all m; tables = tables_all m; hosts = λ h free. refl; secure = λ h it. refl; recs = recs_all m; states = λ rd realm at. inl (realm, at, refl, refl) }

module _ (o : Machine) (w : ℕ) where
  pub going_inside : (g : ℕ) (m : Machine) → IsGoing o w g m → g < length m.granules
  going_inside g m going = let is = going.is in taken_inside m g (λ free. cc)

  pub going_rec : (g : ℕ) (m : Machine) (rec : RmmRec) → IsGoing o w g m → IsGoing o w g (with_rec m g rec)
  going_rec g m rec going =
      let kept : RmmGranule = record (granule_at m g) { state = IsRec rec } in
      let now = granule_at-same m g kept (going_inside g m going) in
      record {
        proper = keep_rec m g going.rec rec going.proper going.is;
        ordered = ordered_rec m g going.rec rec (going_inside g m going) going.is going.ordered;
        rec = rec;
        is = ap (λ (r : RmmGranule). r.state) now;
        touches = touch_granule true o m (Some w) g kept going.touches going.mine;
        owned = ap (λ (r : RmmGranule). r.owner) now ∙ going.owned;
        mine = going.mine;
        vmids = going.vmids;
        held = held_granule o m g kept refl going.held;
        lasts = lasts_plain o m g kept (ap is_rd going.is) going.lasts;
        tables = tables_granule o m g kept (λ table. (let rec_is = going.is in cc)) going.tables;
        hosts = λ h free. host_beside o m g kept h free (λ host. (let rec_is = going.is in cc)) (going.hosts h free);
        secure = going.secure;
        recs = recs_rec o m g rec going.rec going.is going.recs;
        states = λ rd realm at. ⊎_elim
            (λ (written : (rd ≡ g) × (IsRec rec ≡ Rd realm)). (let never = written.1 in absurd (cc)))
            (λ (before : (granule_at m rd).state ≡ Rd realm). going.states rd realm before)
            (write_back m g rd kept realm at);
      }

  pub going_page : (g : ℕ) (m : Machine) (page : List ℕ) → IsGoing o w g m → length page ≡ 4096 → ((k : ℕ) → k < 16 → aux_of page k ≡ aux_of (page_in m g) k) → IsGoing o w g (with_page m g page)
  going_page g m page going whole same =
      let few = going.proper.sound.platform.aux in
      record {
        proper = keep_rec_page m g going.rec page going.proper going.is whole same;
        ordered = ordered_rec_page m g going.rec page going.is (λ k lt. same k (omega arith)) going.ordered;
        rec = going.rec;
        is = going.is;
        touches = touch_page true o m (Some w) g page going.touches going.mine;
        owned = going.owned;
        mine = going.mine;
        vmids = going.vmids;
        held = going.held;
        lasts = going.lasts;
        tables = tables_page o m g page (λ table. (let rec_is = going.is in cc)) going.tables;
        hosts = going.hosts;
        secure = λ h it.
            let free : (granule_at m h).state ≡ Undelegated = ap (λ (r : RmmGranule). r.state) (going.hosts h it.0) ∙ it.0 in
            let apart : h ≢ g = λ here. (
            let same : (granule_at m h).state ≡ (granule_at m g).state = ap (λ (y : ℕ). (granule_at m y).state) here in
            let rec_is = going.is in
            cc) in
            page_in-other m g h page apart ∙ going.secure h it;
        recs = going.recs;
        states = going.states;
      }

  -- `IsGoing` still holds after a write to a word of the REC's page that names no auxiliary granule
  pub going_word : (g : ℕ) (m : Machine) (i word : ℕ) → IsGoing o w g m → i < 512 → (i < 32) ⊎ (48 ≤ i) → IsGoing o w g (with_word m g i word)
  going_word g m i word going index beside =
      let whole = going.proper.sound.whole g (going_inside g m going) in
      going_page g m (page_with_word (page_in m g) i word) going (length-page_with_word (page_in m g) i word whole index)
      (λ k lt. word_of_page-page_with_word_other (page_in m g) i word whole index (32 + k) (λ same. ⊎_elim (λ (low : i < 32). omega arith) (λ (high : 48 ≤ i). omega arith) beside) (omega arith))

  pub going_words : (g : ℕ) (m : Machine) (first count : ℕ) (f : ℕ → ℕ) → IsGoing o w g m → first + count ≤ 512 → (first + count ≤ 32) ⊎ (48 ≤ first) → IsGoing o w g (with_page m g (with_words_from first count f (page_in m g)))
  going_words g m first count f going within beside =
      let whole = going.proper.sound.whole g (going_inside g m going) in
      going_page g m (with_words_from first count f (page_in m g)) going (length-with_words_from first f (page_in m g) whole count within)
      (λ k lt. word_of_page-with_words_from_other first f (page_in m g) whole count (32 + k) within (omega arith)
      (⊎_elim (λ (low : first + count ≤ 32). inr (omega arith)) (λ (high : 48 ≤ first). inl (omega arith)) beside))

  -- `IsGoing` still holds after the write of a page of memory that is the realm's, or the host's and outside the secure
  -- world
  pub going_plain : (g h : ℕ) (m : Machine) (page : List ℕ) → IsGoing o w g m → h < length m.granules → length page ≡ 4096 → is_memory_state (granule_at m h).state ≡ true → IsMine true m (Some w) h
      → (IsSecureHost o h → ⊥) → IsGoing o w g (with_page m h page)
  going_plain g h m page going inside whole memory mine normal = record {
    proper = keep_plain_page m h page going.proper inside whole (memory_plain (granule_at m h).state memory);
    ordered = ordered_memory m h page memory going.ordered;
    rec = going.rec;
    is = going.is;
    touches = touch_page true o m (Some w) h page going.touches (mine_before true o m (Some w) h going.touches mine);
    owned = going.owned;
    mine = going.mine;
    vmids = going.vmids;
    held = going.held;
    lasts = going.lasts;
    tables = tables_page o m h page (λ table. no_memory (granule_at m h).state memory table) going.tables;
    hosts = going.hosts;
    secure = λ x it. page_in-other m h x page (λ here. normal (subst (λ (y : ℕ). IsSecureHost o y) here it)) ∙ going.secure x it;
    recs = going.recs;
    states = going.states;
  }

  -- `IsGoing` still holds after the realm of the REC is switched off
  pub going_realm : (g rd : ℕ) (m : Machine) (realm other : RmmRealm) → IsGoing o w g m → rd ≡ w → (granule_at m rd).state ≡ Rd realm → other.table_count ≡ realm.table_count → other.first_table ≡ realm.first_table
      → other.start_level ≡ realm.start_level → other.rec_count ≡ realm.rec_count → other.s2sz ≡ realm.s2sz → other.state ≡ IsSystemOff → other.rim ≡ realm.rim → fixed other ≡ fixed realm → IsServed (length m.granules) other
      → IsGoing o w g (with_granule m rd (of_no_realm (Rd other)))
  going_realm g rd m realm other going named is count first level recs space off rim same served =
      let apart : g ≢ rd = λ same. (
      let states : (granule_at m g).state ≡ (granule_at m rd).state = ap (λ (k : ℕ). (granule_at m k).state) same in
      let rec_is = going.is in
      cc) in
      let still = granule_at-other m rd g (of_no_realm (Rd other)) apart in
      record {
        proper = keep_realm m rd realm other going.proper is count first level served;
        ordered = ordered_realm m rd realm other (taken_inside m rd (λ free. cc)) is recs (space, level, first, count) going.ordered;
        rec = going.rec;
        is = ap (λ (r : RmmGranule). r.state) still ∙ going.is;
        touches = touch_granule true o m (Some w) rd (of_no_realm (Rd other)) going.touches (inl (inl named));
        owned = ap (λ (r : RmmGranule). r.owner) still ∙ going.owned;
        mine = going.mine;
        vmids = going.vmids;
        held = held_granule o m rd (of_no_realm (Rd other)) refl going.held;
        lasts = lasts_realm o m rd realm other is same going.lasts;
        tables = tables_granule o m rd (of_no_realm (Rd other)) (λ table. cc) going.tables;
        hosts = λ h free. host_beside o m rd (of_no_realm (Rd other)) h free (λ host. cc) (going.hosts h free);
        secure = going.secure;
        recs = recs_plain o m rd (of_no_realm (Rd other)) refl going.recs;
        states = λ x new at. ⊎_elim
            (λ (written : (x ≡ rd) × (Rd other ≡ Rd new)).
            let it : other ≡ new = same_realm written.1 in
            let before : HasRim o rd realm.rim = ⊎_elim
            (λ (same : IsAsBefore o rd realm). (same.0, same.1, same.3))
            (λ (off_before : (rd ≡ w) × (realm.state ≡ IsSystemOff) × HasRim o rd realm.rim). off_before.2)
            (going.states rd realm is) in
            inr (
              written.0 ∙ named,
              ap (λ (r : RmmRealm). r.state) (sym it) ∙ off,
              (before.0, ap (λ (y : ℕ). (granule_at o y).state) written.0 ∙ before.1, before.2 ∙ sym rim ∙ ap (λ (r : RmmRealm). r.rim) it),
            ))
            (λ (before : (granule_at m x).state ≡ Rd new). going.states x new before)
            (write_back m rd x (of_no_realm (Rd other)) new at);
      }
