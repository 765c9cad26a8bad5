-- A proof that RMI_REC_DESTROY keeps the invariant `IsProper` on roles and owners of granules.
use Rattle.std.proofs.Common.{◌≡◌, ◌≢◌, ℕ, ◌+◌, ◌-◌, ◌<◌, ◌⊎◌, inl, inr, ◌==◌, ◌&&◌, Bool, true, false, length, Option, Some, None, option_map, unwrap_or, refl, sym, ap, subst, ◌∙◌, ⊎_elim, arith}
use Rattle.std.specs.Prelude.{nat_lt, is_some, cond, IfSome}
use Rattle.std.specs.List.{count_by}
use Rattle.std.proofs.lemmas.Bool.{cases_eq, cond-true, and_left, and_from, eq-eqb, ne_eqb, lt-ltb, both_ways}
use Rattle.std.proofs.lemmas.List.{length-set}
use Rattle.granule_addr.specs.Page.{zero_page}
use Rattle.page_arena.specs.Pages.{length-page_of}
use Rattle.rmm_model.specs.declared.granule.RmmGranule.{RmmGranule}
use Rattle.rmm_model.specs.declared.granule.RmmGranuleState.{RmmGranuleState}
use Rattle.rmm_model.specs.declared.granule.RmmGranuleState.TheVariants.{Delegated, Rd, Rec as IsRec, RecAux, Rtt}
use Rattle.rmm_model.specs.declared.realm.RmmRealm.{RmmRealm}
use Rattle.rmm_model.specs.declared.rec.RmmRec.{RmmRec}
use Rattle.rmm_model.specs.Granule.{of_no_realm, realm_of, rec_of}
use Rattle.rmm_model.specs.Machine.{Machine, granule_at, page_in, number_of, state_at, with_granule, with_blank}
use Rattle.rmm_model.specs.Realm.{IsServed, no_realm}
use Rattle.rmm_model.specs.Rec.{aux_of}
use Rattle.rmm_model.specs.Walk.{granule_named}
use Rattle.rmm_model.specs.Command.Auxiliary.{aux_granule, with_aux}
use Rattle.rmm_model.specs.Command.Operand.{rec_at}
use Rattle.rmm_model.specs.Command.RecDestroy.{rec_destroy, with_one_less, without_rec_of, without_rec}
use Rattle.rmm_laws.specs.Apart.{realm_of_rec}
use Rattle.rmm_laws.specs.Back.{IsBeside}
use Rattle.rmm_laws.specs.Half.{HasHalves}
use Rattle.rmm_laws.specs.Owner.{is_rd, is_owner, IsOrderly, IsOrderlyAt, is_rec_in}
use Rattle.rmm_laws.specs.Proper.{IsProper}
use Rattle.rmm_laws.specs.Role.{Used, used, state_uses, uses, IsSound, IsLinked}
use Rattle.rmm_laws.specs.State.{fixed}
use Rattle.rmm_laws.proofs.Halves.{has_space, kept_or_plain, same_space}
use Rattle.rmm_laws.proofs.Orders.{owner_is, rd_is, rd_of, is_counter, counted, total-set, total-alike, orderly_same, orderly_but}
use Rattle.rmm_laws.proofs.Passed.{Passed, some_same, rec_of-some, rec_named-is}
use Rattle.rmm_laws.proofs.RecLives.{IsRecMade, rec_gone}
use Rattle.rmm_laws.proofs.Recs.{keep_realm}
use Rattle.rmm_laws.proofs.SameTables.{KeepsSome, KeepsTables, some_granule, some_both, some_wiped}
use Rattle.rmm_laws.proofs.Touching.{Touches, mine_before, touch_blank, touch_granule, untouched}
use Rattle.rmm_laws.proofs.Walks.{right, one_place}
use Rattle.rmm_laws.proofs.Wiping.{first_named, IsWiped, all_wiped, all_total, touch_wiped}
use Rattle.rmm_laws.proofs.Writes.{named-same, granule_at-same, granule_at-other, page_in-same, page_in-other, taken_inside, sound-with_granule, sound-with_page}

module _ (m : Machine) (g aux : ℕ) (proper : IsLinked m) (old : RmmRec) (is_old : (granule_at m g).state ≡ IsRec old) (aux_is : m.settings.aux ≡ aux) where
  abbrev owner : Option ℕ
  owner = (granule_at m g).owner

  abbrev called : ℕ → Option ℕ
  called i = granule_named m (aux_of (page_in m g) i)

  gives : (i h : ℕ) → i < aux → called i ≡ Some h → uses m proper.level g i 0 ≡ Some (used RecAux owner 0 h)
  unfolding uses
  gives i h lt is =
      ap (λ (s : RmmGranuleState). state_uses m s owner (proper.level g) (page_in m g) g i 0) is_old
      ∙ cond-true _ _ _ (and_from (nat_lt i m.settings.aux) (0 == 0) (lt-ltb i m.settings.aux (subst (λ (n : ℕ). i < n) (sym aux_is) lt)) refl)
      ∙ ap (option_map (used RecAux owner 0)) is

  aux_there : (i h : ℕ) → i < aux → called i ≡ Some h → granule_at m h ≡ record { state = RecAux; owner = owner }
  aux_there i h lt is = sym (ap (λ (u : Used). u.attributes) (right m proper g i 0 (used RecAux owner 0 h) (gives i h lt is)))

  not_self : (i : ℕ) → i < aux → called i ≢ Some g
  not_self i lt is =
      let s : (granule_at m g).state ≡ RecAux = ap (λ (r : RmmGranule). r.state) (aux_there i g lt is) in
      let r = is_old in
      cc

  abbrev cleared : Machine
  cleared = with_aux m g (of_no_realm Delegated) aux

  abbrev gone : Machine
  gone = with_blank cleared g Delegated

  clean : IsWiped m g (of_no_realm Delegated) (λ n. tt) aux cleared
  clean = all_wiped m g (of_no_realm Delegated) (λ n. tt) aux proper.sound not_self

  g_there : g < length cleared.granules
  g_there = let c = clean.count in let r = is_old in let i = taken_inside m g (λ free. cc) in omega arith

  lower : (i : ℕ) → i < m.settings.aux → i < aux
  lower i lt = subst (λ (n : ℕ). i < n) aux_is lt

  was_made : IsRecMade gone m owner g
  was_made = record {
    settings = sym clean.settings;
    count = sym (length-set cleared.granules g (of_no_realm Delegated) ∙ clean.count);
    rec = old;
    free = ap (λ (r : RmmGranule). r.state) (granule_at-same cleared g (of_no_realm Delegated) g_there);
    made = ap (λ (s : RmmGranuleState). record { state = s; owner = owner }) is_old;
    aux_free = λ i h lt is.
        let apart : h ≢ g = λ same. not_self i (lower i lt) (is ∙ ap (λ (x : ℕ). Some x) same) in
        ap (λ (r : RmmGranule). r.state) (granule_at-other cleared g h (of_no_realm Delegated) apart ∙ clean.hit i h (lower i lt) is);
    aux_made = λ i h lt is. aux_there i h (lower i lt) is;
    apart = λ i j h lt also is at. (one_place m proper g i 0 g j 0 (used RecAux owner 0 h) (used RecAux owner 0 h) (gives i h (lower i lt) is) (gives j h (lower j also) at) refl).1;
    beside = λ h ne none.
        let same = clean.other h (λ i lt. none i (subst (λ (n : ℕ). i < n) (sym aux_is) lt)) in (
          sym (granule_at-other cleared g h (of_no_realm Delegated) ne ∙ same.0),
          sym (page_in-other (with_granule cleared g (of_no_realm Delegated)) g h zero_page ne ∙ same.1),
        );
  }

  gone_sound : IsSound gone
  gone_sound = sound-with_page (with_granule cleared g (of_no_realm Delegated)) g zero_page (length-page_of 0) (sound-with_granule cleared g (of_no_realm Delegated) g_there tt clean.sound)

  destroyed : IsLinked gone
  destroyed = rec_gone gone m proper owner g was_made gone_sound

  -- once the REC and its auxiliary granules are wiped, the REC's granule is DELEGATED and zero
  rec_gone_is : (granule_at gone g ≡ of_no_realm Delegated) × (page_in gone g ≡ zero_page)
  rec_gone_is =
      let pages = clean.sound.pages in
      let within = g_there in
      (granule_at-same cleared g (of_no_realm Delegated) g_there, page_in-same (with_granule cleared g (of_no_realm Delegated)) g zero_page (omega arith))

  -- once the REC and its auxiliary granules are wiped, each auxiliary granule is DELEGATED and zero
  aux_gone : (i h : ℕ) → i < aux → called i ≡ Some h → (granule_at gone h ≡ of_no_realm Delegated) × (page_in gone h ≡ zero_page)
  aux_gone i h lt is =
      let apart : h ≢ g = λ same. not_self i lt (is ∙ ap (λ (x : ℕ). Some x) same) in (
        granule_at-other cleared g h (of_no_realm Delegated) apart ∙ clean.hit i h lt is,
        page_in-other (with_granule cleared g (of_no_realm Delegated)) g h zero_page apart ∙ clean.blank i h lt is,
      )

  pub beside_gone : (h : ℕ) → h ≢ g → ((i : ℕ) → i < aux → called i ≢ Some h) → (granule_at gone h ≡ granule_at m h) × (page_in gone h ≡ page_in m h)
  beside_gone h ne none =
      let same = clean.other h none in (
        granule_at-other cleared g h (of_no_realm Delegated) ne ∙ same.0,
        page_in-other (with_granule cleared g (of_no_realm Delegated)) g h zero_page ne ∙ same.1,
      )

  gone_count : length gone.granules ≡ length m.granules
  gone_count = length-set cleared.granules g (of_no_realm Delegated) ∙ clean.count

  -- an RD is neither the REC nor one of its auxiliary granules
  pub rd_apart : (h : ℕ) → is_rd (granule_at m h).state ≡ true → (h ≢ g) × ((i : ℕ) → i < aux → called i ≢ Some h)
  rd_apart h sure = (
    λ same. both_ways (is_rd (granule_at m h).state) (ap (λ (x : ℕ). is_rd (granule_at m x).state) same ∙ ap is_rd is_old) sure,
    λ i lt is. both_ways (is_rd (granule_at m h).state) (ap (λ (r : RmmGranule). is_rd r.state) (aux_there i h lt is)) sure,
  )

  pub orderly_gone : ((h : ℕ) → IsOrderlyAt m h) → (h : ℕ) → IsOrderlyAt gone h
  orderly_gone before h =
      ⊎_elim
      (λ (here : h ≡ g).
      subst (λ (x : ℕ). IsOrderlyAt gone x) (sym here) (subst (λ (r : RmmGranule). IsOrderly gone r.state r.owner (page_in gone g)) (sym rec_gone_is.0) (refl, rec_gone_is.1)))
      (λ (ne : h ≢ g). ⊎_elim
      (λ (it : (i : ℕ) × (i < aux) × (called i ≡ Some h)).
      let free = aux_gone it.0 h it.1 it.2 in
      subst (λ (r : RmmGranule). IsOrderly gone r.state r.owner (page_in gone h)) (sym free.0) (refl, free.1))
      (λ (none : (i : ℕ) → i < aux → called i ≢ Some h).
      let same = beside_gone h ne none in
      orderly_same m gone clean.settings gone_count h same.0 same.1
      (λ x owns sure. let apart = rd_apart x sure in ap (λ (r : RmmGranule). is_rd r.state) (beside_gone x apart.0 apart.1).0 ∙ sure) (before h))
      (first_named called h aux))
      (cases_eq h g)

  pub halves_gone : HasHalves m → HasHalves gone
  halves_gone =
      kept_or_plain m gone clean.settings gone_count (λ h.
      ⊎_elim
      (λ (here : h ≡ g). inr (ap (λ (x : ℕ). has_space (granule_at gone x).state) here ∙ ap (λ (r : RmmGranule). has_space r.state) rec_gone_is.0))
      (λ (ne : h ≢ g). ⊎_elim
      (λ (it : (i : ℕ) × (i < aux) × (called i ≡ Some h)). inr (ap (λ (r : RmmGranule). has_space r.state) (aux_gone it.0 h it.1 it.2).0))
      (λ (none : (i : ℕ) → i < aux → called i ≢ Some h). inl (beside_gone h ne none))
      (first_named called h aux))
      (cases_eq h g))

  -- each RD after the REC and its auxiliary granules are wiped was the RD of the same realm before
  pub rd_before : (x : ℕ) (realm : RmmRealm) → (granule_at gone x).state ≡ Rd realm → (granule_at m x).state ≡ Rd realm
  rd_before x realm is =
      let ne : x ≢ g = λ same. (let free : (granule_at gone x).state ≡ Delegated = ap (λ (y : ℕ). (granule_at gone y).state) same ∙ ap (λ (r : RmmGranule). r.state) rec_gone_is.0 in cc) in
      let none : (i : ℕ) → i < aux → called i ≢ Some x = λ i lt at. (let free : (granule_at gone x).state ≡ Delegated = ap (λ (r : RmmGranule). r.state) (aux_gone i x lt at).0 in cc) in
      sym (ap (λ (r : RmmGranule). r.state) (beside_gone x ne none).0) ∙ is

  -- wiping the REC lowers the count of RECs by one for the realm of its owner, and leaves the counts of other realms
  -- unchanged
  pub gone_total : (w x : ℕ) → (granule_at m g).owner ≡ Some w → count_by (is_rec_in x) gone.granules + cond (w == x) 1 0 ≡ count_by (is_rec_in x) m.granules
  gone_total w x owned =
      let still = (clean.other g (λ i lt. not_self i lt)).0 in
      let rec_is : is_rec_in x (granule_at cleared g) ≡ (w == x) =
      ap (is_rec_in x) still ∙ ap (λ (s : RmmGranuleState). is_some (rec_of s) && is_owner x (granule_at m g).owner) is_old ∙ ap (is_owner x) owned in
      let plus : (n : ℕ) → n + 0 ≡ n = λ n. omega arith in
      ap (λ (b : Bool). count_by (is_rec_in x) gone.granules + cond b 1 0) (sym rec_is)
      ∙ total-set cleared g (of_no_realm Delegated) x g_there
      ∙ plus (count_by (is_rec_in x) cleared.granules)
      ∙ all_total m g (of_no_realm Delegated) (λ n. tt) refl proper.sound x aux not_self (λ i h lt is. ap (λ (r : RmmGranule). is_counter r.state) (aux_there i h lt is))

less_one : (before after : ℕ) → before ≡ after + 1 → before - 1 ≡ after
less_one before after is = omega arith

-- ---- with one REC less

-- the attributes that the realm of an RD keeps from its creation on
abbrev pub fixed_of : RmmGranuleState → RmmRealm
fixed_of s = fixed (unwrap_or (realm_of s) no_realm)

module _ (rec : ℕ) (m : Machine) (proper : IsProper m) (ok : Passed (rec_destroy rec m).checks) where
  abbrev here : ℕ
  here = number_of m rec

  rec_is : (granule_at m (number_of m rec)).state ≡ IsRec (rec_at m rec)
  unfolding rec_destroy
  rec_is = rec_of-some (state_at m rec) ok.1.1.0

  abbrev of_rec : (rd : ℕ) × ((granule_at m (number_of m rec)).owner ≡ Some rd) × (is_rd (granule_at m rd).state ≡ true)
  of_rec = owner_is m (granule_at m (number_of m rec)).owner (rd_of m (number_of m rec) proper.ordered (IsRec (rec_at m rec)) rec_is refl)

  abbrev w : ℕ
  w = of_rec.0

  abbrev of_rd : (realm : RmmRealm) × ((granule_at m of_rec.0).state ≡ Rd realm)
  of_rd = rd_is (granule_at m of_rec.0).state of_rec.2

  abbrev realm : RmmRealm
  realm = of_rd.0

  -- the machine in which the realm has one REC less
  abbrev less : Machine
  less = with_granule m w (of_no_realm (Rd (with_one_less realm)))

  less_is : without_rec m (granule_at m (number_of m rec)).owner ≡ less
  less_is = ap (without_rec m) of_rec.1 ∙ ap (λ (s : RmmGranuleState). without_rec_of m w (realm_of s)) of_rd.1

  w_in : w < length m.granules
  w_in = let s = of_rd.1 in taken_inside m w (λ free. cc)

  w_now : granule_at less w ≡ of_no_realm (Rd (with_one_less realm))
  w_now = granule_at-same m w (of_no_realm (Rd (with_one_less realm))) w_in

  less_linked : IsLinked less
  less_linked =
      let s : IsServed (length m.granules) realm = subst (λ (t : RmmGranuleState). IfSome (realm_of t) (IsServed (length m.granules))) of_rd.1 (proper.linked.sound.tables.each w) in
      keep_realm m w realm (with_one_less realm) proper.linked of_rd.1 refl refl refl (record { few = s.few; inside = s.inside; most = s.most; level = s.level; width = s.width; served = s.served })

  apart_w : here ≢ w
  apart_w same =
      let states : (granule_at m here).state ≡ (granule_at m w).state = ap (λ (x : ℕ). (granule_at m x).state) same in
      let r = rec_is in
      let s = of_rd.1 in
      cc

  still : granule_at less here ≡ granule_at m here
  still = granule_at-other m w here (of_no_realm (Rd (with_one_less realm))) apart_w

  still_rec : (granule_at less here).state ≡ IsRec (rec_at m rec)
  still_rec = ap (λ (r : RmmGranule). r.state) still ∙ rec_is

  still_owned : (granule_at less here).owner ≡ Some w
  still_owned = ap (λ (r : RmmGranule). r.owner) still ∙ of_rec.1

  less_orderly : (h : ℕ) → IsOrderlyAt less h
  less_orderly =
      orderly_but m less refl (length-set m.granules w (of_no_realm (Rd (with_one_less realm)))) w (λ h ne. (granule_at-other m w h (of_no_realm (Rd (with_one_less realm))) ne, refl))
      (λ sure. ap (λ (r : RmmGranule). is_rd r.state) w_now)
      (subst (λ (r : RmmGranule). IsOrderly less r.state r.owner (page_in less w)) (sym w_now) refl) proper.ordered.each

  less_total : (x : ℕ) → count_by (is_rec_in x) less.granules ≡ count_by (is_rec_in x) m.granules
  less_total x =
      total-alike m w (of_no_realm (Rd (with_one_less realm))) x w_in
      (sym (and_left (is_some (rec_of (granule_at m w).state)) (is_owner x (granule_at m w).owner) (ap (λ (s : RmmGranuleState). is_some (rec_of s)) of_rd.1)))

  abbrev after : Machine
  after = with_blank (with_aux less here (of_no_realm Delegated) m.settings.aux) here Delegated

  total_after : (x : ℕ) → count_by (is_rec_in x) after.granules + cond (w == x) 1 0 ≡ count_by (is_rec_in x) m.granules
  total_after x = gone_total less here m.settings.aux less_linked (rec_at m rec) still_rec refl w x still_owned ∙ less_total x

  recs_after : (x : ℕ) (other : RmmRealm) → (granule_at after x).state ≡ Rd other → other.rec_count ≡ count_by (is_rec_in x) after.granules
  recs_after x other is =
      let before = rd_before less here m.settings.aux less_linked (rec_at m rec) still_rec refl x other is in
      let total = total_after x in
      ⊎_elim
      (λ (at : x ≡ w).
      let both : Rd other ≡ Rd (with_one_less realm) = sym before ∙ ap (λ (y : ℕ). (granule_at less y).state) at ∙ ap (λ (r : RmmGranule). r.state) w_now in
      let counts : other.rec_count ≡ realm.rec_count - 1 = some_same (ap counted both) in
      let was : realm.rec_count ≡ count_by (is_rec_in x) m.granules = proper.ordered.recs w realm of_rd.1 ∙ ap (λ (y : ℕ). count_by (is_rec_in y) m.granules) (sym at) in
      let one : cond (w == x) 1 0 ≡ 1 = ap (λ (b : Bool). cond b 1 0) (eq-eqb w x (sym at)) in
      counts ∙ less_one realm.rec_count (count_by (is_rec_in x) after.granules) (was ∙ sym total ∙ ap (λ (n : ℕ). count_by (is_rec_in x) after.granules + n) one))
      (λ (ne : x ≢ w).
      let was : (granule_at m x).state ≡ Rd other = sym (ap (λ (r : RmmGranule). r.state) (granule_at-other m w x (of_no_realm (Rd (with_one_less realm))) ne)) ∙ before in
      let none : cond (w == x) 1 0 ≡ 0 = ap (λ (b : Bool). cond b 1 0) (ne_eqb w x (λ same. ne (sym same))) in
      let plus : (n : ℕ) → n + 0 ≡ n = λ n. omega arith in
      proper.ordered.recs x other was ∙ sym total ∙ ap (λ (n : ℕ). count_by (is_rec_in x) after.granules + n) none ∙ plus (count_by (is_rec_in x) after.granules))
      (cases_eq x w)

  after_proper : IsProper after
  after_proper = record {
    linked = destroyed less here m.settings.aux less_linked (rec_at m rec) still_rec refl;
    ordered = record {
      each = orderly_gone less here m.settings.aux less_linked (rec_at m rec) still_rec refl less_orderly;
      recs = recs_after;
      halves = halves_gone less here m.settings.aux less_linked (rec_at m rec) still_rec refl
          (same_space m w realm (with_one_less realm) w_in of_rd.1 (refl, refl, refl, refl) proper.ordered.halves);
    };
  }

  pub rec_destroyed : IsProper (rec_destroy rec m).machine
  unfolding rec_destroy
  rec_destroyed = subst (λ (k : Machine). IsProper (with_blank (with_aux k here (of_no_realm Delegated) m.settings.aux) here Delegated)) (sym less_is) after_proper

  -- RMI_REC_DESTROY changes only granules that belong to the REC's realm or are DELEGATED
  after_touches : Touches false m after (Some w)
  after_touches =
      let aux : ℕ = m.settings.aux in
      let first : Touches false m less (Some w) = touch_granule false m m (Some w) w (of_no_realm (Rd (with_one_less realm))) (untouched false m (Some w)) (inl (inl refl)) in
      touch_blank false m (with_aux less here (of_no_realm Delegated) aux) (Some w) here Delegated
      (touch_wiped false m less (Some w) here (of_no_realm Delegated) (λ n. tt) aux (with_aux less here (of_no_realm Delegated) aux) first (clean less here aux less_linked (rec_at m rec) still_rec refl)
      (λ i h lt is. mine_before false m less (Some w) h first (inl (inr (ap (λ (r : RmmGranule). r.owner) (aux_there less here aux less_linked (rec_at m rec) still_rec refl i h lt is) ∙ still_owned)))))
      (inl (inr of_rec.1))

  -- each granule keeps its contents and attributes, if its state is not that of an RD, a REC or an auxiliary granule
  after_some : (P : RmmGranuleState → Type 0) → ((r : RmmRealm) → P (Rd r) → ⊥) → ((r : RmmRec) → P (IsRec r) → ⊥) → (P RecAux → ⊥) → KeepsSome P m after
  after_some P no_rd no_rec no_aux =
      let aux : ℕ = m.settings.aux in
      let first : KeepsSome P m less = some_granule P m m w (of_no_realm (Rd (with_one_less realm))) (λ it. no_rd realm (subst P of_rd.1 it)) (λ x it. (refl, refl)) in
      some_both P m (with_aux less here (of_no_realm Delegated) aux) here (of_no_realm Delegated) zero_page (λ it. no_rec (rec_at m rec) (subst P rec_is it))
      (some_wiped P m less here (of_no_realm Delegated) (λ n. tt) aux (with_aux less here (of_no_realm Delegated) aux) first (clean less here aux less_linked (rec_at m rec) still_rec refl)
      (λ i h lt is it.
      let aux_is : (granule_at less h).state ≡ RecAux = ap (λ (r : RmmGranule). r.state) (aux_there less here aux less_linked (rec_at m rec) still_rec refl i h lt is) in
      let same : (granule_at less h).state ≡ (granule_at m h).state = ap (λ (r : RmmGranule). r.state) (first h it).0 in
      no_aux (subst P (sym same ∙ aux_is) it)))

  pub destroyed_some : (P : RmmGranuleState → Type 0) → ((r : RmmRealm) → P (Rd r) → ⊥) → ((r : RmmRec) → P (IsRec r) → ⊥) → (P RecAux → ⊥) → KeepsSome P m (rec_destroy rec m).machine
  unfolding rec_destroy
  destroyed_some P no_rd no_rec no_aux =
      subst (λ (k : Machine). KeepsSome P m (with_blank (with_aux k here (of_no_realm Delegated) m.settings.aux) here Delegated)) (sym less_is) (after_some P no_rd no_rec no_aux)

  pub destroyed_tables : KeepsTables m (rec_destroy rec m).machine
  destroyed_tables = destroyed_some (λ s. s ≡ Rtt) (λ r is. cc) (λ r is. cc) (λ is. cc)

  pub destroyed_touches : Touches false m (rec_destroy rec m).machine (realm_of_rec m rec)
  unfolding rec_destroy
  destroyed_touches =
      subst (λ (o : Option ℕ). Touches false m (rec_destroy rec m).machine o) (sym (rec_named-is m rec ok.0 ok.1.0 ok.1.1.0 ∙ of_rec.1))
      (subst (λ (k : Machine). Touches false m (with_blank (with_aux k here (of_no_realm Delegated) m.settings.aux) here Delegated) (Some w)) (sym less_is) after_touches)

  -- a granule is DELEGATED and zero
  abbrev IsBack : Machine → ℕ → Type 0
  IsBack n h = (granule_at n h ≡ of_no_realm Delegated) × (page_in n h ≡ zero_page)

  -- the REC and its auxiliary granules are DELEGATED and zero
  abbrev AllBack : Machine → Type 0
  AllBack n = IsBack n (number_of m rec) × ((k h : ℕ) → k < m.settings.aux → aux_granule m (number_of m rec) k ≡ Some h → IsBack n h)

  all_back : AllBack after
  all_back = (
    rec_gone_is less here m.settings.aux less_linked (rec_at m rec) still_rec refl,
    λ k h lt is.
        aux_gone less here m.settings.aux less_linked (rec_at m rec) still_rec refl k h lt
        (named-same m less refl (length-set m.granules w (of_no_realm (Rd (with_one_less realm)))) (aux_of (page_in m here) k) ∙ is),
  )

  pub destroyed_back : AllBack (rec_destroy rec m).machine
  unfolding rec_destroy
  destroyed_back = subst (λ (k : Machine). AllBack (with_blank (with_aux k here (of_no_realm Delegated) m.settings.aux) here Delegated)) (sym less_is) all_back

  -- each granule keeps its attributes, except the REC, its auxiliary granules and the RD
  abbrev OthersStay : Machine → Type 0
  OthersStay n = (h : ℕ) → IsBeside m (number_of m rec) h → granule_at n h ≡ granule_at m h

  others_stay : OthersStay after
  others_stay h beside =
      let apart : h ≢ w = λ same. beside.2 (of_rec.1 ∙ ap (λ (x : ℕ). Some x) (sym same)) in
      let count = length-set m.granules w (of_no_realm (Rd (with_one_less realm))) in
      (beside_gone less here m.settings.aux less_linked (rec_at m rec) still_rec refl h beside.0
      (λ k lt is. beside.1 k lt (sym (named-same m less refl count (aux_of (page_in m here) k)) ∙ is))).0
      ∙ granule_at-other m w h (of_no_realm (Rd (with_one_less realm))) apart

  pub destroyed_beside : OthersStay (rec_destroy rec m).machine
  unfolding rec_destroy
  destroyed_beside = subst (λ (k : Machine). OthersStay (with_blank (with_aux k here (of_no_realm Delegated) m.settings.aux) here Delegated)) (sym less_is) others_stay

  -- the realm of the destroyed REC is the realm of RD `w`
  destroyed_of : realm_of_rec m rec ≡ Some w
  unfolding rec_destroy
  destroyed_of = rec_named-is m rec ok.0 ok.1.0 ok.1.1.0 ∙ of_rec.1

  -- each granule is as it was, DELEGATED, or the RD of the realm
  abbrev AllChanged : Machine → Type 0
  AllChanged n = (n.settings ≡ m.settings) × (length n.granules ≡ length m.granules)
      × ((h : ℕ) → (granule_at n h ≡ granule_at m h) ⊎ (((is_rd (granule_at m h).state ≡ false) × (granule_at n h ≡ of_no_realm Delegated))
      ⊎ ((realm_of_rec m rec ≡ Some h) × (is_rd (granule_at n h).state ≡ true) × ((granule_at n h).owner ≡ None) × (fixed_of (granule_at n h).state ≡ fixed_of (granule_at m h).state))))

  all_changed : AllChanged after
  all_changed =
      let aux : ℕ = m.settings.aux in
      let count = length-set m.granules w (of_no_realm (Rd (with_one_less realm))) in
      let less_is_rd : is_rd (granule_at less w).state ≡ true = ap (λ (r : RmmGranule). is_rd r.state) w_now in
      let apart = rd_apart less here aux less_linked (rec_at m rec) still_rec refl w less_is_rd in
      let w_then : granule_at after w ≡ of_no_realm (Rd (with_one_less realm)) = (beside_gone less here aux less_linked (rec_at m rec) still_rec refl w apart.0 apart.1).0 ∙ w_now in (
        (clean less here aux less_linked (rec_at m rec) still_rec refl).settings,
        gone_count less here aux less_linked (rec_at m rec) still_rec refl ∙ count,
        λ h. ⊎_elim
            (λ (it : h ≡ w).
            inr (inr (
              destroyed_of ∙ ap (λ (x : ℕ). Some x) (sym it),
              ap (λ (x : ℕ). is_rd (granule_at after x).state) it ∙ ap (λ (r : RmmGranule). is_rd r.state) w_then,
              ap (λ (x : ℕ). (granule_at after x).owner) it ∙ ap (λ (r : RmmGranule). r.owner) w_then,
              subst (λ (x : ℕ). fixed_of (granule_at after x).state ≡ fixed_of (granule_at m x).state) (sym it) (ap (λ (r : RmmGranule). fixed_of r.state) w_then ∙ sym (ap fixed_of of_rd.1)),
            )))
            (λ (other : h ≢ w). ⊎_elim
            (λ (gone_here : h ≡ here).
            inr (inl (ap (λ (x : ℕ). is_rd (granule_at m x).state) gone_here ∙ ap is_rd rec_is, ap (granule_at after) gone_here ∙ all_back.0.0)))
            (λ (ne : h ≢ here). ⊎_elim
            (λ (it : (i : ℕ) × (i < aux) × (granule_named less (aux_of (page_in less here) i) ≡ Some h)).
            let was : granule_at m h ≡ record { state = RecAux; owner = (granule_at less here).owner } =
            sym (granule_at-other m w h (of_no_realm (Rd (with_one_less realm))) other) ∙ aux_there less here aux less_linked (rec_at m rec) still_rec refl it.0 h it.1 it.2 in
            inr (inl (ap (λ (r : RmmGranule). is_rd r.state) was, (aux_gone less here aux less_linked (rec_at m rec) still_rec refl it.0 h it.1 it.2).0)))
            (λ (none : (i : ℕ) → i < aux → granule_named less (aux_of (page_in less here) i) ≢ Some h).
            inl ((beside_gone less here aux less_linked (rec_at m rec) still_rec refl h ne none).0 ∙ granule_at-other m w h (of_no_realm (Rd (with_one_less realm))) other))
            (first_named (λ (i : ℕ). granule_named less (aux_of (page_in less here) i)) h aux))
            (cases_eq h here))
            (cases_eq h w),
      )

  pub destroyed_changed : AllChanged (rec_destroy rec m).machine
  unfolding rec_destroy
  destroyed_changed = subst (λ (k : Machine). AllChanged (with_blank (with_aux k here (of_no_realm Delegated) m.settings.aux) here Delegated)) (sym less_is) all_changed
