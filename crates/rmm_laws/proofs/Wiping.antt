-- Proofs that wiping a REC's auxiliary granules one after another zeroes them and gives them new attributes, and
-- changes no other granule.
use Rattle.std.proofs.Common.{◌≡◌, ◌≢◌, ℕ, zero, suc, ◌<◌, ◌⊎◌, inl, inr, Bool, true, false, List, length, Option, Some, None, unwrap_or, refl, sym, ap, subst, ◌∙◌, ⊎_elim, arith}
use Rattle.std.specs.Prelude.{is_some, if◌then◌else◌, IfSome}
use Rattle.std.specs.List.{count_by}
use Rattle.std.proofs.lemmas.Bool.{cases_eq}
use Rattle.std.proofs.lemmas.List.{length-set}
use Rattle.granule_addr.specs.Page.{zero_page}
use Rattle.page_arena.specs.Pages.{length-page_of}
use Rattle.rmm_model.specs.declared.granule.RmmGranule.{RmmGranule}
use Rattle.rmm_model.specs.Granule.{realm_of}
use Rattle.rmm_model.specs.Machine.{Machine, granule_at, page_in, number_of, with_granule, with_page}
use Rattle.rmm_model.specs.Realm.{IsServed}
use Rattle.rmm_model.specs.Rec.{aux_of}
use Rattle.rmm_model.specs.Walk.{granule_named}
use Rattle.rmm_model.specs.Command.Auxiliary.{with_wiped_if, aux_granule, with_aux}
use Rattle.rmm_laws.specs.Apart.{IsSameAt}
use Rattle.rmm_laws.specs.Owner.{is_rec_in}
use Rattle.rmm_laws.specs.Role.{Used, IsSound}
use Rattle.rmm_laws.proofs.Accesses.{named_number}
use Rattle.rmm_laws.proofs.Entries.{number_inside}
use Rattle.rmm_laws.proofs.Orders.{is_counter, plain_in, total-alike}
use Rattle.rmm_laws.proofs.Passed.{some_same}
use Rattle.rmm_laws.proofs.Touching.{Touches, IsMine}
use Rattle.rmm_laws.proofs.Writes.{granule_at-same, granule_at-other, page_in-same, page_in-other, named-same, sound-with_granule, sound-with_page}

pub some_of : (o : Option ℕ) → is_some o ≡ true → o ≡ Some (unwrap_or o 0)
some_of (Some h) is = refl
some_of None is = absurd (cc)

pub none_of : (o : Option ℕ) → is_some o ≡ false → o ≡ None
none_of (Some h) is = absurd (cc)
none_of None is = refl

pub either_same : (b : Bool) (o : Option Used) → (if b then o else o) ≡ o
either_same true o = refl
either_same false o = refl

pub is_or_not : (o : Option ℕ) (h : ℕ) → (o ≡ Some h) ⊎ (o ≢ Some h)
is_or_not (Some x) h = ⊎_elim (λ (same : x ≡ h). inl (ap (λ (y : ℕ). Some y) same)) (λ (other : x ≢ h). inr (λ is. other (some_same is))) (cases_eq x h)
is_or_not None h = inr (λ is. cc)

-- ---- numbers that are among the first of a list

-- one of the first `count` names is that of granule `h`, or none is
pub first_named : (named : ℕ → Option ℕ) (h count : ℕ) → ((i : ℕ) × (i < count) × (named i ≡ Some h)) ⊎ ((i : ℕ) → i < count → named i ≢ Some h)
first_named named h zero = inr (λ i lt is. omega arith)
first_named named h (suc count) =
    ⊎_elim
    (λ (is : named count ≡ Some h). inl (count, omega arith, is))
    (λ (not : named count ≢ Some h).
    ⊎_elim
    (λ (before : (i : ℕ) × (i < count) × (named i ≡ Some h)). let lt = before.1 in inl (before.0, omega arith, before.2))
    (λ (none : (i : ℕ) → i < count → named i ≢ Some h).
    inr (λ i lt is. ⊎_elim (λ (same : i ≡ count). not (sym (ap named same) ∙ is)) (λ (other : i ≢ count). none i (omega arith) is) (cases_eq i count)))
    (first_named named h count))
    (is_or_not (named count) h)

-- ---- granules that are wiped one after another

module _ (m : Machine) (g : ℕ) (kept : RmmGranule) (served : (n : ℕ) → IfSome (realm_of kept.state) (IsServed n)) where
  -- the granule that the page of REC `g` names as the auxiliary granule with a given number
  abbrev named : ℕ → Option ℕ
  named k = granule_named m (aux_of (page_in m g) k)

  -- for each number below `k`, the granule that `named` gives is zero with the attributes `kept`; all other granules
  -- are as they were
  pub record IsWiped (k : ℕ) (n : Machine) : Type 0 where
    pub settings : n.settings ≡ m.settings
    pub count : length n.granules ≡ length m.granules
    pub sound : IsSound n
    pub other : (x : ℕ) → ((i : ℕ) → i < k → named i ≢ Some x) → (granule_at n x ≡ granule_at m x) × (page_in n x ≡ page_in m x)
    pub hit : (i h : ℕ) → i < k → named i ≡ Some h → granule_at n h ≡ kept
    pub blank : (i h : ℕ) → i < k → named i ≡ Some h → page_in n h ≡ zero_page

  wiped_more : (k : ℕ) (n : Machine) (o : Option ℕ) → named k ≡ o → IsWiped k n → IsWiped (suc k) (with_wiped_if n o kept)
  wiped_more k n (Some h) is wiped =
      let count = wiped.count in
      let there = named_number m (aux_of (page_in m g) k) h is in
      let within = number_inside m (aux_of (page_in m g) k) there.0 in
      let same : h ≡ number_of m (aux_of (page_in m g) k) = there.1 in
      let inside : h < length n.granules = omega arith in
      let pages = wiped.sound.pages in
      let marked : Machine = with_granule n h kept in
      record {
        settings = wiped.settings;
        count = length-set n.granules h kept ∙ count;
        sound = sound-with_page marked h zero_page (length-page_of 0) (sound-with_granule n h kept inside (served (length n.granules)) wiped.sound);
        other = λ x none.
            let apart : x ≢ h = λ (at : x ≡ h). none k (omega arith) (is ∙ ap (λ (y : ℕ). Some y) (sym at)) in
            let rest = wiped.other x (λ i lt. none i (omega arith)) in
            (granule_at-other n h x kept apart ∙ rest.0, page_in-other marked h x zero_page apart ∙ rest.1);
        hit = λ i x lt at. ⊎_elim
            (λ (here : x ≡ h). ap (granule_at marked) here ∙ granule_at-same n h kept inside)
            (λ (apart : x ≢ h).
            let before : i ≢ k = λ last. apart (some_same (sym at ∙ ap named last ∙ is)) in
            granule_at-other n h x kept apart ∙ wiped.hit i x (omega arith) at)
            (cases_eq x h);
        blank = λ i x lt at. ⊎_elim
            (λ (here : x ≡ h). ap (page_in (with_page marked h zero_page)) here ∙ page_in-same marked h zero_page (omega arith))
            (λ (apart : x ≢ h).
            let before : i ≢ k = λ last. apart (some_same (sym at ∙ ap named last ∙ is)) in
            page_in-other marked h x zero_page apart ∙ wiped.blank i x (omega arith) at)
            (cases_eq x h);
      }
  wiped_more k n None is wiped = record {
    settings = wiped.settings;
    count = wiped.count;
    sound = wiped.sound;
    other = λ x none. wiped.other x (λ i lt. none i (omega arith));
    hit = λ i h lt at. ⊎_elim
        (λ (last : i ≡ k). let never : None ≡ Some h = sym is ∙ sym (ap named last) ∙ at in absurd (cc))
        (λ (before : i ≢ k). wiped.hit i h (omega arith) at)
        (cases_eq i k);
    blank = λ i h lt at. ⊎_elim
        (λ (last : i ≡ k). let never : None ≡ Some h = sym is ∙ sym (ap named last) ∙ at in absurd (cc))
        (λ (before : i ≢ k). wiped.blank i h (omega arith) at)
        (cases_eq i k);
  }

  -- once the auxiliary granules of the numbers below `k`, all other than `g`, are wiped, the page of `g` names the same
  -- granule for number `k` as before
  name_still : (k : ℕ) → IsSound m → ((i : ℕ) → i < k → named i ≢ Some g) → IsWiped k (with_aux m g kept k) → aux_granule (with_aux m g kept k) g k ≡ named k
  name_still k sound apart before =
      let n : Machine = with_aux m g kept k in
      let page = (before.other g apart).1 in
      named-same m n before.settings before.count (aux_of (page_in n g) k) ∙ ap (λ (p : List ℕ). granule_named m (aux_of p k)) page

  pub all_wiped : (k : ℕ) → IsSound m → ((i : ℕ) → i < k → named i ≢ Some g) → IsWiped k (with_aux m g kept k)
  unfolding with_aux
  all_wiped zero sound apart = record { settings = refl; count = refl; sound = sound; other = λ x none. (refl, refl); hit = λ i h lt at. absurd (omega arith); blank = λ i h lt at. absurd (omega arith) }
  all_wiped (suc k) sound apart =
      let n : Machine = with_aux m g kept k in
      let before = all_wiped k sound (λ i lt. apart i (omega arith)) in
      let same = name_still k sound (λ i lt. apart i (omega arith)) before in
      subst (λ (o : Option ℕ). IsWiped (suc k) (with_wiped_if n o kept)) (sym same) (wiped_more k n (named k) refl before)

  -- Wiping granules that are neither RDs nor RECs, before and after, does not change the number of a realm's RECs.
  module _ (plain : is_counter kept.state ≡ false) (sound : IsSound m) (rd : ℕ) where
    total_more : (k : ℕ) (o : Option ℕ) → named k ≡ o → ((i h : ℕ) → i < suc k → named i ≡ Some h → is_counter (granule_at m h).state ≡ false) → IsWiped k (with_aux m g kept k)
        → count_by (is_rec_in rd) (with_wiped_if (with_aux m g kept k) o kept).granules ≡ count_by (is_rec_in rd) (with_aux m g kept k).granules
    total_more k (Some h) is old before =
        let n : Machine = with_aux m g kept k in
        let there = named_number m (aux_of (page_in m g) k) h is in
        let within = number_inside m (aux_of (page_in m g) k) there.0 in
        let same : h ≡ number_of m (aux_of (page_in m g) k) = there.1 in
        let count = before.count in
        let was : is_counter (granule_at n h).state ≡ false =
        ⊎_elim
        (λ (aux : (i : ℕ) × (i < k) × (named i ≡ Some h)). ap (λ (r : RmmGranule). is_counter r.state) (before.hit aux.0 h aux.1 aux.2) ∙ plain)
        (λ (none : (i : ℕ) → i < k → named i ≢ Some h). ap (λ (r : RmmGranule). is_counter r.state) (before.other h none).0 ∙ old k h (omega arith) is)
        (first_named named h k) in
        total-alike n h kept rd (omega arith) (plain_in kept rd plain ∙ sym (plain_in (granule_at n h) rd was))
    total_more k None is old before = refl

    pub all_total : (k : ℕ) → ((i : ℕ) → i < k → named i ≢ Some g) → ((i h : ℕ) → i < k → named i ≡ Some h → is_counter (granule_at m h).state ≡ false)
        → count_by (is_rec_in rd) (with_aux m g kept k).granules ≡ count_by (is_rec_in rd) m.granules
    unfolding with_aux
    all_total zero apart old = refl
    all_total (suc k) apart old =
        let n : Machine = with_aux m g kept k in
        let before = all_wiped k sound (λ i lt. apart i (omega arith)) in
        let same = name_still k sound (λ i lt. apart i (omega arith)) before in
        subst (λ (o : Option ℕ). count_by (is_rec_in rd) (with_wiped_if n o kept).granules ≡ count_by (is_rec_in rd) n.granules) (sym same) (total_more k (named k) refl old before)
        ∙ all_total k (λ i lt. apart i (omega arith)) (λ i h lt. old i h (omega arith))

-- wiping granules that a call may touch keeps `Touches`
pub touch_wiped : (host : Bool) (o m : Machine) (named_realm : Option ℕ) (g : ℕ) (kept : RmmGranule) (served : (n : ℕ) → IfSome (realm_of kept.state) (IsServed n)) (k : ℕ) (n : Machine) → Touches host o m named_realm → IsWiped m g kept served k n
    → ((i h : ℕ) → i < k → granule_named m (aux_of (page_in m g) i) ≡ Some h → IsMine host o named_realm h) → Touches host o n named_realm
touch_wiped host o m named_realm g kept served k n before wiped mine = record {
  settings = wiped.settings ∙ before.settings;
  count = wiped.count ∙ before.count;
  each = λ x. ⊎_elim
      (λ (aux : (i : ℕ) × (i < k) × (granule_named m (aux_of (page_in m g) i) ≡ Some x)). inr (mine aux.0 x aux.1 aux.2))
      (λ (none : (i : ℕ) → i < k → granule_named m (aux_of (page_in m g) i) ≢ Some x).
      let same = wiped.other x none in
      ⊎_elim
      (λ (was : IsSameAt o m x). inl (same.0 ∙ was.0, same.1 ∙ was.1))
      (λ (own : IsMine host o named_realm x). inr own)
      (before.each x))
      (first_named (λ i. granule_named m (aux_of (page_in m g) i)) x k);
}
