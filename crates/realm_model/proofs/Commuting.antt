-- The proof that adjacent events of different builds commute, unless the second takes what the first gives back.
use Rattle.std.proofs.Common.{◌≡◌, ◌≢◌, ℕ, true, false, cond, ◌||◌, inl, inr, Bool, List, [], ◌∷◌, ◌++◌, set, Option, Some, None, refl, sym, ap, ◌∙◌, subst}
use Rattle.std.specs.Prelude.{◌==◌, slice_get, option_and_then}
use Rattle.std.specs.List.{last_or, list_any}
use Rattle.std.proofs.lemmas.Bool.{cases_eq, eqb-true, eqb-false, eq-eqb}
use Rattle.std.proofs.lemmas.Option.{same_Some, option_and_then_some, slice_get_within}
use Rattle.std.proofs.lemmas.List.{append_assoc}
use Rattle.std.proofs.lemmas.List.Elements.{filter-append}
use Rattle.std.proofs.lemmas.List.Folds.{list_any-append}
use Rattle.realm_model.specs.declared.act.Act.{Act}
use Rattle.realm_model.specs.declared.act.Act.TheVariants.{Take, UnTake, Delegate, Realm, UnRealm, Rtt, Data, Unknown, Rec}
use Rattle.realm_model.specs.declared.act.Event.{Event}
use Rattle.realm_model.specs.Machine.{Limits}
use Rattle.realm_model.specs.Act.{block, named, is_paired, is_reverse, reverse_of}
use Rattle.realm_model.specs.World.{World}
use Rattle.realm_model.specs.Step.{step, used_vmids}
use Rattle.realm_model.specs.StepLaw.{set_each, leases_after}
use Rattle.realm_model.specs.History.{events_of, after, replay, open_entries, IsInTurn, IsLegal}
use Rattle.realm_model.specs.OpenRealm.{uses_vmid}
use Rattle.realm_model.specs.Undoing.{by}
use Rattle.realm_model.specs.Interleaving.{granules_taken, granules_given_back, vmids_taken, vmids_given_back, GivesTo, EventsCommute}
use Rattle.realm_model.specs.Command.Check.{is_in}
use Rattle.realm_model.proofs.Booleans.{or_parts, or_none, or_true, true_false, false_from, some_is}
use Rattle.realm_model.proofs.Lists.{slice_get_set_other, Contains-from_in, in_from_Contains}
use Rattle.realm_model.proofs.SetEach.{slice_get-set_each}
use Rattle.realm_model.proofs.Stack.{kind, paired as of_paired, back as of_back, other as of_other, pushed_paired, pushed_other}
use Rattle.realm_model.proofs.StepSays.{step_is}
use Rattle.realm_model.proofs.HiddenSteps.{without-own_step}
use Rattle.realm_model.proofs.Reached.{clean_reached}
use Rattle.realm_model.proofs.Reaching.{step_says_reached}
use Rattle.realm_model.proofs.Growth.{grows, Grows, takes_away, open_entries-own, open_entries-other}
use Rattle.realm_model.proofs.HistoryParts.{split}
use Rattle.realm_model.proofs.OpenVmids.{vmid_is_open}
use Rattle.realm_model.proofs.TakenAlone.{schedule_does_not_matter}
use Rattle.realm_model.proofs.GoesThere.{goes_there, vmid_unused, named_lease, was_free}

-- ---- granules that an event takes or gives back

set_elsewhere : {X : Type 0} (x : X) (places : List ℕ) (xs : List X) (g : ℕ) → is_in g places ≡ false → slice_get (set_each x places xs) g ≡ slice_get xs g
unfolding set_each
set_elsewhere x [] xs g out = refl
set_elsewhere x (p ∷ places) xs g out =
    let parts = or_parts (g == p) (is_in g places) out in
    set_elsewhere x places (set xs p x) g parts.1 ∙ slice_get_set_other xs p g x (eqb-false g p parts.0)

-- a granule that a step of the build takes is leased to the build after the step
is_taken : (limits : Limits) (b : ℕ) (act : Act) (w v : World) (g : ℕ) → step limits w (by b act) ≡ Some v → is_in g (granules_taken act) ≡ true → slice_get v.leases g ≡ Some (Some b)
unfolding named
is_taken limits b (Take order first) w v g stepped i =
    ap (λ ls. slice_get ls g) (step_is limits w v (by b (Take order first)) stepped).leases
    ∙ slice_get-set_each (Some b) (block order first) w.leases g (λ p at. slice_get_within w.leases p None (named_lease limits w v (by b (Take order first)) p stepped at))
    ∙ ap (λ t. cond t (Some (Some b)) (slice_get w.leases g)) i
is_taken limits b act w v g stepped i = cc

-- a granule that a step of the build gives back was leased to the build before the step
was_held : (limits : Limits) (b : ℕ) (act : Act) (w v : World) (g : ℕ) → step limits w (by b act) ≡ Some v → is_in g (granules_given_back act) ≡ true
    → slice_get w.leases g ≡ Some (Some b)
unfolding named
was_held limits b (UnTake order first) w v g stepped i = named_lease limits w v (by b (UnTake order first)) g stepped i
was_held limits b act w v g stepped i = cc

-- an operation that neither takes nor gives back a granule leaves the granule's lease unchanged
changed : (b : ℕ) (act : Act) (leases : List (Option ℕ)) (g : ℕ) → is_in g (granules_taken act) ≡ false → is_in g (granules_given_back act) ≡ false
    → slice_get (leases_after b act leases) g ≡ slice_get leases g
changed b (Take order first) leases g taken given = set_elsewhere (Some b) (block order first) leases g taken
changed b (UnTake order first) leases g taken given = set_elsewhere None (block order first) leases g given
changed b act leases g taken given = refl

same_lease_of : (a b : Option ℕ) (o : Option (Option ℕ)) → o ≡ Some a → o ≡ Some b → a ≡ b
same_lease_of a b o e f = same_Some _ _ (sym e ∙ f)

-- if a step of a build frees a granule that the build leased, the step's operation gives this granule back
is_given_back : (limits : Limits) (b : ℕ) (act : Act) (w v : World) (g : ℕ) → step limits w (by b act) ≡ Some v → slice_get w.leases g ≡ Some (Some b)
    → slice_get v.leases g ≡ Some None → is_in g (granules_given_back act) ≡ true
is_given_back limits b act w v g stepped before then = by_test (is_in g (granules_given_back act)) refl
  where
    not_taken : is_in g (granules_taken act) ≡ false
    not_taken = false_from _ (λ i. let e = same_lease_of (Some b) None _ before (was_free limits b act w v g stepped i) in cc)

    by_test : (t : Bool) → is_in g (granules_given_back act) ≡ t → t ≡ true
    by_test true is = refl
    by_test false is =
        let kept : slice_get v.leases g ≡ slice_get w.leases g = ap (λ ls. slice_get ls g) (step_is limits w v (by b act) stepped).leases ∙ changed b act w.leases g not_taken is in
        let e = same_lease_of (Some b) None _ (kept ∙ before) then in cc

-- if a step of a build leases a free granule to the build, the step's operation takes this granule
is_newly_taken : (limits : Limits) (b : ℕ) (act : Act) (w v : World) (g : ℕ) → step limits w (by b act) ≡ Some v → slice_get w.leases g ≡ Some None
    → slice_get v.leases g ≡ Some (Some b) → is_in g (granules_taken act) ≡ true
is_newly_taken limits b act w v g stepped before then = by_test (is_in g (granules_taken act)) refl
  where
    not_given : is_in g (granules_given_back act) ≡ false
    not_given = false_from _ (λ i. let e = same_lease_of (Some b) None _ (was_held limits b act w v g stepped i) before in cc)

    by_test : (t : Bool) → is_in g (granules_taken act) ≡ t → t ≡ true
    by_test true is = refl
    by_test false is =
        let kept : slice_get v.leases g ≡ slice_get w.leases g = ap (λ ls. slice_get ls g) (step_is limits w v (by b act) stepped).leases ∙ changed b act w.leases g is not_given in
        let e = same_lease_of (Some b) None _ then (kept ∙ before) in cc

-- ---- VMIDs that an event takes or gives back

-- the build has an open Realm operation with this VMID
abbrev uses : ℕ → ℕ → List Event → Bool
uses v c history = list_any (uses_vmid v) (open_entries c history)

abbrev alone : ℕ → ℕ → Bool
alone v w = is_in v (w ∷ [])

alone_is : (v w : ℕ) → alone v w ≡ true → (w == v) ≡ true
alone_is v w i = eq-eqb w v (sym (eqb-true v w (sym (or_none (v == w)) ∙ i)))

is_alone : (v w : ℕ) → (w == v) ≡ true → alone v w ≡ true
is_alone v w e = or_none (v == w) ∙ eq-eqb v w (sym (eqb-true w v e))

takes_if_uses : (v : ℕ) (act : Act) → uses_vmid v act ≡ true → is_in v (vmids_taken act) ≡ true
takes_if_uses v (Realm rd root w) e = is_alone v w e
takes_if_uses v act e = cc

uses_if_takes : (v : ℕ) (act : Act) → is_in v (vmids_taken act) ≡ true → uses_vmid v act ≡ true
uses_if_takes v (Realm rd root w) i = alone_is v w i
uses_if_takes v act i = cc

takes_paired : (v : ℕ) (act : Act) → is_in v (vmids_taken act) ≡ true → is_paired act ≡ true
unfolding reverse_of
takes_paired v (Realm rd root w) i = refl
takes_paired v act i = cc

gives_reverse : (v : ℕ) (act : Act) → is_in v (vmids_given_back act) ≡ true → (is_paired act ≡ false) × (is_reverse act ≡ true)
unfolding reverse_of is_reverse
gives_reverse v (UnRealm rd root w) i = (refl, refl)
gives_reverse v act i = cc

-- a reverse gives back a VMID exactly if the operation that it reverses uses that VMID
module _ (v : ℕ) (back : Act) where
  gives_if_newest : (act : Act) → reverse_of act ≡ Some back → uses_vmid v act ≡ true → is_in v (vmids_given_back back) ≡ true
  unfolding reverse_of
  gives_if_newest (Realm rd root w) e u = subst (λ a. is_in v (vmids_given_back a) ≡ true) (same_Some _ _ e) (is_alone v w u)
  gives_if_newest act e u = cc

  newest_if_gives : (act : Act) → reverse_of act ≡ Some back → is_in v (vmids_given_back back) ≡ true → uses_vmid v act ≡ true
  unfolding reverse_of
  newest_if_gives (Realm rd root w) e i = alone_is v w (subst (λ a. is_in v (vmids_given_back a) ≡ true) (sym (same_Some _ _ e)) i)
  newest_if_gives (Take order first) e i = let none = subst (λ a. is_in v (vmids_given_back a) ≡ true) (sym (same_Some _ _ e)) i in cc
  newest_if_gives (Delegate g) e i = let none = subst (λ a. is_in v (vmids_given_back a) ≡ true) (sym (same_Some _ _ e)) i in cc
  newest_if_gives (Rtt g ipa level) e i = let none = subst (λ a. is_in v (vmids_given_back a) ≡ true) (sym (same_Some _ _ e)) i in cc
  newest_if_gives (Data g ipa source) e i = let none = subst (λ a. is_in v (vmids_given_back a) ≡ true) (sym (same_Some _ _ e)) i in cc
  newest_if_gives (Unknown g ipa) e i = let none = subst (λ a. is_in v (vmids_given_back a) ≡ true) (sym (same_Some _ _ e)) i in cc
  newest_if_gives (Rec g aux n) e i = let none = subst (λ a. is_in v (vmids_given_back a) ≡ true) (sym (same_Some _ _ e)) i in cc
  newest_if_gives act e i = cc

-- a list of operations uses a VMID exactly if its last operation or an earlier one uses it
module _ (v : ℕ) (below : List Act) (act : Act) where
  top : list_any (uses_vmid v) (below ++ act ∷ []) ≡ (list_any (uses_vmid v) below || uses_vmid v act)
  top = list_any-append (uses_vmid v) below (act ∷ []) ∙ ap (λ t. list_any (uses_vmid v) below || t) (or_none (uses_vmid v act))

  by_below : list_any (uses_vmid v) below ≡ true → list_any (uses_vmid v) (below ++ act ∷ []) ≡ true
  by_below e = top ∙ ap (λ t. t || uses_vmid v act) e

  by_top : uses_vmid v act ≡ true → list_any (uses_vmid v) (below ++ act ∷ []) ≡ true
  by_top e = top ∙ ap (λ t. list_any (uses_vmid v) below || t) e ∙ or_true (list_any (uses_vmid v) below)

  then_below : list_any (uses_vmid v) (below ++ act ∷ []) ≡ true → uses_vmid v act ≡ false → list_any (uses_vmid v) below ≡ true
  then_below e none = sym (or_none (list_any (uses_vmid v) below)) ∙ ap (λ t. list_any (uses_vmid v) below || t) (sym none) ∙ sym top ∙ e

module _ (history : List Event) (b : ℕ) (act : Act) (turn : IsInTurn history (by b act)) (v : ℕ) where
  abbrev grown : List Event
  grown = history ++ by b act ∷ []

  -- after an operation takes a VMID, an open operation of the build uses the VMID
  is_open : is_in v (vmids_taken act) ≡ true → uses v b grown ≡ true
  is_open i =
      ap (list_any (uses_vmid v)) (open_entries-own history (by b act) ∙ pushed_paired (open_entries b history) act (takes_paired v act i))
      ∙ by_top v (open_entries b history) act (uses_if_takes v act i)

  -- before an operation gives back a VMID, an open operation of the build uses the VMID
  was_open : is_in v (vmids_given_back act) ≡ true → uses v b history ≡ true
  was_open i =
      let back = gives_reverse v act i in
      let away = takes_away b history act back.0 back.1 turn in
      ap (list_any (uses_vmid v)) away.open_is ∙ by_top v (open_entries b grown) away.newest (newest_if_gives v act away.newest away.pairs i)

  own_still : uses v b history ≡ true → is_in v (vmids_given_back act) ≡ false → uses v b grown ≡ true
  own_still e kept = elim (kind act) [
    | of_paired p r ↦ ap (list_any (uses_vmid v)) (open_entries-own history (by b act) ∙ pushed_paired (open_entries b history) act p) ∙ by_below v (open_entries b history) act e
    | of_back p r ↦
        let away = takes_away b history act p r turn in
        then_below v (open_entries b grown) away.newest (ap (list_any (uses_vmid v)) (sym away.open_is) ∙ e)
        (false_from _ (λ u. true_false _ (gives_if_newest v act away.newest away.pairs u) kept))
    | of_other p r ↦ ap (list_any (uses_vmid v)) (open_entries-own history (by b act) ∙ pushed_other (open_entries b history) act p r) ∙ e
  ]

  own_before : uses v b grown ≡ true → is_in v (vmids_taken act) ≡ false → uses v b history ≡ true
  own_before e old = elim (kind act) [
    | of_paired p r ↦
        then_below v (open_entries b history) act (ap (list_any (uses_vmid v)) (sym (open_entries-own history (by b act) ∙ pushed_paired (open_entries b history) act p)) ∙ e)
        (false_from _ (λ u. true_false _ (takes_if_uses v act u) old))
    | of_back p r ↦
        let away = takes_away b history act p r turn in
        ap (list_any (uses_vmid v)) away.open_is ∙ by_below v (open_entries b grown) away.newest e
    | of_other p r ↦ ap (list_any (uses_vmid v)) (sym (open_entries-own history (by b act) ∙ pushed_other (open_entries b history) act p r)) ∙ e
  ]

  -- if build `c` has an open operation that uses a VMID before the event, it has one after the event, unless the event
  -- gives the VMID back
  open_still : (c : ℕ) → uses v c history ≡ true → is_in v (vmids_given_back act) ≡ false → uses v c grown ≡ true
  open_still c e kept = elim (cases_eq b c) [
    | inl same ↦ subst (λ n. uses v n history ≡ true → uses v n grown ≡ true) same (λ e. own_still e kept) e
    | inr apart ↦ ap (list_any (uses_vmid v)) (open_entries-other c history (by b act) apart) ∙ e
  ]

  -- if build `c` has an open operation that uses a VMID after the event, it had one before the event, unless the event
  -- takes the VMID
  open_before : (c : ℕ) → uses v c grown ≡ true → is_in v (vmids_taken act) ≡ false → uses v c history ≡ true
  open_before c e old = elim (cases_eq b c) [
    | inl same ↦ subst (λ n. uses v n grown ≡ true → uses v n history ≡ true) same (λ e. own_before e old) e
    | inr apart ↦ ap (list_any (uses_vmid v)) (sym (open_entries-other c history (by b act) apart)) ∙ e
  ]

-- a VMID is in use exactly if an open operation of some build uses it
module _ (limits : Limits) (history : List Event) (w : World) (legal : IsLegal limits history) (at_w : replay limits history ≡ Some w) (v : ℕ) where
  used_if_open : (c : ℕ) → uses v c history ≡ true → is_in v (used_vmids w.machine) ≡ true
  used_if_open c e = in_from_Contains (used_vmids w.machine) v ((vmid_is_open limits history w v legal at_w).1 (c, e))

  open_if_used : is_in v (used_vmids w.machine) ≡ true → (c : ℕ) × (uses v c history ≡ true)
  open_if_used e = (vmid_is_open limits history w v legal at_w).0 (Contains-from_in (used_vmids w.machine) v e)

-- ---- one event, and then another

record Runs (limits : Limits) (history : List Event) (one other : Event) : Type 0 where
  base : World
  legal : IsLegal limits history
  base_is : replay limits history ≡ Some base
  turn_one : IsInTurn history one
  turn_other : IsInTurn (history ++ one ∷ []) other
  middle : World
  one_goes : step limits base one ≡ Some middle
  end : World
  other_goes : step limits middle other ≡ Some end

runs : (limits : Limits) (history : List Event) (one other : Event) → IsLegal limits (history ++ one ∷ other ∷ []) → Runs limits history one other
unfolding after
runs limits history one other legal =
    let last = some_is (replay limits (history ++ one ∷ other ∷ [])) legal.steps in
    let s = split limits history (one ∷ other ∷ []) last.0 legal last.1 in
    option_and_then_some (after limits (other ∷ [])) (step limits s.base one) last.0 s.goes_on (λ x one_goes rest.
    option_and_then_some (after limits []) (step limits x other) last.0 rest (λ z other_goes at.
    record { base = s.base; legal = s.legal; base_is = s.base_is; turn_one = s.turns.0; turn_other = s.turns.1.0; middle = x; one_goes = one_goes; end = z; other_goes = other_goes }))

-- an event that satisfies `IsInTurn` after another build's event also satisfies `IsInTurn` without that event
turn_before : (history : List Event) (one other : Event) → one.build ≢ other.build → IsInTurn (history ++ one ∷ []) other → IsInTurn history other
turn_before history one other apart turn = λ r. ap (λ acts. option_and_then reverse_of (last_or None acts)) (sym (open_entries-other other.build history one apart)) ∙ turn r

-- an event that satisfies `IsInTurn` still satisfies `IsInTurn` after another build's event
turn_after : (history : List Event) (one other : Event) → one.build ≢ other.build → IsInTurn history other → IsInTurn (history ++ one ∷ []) other
turn_after history one other apart turn = λ r. ap (λ acts. option_and_then reverse_of (last_or None acts)) (open_entries-other other.build history one apart) ∙ turn r

module _ (limits : Limits) (history : List Event) (one other : Event) (apart : one.build ≢ other.build) (run : Runs limits history one other) where
  after_one : Grows limits history one run.middle
  after_one = grows limits history one run.base run.middle run.legal run.base_is run.one_goes run.turn_one

  -- the event `other` is accepted before `one`, if `other` takes nothing that `one` gives back
  other_at_first : ¬ GivesTo one.act other.act → (v : World) × (step limits run.base other ≡ Some v)
  other_at_first none =
      goes_there limits one.build run.middle run.base (sym (without-own_step limits one.build run.base run.middle one refl (clean_reached limits history run.base run.base_is) run.one_goes))
      other (λ e. apart (sym e)) (step_says_reached limits history run.base other run.base_is) free unused run.end run.other_goes
    where
      free : (g : ℕ) → is_in g (granules_taken other.act) ≡ true → slice_get run.base.leases g ≡ Some (Some one.build) → ⊥
      free g i held =
          let given = is_given_back limits one.build one.act run.base run.middle g run.one_goes held (was_free limits other.build other.act run.middle run.end g run.other_goes i) in
          none (inl (g, Contains-from_in (granules_given_back one.act) g given, Contains-from_in (granules_taken other.act) g i))

      unused : (v : ℕ) → is_in v (vmids_taken other.act) ≡ true → is_in v (used_vmids run.base.machine) ≡ false
      unused v i = false_from _ (λ used.
          let user = open_if_used limits history run.base run.legal run.base_is v used in
          let kept : is_in v (vmids_given_back one.act) ≡ false =
          false_from _ (λ given. none (inr (v, Contains-from_in (vmids_given_back one.act) v given, Contains-from_in (vmids_taken other.act) v i))) in
          true_false _ (used_if_open limits (history ++ one ∷ []) run.middle after_one.legal after_one.world_is v user.0 (open_still history one.build one.act run.turn_one v user.0 user.1 kept))
          (vmid_unused limits run.middle run.end other run.other_goes v i))

  module _ (v : World) (first : step limits run.base other ≡ Some v) where
    after_other : Grows limits history other v
    after_other = grows limits history other run.base v run.legal run.base_is first (turn_before history one other apart run.turn_other)

    -- the event `one` is accepted after `other`
    one_then : (z : World) × (step limits v one ≡ Some z)
    one_then =
        goes_there limits other.build run.base v (without-own_step limits other.build run.base v other refl (clean_reached limits history run.base run.base_is) first)
        one apart (step_says_reached limits (history ++ other ∷ []) v one after_other.world_is) free unused run.middle run.one_goes
      where
        free : (g : ℕ) → is_in g (granules_taken one.act) ≡ true → slice_get v.leases g ≡ Some (Some other.build) → ⊥
        free g i held =
            let taken = is_newly_taken limits other.build other.act run.base v g first (was_free limits one.build one.act run.base run.middle g run.one_goes i) held in
            let e = same_lease_of (Some one.build) None _ (is_taken limits one.build one.act run.base run.middle g run.one_goes i)
            (was_free limits other.build other.act run.middle run.end g run.other_goes taken) in cc

        unused : (n : ℕ) → is_in n (vmids_taken one.act) ≡ true → is_in n (used_vmids v.machine) ≡ false
        unused n i = false_from _ (λ used.
            let user = open_if_used limits (history ++ other ∷ []) v after_other.legal after_other.world_is n used in
            let old : is_in n (vmids_taken other.act) ≡ false =
            false_from _ (λ taken. true_false _
            (used_if_open limits (history ++ one ∷ []) run.middle after_one.legal after_one.world_is n one.build (is_open history one.build one.act run.turn_one n i))
            (vmid_unused limits run.middle run.end other run.other_goes n taken)) in
            true_false _ (used_if_open limits history run.base run.legal run.base_is n user.0
            (open_before history other.build other.act (turn_before history one other apart run.turn_other) n user.0 user.1 old))
            (vmid_unused limits run.base run.middle one run.one_goes n i))

    swapped : IsLegal limits (history ++ other ∷ one ∷ [])
    swapped = subst (IsLegal limits) (append_assoc history (other ∷ []) (one ∷ []))
        (grows limits (history ++ other ∷ []) one v one_then.0 after_other.legal after_other.world_is one_then.1 (turn_after history other one (λ e. apart (sym e)) run.turn_one)).legal

  -- if `other` takes something that `one` gives back, a history with `other` directly before `one` is not legal
  nothing_given : IsLegal limits (history ++ other ∷ one ∷ []) → ¬ GivesTo one.act other.act
  nothing_given legal gives =
      let turned = runs limits history other one legal in
      let same : turned.base ≡ run.base = same_Some _ _ (sym turned.base_is ∙ run.base_is) in
      let first : step limits run.base other ≡ Some turned.middle = ap (λ w. step limits w other) (sym same) ∙ turned.one_goes in
      elim gives [
        | inl granule ↦
            let e = same_lease_of (Some one.build) None _
            (was_held limits one.build one.act run.base run.middle granule.0 run.one_goes (in_from_Contains (granules_given_back one.act) granule.0 granule.1))
            (was_free limits other.build other.act run.base turned.middle granule.0 first (in_from_Contains (granules_taken other.act) granule.0 granule.2)) in cc
        | inr vmid ↦
            true_false _ (used_if_open limits history run.base run.legal run.base_is vmid.0 one.build
            (was_open history one.build one.act run.turn_one vmid.0 (in_from_Contains (vmids_given_back one.act) vmid.0 vmid.1)))
            (vmid_unused limits run.base turned.middle other first vmid.0 (in_from_Contains (vmids_taken other.act) vmid.0 vmid.2))
      ]

  -- each build has the same events, whether `one` or `other` comes first
  same_events : (c : ℕ) → events_of c (history ++ other ∷ one ∷ []) ≡ events_of c (history ++ one ∷ other ∷ [])
  same_events c =
      filter-append (λ x. x.build == c) history (other ∷ one ∷ [])
      ∙ ap (λ es. events_of c history ++ es) (by_tests (one.build == c) (other.build == c) refl refl)
      ∙ sym (filter-append (λ x. x.build == c) history (one ∷ other ∷ []))
    where
      by_tests : (p q : Bool) → (one.build == c) ≡ p → (other.build == c) ≡ q
          → cond q (other ∷ cond p (one ∷ []) []) (cond p (one ∷ []) []) ≡ cond p (one ∷ cond q (other ∷ []) []) (cond q (other ∷ []) [])
      by_tests true true e f = absurd (apart (eqb-true one.build c e ∙ sym (eqb-true other.build c f)))
      by_tests true false e f = refl
      by_tests false true e f = refl
      by_tests false false e f = refl

pub events_commute : (limits : Limits) (history : List Event) (one other : Event) → EventsCommute limits history one other
events_commute limits history one other apart legal =
    let run = runs limits history one other legal in
    record {
      other_first = (
        nothing_given limits history one other apart run,
        λ none. let first = other_at_first limits history one other apart run none in swapped limits history one other apart run first.0 first.1,
      );
      same_world = λ turned. schedule_does_not_matter limits (history ++ other ∷ one ∷ []) (history ++ one ∷ other ∷ []) turned legal (same_events limits history one other apart run);
    }
