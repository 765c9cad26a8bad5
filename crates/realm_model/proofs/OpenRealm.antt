-- The proof that a build's realm is the one that the build's open Realm operation created.
use Rattle.std.proofs.Common.{◌≡◌, ℕ, true, false, cond, inl, inr, ⊎_elim, List, [], ◌∷◌, ◌++◌, length, map, Option, Some, None, refl, sym, ap, ◌∙◌, subst, arith}
use Rattle.std.specs.Prelude.{filter, is_some}
use Rattle.std.proofs.lemmas.Bool.{cases_eq}
use Rattle.std.proofs.lemmas.Option.{same_Some}
use Rattle.std.proofs.lemmas.List.{append-nil}
use Rattle.std.proofs.lemmas.List.Elements.{filter-append}
use Rattle.realm_model.specs.declared.act.Act.{Act}
use Rattle.realm_model.specs.declared.act.Act.TheVariants.{Take, Delegate, Realm, UnRealm, Rtt, Data, Unknown, Rec, UnRec, Enter, Exit}
use Rattle.realm_model.specs.declared.act.Event.{Event}
use Rattle.realm_model.specs.Machine.{Limits, RealmRow, Cell, Seen, cell_at, seen}
use Rattle.realm_model.specs.Act.{named, is_paired, is_reverse, reverse_of}
use Rattle.realm_model.specs.Command.Realm.{new_realm}
use Rattle.realm_model.specs.Outcome.{fits}
use Rattle.realm_model.specs.World.{World, opening, realm_of, part_of}
use Rattle.realm_model.specs.Step.{step}
use Rattle.realm_model.specs.History.{open_entries, after, replay, IsLegal, IsInTurn}
use Rattle.realm_model.specs.OpenRealm.{makes_realm, maker, makers, RealmIsOpen}
use Rattle.realm_model.specs.Undoing.{by, LeadsBack}
use Rattle.realm_model.proofs.Booleans.{none_is}
use Rattle.realm_model.proofs.Growth.{open_entries-own, open_entries-other, takes_away, grows}
use Rattle.realm_model.proofs.HiddenSteps.{step-part_of}
use Rattle.realm_model.proofs.PairsLeadBack.{pair_leads_back}
use Rattle.realm_model.proofs.Parts.{IsSoundPart}
use Rattle.realm_model.proofs.PartRealm.{part_realm, none_there, none_at_first, found}
use Rattle.realm_model.proofs.Reached.{of_legal}
use Rattle.realm_model.proofs.RealmAfter.{Allows, turned_by, is_realm_destroy, realm_made_step, realm_gone_step}
use Rattle.realm_model.proofs.RealmOf.{IsAt, IsAt-realm_of, realm_of-part_of, realm_of-other_step}
use Rattle.realm_model.proofs.RoleChanges.{no_descriptor}
use Rattle.realm_model.proofs.SoundParts.{IsSquare-part_of}
use Rattle.realm_model.proofs.Stack.{pushed_paired, pushed_other, kind, paired, back, other}
use Rattle.realm_model.proofs.StepBack.{asked}
use Rattle.realm_model.proofs.Vmids.{realm_before, still_none}
use Rattle.realm_model.proofs.Written.{IsSquare}
use Rattle.realm_model.proofs.ZeroPages.{IsKept, kept_reached}

-- ---- the realm of a build, by its part

abbrev makers_at : ℕ → Option RealmRow → List Act
makers_at rd o = elim o [ Some realm ↦ maker rd realm ∷ [] | None ↦ [] ]

module _ (b : ℕ) (w : World) (kept : IsKept b w) where
  pub maker_at : (k : ℕ) (d : RealmRow) → (cell_at (part_of w b).machine k).descriptor ≡ Some d → makers (realm_of b w) ≡ maker k d ∷ []
  maker_at k d is = ap makers (found b w kept k d is) ∙ ap (makers_at k) is

  no_maker : ((k : ℕ) → (cell_at (part_of w b).machine k).descriptor ≡ None) → makers (realm_of b w) ≡ []
  no_maker none = ap makers (sym (realm_of-part_of b w)) ∙ by_realm (realm_of b (part_of w b)) (IsAt-realm_of b (part_of w b))
    where
      by_realm : (o : Option Seen) → IsAt (part_of w b).machine o → makers o ≡ []
      by_realm None at = refl
      by_realm (Some rd) at = ap (makers_at rd.number) (ap (λ (c : Cell). c.descriptor) (sym at) ∙ none rd.number)

-- ---- after an operation

-- an operation that destroys a realm does not satisfy `fits` if its build has no realm
never_fits : (act : Act) (gs : List Seen) → is_realm_destroy act ≡ true → fits act None gs ≡ true → ⊥
unfolding fits
never_fits (UnRealm rd root vmid) gs d fit = cc
never_fits _ gs d fit = cc

-- the same operation creates both realms, if they have the same RD
abbrev Stays : RealmRow → RealmRow → Type 0
Stays d e = (k : ℕ) → maker k e ≡ maker k d

stays : (limits : Limits) (w : World) (sound : IsSoundPart w) (act : Act) → is_realm_destroy act ≡ false → Allows limits w sound Stays act
stays limits w sound (Realm rd root v) plain = tt
stays limits w sound (UnRealm rd root v) plain = cc
stays limits w sound (Rec g aux n) plain = λ d rec m ready k. refl
stays limits w sound (UnRec g aux n) plain = λ d rec there ready k. refl
stays limits w sound (Enter n) plain = λ d rec h there ready k. refl
stays limits w sound (Exit n) plain = λ d rec h there ready k. refl
stays limits w sound act plain = λ d e same k. ap (maker k) same

module _ (limits : Limits) (b : ℕ) (w v : World) (kept : IsKept b w) (kept_v : IsKept b v) where
  abbrev W : World
  W = part_of w b

  abbrev V : World
  V = part_of v b

  square : IsSquare W
  square = IsSquare-part_of w b kept.sound.square

  no_rows : realm_of b W ≡ None → (k : ℕ) → (cell_at W.machine k).descriptor ≡ None
  no_rows none = none_there b w kept (sym (realm_of-part_of b w) ∙ none)

  own : (act : Act) → step limits w (by b act) ≡ Some v → step limits W (by b act) ≡ Some V
  own act s = step-part_of limits b w v (by b act) refl s

  realm_stays : (act : Act) → makes_realm act ≡ false → is_realm_destroy act ≡ false → step limits w (by b act) ≡ Some v → makers (realm_of b v) ≡ makers (realm_of b w)
  realm_stays act plain stay s = elim (part_realm b w kept) [
    | inl none ↦
        no_maker b v kept_v (still_none limits W V b act square plain (own act s) (none_there b w kept none)) ∙ sym (no_maker b w kept (none_there b w kept none))
    | inr there ↦
        let then = turned_by limits b W V act Stays square kept.sound.part no_rows (stays limits W kept.sound.part act stay) (own act s) there.0 there.1 there.2 in
        maker_at b v kept_v there.0 then.0 then.1 ∙ ap (λ x. x ∷ []) (then.2 there.0) ∙ sym (maker_at b w kept there.0 there.1 there.2)
  ]

  -- if an operation that can be reversed creates a realm, the build had none before, and has the operation's realm
  -- afterwards
  realm_made : (act r : Act) → makes_realm act ≡ true → reverse_of act ≡ Some r → LeadsBack limits b w v r → step limits w (by b act) ≡ Some v
      → (makers (realm_of b w) ≡ []) × (makers (realm_of b v) ≡ act ∷ [])
  unfolding fits reverse_of new_realm
  realm_made (Realm rd root vmid) r m e leads s =
      let act : Act = Realm rd root vmid in
      let to = own act s in
      let none : realm_of b W ≡ None = none_is _ (asked limits b W V act to).fit in (
        no_maker b w kept (no_rows none),
        elim (part_realm b v kept_v) [
          | inl gone ↦
              let destroys : is_realm_destroy r ≡ true = subst (λ x. is_realm_destroy x ≡ true) (same_Some _ _ e) refl in
              absurd (never_fits r _ destroys (ap (λ o. fits r o (map (seen v.machine) (named r))) (sym gone) ∙ (asked limits b v leads.end r leads.stepped).fit))
          | inr there ↦
              maker_at b v kept_v there.0 there.1 there.2 ∙ ap (λ x. x ∷ [])
              (ap (maker there.0) (realm_made_step limits b W V rd root vmid square (no_rows none) to there.0 there.1 there.2)
              ∙ ap (λ n. Realm n root vmid) (at_rd none to there.0 there.1 there.2))
        ],
      )
    where
      at_rd : realm_of b W ≡ None → step limits W (by b (Realm rd root vmid)) ≡ Some V → (k : ℕ) (d : RealmRow) → (cell_at V.machine k).descriptor ≡ Some d → k ≡ rd
      at_rd none to k d is = elim (realm_before limits W V b (Realm rd root vmid) square to k d is) [
        | inl was ↦ absurd (no_descriptor (cell_at W.machine k) was.0 (no_rows none k) was.1)
        | inr made ↦ made.0
      ]
  realm_made _ r m e leads s = cc

  realm_gone : (act : Act) → is_realm_destroy act ≡ true → step limits w (by b act) ≡ Some v → makers (realm_of b v) ≡ []
  realm_gone (UnRealm rd root vmid) d s = no_maker b v kept_v (realm_gone_step limits b W V rd root vmid square kept.sound.part (own (UnRealm rd root vmid) s)).0
  realm_gone _ d s = cc

-- ---- what is open

realms_push : (acts : List Act) (act : Act) → filter makes_realm (acts ++ act ∷ []) ≡ filter makes_realm acts ++ cond (makes_realm act) (act ∷ []) []
realms_push acts act = filter-append makes_realm acts (act ∷ [])

-- an operation that makes a realm has a reverse, and one that destroys a realm is a reverse
reverse_there : (act : Act) → makes_realm act ≡ true → (r : Act) × (reverse_of act ≡ Some r)
unfolding reverse_of
reverse_there (Realm rd root vmid) m = (UnRealm rd root vmid, refl)
reverse_there _ m = cc

of_back : (act : Act) → is_realm_destroy act ≡ true → (is_paired act ≡ false) × (is_reverse act ≡ true)
unfolding reverse_of is_reverse
of_back (UnRealm rd root vmid) d = (refl, refl)
of_back _ d = cc

-- an operation whose reverse destroys no realm creates no realm
plain_newest : (newest act : Act) → is_realm_destroy act ≡ false → reverse_of newest ≡ Some act → makes_realm newest ≡ false
unfolding reverse_of
plain_newest (Realm rd root vmid) act plain is = let never : true ≡ false = ap is_realm_destroy (same_Some _ _ is) ∙ plain in cc
plain_newest _ act plain is = refl

-- an operation destroys a realm if it is equal to one that does; by `realm_newest`, an operation whose reverse destroys
-- a realm creates one
ends : (act act2 : Act) → is_realm_destroy act2 ≡ true → Some act ≡ Some act2 → is_realm_destroy act ≡ true
ends act act2 d is = ap is_realm_destroy (same_Some _ _ is) ∙ d

realm_newest : (newest act : Act) → is_realm_destroy act ≡ true → reverse_of newest ≡ Some act → makes_realm newest ≡ true
unfolding reverse_of
realm_newest (Realm rd root vmid) act d is = refl
realm_newest (Take order first) act d is = let never : false ≡ true = ends _ act d is in cc
realm_newest (Delegate granule) act d is = let never : false ≡ true = ends _ act d is in cc
realm_newest (Rtt granule ipa level) act d is = let never : false ≡ true = ends _ act d is in cc
realm_newest (Data granule ipa source) act d is = let never : false ≡ true = ends _ act d is in cc
realm_newest (Unknown granule ipa) act d is = let never : false ≡ true = ends _ act d is in cc
realm_newest (Rec granule auxiliaries number) act d is = let never : false ≡ true = ends _ act d is in cc
realm_newest _ act d is = cc

-- at most one operation made a build's realm
alone : (xs : List Act) (one : Act) (realm : Option Seen) → xs ++ one ∷ [] ≡ makers realm → xs ≡ []
alone [] one realm e = refl
alone (x ∷ xs) one None e = cc
alone (x ∷ xs) one (Some rd) e = by_row rd.cell.descriptor e
  where
    by_row : (o : Option RealmRow) → x ∷ xs ++ one ∷ [] ≡ makers_at rd.number o → x ∷ xs ≡ []
    by_row None e = cc
    by_row (Some realm) e = absurd (two_or_more xs (ap length e))
      where
        two_or_more : (xs : List Act) → length (x ∷ xs ++ one ∷ []) ≡ 1 → ⊥
        two_or_more [] long = cc
        two_or_more (y ∷ ys) long = omega arith

module _ (limits : Limits) (before : List Event) (w v : World) (legal : IsLegal limits before) (at_w : replay limits before ≡ Some w) where
  module _ (b : ℕ) (act : Act) (was : RealmIsOpen before w b) (turn : IsInTurn before (by b act)) (s : step limits w (by b act) ≡ Some v) where
    abbrev grown : List Event
    grown = before ++ by b act ∷ []

    abbrev realms_in : List Event → List Act
    realms_in history = filter makes_realm (open_entries b history)

    kept : IsKept b w
    kept = kept_reached limits b before w at_w

    kept_v : IsKept b v
    kept_v = kept_reached limits b grown v (grows limits before (by b act) w v legal at_w s turn).world_is

    opens : is_paired act ≡ true → realms_in grown ≡ realms_in before ++ cond (makes_realm act) (act ∷ []) []
    opens p = ap (filter makes_realm) (open_entries-own before (by b act) ∙ pushed_paired (open_entries b before) act p) ∙ realms_push (open_entries b before) act

    made : makes_realm act ≡ true → RealmIsOpen grown v b
    made m =
        let r = reverse_there act m in
        let realm = realm_made limits b w v kept kept_v act r.0 m r.1 (pair_leads_back limits before b w v act r.0 at_w r.1 s) s in
        opens (ap is_some r.1) ∙ ap (λ t. realms_in before ++ cond t (act ∷ []) []) m ∙ ap (λ xs. xs ++ act ∷ []) (was ∙ realm.0) ∙ sym realm.1

    gone : is_realm_destroy act ≡ true → RealmIsOpen grown v b
    gone d =
        let r = of_back act d in
        let away = takes_away b before act r.0 r.1 turn in
        let split : realms_in grown ++ away.newest ∷ [] ≡ makers (realm_of b w) =
        sym (ap (filter makes_realm) away.open_is ∙ realms_push (open_entries b grown) away.newest
        ∙ ap (λ t. realms_in grown ++ cond t (away.newest ∷ []) []) (realm_newest away.newest act d away.pairs)) ∙ was in
        alone (realms_in grown) away.newest (realm_of b w) split ∙ sym (realm_gone limits b w v kept kept_v act d s)

    same_open : makes_realm act ≡ false → is_realm_destroy act ≡ false → realms_in grown ≡ realms_in before
    same_open plain stay = elim (kind act) [
      | paired p r ↦ opens p ∙ ap (λ t. realms_in before ++ cond t (act ∷ []) []) plain ∙ append-nil (realms_in before)
      | back p r ↦
          let away = takes_away b before act p r turn in
          sym (ap (filter makes_realm) away.open_is ∙ realms_push (open_entries b grown) away.newest
          ∙ ap (λ t. realms_in grown ++ cond t (away.newest ∷ []) []) (plain_newest away.newest act stay away.pairs) ∙ append-nil (realms_in grown))
      | other p r ↦ ap (filter makes_realm) (open_entries-own before (by b act) ∙ pushed_other (open_entries b before) act p r)
    ]

    plain_step : makes_realm act ≡ false → is_realm_destroy act ≡ false → RealmIsOpen grown v b
    plain_step plain stay = same_open plain stay ∙ was ∙ sym (realm_stays limits b w v kept kept_v act plain stay s)

  own_step : (b : ℕ) (act : Act) → RealmIsOpen before w b → IsInTurn before (by b act) → step limits w (by b act) ≡ Some v → RealmIsOpen (before ++ by b act ∷ []) v b
  own_step b (Realm rd root vmid) was turn s = made b (Realm rd root vmid) was turn s refl
  own_step b (UnRealm rd root vmid) was turn s = gone b (UnRealm rd root vmid) was turn s refl
  own_step b act was turn s = plain_step b act was turn s refl refl

  any_step : (b : ℕ) (e : Event) → RealmIsOpen before w b → IsInTurn before e → step limits w e ≡ Some v → RealmIsOpen (before ++ e ∷ []) v b
  any_step b e was turn s = ⊎_elim
      (λ same.
      let stepped : step limits w (by b e.act) ≡ Some v = ap (λ n. step limits w (by n e.act)) (sym same) ∙ s in
      let turned : IsInTurn before (by b e.act) = subst (λ n. IsInTurn before (by n e.act)) same turn in
      subst (λ n. RealmIsOpen (before ++ by n e.act ∷ []) v b) (sym same) (own_step b e.act was turned stepped))
      (λ apart.
      let realm = realm_of-other_step limits b w v e apart (kept_reached limits b before w at_w).sound.clean s in
      ap (filter makes_realm) (open_entries-other b before e apart) ∙ was ∙ ap makers (sym realm))
      (cases_eq e.build b)

open_at_first : (limits : Limits) (b : ℕ) → RealmIsOpen [] (opening limits) b
unfolding open_entries after
open_at_first limits b = sym (no_maker b (opening limits) (kept_reached limits b [] (opening limits) refl) (none_at_first limits b))

pub realm_is_open : (limits : Limits) (history : List Event) (w : World) (b : ℕ) → IsLegal limits history → replay limits history ≡ Some w → RealmIsOpen history w b
realm_is_open limits history w b legal at_w =
    of_legal limits (λ es x. RealmIsOpen es x b) (λ before w v e legal at_w was turn s. any_step limits before w v legal at_w b e was turn s) (open_at_first limits b) history w legal at_w
