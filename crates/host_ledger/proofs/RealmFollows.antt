-- Proofs that the ledger's record of a realm's RD still agrees with the world after one more operation of the build.
use Rattle.std.proofs.Common.{◌≡◌, ℕ, true, List, [], ◌∷◌, ◌++◌, Option, Some, None, refl, sym, ap, ◌∙◌}
use Rattle.std.specs.Prelude.{filter, option_map, is_some}
use Rattle.std.specs.List.{flat_map}
use Rattle.std.proofs.lemmas.Option.{same_Some}
use Rattle.realm_model.specs.declared.act.Act.{Act}
use Rattle.realm_model.specs.declared.act.Act.TheVariants.{Take, Delegate, Realm, UnRealm, Rtt, Data, Unknown, Rec}
use Rattle.realm_model.specs.declared.act.Event.{Event}
use Rattle.realm_model.specs.Machine.{Limits, RealmRow, Seen}
use Rattle.realm_model.specs.Act.{is_reverse, reverse_of}
use Rattle.realm_model.specs.OpenRealm.{makes_realm, maker, makers}
use Rattle.realm_model.specs.World.{World, realm_of}
use Rattle.realm_model.specs.Step.{step}
use Rattle.realm_model.specs.History.{open_entries, replay, IsInTurn, IsLegal}
use Rattle.realm_model.specs.Undoing.{by}
use Rattle.realm_model.proofs.Growth.{Grows, grows}
use Rattle.realm_model.proofs.OpenRealm.{realm_is_open}
use Rattle.realm_model.proofs.PartRealm.{realm_from_some}
use Rattle.realm_model.specs.Places.{rd_of}
use Rattle.host_ledger.specs.Kept.{rd_after}
use Rattle.host_ledger.proofs.Made.{made_open, opens, closes, stays}

-- ---- the RD that an act made, and the one that a reverse removes

abbrev pub rd_made : Act → List ℕ
rd_made (Realm rd root vmid) = rd ∷ []
rd_made _ = []

abbrev pub rd_removed : Act → List ℕ
rd_removed (UnRealm rd root vmid) = rd ∷ []
rd_removed _ = []

pub same_rd : (newest act : Act) → reverse_of newest ≡ Some act → rd_made newest ≡ rd_removed act
unfolding reverse_of
same_rd (Take order first) act is = ap rd_removed (same_Some _ _ is)
same_rd (Delegate granule) act is = ap rd_removed (same_Some _ _ is)
same_rd (Realm rd root vmid) act is = ap rd_removed (same_Some _ _ is)
same_rd (Rtt granule ipa level) act is = ap rd_removed (same_Some _ _ is)
same_rd (Data granule ipa source) act is = ap rd_removed (same_Some _ _ is)
same_rd (Unknown granule ipa) act is = ap rd_removed (same_Some _ _ is)
same_rd (Rec granule auxiliaries number) act is = ap rd_removed (same_Some _ _ is)
same_rd _ act is = cc

abbrev pub rds_open : ℕ → List Event → List ℕ
rds_open build history = made_open rd_made rd_removed same_rd build history

among_makers : (acts : List Act) → flat_map rd_made acts ≡ flat_map rd_made (filter makes_realm acts)
among_makers [] = refl
among_makers (Realm rd root vmid ∷ acts) = ap (λ xs. rd ∷ xs) (among_makers acts)
among_makers (_ ∷ acts) = among_makers acts

-- ---- a build has one realm at most

abbrev head_of : List ℕ → Option ℕ
head_of [] = None
head_of (rd ∷ rds) = Some rd

rd_of_makers : (o : Option Seen) → ((rd : Seen) → o ≡ Some rd → is_some rd.cell.descriptor ≡ true)
    → option_map (λ (rd : Seen). rd.number) o ≡ head_of (flat_map rd_made (makers o))
rd_of_makers None row = refl
rd_of_makers (Some rd) row = by_row rd.cell.descriptor (row rd refl)
  where
    by_row : (d : Option RealmRow) → is_some d ≡ true → Some rd.number ≡ head_of (flat_map rd_made (elim d [ Some realm ↦ maker rd.number realm ∷ [] | None ↦ [] ]))
    by_row None some = cc
    by_row (Some realm) some = refl

only_one : (o : Option Seen) (xs : List ℕ) (v : ℕ) → flat_map rd_made (makers o) ≡ xs ++ v ∷ [] → xs ≡ []
only_one o [] v e = refl
only_one None (x ∷ xs) v e = cc
only_one (Some rd) (x ∷ xs) v e = by_row rd.cell.descriptor e
  where
    by_row : (o : Option RealmRow) → flat_map rd_made (elim o [ Some realm ↦ maker rd.number realm ∷ [] | None ↦ [] ]) ≡ x ∷ xs ++ v ∷ [] → x ∷ xs ≡ []
    by_row None e = cc
    by_row (Some realm) e = two xs e
      where
        two : (xs : List ℕ) → rd.number ∷ [] ≡ x ∷ xs ++ v ∷ [] → x ∷ xs ≡ []
        two [] e = cc
        two (y ∷ ys) e = cc

module _ (limits : Limits) (history : List Event) (w : World) (legal : IsLegal limits history) (at_w : replay limits history ≡ Some w) (build : ℕ) where
  rds_are : rds_open build history ≡ flat_map rd_made (makers (realm_of build w))
  rds_are = among_makers (open_entries build history) ∙ ap (flat_map rd_made) (realm_is_open limits history w build legal at_w)

  rd_is : rd_of build w ≡ head_of (rds_open build history)
  rd_is = rd_of_makers (realm_of build w) (realm_from_some build 0 w.leases w.machine) ∙ ap head_of (sym rds_are)

  -- a build that has nothing open has no realm
  pub no_realm : open_entries build history ≡ [] → realm_of build w ≡ None
  no_realm none = none_of (realm_of build w) (realm_from_some build 0 w.leases w.machine) (sym rds_are ∙ ap (flat_map rd_made) none)
    where
      of_row : (rd : ℕ) (d : Option RealmRow) → is_some d ≡ true → flat_map rd_made (elim d [ Some realm ↦ maker rd realm ∷ [] | None ↦ [] ]) ≡ [] → ⊥
      of_row rd None some e = cc
      of_row rd (Some realm) some e = cc

      none_of : (o : Option Seen) → ((rd : Seen) → o ≡ Some rd → is_some rd.cell.descriptor ≡ true) → flat_map rd_made (makers o) ≡ [] → o ≡ None
      none_of None row e = refl
      none_of (Some rd) row e = absurd (of_row rd.number rd.cell.descriptor (row rd refl) e)

module _ (limits : Limits) (history : List Event) (w v : World) (legal : IsLegal limits history) (at_w : replay limits history ≡ Some w) (build : ℕ) where
  module _ (act : Act) (turn : IsInTurn history (by build act)) (s : step limits w (by build act) ≡ Some v) where
    abbrev later : List Event
    later = history ++ by build act ∷ []

    grown : Grows limits history (by build act) v
    grown = grows limits history (by build act) w v legal at_w s turn

    rd_later : rd_of build v ≡ head_of (rds_open build later)
    rd_later = rd_is limits later v grown.legal grown.world_is build

    rd_stays : rd_made act ≡ [] → rd_removed act ≡ [] → rd_of build v ≡ rd_of build w
    rd_stays none_made none_removed =
        rd_later ∙ ap head_of (stays rd_made rd_removed same_rd history build act turn none_made none_removed)
        ∙ sym (rd_is limits history w legal at_w build)

  pub rd_follows : (act : Act) → IsInTurn history (by build act) → step limits w (by build act) ≡ Some v → rd_of build v ≡ rd_after (rd_of build w) act
  unfolding reverse_of is_reverse
  rd_follows (Realm rd root vmid) turn s =
      let act : Act = Realm rd root vmid in
      let made = opens rd_made rd_removed same_rd history build act turn refl in
      let none = only_one (realm_of build v) (rds_open build history) rd (sym (rds_are limits (later act turn s) v (grown act turn s).legal (grown act turn s).world_is build) ∙ made) in
      rd_later act turn s ∙ ap head_of (made ∙ ap (λ xs. xs ++ rd ∷ []) none)
  rd_follows (UnRealm rd root vmid) turn s =
      let act : Act = UnRealm rd root vmid in
      let gone = closes rd_made rd_removed same_rd history build act turn refl refl in
      let none = only_one (realm_of build w) (rds_open build (later act turn s)) rd (sym (rds_are limits history w legal at_w build) ∙ gone) in
      rd_later act turn s ∙ ap head_of none
  rd_follows act turn s = rd_stays act turn s refl refl
