-- The proof that the RECs of a build's realm are those that the build's open Rec operations created.
use Rattle.std.proofs.Common.{◌≡◌, ℕ, true, false, cond, List, [], ◌∷◌, ◌++◌, Option, Some, None, refl, sym, ap, ◌∙◌, subst, arith, ⊎_elim}
use Rattle.std.specs.Prelude.{is_some}
use Rattle.std.specs.List.{flat_map}
use Rattle.std.specs.Ordering.{eq_by_cmp, nat_cmp}
use Rattle.std.proofs.lemmas.Bool.{cases_eq}
use Rattle.std.proofs.lemmas.Cmp.{nat_cmp_total, eq_by_cmp_equiv}
use Rattle.arrayvec.specs.declared.array_vec.ArrayVec.{ArrayVec}
use Rattle.realm_model.specs.declared.act.Act.{Act}
use Rattle.realm_model.specs.declared.act.Act.TheVariants.{Rec, UnRec}
use Rattle.realm_model.specs.declared.act.Event.{Event}
use Rattle.realm_model.specs.Machine.{Limits}
use Rattle.realm_model.specs.Act.{is_paired, is_reverse, reverse_of}
use Rattle.realm_model.specs.World.{World, opening, realm_of}
use Rattle.realm_model.specs.Step.{step}
use Rattle.realm_model.specs.History.{open_entries, after, replay, IsLegal, IsInTurn}
use Rattle.realm_model.specs.Undoing.{by}
use Rattle.realm_model.proofs.Booleans.{false_from}
use Rattle.realm_model.proofs.Growth.{open_entries-other, grows}
use Rattle.realm_model.proofs.Maps.{nat_place}
use Rattle.realm_model.proofs.PartRealm.{none_at_first}
use Rattle.realm_model.proofs.Reached.{of_legal}
use Rattle.realm_model.proofs.RealmOf.{realm_of-other_step}
use Rattle.realm_model.proofs.ZeroPages.{IsKept, kept_reached}
use Rattle.realm_model.specs.Places.{rec_granule}
use Rattle.realm_model.specs.RecsOpen.{rec_made, recs_open, granule_in, number_at, IsRising, RecsAreOpen}
use Rattle.realm_model.proofs.Made.{taken_back, removed_as_made as removed_as_made_by, opens, closes, stays}
use Rattle.realm_model.proofs.RecLists.{push_same, push_other, found_at, rising_push, rising_pop, last_is_new}
use Rattle.realm_model.proofs.RecsAfter.{is_of_recs, no_granule, recs_stay, rec_is_made, rec_is_gone}

-- ---- tests of numbers

same_key : (m n : ℕ) → m ≡ n → eq_by_cmp nat_cmp m n ≡ true
same_key m n same = ap (λ k. eq_by_cmp nat_cmp k n) same ∙ (eq_by_cmp_equiv nat_cmp_total).refl n

other_key : (m n : ℕ) → (m ≡ n → ⊥) → eq_by_cmp nat_cmp m n ≡ false
other_key m n apart = false_from (eq_by_cmp nat_cmp m n) (λ same. apart (nat_place m n same))

-- ---- what is open

-- the number and the granule of the REC that a reverse operation removes, alone in a list; the empty list for any
-- operation that removes no REC
abbrev pub rec_removed : Act → List (ℕ × ℕ)
rec_removed act = rec_made (taken_back act)

pub removed_as_made : (newest act : Act) → reverse_of newest ≡ Some act → rec_made newest ≡ rec_removed act
removed_as_made = removed_as_made_by rec_made (λ granule ipa source. refl)

none_made : (act : Act) → is_of_recs act ≡ false → rec_made act ≡ []
none_made (Rec granule auxiliaries number) plain = cc
none_made _ plain = refl

none_removed : (act : Act) → is_of_recs act ≡ false → rec_removed act ≡ []
none_removed (UnRec granule auxiliaries number) plain = cc
none_removed _ plain = refl

module _ (limits : Limits) (before : List Event) (w v : World) (legal : IsLegal limits before) (at_w : replay limits before ≡ Some w) (b : ℕ) (was : RecsAreOpen before w b) where
  kept : IsKept b w
  kept = kept_reached limits b before w at_w

  module _ (act : Act) (turn : IsInTurn before (by b act)) (s : step limits w (by b act) ≡ Some v) where
    abbrev grown : List Event
    grown = before ++ by b act ∷ []

    kept_v : IsKept b v
    kept_v = kept_reached limits b grown v (grows limits before (by b act) w v legal at_w s turn).world_is

    opened : is_paired act ≡ true → recs_open b grown ≡ recs_open b before ++ rec_made act
    opened = opens rec_made (λ granule ipa source. refl) b before act turn

    closed : is_paired act ≡ false → is_reverse act ≡ true → recs_open b before ≡ recs_open b grown ++ rec_removed act
    closed = closes rec_made (λ granule ipa source. refl) b before act turn

    same_open : is_of_recs act ≡ false → recs_open b grown ≡ recs_open b before
    same_open plain = stays rec_made (λ granule ipa source. refl) b before act turn (none_made act plain) (none_removed act plain)

    plain_step : is_of_recs act ≡ false → RecsAreOpen grown v b
    plain_step plain = record {
      granules = λ m. recs_stay limits b w v kept kept_v act plain s m ∙ was.granules m ∙ ap (λ recs. granule_in recs m) (sym (same_open plain));
      rising = subst IsRising (sym (same_open plain)) was.rising;
    }

  -- the RECs are still those of the open Rec operations after a Rec operation creates a REC
  made_step : (granule : ℕ) (aux : ArrayVec ℕ 16 (Unit {0})) (n : ℕ) → IsInTurn before (by b (Rec granule aux n)) → step limits w (by b (Rec granule aux n)) ≡ Some v
      → RecsAreOpen (before ++ by b (Rec granule aux n) ∷ []) v b
  unfolding reverse_of
  made_step granule aux n turn s =
      let act : Act = Rec granule aux n in
      let made = rec_is_made limits b w v kept (kept_v act turn s) granule aux n s in
      let open_is = opened act turn s refl in
      let recs : List (ℕ × ℕ) = recs_open b before in
      let new_number : granule_in recs n ≡ None = none_of (granule_in recs n) (λ there.
      let less = made.below n (ap is_some (was.granules n) ∙ there) in absurd (omega (arith, less))) in
      record {
        granules = λ m. made.gains m ∙ ⊎_elim
            (λ same. ap (λ t. cond t (Some granule) (rec_granule (realm_of b w) m)) (same_key m n same)
            ∙ sym (push_same recs n granule new_number) ∙ ap (granule_in (recs ++ (n, granule) ∷ [])) (sym same))
            (λ apart. ap (λ t. cond t (Some granule) (rec_granule (realm_of b w) m)) (other_key m n apart)
            ∙ was.granules m ∙ sym (push_other recs n granule m apart))
            (cases_eq m n)
            ∙ ap (λ xs. granule_in xs m) (sym open_is);
        rising = subst IsRising (sym open_is) (rising_push recs (n, granule) was.rising (λ i inside.
            made.below (number_at recs i) (ap is_some (was.granules (number_at recs i)) ∙ found_at recs i inside)));
      }
    where
      none_of : (o : Option ℕ) → (is_some o ≡ true → ⊥) → o ≡ None
      none_of None never = refl
      none_of (Some g) never = absurd (never refl)

  -- the RECs are still those of the open Rec operations after the newest REC is removed
  gone_step : (granule : ℕ) (aux : ArrayVec ℕ 16 (Unit {0})) (n : ℕ) → IsInTurn before (by b (UnRec granule aux n)) → step limits w (by b (UnRec granule aux n)) ≡ Some v
      → RecsAreOpen (before ++ by b (UnRec granule aux n) ∷ []) v b
  unfolding reverse_of is_reverse
  gone_step granule aux n turn s =
      let act : Act = UnRec granule aux n in
      let recs : List (ℕ × ℕ) = recs_open b (before ++ by b act ∷ []) in
      let gone = rec_is_gone limits b w v kept (kept_v act turn s) granule aux n s in
      let open_was : recs_open b before ≡ recs ++ (n, granule) ∷ [] = closed act turn s refl refl in
      let rising : IsRising (recs ++ (n, granule) ∷ []) = subst IsRising open_was was.rising in
      record {
        granules = λ m. gone m ∙ ⊎_elim
            (λ same. ap (λ t. cond t None (rec_granule (realm_of b w) m)) (same_key m n same)
            ∙ sym (last_is_new recs n granule rising) ∙ ap (granule_in recs) (sym same))
            (λ apart. ap (λ t. cond t None (rec_granule (realm_of b w) m)) (other_key m n apart)
            ∙ was.granules m ∙ ap (λ xs. granule_in xs m) open_was ∙ push_other recs n granule m apart)
            (cases_eq m n);
        rising = rising_pop recs (n, granule) rising;
      }

  own_step : (act : Act) → IsInTurn before (by b act) → step limits w (by b act) ≡ Some v → RecsAreOpen (before ++ by b act ∷ []) v b
  own_step (Rec granule aux n) turn s = made_step granule aux n turn s
  own_step (UnRec granule aux n) turn s = gone_step granule aux n turn s
  own_step act turn s = plain_step act turn s refl

  any_step : (e : Event) → IsInTurn before e → step limits w e ≡ Some v → RecsAreOpen (before ++ e ∷ []) v b
  any_step e turn s = ⊎_elim
      (λ same.
      let stepped : step limits w (by b e.act) ≡ Some v = ap (λ n. step limits w (by n e.act)) (sym same) ∙ s in
      let turned : IsInTurn before (by b e.act) = subst (λ n. IsInTurn before (by n e.act)) same turn in
      subst (λ n. RecsAreOpen (before ++ by n e.act ∷ []) v b) (sym same) (own_step e.act turned stepped))
      (λ apart.
      let realm = realm_of-other_step limits b w v e apart kept.sound.clean s in
      let open_is : recs_open b (before ++ e ∷ []) ≡ recs_open b before = ap (flat_map rec_made) (open_entries-other b before e apart) in
      record {
        granules = λ m. ap (λ o. rec_granule o m) realm ∙ was.granules m ∙ ap (λ xs. granule_in xs m) (sym open_is);
        rising = subst IsRising (sym open_is) was.rising;
      })
      (cases_eq e.build b)

open_at_first : (limits : Limits) (b : ℕ) → RecsAreOpen [] (opening limits) b
unfolding open_entries after
open_at_first limits b = record {
  granules = λ m. no_granule b (opening limits) (kept_reached limits b [] (opening limits) refl) m (none_at_first limits b);
  rising = λ i j less inside. absurd (omega (arith, inside));
}

pub recs_are_open : (limits : Limits) (history : List Event) (w : World) (b : ℕ) → IsLegal limits history → replay limits history ≡ Some w → RecsAreOpen history w b
recs_are_open limits history w b legal at_w =
    of_legal limits (λ es x. RecsAreOpen es x b) (λ before w v e legal at_w was turn s. any_step limits before w v legal at_w b was e turn s) (open_at_first limits b) history w legal at_w
