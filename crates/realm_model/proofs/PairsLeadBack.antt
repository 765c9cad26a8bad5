-- The proof that an operation and its reverse right after it leave ownership as it was.
use Rattle.std.proofs.Common.{◌≡◌, ℕ, true, false, cond, not, inl, inr, List, Option, Some, None, refl, sym, ap, ◌∙◌}
use Rattle.std.specs.Prelude.{◌==◌, is_some}
use Rattle.std.specs.Cmp.{nat_cmp_total, eq_by_cmp_equiv}
use Rattle.std.specs.FinMap.{get, get-insert}
use Rattle.std.proofs.lemmas.Bool.{eqb-true}
use Rattle.arrayvec.specs.declared.array_vec.ArrayVec.{ArrayVec}
use Rattle.realm_model.specs.declared.act.Act.{Act}
use Rattle.realm_model.specs.declared.act.Act.TheVariants.{Rec}
use Rattle.realm_model.specs.declared.act.Event.{Event}
use Rattle.realm_model.specs.Machine.{Limits, Seen, seen}
use Rattle.realm_model.specs.Act.{is_paired}
use Rattle.realm_model.specs.Outcome.{fits, realm_is}
use Rattle.realm_model.specs.World.{World, part_of, realm_of}
use Rattle.realm_model.specs.Step.{step}
use Rattle.realm_model.specs.History.{replay}
use Rattle.realm_model.specs.Running.{is_rec_running, is_running}
use Rattle.realm_model.specs.Undoing.{by, PairLeadsBack}
use Rattle.realm_model.proofs.HiddenSteps.{step-part_of}
use Rattle.realm_model.proofs.RealmOf.{realm_of-part_of, realm_test}
use Rattle.realm_model.proofs.StepBack.{asked}
use Rattle.realm_model.proofs.OwnsSame.{own_itself}
use Rattle.realm_model.proofs.SoundParts.{IsSquare-part_of}
use Rattle.realm_model.proofs.ZeroPages.{IsKept, kept_reached, kept_step}
use Rattle.realm_model.proofs.RealmAfter.{turned_by}
use Rattle.realm_model.proofs.PartRealm.{part_realm, none_there, found}
use Rattle.realm_model.proofs.Reversal.{rev, reverse_is}
use Rattle.realm_model.proofs.PairBack.{pair_whole}
use Rattle.realm_model.proofs.Progress.{undone_step}

module _ (limits : Limits) (b : ℕ) (w v : World) (kept : IsKept b w) (kept_v : IsKept b v) where
  -- directly after a Rec operation, the REC that the operation created does not run
  new_rests : (g : ℕ) (aux : ArrayVec ℕ 16 (Unit {0})) (n : ℕ) → step limits w (by b (Rec g aux n)) ≡ Some v → is_running (realm_of b v) (Rec g aux n) ≡ false
  unfolding fits
  new_rests g aux n s = elim (part_realm b w kept) [
    | inl none ↦ absurd (no_fit (realm_of b (part_of w b)) (realm_of-part_of b w ∙ none) (asked limits b (part_of w b) (part_of v b) (Rec g aux n) own).fit)
    | inr there ↦
        let d = there.1 in
        let then = turned_by limits b (part_of w b) (part_of v b) (Rec g aux n) (λ d e. is_rec_running (get e.recs d.next) ≡ false) (IsSquare-part_of w b kept.sound.square) kept.sound.part
        (λ none. none_there b w kept (sym (realm_of-part_of b w) ∙ none))
        (λ d rec m ready. ap is_rec_running (get-insert nat_cmp_total d.recs d.next rec d.next
        ∙ ap (λ t. cond t (Some rec) (get d.recs d.next)) ((eq_by_cmp_equiv nat_cmp_total).refl d.next)) ∙ ap not ready)
        own there.0 there.1 there.2 in
        let number : n ≡ d.next = eqb-true n d.next (realm_test (seen (part_of w b).machine there.0) d (λ x r. n == r.next)
        (ap (λ o. realm_is o (λ x r. n == r.next)) (sym (realm_of-part_of b w ∙ found b w kept there.0 there.1 there.2))
        ∙ (asked limits b (part_of w b) (part_of v b) (Rec g aux n) own).fit) there.2) in
        ap (λ o. is_running o (Rec g aux n)) (found b v kept_v there.0 then.0 then.1)
        ∙ ap (λ o. elim o [ Some r ↦ is_rec_running (get r.recs n) | None ↦ false ]) then.1
        ∙ ap (λ m. is_rec_running (get then.0.recs m)) number ∙ then.2
  ]
    where
      own : step limits (part_of w b) (by b (Rec g aux n)) ≡ Some (part_of v b)
      own = step-part_of limits b w v (by b (Rec g aux n)) refl s

      no_fit : (o : Option Seen) → o ≡ None → realm_is o (λ x r. n == r.next) ≡ true → ⊥
      no_fit None e fit = cc
      no_fit (Some rd) e fit = cc

  rests : (act : Act) → step limits w (by b act) ≡ Some v → is_running (realm_of b v) act ≡ false
  rests (Rec g aux n) s = new_rests g aux n s
  rests _ s = refl

  taken_back : (act : Act) → is_paired act ≡ true → step limits w (by b act) ≡ Some v → (x : World) × (step limits v (by b (rev act)) ≡ Some x)
  taken_back act p s = undone_step limits b w v v act kept.sound kept_v.sound p s (own_itself (part_of v b)) (rests act s)

pub pair_leads_back : (limits : Limits) (history : List Event) (b : ℕ) (w v : World) (act back : Act) → replay limits history ≡ Some w → PairLeadsBack limits b w act back v
pair_leads_back limits history b w v act back at_w e s =
    let kept = kept_reached limits b history w at_w in
    let undone = taken_back limits b w v kept (kept_step limits b w v (by b act) kept s) act (ap is_some e) s in
    let stepped : step limits v (by b back) ≡ Some undone.0 = ap (λ a. step limits v (by b a)) (sym (reverse_is act back e)) ∙ undone.1 in
    record { end = undone.0; stepped = stepped; owns = pair_whole limits history b w v undone.0 act back at_w e s stepped }
