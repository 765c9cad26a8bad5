-- The proof that a reverse operation restores what its build owned before the reversed operation.
use Rattle.std.proofs.Common.{◌≡◌, ℕ, ◌^◌, Bool, true, false, cond, List, Some, None, Ok, refl, sym, ap, ◌∙◌, subst}
use Rattle.std.specs.Prelude.{is_some, slice_get}
use Rattle.std.specs.List.{list_all, range_with_len}
use Rattle.realm_model.specs.declared.rmi.Rmi.{Rmi}
use Rattle.realm_model.specs.declared.act.Act.{Act}
use Rattle.realm_model.specs.declared.act.Act.TheVariants.{Take, UnTake, Fill, Peek, Delegate, Undelegate, Realm, UnRealm, Activate}
use Rattle.realm_model.specs.declared.act.Act.TheVariants.{Rtt, UnRtt, Ripas, Data, Unknown, UnData, Rec, UnRec, Enter, Exit, Poke}
use Rattle.realm_model.specs.declared.act.Event.{Event}
use Rattle.realm_model.specs.Machine.{Limits, blank, cell_at}
use Rattle.realm_model.specs.Update.{Outcome, Update}
use Rattle.realm_model.specs.Command.Check.{check, is_in}
use Rattle.realm_model.specs.Act.{named, reverse_of, is_paired}
use Rattle.realm_model.specs.Outcome.{outcome_of}
use Rattle.realm_model.specs.World.{World, is_leased_to, realm_of, updated_all, part_of}
use Rattle.realm_model.specs.Step.{step, used_vmids}
use Rattle.realm_model.specs.Ownership.{SameCell, OwnsSame}
use Rattle.realm_model.specs.Undoing.{by}
use Rattle.realm_model.specs.History.{replay}
use Rattle.realm_model.proofs.Clean.{clean_at, IsClean}
use Rattle.realm_model.proofs.Puts.{puts, is_of_block}
use Rattle.realm_model.proofs.Reversal.{Leads, Reversal, undone, rev, reverse_is}
use Rattle.realm_model.proofs.Written.{takes, leases_taken, put_takes, put_frees, puts_leases, seen_takes, seen_frees, is_put, cell_put, put_at, IsSquare, frees, leases_freed}
use Rattle.realm_model.proofs.SoundParts.{sound_after, IsSound, IsClean-part_of, IsSound-step, IsSquare-part_of}
use Rattle.realm_model.proofs.Lists.{same_list}
use Rattle.realm_model.proofs.Outcomes.{Yields, of_check}
use Rattle.realm_model.proofs.StepBack.{done, asked, planned}
use Rattle.realm_model.proofs.OwnsSame.{cell_itself, same_whole, own_itself}
use Rattle.realm_model.proofs.Leases.{in_leased}
use Rattle.realm_model.proofs.RealmOf.{IsAt-realm_of, IsHeld-realm_of}
use Rattle.realm_model.proofs.HiddenSteps.{step-part_of, without-own_step}
use Rattle.realm_model.proofs.Changes.{holder_is}
use Rattle.realm_model.proofs.Parts.{IsSoundPart}

module _ (limits : Limits) (b : ℕ) (u v w : World) (act : Act) (su : IsSoundPart u) (sw : IsSoundPart w) (square : IsSquare u)
    (k : is_of_block act ≡ false) (p : is_paired act ≡ true) (stepped : step limits u (by b act) ≡ Some v) (same : OwnsSame v w) where
  pub same_leases : w.leases ≡ u.leases
  same_leases =
      let did = done limits b u v act (λ us. list_all is_put us ≡ true) (puts limits (used_vmids u.machine) u.machine act (realm_of b u) k) stepped in
      sym same.leases ∙ puts_leases b did.0 u v did.1 did.2

  pub reversed : Reversal limits b u w act (rev act)
  reversed =
      let a = asked limits b u v act stepped in
      let mine : list_all (is_leased_to (Some b) u.leases) (named act) ≡ true = ap (λ l. list_all (is_leased_to l u.leases) (named act)) (sym (holder_is b act k)) ∙ a.leases in
      let did = done limits b u v act (λ us. Leads limits b u w su sw same_leases us → Reversal limits b u w act (rev act))
      (undone limits b u w su sw same_leases act (realm_of b u) k p mine (IsAt-realm_of b u) (IsHeld-realm_of b u) a.fit) stepped in
      did.1 (λ g. subst (λ c. SameCell c (cell_at w.machine g)) (cell_put b did.0 u v square did.2 g) (same.cells g))

  pub back_of_block : (a : Act) → is_of_block a ≡ false → is_of_block (rev a) ≡ false
  back_of_block (Take order first) k = cc
  back_of_block (UnTake order first) k = cc
  back_of_block (Fill g v) k = refl
  back_of_block (Peek g o v) k = refl
  back_of_block (Delegate g) k = refl
  back_of_block (Undelegate g) k = refl
  back_of_block (Realm rd root v) k = refl
  back_of_block (UnRealm rd root v) k = refl
  back_of_block Activate k = refl
  back_of_block (Rtt g ipa level) k = refl
  back_of_block (UnRtt g ipa level) k = refl
  back_of_block (Ripas ipa n) k = refl
  back_of_block (Data g ipa source) k = refl
  back_of_block (Unknown g ipa) k = refl
  back_of_block (UnData g ipa) k = refl
  back_of_block (Rec g aux n) k = refl
  back_of_block (UnRec g aux n) k = refl
  back_of_block (Enter n) k = refl
  back_of_block (Exit n) k = refl
  back_of_block (Poke n ipa o v) k = refl

  pub led_back : (x : World) → IsSquare w → step limits w (by b (rev act)) ≡ Some x → OwnsSame u x
  led_back x square_w back =
      let r = reversed in
      let did = done limits b w x (rev act) (λ us. (list_all is_put us ≡ true) × (us ≡ r.updates))
      (both_yield (puts limits (used_vmids w.machine) w.machine (rev act) (realm_of b w) (back_of_block act k)) (planned_yields r.ready r.refusal r.updates (r.planned (used_vmids w.machine)))) back in
      let kept : x.leases ≡ w.leases = puts_leases b did.0 w x did.1.0 did.2 in
      record {
        leases = sym same_leases ∙ sym kept;
        cells = λ g. subst (SameCell (cell_at u.machine g)) (ap (λ us. put_at us g (cell_at w.machine g)) (sym did.1.1) ∙ sym (cell_put b did.0 w x square_w did.2 g)) (r.back g);
      }
    where
      both_yield : {A B : List Update → Type 0} {o : Outcome} → Yields A o → Yields B o → Yields (λ us. A us × B us) o
      both_yield p q = record { where_ok = λ us e. (p.where_ok us e, q.where_ok us e) }

      planned_yields : (t : Bool) (rmi : Rmi) (us : List Update) {o : Outcome} → o ≡ check t rmi (Ok us) → Yields (λ vs. vs ≡ us) o
      planned_yields t rmi us e = record { where_ok = λ vs h. of_check t rmi us vs (sym e ∙ h) }

-- ---- blocks

module _ (limits : Limits) (b : ℕ) (u v w : World) (order first : ℕ) (clean : IsClean u) (square : IsSquare u) (stepped : step limits u (by b (Take order first)) ≡ Some v) (same : OwnsSame v w) where
  abbrev gs : List ℕ
  gs = range_with_len first (2 ^ order)

  pub take_did : updated_all b (takes gs) u ≡ Some v
  unfolding outcome_of named
  take_did = planned limits b u v (Take order first) (takes gs) (ap Ok (seen_takes u.machine gs)) stepped

  pub were_free : list_all (is_leased_to None u.leases) gs ≡ true
  unfolding named
  were_free = (asked limits b u v (Take order first) stepped).leases

  free_give_did : (x : World) → step limits w (by b (UnTake order first)) ≡ Some x → updated_all b (frees gs) w ≡ Some x
  unfolding outcome_of named
  free_give_did x back = planned limits b w x (UnTake order first) (frees gs) (ap Ok (seen_frees w.machine gs)) back

  pub taken_cells : (k : ℕ) → SameCell (cell_at u.machine k) (cell_at w.machine k)
  taken_cells k = subst (λ c. SameCell c (cell_at w.machine k)) (cell_put b (takes gs) u v square take_did k ∙ put_takes gs k (cell_at u.machine k)) (same.cells k)

  pub block_led_back : (x : World) → IsSquare w → step limits w (by b (UnTake order first)) ≡ Some x → OwnsSame u x
  block_led_back x square_w back =
      let did = free_give_did x back in
      record {
        leases = same_list u.leases x.leases (λ k.
            elim (is_in k gs) as (λ t. is_in k gs ≡ t → slice_get u.leases k ≡ cond t (Some None) (slice_get w.leases k)) [
              | true ↦ λ i. in_leased None u.leases gs were_free k i
              | false ↦ λ i. sym (ap (λ ls. slice_get ls k) (sym same.leases) ∙ leases_taken b gs u v take_did k ∙ ap (λ t. cond t (Some (Some b)) (slice_get u.leases k)) i)
            ] refl ∙ sym (leases_freed b gs w x did k));
        cells = λ k. subst (SameCell (cell_at u.machine k)) (sym (cell_put b (frees gs) w x square_w did k ∙ put_frees gs k (cell_at w.machine k)))
            (elim (is_in k gs) as (λ t. is_in k gs ≡ t → SameCell (cell_at u.machine k) (cond t blank (cell_at w.machine k))) [
              | true ↦ λ i. subst (SameCell (cell_at u.machine k)) (clean_at u k clean (in_leased None u.leases gs were_free k i)) (cell_itself (cell_at u.machine k))
              | false ↦ λ i. taken_cells k
            ] refl);
      }

-- ---- the theorem

pub part_back : (limits : Limits) (b : ℕ) (u v w x : World) (act : Act) → IsClean u → IsSquare u → IsSquare w → IsSoundPart u → IsSoundPart w → is_paired act ≡ true
    → step limits u (by b act) ≡ Some v → OwnsSame v w → step limits w (by b (rev act)) ≡ Some x → OwnsSame u x
unfolding reverse_of
part_back limits b u v w x (Take order first) clean square square_w su sw p stepped same back = block_led_back limits b u v w order first clean square stepped same x square_w back
part_back limits b u v w x (UnTake order first) clean square square_w su sw p stepped same back = cc
part_back limits b u v w x act clean square square_w su sw p stepped same back = led_back limits b u v w act su sw square refl p stepped same x square_w back

paired_reverse : (act r : Act) → reverse_of act ≡ Some r → is_paired act ≡ true
paired_reverse act r e = ap is_some e

pub pair_back : (limits : Limits) (b : ℕ) (u v w x : World) (act r : Act) → reverse_of act ≡ Some r → IsSound b u → IsSound b w
    → step limits u (by b act) ≡ Some v → OwnsSame (part_of v b) (part_of w b) → step limits w (by b r) ≡ Some x → OwnsSame (part_of u b) (part_of x b)
pair_back limits b u v w x act r e su sw stepped same back =
    part_back limits b (part_of u b) (part_of v b) (part_of w b) (part_of x b) act (IsClean-part_of u b su.clean) (IsSquare-part_of u b su.square)
    (IsSquare-part_of w b sw.square) su.part sw.part (paired_reverse act r e)
    (step-part_of limits b u v (by b act) refl stepped) same
    (step-part_of limits b w x (by b (rev act)) refl (ap (λ a. step limits w (by b a)) (reverse_is act r e) ∙ back))

pub pair_whole : (limits : Limits) (history : List Event) (b : ℕ) (u v x : World) (act r : Act) → replay limits history ≡ Some u → reverse_of act ≡ Some r
    → step limits u (by b act) ≡ Some v → step limits v (by b r) ≡ Some x → OwnsSame u x
pair_whole limits history b u v x act r at_u e forth back =
    let su = sound_after limits b history u at_u in
    let sv = IsSound-step limits b u v (by b act) su forth in
    let sx = IsSound-step limits b v x (by b r) sv back in
    same_whole b u x su.square sx.square
    (pair_back limits b u v v x act r e su sv forth (own_itself (part_of v b)) back)
    (sym (without-own_step limits b v x (by b r) refl sv.clean back ∙ without-own_step limits b u v (by b act) refl su.clean forth))
