-- The proof that a build keeps its granules and its realm's VMID as it opens further operations.
use Rattle.std.proofs.Common.{◌≡◌, ℕ, true, false, cond, List, [], ◌∷◌, Option, Some, None, refl, sym, ap, ◌∙◌, subst}
use Rattle.std.specs.Prelude.{slice_get}
use Rattle.std.proofs.lemmas.Option.{slice_get_within}
use Rattle.realm_model.specs.declared.act.Act.{Act}
use Rattle.realm_model.specs.declared.act.Act.TheVariants.{Take, UnTake, UnRealm}
use Rattle.realm_model.specs.Machine.{Limits, RealmRow, cell_at}
use Rattle.realm_model.specs.Act.{block, named, is_paired, reverse_of}
use Rattle.realm_model.specs.Ownership.{SameDescriptor}
use Rattle.realm_model.specs.World.{World, part_of}
use Rattle.realm_model.specs.Step.{step}
use Rattle.realm_model.specs.StepLaw.{IsStep}
use Rattle.realm_model.specs.Undoing.{by}
use Rattle.realm_model.specs.Command.Check.{is_in}
use Rattle.realm_model.proofs.Leases.{in_leased, leased_all}
use Rattle.realm_model.proofs.SetEach.{slice_get-set_each}
use Rattle.realm_model.proofs.HiddenSteps.{step-part_of}
use Rattle.realm_model.proofs.RealmOf.{realm_of-part_of, no_row}
use Rattle.realm_model.proofs.SoundParts.{IsSound, IsSquare-part_of}
use Rattle.realm_model.proofs.StepSays.{step_is}
use Rattle.realm_model.proofs.RealmAfter.{realm_turned, is_realm_destroy}
use Rattle.realm_model.proofs.OwnsSame.{descriptor_some}
use Rattle.realm_model.proofs.OwnLaws.{laws, SameFor}
use Rattle.realm_model.proofs.Chain.{Chain}

-- the build leases in world `v` each granule that it leases in `w`, and its realm in `w`, if any, has the same RD and
-- VMID in `v`
pub record HasStill (b : ℕ) (w v : World) : Type 0 where
  pub leases : (g : ℕ) → slice_get (part_of w b).leases g ≡ Some (Some b) → slice_get (part_of v b).leases g ≡ Some (Some b)
  pub vmid : (k : ℕ) (d : RealmRow) → (cell_at (part_of w b).machine k).descriptor ≡ Some d → (e : RealmRow) × ((cell_at (part_of v b).machine k).descriptor ≡ Some e) × (e.vmid ≡ d.vmid)

still_chain : (b : ℕ) (u v w : World) → HasStill b u v → HasStill b v w → HasStill b u w
still_chain b u v w h k = record {
  leases = λ g e. k.leases g (h.leases g e);
  vmid = λ j d is. let one = h.vmid j d is in let two = k.vmid j one.0 one.1 in (two.0, two.1, two.2 ∙ one.2);
}

still_same : (b : ℕ) (w v : World) → SameFor b w v → HasStill b w v
still_same b w v same = record {
  leases = λ g e. ap (λ ls. slice_get ls g) (sym same.leases) ∙ e;
  vmid = λ k d is.
      let other = descriptor_some d (cell_at (part_of v b).machine k).descriptor (subst (λ o. SameDescriptor o (cell_at (part_of v b).machine k).descriptor) is (same.cells k).descriptor) in
      (other.0, other.1, sym other.2.vmid);
}

-- ---- a paired operation

paired_keeps : (act : Act) → is_paired act ≡ true → is_realm_destroy act ≡ false
unfolding reverse_of
paired_keeps (UnRealm rd root v) p = cc
paired_keeps _ p = refl

leases_stay : (limits : Limits) (b : ℕ) (w v : World) (act : Act) → is_paired act ≡ true → IsStep limits w (by b act) v → (g : ℕ) → slice_get w.leases g ≡ Some (Some b)
    → slice_get v.leases g ≡ Some (Some b)
unfolding reverse_of named
leases_stay limits b w v (Take order first) p s g e =
    let gs = block order first in
    let free : (k : ℕ) → is_in k gs ≡ true → slice_get w.leases k ≡ Some None = in_leased None w.leases gs (leased_all None w.leases gs s.granules) in
    ap (λ ls. slice_get ls g) s.leases
    ∙ slice_get-set_each (Some b) gs w.leases g (λ k i. slice_get_within w.leases k None (free k i))
    ∙ ap (cond (is_in g gs) (Some (Some b))) e
    ∙ elim (is_in g gs) as (λ t. ◌≡◌ {A = Option (Option ℕ)} (cond t (Some (Some b)) (Some (Some b))) (Some (Some b))) [ true ↦ refl | false ↦ refl ]
leases_stay limits b w v (UnTake order first) p s g e = cc
leases_stay limits b w v _ p s g e = ap (λ ls. slice_get ls g) s.leases ∙ e

still_paired : (limits : Limits) (b : ℕ) (w v : World) (act : Act) → is_paired act ≡ true → IsSound b w → step limits w (by b act) ≡ Some v → HasStill b w v
still_paired limits b w v act p sound s =
    let own : step limits (part_of w b) (by b act) ≡ Some (part_of v b) = step-part_of limits b w v (by b act) refl s in
    record {
      leases = leases_stay limits b (part_of w b) (part_of v b) act p (step_is limits (part_of w b) (part_of v b) (by b act) own);
      vmid = λ k d is.
          let then = realm_turned limits b (part_of w b) (part_of v b) act (IsSquare-part_of w b sound.square) sound.part
          (λ none. no_row b 0 w.leases w.machine sound.clean (sym (realm_of-part_of b w) ∙ none)) (paired_keeps act p) own k d is in
          (then.0, then.1, then.2.0);
    }

-- ---- all operations that are opened above a base

pub has_still : (limits : Limits) (b : ℕ) (base : World) (below st : List Act) (w : World) → Chain limits b (SameFor b) (IsSound b) (laws limits b) base below st w → HasStill b base w
has_still limits b base below [] w h = still_same b base w h
has_still limits b base below (act ∷ st) w h =
    still_chain b base h.0 w (has_still limits b base below st h.0 h.3)
    (still_chain b h.0 h.1 w (still_paired limits b h.0 h.1 act h.6 h.2 h.4) (still_same b h.1 w h.5))
