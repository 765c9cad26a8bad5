-- The proof that putting back one build's part of the world to an earlier state prevents no other build's event. The
-- build must still have the granules and the VMID of that state.
use Rattle.std.proofs.Common.{◌≡◌, ◌≢◌, ℕ, zero, suc, true, false, cond, ◌⊎◌, inl, inr, not, List, [], ◌∷◌, length, Option, Some, None, sym, ap, ◌∙◌, arith, pred}
use Rattle.std.specs.Prelude.{◌==◌, slice_get}
use Rattle.std.proofs.lemmas.Option.{same_Some}
use Rattle.realm_model.specs.declared.act.Event.{Event}
use Rattle.realm_model.specs.Machine.{Limits, RealmRow, Machine, blank, cell_at}
use Rattle.realm_model.specs.World.{World, each, hidden, is_of, is_of_other, without, part_of}
use Rattle.realm_model.specs.Step.{step, used_vmids}
use Rattle.realm_model.specs.StepLaw.{StepIsExact}
use Rattle.realm_model.specs.Interleaving.{granules_taken, vmids_taken}
use Rattle.realm_model.specs.Command.Check.{is_in}
use Rattle.realm_model.proofs.Booleans.{false_from, true_false}
use Rattle.realm_model.proofs.Leases.{leased, leased_from}
use Rattle.realm_model.proofs.HiddenSteps.{step-without, part_of-other_step, leased_in_part}
use Rattle.realm_model.proofs.Written.{IsSquare}
use Rattle.realm_model.proofs.SoundParts.{IsSound}
use Rattle.realm_model.proofs.UsedVmids.{used_at, used_by, used-hidden}
use Rattle.realm_model.proofs.StaysThere.{HasStill}
use Rattle.realm_model.proofs.GoesThere.{goes_there, vmid_unused, was_free}

-- each realm is in the part of build `b` or in the world without `b`
in_either : (b : ℕ) (leases : List (Option ℕ)) (machine : Machine) → length leases ≡ length machine → (k : ℕ) (d : RealmRow) → (cell_at machine k).descriptor ≡ Some d
    → ((cell_at (each (hidden (is_of_other b)) leases machine) k).descriptor ≡ Some d) ⊎ ((cell_at (each (hidden (is_of b)) leases machine) k).descriptor ≡ Some d)
in_either b [] [] even k d is = cc
in_either b [] (c ∷ machine) even k d is = absurd (omega arith)
in_either b (l ∷ leases) [] even k d is = cc
in_either b (None ∷ leases) (c ∷ machine) even zero d is = inl is
in_either b (Some o ∷ leases) (c ∷ machine) even zero d is =
    elim (o == b) as (λ t. ((cond (not t) blank c).descriptor ≡ Some d) ⊎ ((cond t blank c).descriptor ≡ Some d)) [ true ↦ inl is | false ↦ inr is ]
in_either b (l ∷ leases) (c ∷ machine) even (suc k) d is = in_either b leases machine (ap pred even) k d is

-- ---- one step

-- world `x` is `y`, with the part of build `b` put back to what it is in `base`
pub record IsBack (b : ℕ) (base y x : World) : Type 0 where
  pub part : part_of x b ≡ part_of base b
  pub rest : without x b ≡ without y b

module _ (limits : Limits) (b : ℕ) (base y x : World) (back : IsBack b base y x) (still : HasStill b base y) where
  -- each granule that the build leases in `x` is leased to the build in `y`
  own_there : (g : ℕ) → slice_get x.leases g ≡ Some (Some b) → slice_get y.leases g ≡ Some (Some b)
  own_there g e =
      let in_base : slice_get (part_of base b).leases g ≡ Some (Some b) =
      ap (λ (w : World). slice_get w.leases g) (sym back.part) ∙ leased (Some b) (part_of x b).leases g (leased_in_part b x g ∙ leased_from (Some b) x.leases g e) in
      leased (Some b) y.leases g (sym (leased_in_part b y g) ∙ leased_from (Some b) (part_of y b).leases g (still.leases g in_base))

  -- each VMID that is in use in `x` is in use in `y`
  used_there : IsSquare x → (v : ℕ) → is_in v (used_vmids x.machine) ≡ true → is_in v (used_vmids y.machine) ≡ true
  used_there square v e =
      let user = used_by v x.machine e in
      elim (in_either b x.leases x.machine square user.at user.realm user.there) [
        | inl part ↦
            let there = still.vmid user.at user.realm (ap (λ (w : World). (cell_at w.machine user.at).descriptor) (sym back.part) ∙ part) in
            used-hidden (is_of_other b) y.leases y.machine v
            (ap (λ n. is_in n (used_vmids (part_of y b).machine)) (sym (there.2 ∙ user.same)) ∙ used_at (part_of y b).machine user.at there.0 there.1)
        | inr rest ↦
            let there : (cell_at (without y b).machine user.at).descriptor ≡ Some user.realm = ap (λ (w : World). (cell_at w.machine user.at).descriptor) (sym back.rest) ∙ rest in
            used-hidden (is_of b) y.leases y.machine v
            (ap (λ n. is_in n (used_vmids (without y b).machine)) (sym user.same) ∙ used_at (without y b).machine user.at user.realm there)
      ]

  pub other_there : IsSound b x → (y' : World) (e : Event) → e.build ≢ b → StepIsExact limits x e → IsSound b y → step limits y e ≡ Some y'
      → (x' : World) × (step limits x e ≡ Some x') × IsBack b base y' x'
  other_there sound_x y' e apart says sound_y stepped =
      let free : (g : ℕ) → is_in g (granules_taken e.act) ≡ true → slice_get x.leases g ≡ Some (Some b) → ⊥ =
      λ g i held. (let clash : Some (Some b) ≡ Some None = sym (own_there g held) ∙ was_free limits e.build e.act y y' g stepped i in cc) in
      let unused : (v : ℕ) → is_in v (vmids_taken e.act) ≡ true → is_in v (used_vmids x.machine) ≡ false =
      λ v i. false_from _ (λ used. true_false _ (used_there sound_x.square v used) (vmid_unused limits y y' e stepped v i)) in
      let goes = goes_there limits b y x back.rest e apart says free unused y' stepped in (
        goes.0,
        goes.1,
        record {
          part = part_of-other_step limits b x goes.0 e apart sound_x.clean goes.1 ∙ back.part;
          rest = same_Some _ _ (sym (step-without limits b x goes.0 e apart goes.1) ∙ ap (λ w. step limits w e) back.rest ∙ step-without limits b y y' e apart stepped);
        },
      )
