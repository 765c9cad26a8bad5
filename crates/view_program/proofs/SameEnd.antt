-- A proof that the derived `==` of step outcomes decides equality.
use Rattle.std.proofs.Common.{◌≡◌, Bool, Option, Some, None, refl, ap}
use Rattle.std.specs.Bool.{Decides}
use Rattle.std.specs.Option.{option_eq}
use Rattle.std.specs.Prelude.{unwrap_or}
use Rattle.host_commands.specs.contracts.refusal.Refusal as refusal
use Rattle.host_commands.specs.contracts.refusal.RefusalPartialEq.TheImpl as of_refusal
use Rattle.realm_model.proofs.Same.{DecidesEquality, number, nothing, through, last, both, variant}
use Rattle.realm_model.specs.contracts.rmi.Status as status
use Rattle.realm_model.specs.contracts.rmi.RmiPartialEq.TheImpl as of_rmi
use Rattle.realm_model.specs.contracts.rmi.StatusPartialEq.TheImpl as of_status
use Rattle.realm_model.specs.declared.rmi.Rmi.{Rmi}
use Rattle.view_program.specs.Same.{same_end}
use denote.Enum.Bare.{same_true, true_same}
use Rattle.plan_states.specs.declared.step_end.EndOfStep.{EndOfStep}

same_status : DecidesEquality of_status.eq-value.it
same_status = record { tells = λ x y. (λ is. same_true status.the_type tt x y is, λ equal. true_same status.the_type x y equal) }

same_rmi : DecidesEquality of_rmi.ghosts.eq
same_rmi = through (λ (x : Rmi). (x.status, x.index)) (λ x y same i. record { status = (same i).0; index = (same i).1 }) (both same_status number)

same_refusal : DecidesEquality of_refusal.eq-value.it
same_refusal =
    let one = last number in
    variant refusal.enum _ (nothing, (nothing, (nothing, (one, (nothing, (nothing, (nothing, (nothing, (nothing, (nothing, (one, (nothing, (last same_rmi, tt)))))))))))))

module _ {A : Type 0} {test : A → A → Bool} (same : DecidesEquality test) where
  option_tells : (x y : Option A) → Decides (option_eq test x y) (x ≡ y)
  option_tells None None = (λ is. refl, λ equal. refl)
  option_tells None (Some y) = (λ is. cc, λ equal. cc)
  option_tells (Some x) None = (λ is. cc, λ equal. cc)
  option_tells (Some x) (Some y) =
      let tells = same.tells x y in
      (λ is. ap Some (tells.0 is), λ equal. tells.1 (ap (λ o. unwrap_or o x) equal))

  if_there : DecidesEquality (option_eq test)
  if_there = record { tells = option_tells }

pub ends_tell : (one other : EndOfStep) → Decides (same_end one other) (one ≡ other)
ends_tell one other =
    let same = through (λ (x : EndOfStep). (x.build, (x.step, x.refusal))) (λ x y equal i. record { build = (equal i).0; step = (equal i).1.0; refusal = (equal i).1.1 })
    (both number (both number (if_there same_refusal))) in
    same.tells one other
