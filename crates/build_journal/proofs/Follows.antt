-- Lemmas on how a build's stack of open operations changes: an operation that has a reverse is pushed, and a reverse
-- removes the newest operation.
use Rattle.std.proofs.Common.{◌≡◌, ◌+◌, ◌-◌, ◌≤◌, true, false, List, [], ◌∷◌, ◌++◌, length, take, refl, sym, ap, ◌∙◌, subst, length-append}
use Rattle.std.proofs.lemmas.Bool.{and_from}
use Rattle.std.proofs.lemmas.List.Folds.{list_all-append}
use Rattle.realm_model.specs.declared.act.Act.{Act}
use Rattle.realm_model.specs.Act.{is_paired, is_reverse}
use Rattle.realm_model.specs.Stack.{pushed}
use Rattle.realm_model.proofs.Lists.{take-front}
use Rattle.realm_model.proofs.Stack.{pushed_paired, pushed_back}
use Rattle.build_journal.specs.Stack.{are_paired}

module _ (stack : List Act) (act : Act) (paired : is_paired act ≡ true) where
  pub room_for : length (pushed stack act) ≤ 512 → length stack + 1 ≤ 512
  room_for fits = subst (λ n. n ≤ 512) (ap length (pushed_paired stack act paired) ∙ length-append stack (act ∷ [])) fits

  pub are_paired_push : are_paired stack ≡ true → are_paired (stack ++ act ∷ []) ≡ true
  are_paired_push h = list_all-append is_paired stack (act ∷ []) ∙ and_from _ _ h (and_from _ _ paired refl)

-- an operation that undoes another one, and has no reverse itself, takes the newest operation off the stack
pub pushed_taken : (stack : List Act) (act : Act) → is_paired act ≡ false → is_reverse act ≡ true → take (length stack - 1) stack ≡ pushed stack act
pushed_taken stack act p r = take-front stack ∙ sym (pushed_back stack act p r)
