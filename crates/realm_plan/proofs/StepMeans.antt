-- Proofs that a step's word and numbers mean the step if the numbers are in range, that the word has no space, and that
-- there are at most 17 numbers.
use Rattle.std.proofs.Common.{◌≡◌, [], ◌∷◌, true, eqb, not, Some, refl}
use Rattle.std.specs.List.{list_all}
use Rattle.std.proofs.lemmas.Bool.{le-leb}
use Rattle.decimal_text.specs.Numbers.{AreNumbers}
use Rattle.decimal_text.specs.Written.{u8, u16, u32}
use Rattle.decimal_text.proofs.Cuts.{HasNoSpace}
use Rattle.decimal_text.proofs.Spelled.{no_space_from_test}
use Rattle.decimal_text.proofs.UpTo.{up_to-items, few_from_test}
use Rattle.host_commands.specs.declared.cmd.Cmd.{Cmd}
use Rattle.host_commands.specs.declared.cmd.Cmd.TheVariants.{Take, Fill, Peek, Delegate, Realm, Rtt, Ripas, Data, Unknown, Rec, Activate, Enter, Exit, Poke}
use Rattle.host_commands.specs.declared.cmd.Step.TheVariants.{Ask, Undo, Abort, Mark, Back}
use Rattle.realm_plan.specs.declared.step.PlanStep.{PlanStep}
use Rattle.realm_plan.specs.declared.step.PlanStep.TheVariants.{Whole, WidthLeftOut}
use Rattle.realm_plan.specs.Steps.{whole, step_at}
use Rattle.realm_plan.specs.StepsWritten.{page, page_offset, written_cmd, written_step, IsStepInRange}
use Rattle.realm_plan.proofs.Auxiliaries.{few_with_auxiliaries}

cmd_means : (c : Cmd) → IsStepInRange (whole c) → step_at (written_cmd c).word (written_cmd c).numbers ≡ Some (whole c)
cmd_means (Take order) h = rw (le-leb order u8 h.at_most.0) refl
cmd_means (Fill p v) h = rw (le-leb p page h.at_most.0, le-leb v u8 h.at_most.1.0) refl
cmd_means (Peek p o) h = rw (le-leb p page h.at_most.0, le-leb o page_offset h.at_most.1.0) refl
cmd_means (Delegate p) h = rw (le-leb p page h.at_most.0) refl
cmd_means (Realm rd root width) h = rw (le-leb rd page h.at_most.0, le-leb root page h.at_most.1.0, le-leb width u8 h.at_most.1.1.0) refl
cmd_means (Rtt p ipa level) h = rw (le-leb p page h.at_most.0, le-leb ipa u32 h.at_most.1.0, le-leb level u8 h.at_most.1.1.0) refl
cmd_means (Ripas ipa count) h = rw (le-leb ipa u32 h.at_most.0, le-leb count u16 h.at_most.1.0) refl
cmd_means (Data p ipa source) h = rw (le-leb p page h.at_most.0, le-leb ipa u32 h.at_most.1.0, le-leb source page h.at_most.1.1.0) refl
cmd_means (Unknown p ipa) h = rw (le-leb p page h.at_most.0, le-leb ipa u32 h.at_most.1.0) refl
cmd_means (Rec p auxiliaries) h = rw (le-leb p page h.at_most.0, up_to-items 16 page auxiliaries h.count h.at_most.1) refl
cmd_means Activate h = refl
cmd_means (Enter number) h = rw (le-leb number u16 h.at_most.0) refl
cmd_means (Exit number) h = rw (le-leb number u16 h.at_most.0) refl
cmd_means (Poke number ipa o v) h = rw (le-leb number u16 h.at_most.0, le-leb ipa u32 h.at_most.1.0, le-leb o page_offset h.at_most.1.1.0, le-leb v u8 h.at_most.1.1.1.0) refl

pub means : (s : PlanStep) → IsStepInRange s → step_at (written_step s).word (written_step s).numbers ≡ Some s
means (Whole (Ask c)) h = cmd_means c h
means (Whole Undo) h = refl
means (Whole Abort) h = refl
means (Whole Mark) h = refl
means (Whole Back) h = refl
means (WidthLeftOut rd root) h = rw (le-leb rd page h.at_most.0, le-leb root page h.at_most.1.0) refl

-- ---- words have no space, and there are few numbers

no_space_test : (c : Cmd) → list_all (λ b. not (eqb b 32)) (written_cmd c).word ≡ true
no_space_test (Rec p auxiliaries) = refl
no_space_test _ = refl

pub one_word : (s : PlanStep) → HasNoSpace (written_step s).word
one_word (Whole (Ask c)) = no_space_from_test (written_cmd c).word (no_space_test c)
one_word (Whole Undo) = no_space_from_test (written_step (Whole Undo)).word refl
one_word (Whole Abort) = no_space_from_test (written_step (Whole Abort)).word refl
one_word (Whole Mark) = no_space_from_test (written_step (Whole Mark)).word refl
one_word (Whole Back) = no_space_from_test (written_step (Whole Back)).word refl
one_word (WidthLeftOut rd root) = no_space_from_test (written_step (WidthLeftOut rd root)).word refl

cmd_numbers : (c : Cmd) → IsStepInRange (whole c) → AreNumbers 17 (written_cmd c).numbers
cmd_numbers (Rec p auxiliaries) h = few_with_auxiliaries p auxiliaries.items h.count h.at_most
cmd_numbers c h = few_from_test 17 (written_cmd c).numbers (written_cmd c).maxima h.at_most refl

pub few_numbers : (s : PlanStep) → IsStepInRange s → AreNumbers 17 (written_step s).numbers
few_numbers (Whole (Ask c)) h = cmd_numbers c h
few_numbers (Whole Undo) h = few_from_test 17 [] [] h.at_most refl
few_numbers (Whole Abort) h = few_from_test 17 [] [] h.at_most refl
few_numbers (Whole Mark) h = few_from_test 17 [] [] h.at_most refl
few_numbers (Whole Back) h = few_from_test 17 [] [] h.at_most refl
few_numbers (WidthLeftOut rd root) h = few_from_test 17 (rd ∷ root ∷ []) (page ∷ page ∷ []) h.at_most refl
