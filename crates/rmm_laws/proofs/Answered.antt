-- Proofs that RMI_SUCCESS is the only result word allowed for a command that is not refused, and that only refusals are
-- allowed for a refused command.
use Rattle.std.proofs.Common.{◌≡◌, inl, ◌&&◌, Bool, true, false, List, [], ◌∷◌, Option, Some, None, refl, sym, ap, subst, ◌∙◌, ⊎_elim}
use Rattle.std.specs.List.{list_all}
use Rattle.std.proofs.lemmas.Bool.{cases_Bool, and_parts, both_ways, cond-true, cond-false}
use Rattle.rmi_abi.specs.declared.call.Call.{Call}
use Rattle.rmi_abi.specs.declared.call.Call.TheVariants.{Version, GranuleDelegate, GranuleUndelegate, DataCreateUnknown, DataDestroy, RealmActivate, RealmCreate, RealmDestroy, RecCreate, RecDestroy, RecEnter, PsciComplete, RttCreate, RttDestroy, RttMapUnprotected, RttReadEntry, RttUnmapUnprotected, Features, RttFold, RecAuxCount, DataCreate, RttInitRipas, RttSetRipas}
use Rattle.rmi_abi.specs.declared.word.Word.{Word}
use Rattle.rmi_abi.specs.declared.word.Word.TheVariants.{Success, Running}
use Rattle.rmi_abi.specs.RecRun.{flags_in}
use Rattle.rmi_abi.specs.Word.{number}
use Rattle.rmm_model.specs.declared.answer.FailedCondition.{FailedCondition}
use Rattle.rmm_model.specs.declared.condition.Condition.{Condition}
use Rattle.rmm_model.specs.Allowed.{is_among, words_after, or_success, allowed_words}
use Rattle.rmm_model.specs.Call.{command_of, performed}
use Rattle.rmm_model.specs.Check.{Command, Check, decided, first_failing}
use Rattle.rmm_model.specs.Command.DataCreate.{data_create, source_checks, target_checks}
use Rattle.rmm_model.specs.Command.DataCreateUnknown.{data_create_unknown}
use Rattle.rmm_model.specs.Command.DataDestroy.{data_destroy}
use Rattle.rmm_model.specs.Command.Features.{features}
use Rattle.rmm_model.specs.Command.GranuleDelegate.{granule_delegate}
use Rattle.rmm_model.specs.Command.GranuleUndelegate.{granule_undelegate}
use Rattle.rmm_model.specs.Command.RealmActivate.{realm_activate}
use Rattle.rmm_model.specs.Command.RealmCreate.{realm_create, params_checks}
use Rattle.rmm_model.specs.Command.RealmDestroy.{realm_destroy}
use Rattle.rmm_model.specs.Command.PsciComplete.{psci_complete, request_checks}
use Rattle.rmm_model.specs.Command.RecAuxCount.{rec_aux_count}
use Rattle.rmm_model.specs.Command.RecCreate.{rec_create, aux_checks, number_checks}
use Rattle.rmm_model.specs.Command.RecDestroy.{rec_destroy}
use Rattle.rmm_model.specs.Command.RttCreate.{rtt_create}
use Rattle.rmm_model.specs.Command.RttDestroy.{rtt_destroy}
use Rattle.rmm_model.specs.Command.RttFold.{rtt_fold}
use Rattle.rmm_model.specs.Command.RttInitRipas.{rtt_init_ripas, range_checks}
use Rattle.rmm_model.specs.Command.RttMapUnprotected.{rtt_map_unprotected}
use Rattle.rmm_model.specs.Command.RttReadEntry.{rtt_read_entry}
use Rattle.rmm_model.specs.Command.RttSetRipas.{rtt_set_ripas, ripas_request_checks}
use Rattle.rmm_model.specs.Command.RttUnmapUnprotected.{rtt_unmap_unprotected}
use Rattle.rmm_model.specs.Command.Version.{version}
use Rattle.rmm_model.specs.Command.RecEnter.{rec_enter, entered_answer, after_steps, after_entry, enter_checks}
use Rattle.rmm_model.specs.Machine.{Machine, number_of, page_in}
use Rattle.rmm_laws.specs.Refusal.{IsRefused, is_refusal, IsOneOf}
use Rattle.rmm_laws.proofs.Freed.{same_refusal}
use Rattle.rmm_laws.proofs.Passed.{Passed, passed}

-- ---- own answers

-- a word is RMI_SUCCESS, or the word for a REC that runs on
abbrev pub IsOwn : Word → Type 0
IsOwn Success = Unit {0}
IsOwn Running = Unit {0}
IsOwn _ = ⊥

-- the word of the answer to RMI_REC_ENTER satisfies `IsOwn`, whether the REC leaves or runs on
entered : (leaves : Bool) → IsOwn (entered_answer leaves).word
entered true = tt
entered false = tt

-- the answer that a command gives if its checks pass has a word that satisfies `IsOwn`
pub own : (call : Call) (m : Machine) → IsOwn (command_of call m).answer.word
unfolding version features granule_delegate granule_undelegate realm_create realm_activate rec_aux_count rtt_read_entry rtt_create rtt_destroy realm_destroy rtt_fold rtt_map_unprotected rtt_unmap_unprotected data_create data_create_unknown data_destroy rtt_init_ripas rtt_set_ripas rec_create rec_destroy rec_enter psci_complete
own (Version requested) m = tt
own (Features index) m = tt
own (GranuleDelegate address) m = tt
own (GranuleUndelegate address) m = tt
own (RealmCreate rd params) m = tt
own (RealmActivate rd) m = tt
own (RecAuxCount rd) m = tt
own (RttReadEntry rd ipa level) m = tt
own (RttCreate rd rtt ipa level) m = tt
own (RttDestroy rd ipa level) m = tt
own (RealmDestroy rd) m = tt
own (RttFold rd ipa level) m = tt
own (RttMapUnprotected rd ipa level descriptor) m = tt
own (RttUnmapUnprotected rd ipa level) m = tt
own (DataCreate rd page ipa source flags) m = tt
own (DataCreateUnknown rd page ipa) m = tt
own (DataDestroy rd ipa) m = tt
own (RttInitRipas rd base top) m = tt
own (RttSetRipas rd rec base top) m = tt
own (RecCreate rd rec params) m = tt
own (RecDestroy rec) m = tt
own (RecEnter rec run) m =
    let g = number_of m rec in
    let flags = flags_in (page_in m (number_of m run)) in
    entered (after_steps (after_entry m g run flags) g flags 16).0
own (PsciComplete calling target status) m = tt

pub not_refused : (word : Word) → IsOwn word → IsRefused (number word) → ⊥
not_refused Success is refused = refused.0 refl
not_refused Running is refused = refused.1 refl
not_refused _ is refused = is

own_done : (word : Word) → IsOwn word → is_refusal word ≡ false
own_done Success is = refl
own_done Running is = refl
own_done _ is = absurd is

-- ---- checks that refuse, each after checks that stand before it

refuses : List Condition → List Check → Bool
refuses seen [] = true
refuses seen (c ∷ cs) = is_refusal c.refusal.answer.word && (list_all (is_among seen) c.after && refuses (c.refusal.condition ∷ seen) cs)

all_refuse : (call : Call) (m : Machine) → refuses [] (command_of call m).checks ≡ true
unfolding refuses version features granule_delegate granule_undelegate realm_create params_checks realm_activate rec_aux_count rtt_read_entry rtt_create rtt_destroy realm_destroy rtt_fold rtt_map_unprotected rtt_unmap_unprotected data_create source_checks target_checks data_create_unknown data_destroy rtt_init_ripas range_checks rtt_set_ripas ripas_request_checks rec_create aux_checks number_checks rec_destroy rec_enter enter_checks psci_complete request_checks
all_refuse (Version requested) m = refl
all_refuse (Features index) m = refl
all_refuse (GranuleDelegate address) m = refl
all_refuse (GranuleUndelegate address) m = refl
all_refuse (RealmCreate rd params) m = refl
all_refuse (RealmActivate rd) m = refl
all_refuse (RecAuxCount rd) m = refl
all_refuse (RttReadEntry rd ipa level) m = refl
all_refuse (RttCreate rd rtt ipa level) m = refl
all_refuse (RttDestroy rd ipa level) m = refl
all_refuse (RealmDestroy rd) m = refl
all_refuse (RttFold rd ipa level) m = refl
all_refuse (RttMapUnprotected rd ipa level descriptor) m = refl
all_refuse (RttUnmapUnprotected rd ipa level) m = refl
all_refuse (DataCreate rd page ipa source flags) m = refl
all_refuse (DataCreateUnknown rd page ipa) m = refl
all_refuse (DataDestroy rd ipa) m = refl
all_refuse (RttInitRipas rd base top) m = refl
all_refuse (RttSetRipas rd rec base top) m = refl
all_refuse (RecCreate rd rec params) m = refl
all_refuse (RecDestroy rec) m = refl
all_refuse (RecEnter rec run) m = refl
all_refuse (PsciComplete calling target status) m = refl

parts_of : (seen : List Condition) (c : Check) (cs : List Check) → refuses seen (c ∷ cs) ≡ true
    → (is_refusal c.refusal.answer.word ≡ true) × (list_all (is_among seen) c.after ≡ true) × (refuses (c.refusal.condition ∷ seen) cs ≡ true)
unfolding refuses
parts_of seen c cs all =
    let first = and_parts (is_refusal c.refusal.answer.word) (list_all (is_among seen) c.after && refuses (c.refusal.condition ∷ seen) cs) all in
    let rest = and_parts (list_all (is_among seen) c.after) (refuses (c.refusal.condition ∷ seen) cs) first.1 in
    (first.0, rest.0, rest.1)

-- ---- the words of checks

words_failed : (seen : List Condition) (c : Check) (cs : List Check) → list_all (is_among seen) c.after ≡ true → c.fails ≡ true → words_after seen (c ∷ cs) ≡ c.refusal.answer.word ∷ words_after seen cs
unfolding words_after
words_failed seen c cs made fails = cond-true _ _ _ made ∙ cond-true _ _ _ fails

words_passed : (seen : List Condition) (c : Check) (cs : List Check) → list_all (is_among seen) c.after ≡ true → c.fails ≡ false → words_after seen (c ∷ cs) ≡ words_after (c.refusal.condition ∷ seen) cs
unfolding words_after
words_passed seen c cs made passes = cond-true _ _ _ made ∙ cond-false _ _ _ passes

words_unmade : (seen : List Condition) (c : Check) (cs : List Check) → list_all (is_among seen) c.after ≡ false → words_after seen (c ∷ cs) ≡ words_after seen cs
unfolding words_after
words_unmade seen c cs unmade = cond-false _ _ _ unmade

no_words : (seen : List Condition) (cs : List Check) → Passed cs → words_after seen cs ≡ []
unfolding words_after
no_words seen [] ok = refl
no_words seen (c ∷ cs) ok =
    ⊎_elim
    (λ (made : list_all (is_among seen) c.after ≡ true). words_passed seen c cs made ok.0 ∙ no_words (c.refusal.condition ∷ seen) cs ok.1)
    (λ (unmade : list_all (is_among seen) c.after ≡ false). words_unmade seen c cs unmade ∙ no_words seen cs ok.1)
    (cases_Bool (list_all (is_among seen) c.after))

-- if `refuses` holds of the checks, the words that `words_after` gives begin with the first failing check's word, which
-- is a refusal
first_word : (seen : List Condition) (cs : List Check) (refusal : FailedCondition) → refuses seen cs ≡ true → first_failing cs ≡ Some refusal
    → (more : List Word) × (words_after seen cs ≡ refusal.answer.word ∷ more) × (is_refusal refusal.answer.word ≡ true)
first_word seen [] refusal all is = absurd (cc)
first_word seen (c ∷ cs) refusal all is =
    let parts = parts_of seen c cs all in
    ⊎_elim
    (λ (fails : c.fails ≡ true).
    let it : c.refusal ≡ refusal = same_refusal (sym (cond-true c.fails (Some c.refusal) (first_failing cs) fails) ∙ is) in (
      words_after seen cs,
      words_failed seen c cs parts.1 fails ∙ ap (λ (f : FailedCondition). f.answer.word ∷ words_after seen cs) it,
      ap (λ (f : FailedCondition). is_refusal f.answer.word) (sym it) ∙ parts.0,
    ))
    (λ (passes : c.fails ≡ false).
    let rest = first_word (c.refusal.condition ∷ seen) cs refusal parts.2 (sym (cond-false c.fails (Some c.refusal) (first_failing cs) passes) ∙ is) in
    (rest.0, words_passed seen c cs parts.1 passes ∙ rest.1, rest.2))
    (cases_Bool c.fails)

-- if `refuses` holds of the checks, each word that `words_after` gives is a refusal
each_word : (seen all : List Condition) (cs : List Check) (word : Word) → refuses all cs ≡ true → IsOneOf word (words_after seen cs) → is_refusal word ≡ true
unfolding words_after
each_word seen all [] word refuse is = absurd is
each_word seen all (c ∷ cs) word refuse is =
    let parts = parts_of all c cs refuse in
    ⊎_elim
    (λ (made : list_all (is_among seen) c.after ≡ true). ⊎_elim
    (λ (fails : c.fails ≡ true).
    ⊎_elim
    (λ (first : c.refusal.answer.word ≡ word). ap is_refusal (sym first) ∙ parts.0)
    (λ (rest : IsOneOf word (words_after seen cs)). each_word seen (c.refusal.condition ∷ all) cs word parts.2 rest)
    (subst (IsOneOf word) (words_failed seen c cs made fails) is))
    (λ (passes : c.fails ≡ false). each_word (c.refusal.condition ∷ seen) (c.refusal.condition ∷ all) cs word parts.2 (subst (IsOneOf word) (words_passed seen c cs made passes) is))
    (cases_Bool c.fails))
    (λ (unmade : list_all (is_among seen) c.after ≡ false). each_word seen (c.refusal.condition ∷ all) cs word parts.2 (subst (IsOneOf word) (words_unmade seen c cs unmade) is))
    (cases_Bool (list_all (is_among seen) c.after))

-- ---- answers and allowed words

done_at : (f : Option FailedCondition) (command : Command) (m : Machine) → first_failing command.checks ≡ f → refuses [] command.checks ≡ true → is_refusal (decided f command m).0.word ≡ false
    → allowed_words command ≡ Success ∷ []
unfolding allowed_words
done_at (Some refusal) command m is all done = absurd (both_ways (is_refusal refusal.answer.word) done (first_word [] command.checks refusal all is).2)
done_at None command m is all done = ap or_success (no_words [] command.checks (passed command.checks is))

pub allowed_done : (call : Call) (m : Machine) → is_refusal (performed call m).0.word ≡ false → allowed_words (command_of call m) ≡ Success ∷ []
unfolding performed
allowed_done call m done = done_at (first_failing (command_of call m).checks) (command_of call m) m refl (all_refuse call m) done

passed_at : (f : Option FailedCondition) (command : Command) (m : Machine) → first_failing command.checks ≡ f → refuses [] command.checks ≡ true → is_refusal (decided f command m).0.word ≡ false → Passed command.checks
passed_at (Some refusal) command m is all done = absurd (both_ways (is_refusal refusal.answer.word) done (first_word [] command.checks refusal all is).2)
passed_at None command m is all done = passed command.checks is

-- a call that is not refused has passed its checks
pub done_passed : (call : Call) (m : Machine) → is_refusal (performed call m).0.word ≡ false → Passed (command_of call m).checks
unfolding performed
done_passed call m done = passed_at (first_failing (command_of call m).checks) (command_of call m) m refl (all_refuse call m) done

own_at : (f : Option FailedCondition) (command : Command) (m : Machine) → first_failing command.checks ≡ f → refuses [] command.checks ≡ true → is_refusal (decided f command m).0.word ≡ false
    → decided f command m ≡ (command.answer, command.machine)
own_at (Some refusal) command m is all done = absurd (both_ways (is_refusal refusal.answer.word) done (first_word [] command.checks refusal all is).2)
own_at None command m is all done = refl

-- a call that is not refused gives the answer and the machine of its command
pub done_own : (call : Call) (m : Machine) → is_refusal (performed call m).0.word ≡ false → performed call m ≡ ((command_of call m).answer, (command_of call m).machine)
unfolding performed
done_own call m done = own_at (first_failing (command_of call m).checks) (command_of call m) m refl (all_refuse call m) done

refused_at : (f : Option FailedCondition) (command : Command) (m : Machine) → first_failing command.checks ≡ f → refuses [] command.checks ≡ true → IsOwn command.answer.word → is_refusal (decided f command m).0.word ≡ true
    → IsOneOf (decided f command m).0.word (allowed_words command) × ((word : Word) → IsOneOf word (allowed_words command) → is_refusal word ≡ true)
unfolding allowed_words
refused_at (Some refusal) command m is all mine refused =
    let first = first_word [] command.checks refusal all is in
    let ws : List Word = words_after [] command.checks in
    let same : or_success ws ≡ ws = ap or_success first.1 ∙ sym first.1 in (
      subst (IsOneOf refusal.answer.word) (sym (ap or_success first.1)) (inl refl),
      λ word allowed. each_word [] [] command.checks word all (subst (IsOneOf word) same allowed),
    )
refused_at None command m is all mine refused = absurd (both_ways (is_refusal command.answer.word) (own_done command.answer.word mine) refused)

pub allowed_refused : (call : Call) (m : Machine) → is_refusal (performed call m).0.word ≡ true
    → IsOneOf (performed call m).0.word (allowed_words (command_of call m)) × ((word : Word) → IsOneOf word (allowed_words (command_of call m)) → is_refusal word ≡ true)
unfolding performed
allowed_refused call m refused = refused_at (first_failing (command_of call m).checks) (command_of call m) m refl (all_refuse call m) (own call m) refused
