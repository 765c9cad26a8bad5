use Rattle.std.proofs.Common.{◌≡◌, ◌==◌, ℕ, Bool, true, false, cond, List, [], ◌∷◌, refl, sym, ap, ◌∙◌, lit≤, lit<}
use Rattle.rmi_abi.specs.declared.rec_run.ExitReason.{ExitReason}
use Rattle.rmi_abi.specs.RecRun.{reason_code, exit_word, only_reason}
use Rattle.rmm_model.specs.Machine.{granule_count, page_in, with_page}
use Rattle.rmm_model.specs.Table.{with_words_from}
use Rattle.rmm_model.specs.Command.RecEnter.{with_exit_words}
use Rattle.rmm.proofs.Pages.{one_again}
use Rattle.rmm.proofs.WordEdits.{but, with_words_from-same}
use Rattle.rmm.proofs.run_page.write_reason.Goals as goal

zero_either : (b : Bool) (n : ℕ) → n ≡ 0 → cond b 0 n ≡ 0
zero_either true n none = refl
zero_either false n none = none

-- the constant function 0, after its value at each index of a list is replaced by 0
abbrev zero_fields : List ℕ → ℕ → ℕ
zero_fields [] i = 0
zero_fields (j ∷ js) i = but j 0 (zero_fields js) i

zero_fields-zero : (js : List ℕ) (i : ℕ) → zero_fields js i ≡ 0
zero_fields-zero [] i = refl
zero_fields-zero (j ∷ js) i = zero_either (i == j) (zero_fields js i) (zero_fields-zero js i)

-- an exit with a reason alone has the reason's code in word 256, and 0 in all other words
only_word : (reason : ExitReason) (i : ℕ) → but 256 (reason_code reason) (λ k. 0) i ≡ exit_word (only_reason reason) i
only_word reason i =
    ap (λ (n : ℕ). cond (i == 256) (reason_code reason) n)
    (sym (zero_fields-zero (288 ∷ 289 ∷ 290 ∷ 320 ∷ 321 ∷ 322 ∷ 323 ∷ 416 ∷ 417 ∷ 418 ∷ 448 ∷ []) i))

pub returns : goal.returns
unfolding with_exit_words
returns g c =
    let m = c.args.granules.now in
    let page : ℕ = c.args.page in
    let written = one_again m _ _ page 256 256 256 c.code.result (λ i. 0) c.clear_exit.ensures.inside c.clear_exit.ensures.whole (lit≤ tt) (lit≤ tt) (lit< tt) c.clear_exit.ensures.cleared c.set_word.ensures.written in
    let machine : c.set_word.new.self ≡ with_page m page (with_words_from 256 256 (exit_word (only_reason c.args.reason)) (page_in m page)) =
    written
    ∙ ap (λ (code : ℕ). with_page m page (with_words_from 256 256 (but 256 code (λ i. 0)) (page_in m page))) c.code.ensures
    ∙ ap (with_page m page) (with_words_from-same 256 256 _ _ (page_in m page) (λ i lt. only_word c.args.reason i)) in
    record { machine = machine; count = ap granule_count machine }
