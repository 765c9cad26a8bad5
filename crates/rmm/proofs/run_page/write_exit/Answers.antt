use Rattle.std.proofs.Common.{◌≡◌, ℕ, ◌<◌, ◌≤◌, ap, ◌∙◌, lit≤, lit<}
use Rattle.rmi_abi.specs.RecRun.{exit_word}
use Rattle.rmm_model.specs.Machine.{Machine, granule_count, page_in, with_page, with_word}
use Rattle.rmm_model.specs.Table.{with_words_from}
use Rattle.rmm_model.specs.Command.RecEnter.{with_exit_words}
use Rattle.rmm.proofs.Pages.{one_again}
use Rattle.rmm.proofs.WordEdits.{but}
use Rattle.rmm.proofs.run_page.write_exit.Goals as goal

pub returns : goal.returns
unfolding with_exit_words
returns g c =
    let m = c.args.granules.now in
    let page : ℕ = c.args.page in
    let exit = c.args.exit.now in
    let more : (now new : Machine) (j word : ℕ) (f : ℕ → ℕ) → 256 ≤ j → j < 512 → now ≡ with_page m page (with_words_from 256 256 f (page_in m page)) → new ≡ with_word now page j word
    → new ≡ with_page m page (with_words_from 256 256 (but j word f) (page_in m page)) =
    λ now new j word f low high made wrote. one_again m now new page 256 256 j word f c.clear_exit.ensures.inside c.clear_exit.ensures.whole (lit≤ tt) low high made wrote in
    let cleared = c.clear_exit.ensures.cleared in
    let imm = more _ _ 448 exit.imm _ (lit≤ tt) (lit< tt) cleared c.set_word.ensures.written in
    let ripas = more _ _ 418 exit.ripas _ (lit≤ tt) (lit< tt) imm c.set_word-2.ensures.written in
    let top = more _ _ 417 exit.ripas_top _ (lit≤ tt) (lit< tt) ripas c.set_word-3.ensures.written in
    let base = more _ _ 416 exit.ripas_base _ (lit≤ tt) (lit< tt) top c.set_word-4.ensures.written in
    let gpr3 = more _ _ 323 exit.gpr3 _ (lit≤ tt) (lit< tt) base c.set_word-5.ensures.written in
    let gpr2 = more _ _ 322 exit.gpr2 _ (lit≤ tt) (lit< tt) gpr3 c.set_word-6.ensures.written in
    let gpr1 = more _ _ 321 exit.gpr1 _ (lit≤ tt) (lit< tt) gpr2 c.set_word-7.ensures.written in
    let gpr0 = more _ _ 320 exit.gpr0 _ (lit≤ tt) (lit< tt) gpr1 c.set_word-8.ensures.written in
    let hpfar = more _ _ 290 exit.hpfar _ (lit≤ tt) (lit< tt) gpr0 c.set_word-9.ensures.written in
    let far = more _ _ 289 exit.far _ (lit≤ tt) (lit< tt) hpfar c.set_word-10.ensures.written in
    let esr = more _ _ 288 exit.esr _ (lit≤ tt) (lit< tt) far c.set_word-11.ensures.written in
    let reason = more _ _ 256 c.code.result _ (lit≤ tt) (lit< tt) esr c.set_word-12.ensures.written in
    let fields : ℕ → ℕ → ℕ = λ code.
    but 256 code (but 288 exit.esr (but 289 exit.far (but 290 exit.hpfar
    (but 320 exit.gpr0 (but 321 exit.gpr1 (but 322 exit.gpr2 (but 323 exit.gpr3
    (but 416 exit.ripas_base (but 417 exit.ripas_top (but 418 exit.ripas (but 448 exit.imm (λ i. 0)))))))))))) in
    let written : c.set_word-12.new.self ≡ with_page m page (with_words_from 256 256 (exit_word exit) (page_in m page)) =
    reason ∙ ap (λ (code : ℕ). with_page m page (with_words_from 256 256 (fields code) (page_in m page))) c.code.ensures in
    record { machine = written; count = ap granule_count written }
