-- A proof that a REC entered after an unanswered exit has the registers and the queued guest steps that it had at that
-- exit, and no results of guest steps.
use Rattle.std.proofs.Common.{◌≡◌, ℕ, ◌+◌, ◌-◌, ◌<◌, inl, false, length, List, unwrap_or, refl, sym, ap, subst, ◌∙◌, arith}
use Rattle.std.proofs.lemmas.Bool.{cond_both, cond-false}
use Rattle.page_arena.specs.Word.{word_of_page}
use Rattle.rmi_abi.specs.RecRun.{injects_sea, emulates_mmio}
use Rattle.rmm_model.specs.declared.granule.RmmGranule.{RmmGranule}
use Rattle.rmm_model.specs.declared.granule.RmmGranuleState.{RmmGranuleState}
use Rattle.rmm_model.specs.declared.granule.RmmGranuleState.TheVariants.{Rec as IsRec}
use Rattle.rmm_model.specs.declared.rec.LastExit.{LastExit}
use Rattle.rmm_model.specs.declared.rec.LastExit.TheVariants.{Other, HostCall, RipasChange, EmulatableAbort, UnprotectedAbort, SystemRegister}
use Rattle.rmm_model.specs.declared.rec.PsciRequest.{PsciRequest}
use Rattle.rmm_model.specs.declared.rec.PsciRequest.TheVariants.{Complete}
use Rattle.rmm_model.specs.declared.rec.RmmRec.{RmmRec}
use Rattle.rmm_model.specs.Granule.{rec_of}
use Rattle.rmm_model.specs.Guest.{rec_in}
use Rattle.rmm_model.specs.Machine.{Machine, granule_at, page_in, number_of}
use Rattle.rmm_model.specs.Rec.{no_rec}
use Rattle.rmm_model.specs.Command.PsciComplete.{with_rec}
use Rattle.rmm_model.specs.Command.RecEnter.{with_copied, with_gic, with_psci_result, with_host_answer, running_at, after_entry}
use Rattle.rmm_laws.specs.Guest.{is_completed, IsUnanswered, IsAsLeft}
use Rattle.rmm_laws.specs.Proper.{IsProper}
use Rattle.rmm_laws.proofs.PageWords.{word_of_page-with_words_from_other}
use Rattle.rmm_laws.proofs.Writes.{granule_at-same, page_in-same, taken_inside}

no_psci : (m : Machine) (g : ℕ) (request : PsciRequest) → is_completed request ≡ false → with_psci_result m g request ≡ m
no_psci m g (Complete value) none = absurd (cc)
no_psci m g _ none = refl

unanswered : (m : Machine) (g page flags : ℕ) (last : LastExit) → IsUnanswered last (rec_in m g).psci flags → with_host_answer m g last page flags ≡ m
unanswered m g page flags RipasChange none = absurd none
unanswered m g page flags HostCall none = absurd none
unanswered m g page flags SystemRegister none = absurd none
unanswered m g page flags UnprotectedAbort none = cond-false (injects_sea flags) _ _ none
unanswered m g page flags EmulatableAbort none = cond-false (injects_sea flags) _ _ none.0 ∙ cond-false (emulates_mmio flags) _ _ none.1
unanswered m g page flags Other none = no_psci m g (rec_in m g).psci none

-- a granule has the same attributes in both machines, and words 0 to 191 of its page are the same
abbrev IsLike : Machine → Machine → ℕ → Type 0
IsLike m n g = (granule_at n g ≡ granule_at m g) × ((i : ℕ) → i < 192 → word_of_page (page_in n g) i ≡ word_of_page (page_in m g) i)

like_gic : (m : Machine) (g page : ℕ) → length (page_in m g) ≡ 4096 → g < length m.pages → IsLike m (with_gic m g page) g
unfolding with_gic with_copied
like_gic m g page whole inside =
    cond_both m.settings.checks_gic _ m (λ (n : Machine). IsLike m n g)
    (λ sure.
    let f : ℕ → ℕ = λ i. word_of_page (page_in m page) (96 + (i - 192)) in
    (refl, λ i lt. ap (λ (p : List ℕ). word_of_page p i) (page_in-same m g _ inside) ∙ word_of_page-with_words_from_other 192 f (page_in m g) whole 17 i (omega arith) (omega arith) (inl (omega arith))))
    (λ never. (refl, λ i lt. refl))

pub as_left : (m : Machine) (g address flags : ℕ) (rec : RmmRec) → IsProper m → (granule_at m g).state ≡ IsRec rec → IsUnanswered rec.exit rec.psci flags → IsAsLeft m (after_entry m g address flags) g rec address
unfolding after_entry
as_left m g address flags rec proper is none =
    let page : ℕ = number_of m address in
    let old : RmmRec = rec_in m g in
    let its : old ≡ rec = ap (λ (s : RmmGranuleState). unwrap_or (rec_of s) no_rec) is in
    let inside : g < length m.granules = taken_inside m g (λ free. cc) in
    let pages : length m.pages ≡ length m.granules = proper.linked.sound.pages in
    let k : Machine = with_rec m g (running_at old address) in
    let n : Machine = with_gic k g page in
    let there : granule_at k g ≡ record (granule_at m g) { state = IsRec (running_at old address) } = granule_at-same m g (record (granule_at m g) { state = IsRec (running_at old address) }) inside in
    let like : IsLike k n g = like_gic k g page (proper.linked.sound.whole g inside) (omega arith) in
    let now = like.0 ∙ there in
    let psci : (rec_in n g).psci ≡ rec.psci = ap (λ (c : RmmGranule). (unwrap_or (rec_of c.state) no_rec).psci) now ∙ ap (λ (r : RmmRec). r.psci) its in
    let still : IsUnanswered old.exit (rec_in n g).psci flags = subst (λ (p : PsciRequest). IsUnanswered old.exit p flags) (sym psci) (subst (λ (r : RmmRec). IsUnanswered r.exit rec.psci flags) (sym its) none) in
    subst (λ (o : Machine). IsAsLeft m o g rec address) (sym (unanswered n g page flags old.exit still))
    (ap (λ (c : RmmGranule). c.state) now ∙ ap (λ (r : RmmRec). IsRec (running_at r address)) its, like.1)
