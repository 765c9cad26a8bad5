-- The plan step that a text spells as a word, such as `take`, followed by numbers.
use Rattle.std.specs.Prelude.{ℕ, nat_le, List, [], ◌∷◌, codes, if◌then◌else◌, Option, None, option_map}
use Rattle.std.specs.Option.{option_or}
use Rattle.std.specs.Str.{bytes_eq}
use Rattle.decimal_text.specs.Grammar.{meaning_of_text}
use Rattle.decimal_text.specs.Rows.{none, one, two, three, four, up_to}
use Rattle.decimal_text.specs.Written.{u8, u16, u32}
use Rattle.host_commands.specs.declared.cmd.Cmd.{Cmd}
use Rattle.host_commands.specs.declared.cmd.Cmd.TheVariants.{Take, Fill, Peek, Delegate, Realm, Rtt, Ripas, Data, Unknown, Rec, Activate, Enter, Exit, Poke}
use Rattle.host_commands.specs.declared.cmd.Step.TheVariants.{Ask, Undo, Abort, Mark, Back}
use Rattle.realm_plan.specs.declared.step.PlanStep.{PlanStep}
use Rattle.realm_plan.specs.declared.step.PlanStep.TheVariants.{Whole, WidthLeftOut}
use Rattle.realm_plan.specs.StepsWritten.{page, page_offset}

abbrev pub whole : Cmd → PlanStep
whole cmd = Whole (Ask cmd)

abbrev pub page_step_at : List ℕ → List ℕ → Option PlanStep
page_step_at word ns =
    if bytes_eq word (codes "take") then one u8 (λ order. whole (Take order)) ns
    else if bytes_eq word (codes "fill") then two page u8 (λ p value. whole (Fill p value)) ns
    else if bytes_eq word (codes "peek") then two page page_offset (λ p o. whole (Peek p o)) ns
    else if bytes_eq word (codes "delegate") then one page (λ p. whole (Delegate p)) ns
    else None

-- the `realm` step without an IPA width, if the numbers are two page numbers
abbrev pub short_realm_at : List ℕ → Option PlanStep
short_realm_at ns = two page page (λ rd root. WidthLeftOut rd root) ns

abbrev pub whole_realm_at : List ℕ → Option PlanStep
whole_realm_at ns = three page page u8 (λ rd root width. whole (Realm rd root width)) ns

abbrev pub realm_of_numbers : List ℕ → Option PlanStep
realm_of_numbers ns = option_or (short_realm_at ns) (whole_realm_at ns)

abbrev pub realm_step_at : List ℕ → List ℕ → Option PlanStep
realm_step_at word ns =
    if bytes_eq word (codes "realm") then realm_of_numbers ns
    else if bytes_eq word (codes "activate") then none (whole Activate) ns
    else None

abbrev pub table_step_at : List ℕ → List ℕ → Option PlanStep
table_step_at word ns =
    if bytes_eq word (codes "rtt") then three page u32 u8 (λ p ipa level. whole (Rtt p ipa level)) ns
    else if bytes_eq word (codes "ripas") then two u32 u16 (λ ipa count. whole (Ripas ipa count)) ns
    else if bytes_eq word (codes "data") then three page u32 page (λ p ipa source. whole (Data p ipa source)) ns
    else if bytes_eq word (codes "unknown") then two page u32 (λ p ipa. whole (Unknown p ipa)) ns
    else None

abbrev pub rec_of_numbers : List ℕ → Option PlanStep
rec_of_numbers [] = None
rec_of_numbers (p ∷ more) = if nat_le p page then option_map (λ auxiliaries. whole (Rec p auxiliaries)) (up_to 16 page more) else None

abbrev pub rec_step_at : List ℕ → List ℕ → Option PlanStep
rec_step_at word ns =
    if bytes_eq word (codes "rec") then rec_of_numbers ns
    else if bytes_eq word (codes "enter") then one u16 (λ number. whole (Enter number)) ns
    else if bytes_eq word (codes "exit") then one u16 (λ number. whole (Exit number)) ns
    else if bytes_eq word (codes "poke") then four u16 u32 page_offset u8 (λ number ipa o value. whole (Poke number ipa o value)) ns
    else None

-- the step of the word `undo`, `abort`, `mark` or `back`, if no numbers follow it; none for any other word
abbrev pub way_back_step_at : List ℕ → List ℕ → Option PlanStep
way_back_step_at word ns =
    if bytes_eq word (codes "undo") then none (Whole Undo) ns
    else if bytes_eq word (codes "abort") then none (Whole Abort) ns
    else if bytes_eq word (codes "mark") then none (Whole Mark) ns
    else if bytes_eq word (codes "back") then none (Whole Back) ns
    else None

abbrev pub step_at : List ℕ → List ℕ → Option PlanStep
step_at word ns =
    option_or (page_step_at word ns) (option_or (realm_step_at word ns)
    (option_or (table_step_at word ns) (option_or (rec_step_at word ns) (way_back_step_at word ns))))

-- the step that a text spells as a word and its numbers, with one space before each number; none if it spells no step
abbrev pub step_of : List ℕ → Option PlanStep
step_of text = meaning_of_text step_at text
