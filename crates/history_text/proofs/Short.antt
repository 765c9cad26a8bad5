-- A proof that each line of a history has at most 256 bytes.
use Rattle.std.proofs.Common.{◌≡◌, ℕ, ◌*◌, ◌+◌, ◌<◌, ◌≤◌, ◌^◌, List, [], ◌∷◌, ◌++◌, length, length-append, leb, true, refl, ap, ◌∙◌, arith}
use Rattle.std.specs.List.{AllByRecursion}
use Rattle.std.specs.Fmt.{decimal}
use Rattle.std.proofs.lemmas.Bool.{leb-true}
use Rattle.std.proofs.lemmas.Fmt.{length-decimal-le}
use Rattle.decimal_text.specs.Numbers.{spelled_numbers}
use Rattle.realm_model.specs.declared.act.Act.{Act}
use Rattle.realm_model.specs.declared.act.Act.TheVariants.{Rec}
use Rattle.realm_model.specs.declared.act.Event.{Event}
use Rattle.history_text.specs.declared.opening.Opening.{Opening}
use Rattle.history_text.specs.Written.{written_act, act_text, IsActInRange}
use Rattle.history_text.specs.Events.{IsEventText}
use Rattle.history_text.specs.Histories.{opening_numbers, opening_text, IsOpeningText}
use Rattle.history_text.proofs.ActMeans.{few_numbers}
use Rattle.history_text.proofs.EventTexts.{event_text-digit}
use Rattle.history_text.proofs.OpeningTexts.{five_numbers}

length-field : (n : ℕ) → n < 2 ^ 32 → length (decimal n) ≤ 10
length-field n small = length-decimal-le 10 n (omega arith) (omega arith) (omega arith)

length-spelled : (ns : List ℕ) → AllByRecursion (λ n. n < 2 ^ 32) ns → length (spelled_numbers ns) ≤ 11 * length ns
length-spelled [] h = omega arith
length-spelled (n ∷ ns) h =
    let field : length (decimal n) ≤ 10 = length-field n h.0 in
    let more : length (spelled_numbers ns) ≤ 11 * length ns = length-spelled ns h.1 in
    let joined : length (decimal n ++ spelled_numbers ns) ≡ length (decimal n) + length (spelled_numbers ns) = length-append (decimal n) (spelled_numbers ns) in
    omega (arith, field, more, joined)

-- the word of an operation has at most 10 bytes
short_word : (a : Act) → leb (length (written_act a).word) 10 ≡ true
short_word (Rec g auxiliaries number) = refl
short_word _ = refl

length-act_text : (a : Act) → IsActInRange a → length (act_text a) ≤ 208
length-act_text a in_range =
    let are = few_numbers a in_range in
    let few : length (written_act a).numbers ≤ 18 = are.0 in
    let word : length (written_act a).word ≤ 10 = leb-true (length (written_act a).word) 10 (short_word a) in
    let numbers : length (spelled_numbers (written_act a).numbers) ≤ 11 * length (written_act a).numbers = length-spelled (written_act a).numbers are.1 in
    let joined : length (act_text a) ≡ length (written_act a).word + length (spelled_numbers (written_act a).numbers) = length-append (written_act a).word (spelled_numbers (written_act a).numbers) in
    omega (arith, few, word, numbers, joined)

pub event_is_short : (text : List ℕ) (event : Event) → IsEventText text event → length text ≤ 256
event_is_short text event is =
    let act : length (act_text event.act) ≤ 208 = length-act_text event.act is.act in
    let whole : length text ≡ length ((48 + event.build) ∷ 32 ∷ act_text event.act) = ap length (is.is_written ∙ event_text-digit event is.build) in
    omega (arith, act, whole)

pub opening_is_short : (text : List ℕ) (o : Opening) → IsOpeningText text o → length text ≤ 256
opening_is_short text o is =
    let are = five_numbers o is.size.at_most in
    let numbers : length (spelled_numbers (opening_numbers o)) ≤ 11 * length (opening_numbers o) = length-spelled (opening_numbers o) are.1 in
    let whole : length text ≡ length (opening_text o) = ap length is.is_written in
    omega (arith, numbers, whole)
