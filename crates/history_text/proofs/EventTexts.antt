-- Proofs that different events have different texts, and that a line is the text of the event parsed from it.
use Rattle.std.proofs.Common.{◌≡◌, ◌≢◌, ℕ, ◌+◌, ◌-◌, ◌<◌, ◌≤◌, List, [], ◌∷◌, ◌++◌, length, Option, Some, None, cond, ltb, refl, sym, ap, ap₂, ◌∙◌, inl, inr, arith}
use Rattle.std.specs.Prelude.{IfSome, IfNone}
use Rattle.std.proofs.lemmas.Bool.{cases_Bool, false≢true, ltb-true, lt-ltb}
use Rattle.std.specs.Fmt.{decimal}
use Rattle.std.proofs.lemmas.Fmt.{decimal_digit}
use Rattle.realm_model.specs.Undoing.{by}
use Rattle.realm_model.specs.declared.act.Event.{Event}
use Rattle.history_text.specs.Acts.{act_of_text}
use Rattle.history_text.specs.Written.{act_text}
use Rattle.history_text.specs.Events.{event_text, IsEventText}
use Rattle.history_text.proofs.ActTexts.{text_from_act, act_from_text}

-- if a build's number is below 8, the decimal text of the number is one digit
pub digit_first : (build : ℕ) → build < 8 → decimal build ≡ (48 + build) ∷ []
digit_first build below = decimal_digit build (omega arith)

pub event_text-digit : (event : Event) → event.build < 8 → event_text event ≡ (48 + event.build) ∷ 32 ∷ act_text event.act
event_text-digit event below = ap (λ t. t ++ 32 ∷ act_text event.act) (digit_first event.build below)

-- the text of an event is not empty
pub not_empty : (text : List ℕ) (event : Event) → IsEventText text event → 0 < length text
not_empty text event is =
    let whole : length text ≡ length ((48 + event.build) ∷ 32 ∷ act_text event.act) = ap length (is.is_written ∙ event_text-digit event is.build) in
    omega (arith, whole)

pub space_next : (digit : ℕ) (rest : List ℕ) (event : Event) → IsEventText (digit ∷ rest) event → rest ≡ 32 ∷ act_text event.act
space_next digit rest event is =
    let same : digit ∷ rest ≡ (48 + event.build) ∷ 32 ∷ act_text event.act = is.is_written ∙ event_text-digit event is.build in
    cc

-- the event's build is written as the one character `digit`, and `act` is the text of the event's operation
pub record Parts (digit : ℕ) (act : List ℕ) (event : Event) : Type 0 where
  pub begins : decimal event.build ≡ digit ∷ []
  pub act_is : act ≡ act_text event.act

pub parts_of : (line : List ℕ) (digit : ℕ) (act : List ℕ) (event : Event) → line ≡ digit ∷ 32 ∷ act → IsEventText line event → Parts digit act event
parts_of line digit act event split is =
    let same : digit ∷ 32 ∷ act ≡ (48 + event.build) ∷ 32 ∷ act_text event.act = sym split ∙ is.is_written ∙ event_text-digit event is.build in
    let digit_is : digit ≡ 48 + event.build = cc in
    record { begins = digit_first event.build is.build ∙ ap (λ n. n ∷ []) (sym digit_is); act_is = cc }

pub is_event : (line : List ℕ) (digit : ℕ) (rest : List ℕ) (event : Event) → line ≡ digit ∷ 32 ∷ rest → event.build < 8 → decimal event.build ≡ digit ∷ [] → act_of_text rest ≡ Some event.act
    → IsEventText line event
is_event line digit rest event split below begins means =
    let act = text_from_act rest event.act means in
    record {
      is_written = split ∙ rw (act.0, begins) refl;
      build = below;
      act = act.1;
    }

-- ---- a build's digit

pub build_found : (digit : ℕ) (o : Option ℕ) → 48 ≤ digit → o ≡ cond (ltb (digit - 48) 8) (Some (digit - 48)) None → IfSome o (λ b. (b < 8) × (decimal b ≡ digit ∷ []))
build_found digit o low is = elim (cases_Bool (ltb (digit - 48) 8)) [
  | inl low_enough ↦
      let same : o ≡ Some (digit - 48) = is ∙ ap (λ t. cond t (Some (digit - 48)) None) low_enough in
      let below : digit - 48 < 8 = ltb-true (digit - 48) 8 low_enough in
      let back : 48 + (digit - 48) ≡ digit = omega (arith, low) in
      rw same (below, digit_first (digit - 48) below ∙ ap (λ n. n ∷ []) back)
  | inr too_high ↦
      let same : o ≡ None = is ∙ ap (λ t. cond t (Some (digit - 48)) None) too_high in
      rw same tt
]

pub build_none : (digit : ℕ) (o : Option ℕ) → 48 ≤ digit → o ≡ cond (ltb (digit - 48) 8) (Some (digit - 48)) None → IfNone o ((b : ℕ) → b < 8 → decimal b ≢ digit ∷ [])
build_none digit o low is = elim (cases_Bool (ltb (digit - 48) 8)) [
  | inl low_enough ↦
      let same : o ≡ Some (digit - 48) = is ∙ ap (λ t. cond t (Some (digit - 48)) None) low_enough in
      rw same tt
  | inr too_high ↦
      let same : o ≡ None = is ∙ ap (λ t. cond t (Some (digit - 48)) None) too_high in
      rw same (λ b below begins.
      let heads : (48 + b) ∷ [] ≡ digit ∷ [] = sym (digit_first b below) ∙ begins in
      let digit_is : 48 + b ≡ digit = cc in
      let small : digit - 48 < 8 = omega (arith, digit_is, below) in
      false≢true (sym too_high ∙ lt-ltb (digit - 48) 8 small))
]

-- two events with the same text are equal
pub written_once : (text : List ℕ) (a b : Event) → IsEventText text a → IsEventText text b → a ≡ b
written_once text a b is_a is_b =
    let same : (48 + a.build) ∷ 32 ∷ act_text a.act ≡ (48 + b.build) ∷ 32 ∷ act_text b.act =
    sym (is_a.is_written ∙ event_text-digit a is_a.build) ∙ is_b.is_written ∙ event_text-digit b is_b.build in
    let digits : 48 + a.build ≡ 48 + b.build = cc in
    let builds : a.build ≡ b.build = omega (arith, digits) in
    let texts : act_text a.act ≡ act_text b.act = cc in
    let found : Some a.act ≡ Some b.act = sym (act_from_text (act_text a.act) a.act refl is_a.act) ∙ ap act_of_text texts ∙ act_from_text (act_text b.act) b.act refl is_b.act in
    let acts : a.act ≡ b.act = cc in
    let whole : by a.build a.act ≡ by b.build b.act = ap₂ by builds acts in
    whole
