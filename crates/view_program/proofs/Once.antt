-- Proofs that a list of lines is the text of at most one history, and that applying a history stops at none of its
-- lines.
use Rattle.std.proofs.Common.{◌≡◌, ℕ, List, [], ◌∷◌, ◌++◌, refl, sym, ap, ◌∙◌, subst}
use Rattle.realm_model.specs.declared.act.Event.{Event}
use Rattle.host_ledger.specs.View.{HostView, with_event}
use Rattle.realm_host.specs.Recorded.{CanApply}
use Rattle.history_text.specs.Histories.{opening_numbers, IsOpeningText}
use Rattle.history_text.specs.declared.opening.Opening.{Opening}
use Rattle.history_text.proofs.EventTexts.{written_once}
use Rattle.history_text.proofs.OpeningTexts.{five_numbers, same_numbers, same_opening}
use Rattle.realm_host.specs.declared.why_not.WhyNot.{WhyNot}
use Rattle.view_program.specs.Applied.{host_of_opening, IsLineTaken, AreTaken, IsHistory, OpensNone, IsNoEvent, IsEventRefused, StopsAt}

one_opening : (text : List ℕ) (a b : Opening) → IsOpeningText text a → IsOpeningText text b → a ≡ b
one_opening text a b is other =
    same_opening a b (same_numbers text _ (opening_numbers a) b (five_numbers a is.size.at_most) is.is_written refl other)

one_taken : (old : HostView) (line : List ℕ) (a b : HostView) → IsLineTaken old line a → IsLineTaken old line b → a ≡ b
one_taken old line a b is other =
    is.grows ∙ ap (λ (event : Event). with_event old event.build event.act) (written_once line is.event other.event is.is_text other.is_text) ∙ sym other.grows

taken_once : (old : HostView) (lines : List (List ℕ)) (a b : HostView) → AreTaken old lines a → AreTaken old lines b → a ≡ b
taken_once old [] a b taken other = taken ∙ sym other
taken_once old (line ∷ more) a b taken other =
    taken_once other.0 more a b (subst (λ (mid : HostView). AreTaken mid more a) (one_taken old line taken.0 other.0 taken.1 other.1) taken.2) other.2

-- the line can be applied to the host
record IsNext (host : HostView) (line : List ℕ) : Type 0 where
  new : HostView
  taken : IsLineTaken host line new

-- if lines are applied one after another, each line can be applied to the host that the lines before it lead to
next : (old : HostView) (before : List (List ℕ)) (line : List ℕ) (after : List (List ℕ)) (last mid : HostView) → AreTaken old (before ++ line ∷ after) last → AreTaken old before mid → IsNext mid line
next old [] line after last mid taken here = record { new = taken.0; taken = subst (λ (host : HostView). IsLineTaken host line taken.0) (sym here) taken.1 }
next old (first ∷ more) line after last mid taken here =
    next here.0 more line after last mid (subst (λ (host : HostView). AreTaken host (more ++ line ∷ after) last) (one_taken old first taken.0 here.0 taken.1 here.1) taken.2) here.2

-- ---- histories

pub opens_one : (lines : List (List ℕ)) (o : Opening) (host : HostView) → IsHistory lines o host → OpensNone lines → ⊥
opens_one [] o host history none = let bad = history.lines_are in absurd (cc)
opens_one (first ∷ more) o host history none =
    let same : first ≡ history.first = cc in
    none o (subst (λ line. IsOpeningText line o) (sym same) history.opens)

pub one_machine : (lines : List (List ℕ)) (o p : Opening) (host other : HostView) → IsHistory lines o host → IsHistory lines p other → o ≡ p
one_machine lines o p host other is also =
    let same : is.first ≡ also.first = cc in
    one_opening is.first o p is.opens (subst (λ line. IsOpeningText line p) (sym same) also.opens)

pub one_host : (lines : List (List ℕ)) (o p : Opening) (host other : HostView) → IsHistory lines o host → IsHistory lines p other → host ≡ other
one_host lines o p host other is also =
    let same : is.events ≡ also.events = cc in
    taken_once (host_of_opening o) is.events host other is.taken
    (subst (λ (events : List (List ℕ)). AreTaken (host_of_opening o) events other) (sym same)
    (subst (λ (it : Opening). AreTaken (host_of_opening it) also.events other) (sym (one_machine lines o p host other is also)) also.taken))

next_of : (IsReason : HostView → List ℕ → Type 0) (lines : List (List ℕ)) (o : Opening) (host : HostView) (number : ℕ) → IsHistory lines o host
    → (stop : StopsAt IsReason lines number) → IsNext stop.host stop.line
next_of IsReason lines o host number history stop =
    let here = stop.history in
    let all : history.first ∷ history.events ≡ here.first ∷ (here.events ++ stop.line ∷ stop.after) = sym history.lines_are ∙ stop.split
    ∙ ap (λ (t : List (List ℕ)). t ++ stop.line ∷ stop.after) here.lines_are in
    let same : history.first ≡ here.first = cc in
    let events : history.events ≡ here.events ++ stop.line ∷ stop.after = cc in
    let machine : stop.o ≡ o = one_opening here.first stop.o o here.opens (subst (λ line. IsOpeningText line o) same history.opens) in
    next (host_of_opening o) here.events stop.line stop.after host stop.host
    (subst (λ (lines' : List (List ℕ)). AreTaken (host_of_opening o) lines' host) events history.taken)
    (subst (λ (it : Opening). AreTaken (host_of_opening it) here.events stop.host) machine here.taken)

pub stops_at_no_event : (lines : List (List ℕ)) (o : Opening) (host : HostView) (number : ℕ) → IsHistory lines o host → StopsAt (λ it line. IsNoEvent line) lines number → ⊥
stops_at_no_event lines o host number history stop =
    let it = next_of (λ it line. IsNoEvent line) lines o host number history stop in
    stop.reason it.taken.event it.taken.is_text

pub stops_at_refused : (lines : List (List ℕ)) (o : Opening) (host : HostView) (number : ℕ) (why : WhyNot) → IsHistory lines o host → StopsAt (IsEventRefused why) lines number → ⊥
stops_at_refused lines o host number why history stop =
    let it = next_of (IsEventRefused why) lines o host number history stop in
    let refused = stop.reason in
    refused.cannot (subst (λ (event : Event). CanApply stop.host event) (written_once stop.line it.taken.event refused.event it.taken.is_text refused.is_text) it.taken.can)
