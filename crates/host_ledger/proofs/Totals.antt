-- A proof that the length of a history is at most the number of builds times the room of each.
use Rattle.std.proofs.Common.{◌≡◌, ◌≢◌, ℕ, zero, suc, ◌+◌, ◌*◌, ◌<◌, ◌≤◌, cond, List, [], ◌∷◌, map, length, refl, sym, ap, ◌∙◌, subst, arith, ⊎_elim}
use Rattle.std.specs.Prelude.{◌==◌, filter}
use Rattle.std.specs.List.{All}
use Rattle.std.proofs.lemmas.Bool.{eq-eqb, ne_eqb, cases_eq}
use Rattle.std.proofs.lemmas.List.Elements.{All-head, All-tail}
use Rattle.realm_model.specs.declared.act.Act.{Act}
use Rattle.realm_model.specs.declared.act.Event.{Event}
use Rattle.realm_model.specs.History.{acts_of}

-- ---- one more event

abbrev acts_in : List Event → List Act
acts_in events = map (λ (x : Event). x.act) events

-- ---- all builds below a number

abbrev count : ℕ → List Event → ℕ
count build history = length (acts_of build history)

total : ℕ → List Event → ℕ
total zero history = 0
total (suc n) history = total n history + count n history

count-own : (e : Event) (es : List Event) (n : ℕ) → e.build ≡ n → count n (e ∷ es) ≡ count n es + 1
count-own e es n is =
    ap (λ t. length (acts_in (cond t (e ∷ filter (λ x. x.build == n) es) (filter (λ x. x.build == n) es)))) (eq-eqb e.build n is) ∙ omega arith

count-other : (e : Event) (es : List Event) (n : ℕ) → e.build ≢ n → count n (e ∷ es) ≡ count n es
count-other e es n apart =
    ap (λ t. length (acts_in (cond t (e ∷ filter (λ x. x.build == n) es) (filter (λ x. x.build == n) es)))) (ne_eqb e.build n apart)

total_past : (e : Event) (es : List Event) (n : ℕ) → n ≤ e.build → total n (e ∷ es) ≡ total n es
unfolding total
total_past e es zero past = refl
total_past e es (suc n) past =
    let apart : e.build ≢ n = λ is. absurd (omega arith) in
    (λ i. total_past e es n (omega arith) i + count-other e es n apart i)

total_within : (e : Event) (es : List Event) (n : ℕ) → e.build < n → total n (e ∷ es) ≡ total n es + 1
unfolding total
total_within e es zero within = absurd (omega arith)
total_within e es (suc n) within = ⊎_elim
    (λ is. (λ i. total_past e es n (omega arith) i + count-own e es n is i) ∙ omega arith)
    (λ apart. (λ i. total_within e es n (omega arith) i + count-other e es n apart i) ∙ omega arith)
    (cases_eq e.build n)

total_none : (n : ℕ) → total n [] ≡ 0
unfolding total
total_none zero = refl
total_none (suc n) = ap (λ m. m + 0) (total_none n)

-- if all events are of builds below `n`, the length of the history is the sum of these builds' event counts
length-total : (n : ℕ) (history : List Event) → All (λ event. event.build < n) history → length history ≡ total n history
length-total n [] all = sym (total_none n)
length-total n (e ∷ es) all =
    let rest = length-total n es (All-tail (λ event. event.build < n) e es all) in
    let here = total_within e es n (All-head (λ event. event.build < n) e es all) in
    omega arith

total_bound : (n most : ℕ) (history : List Event) → ((build : ℕ) → build < n → count build history ≤ most) → total n history ≤ n * most
unfolding total
total_bound zero most history each = omega arith
total_bound (suc n) most history each =
    let rest = total_bound n most history (λ build h. each build (omega arith)) in
    let here = each n (omega arith) in
    grind arith

-- if no build has more events than its room, the history has at most as many events as the rooms of all builds together
pub length-le_rooms : (n most : ℕ) (history : List Event) → All (λ event. event.build < n) history → ((build : ℕ) → build < n → length (acts_of build history) ≤ most) → length history ≤ n * most
length-le_rooms n most history all each = subst (λ k. k ≤ n * most) (sym (length-total n history all)) (total_bound n most history each)

-- if all events are of builds below `n`, a build with the number `n` or above has no events
pub acts_of-past : (n build : ℕ) (history : List Event) → All (λ event. event.build < n) history → n ≤ build → acts_of build history ≡ []
acts_of-past n build [] all past = refl
acts_of-past n build (e ∷ es) all past =
    let head = All-head (λ event. event.build < n) e es all in
    let apart : e.build ≢ build = λ is. absurd (omega arith) in
    ap (λ t. acts_in (cond t (e ∷ filter (λ x. x.build == build) es) (filter (λ x. x.build == build) es))) (ne_eqb e.build build apart)
    ∙ acts_of-past n build es (All-tail (λ event. event.build < n) e es all) past
