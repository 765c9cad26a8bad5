-- Proofs that inserting a block into the doubly linked list of its order, or removing it, preserves the invariant of
-- the lists.
use Rattle.std.proofs.Common.{◌≡◌, ◌≢◌, ℕ, zero, suc, ◌+◌, ◌<◌, ◌≤◌, List, length, set, sym, refl, ap, ◌∙◌, subst, arith, ◌⊎◌, inl, inr, length-set}
use Rattle.std.proofs.lemmas.Bool.{cases_eq, cases_lt}
use Rattle.std.proofs.lemmas.List.{get_or-set_same, get_or-set_other}
use Rattle.buddy.specs.Heads.{head_at}
use Rattle.buddy.specs.Links.{at, IsLinked}

written : (xs : List ℕ) (i x : ℕ) → i < length xs → at (set xs i x) i ≡ x
written xs i x lt = get_or-set_same xs i x 0 lt

kept : (xs : List ℕ) (i j x : ℕ) → j ≢ i → at (set xs i x) j ≡ at xs j
kept xs i j x differs = get_or-set_other xs i j x 0 differs

module _ (count : ℕ) (heads next prev firsts : List ℕ) (L : IsLinked count heads next prev firsts) where
  climbs : (more g k : ℕ) → head_at heads g ≡ k + 1 → L.top ≤ at L.ranks g + more → at firsts k < count
  climbs zero g k head le =
      let low = L.low g k head in
      let below = L.below g low.1 in
      absurd (omega arith)
  climbs (suc more) g k head le =
      elim (cases_lt (at prev g) count) [
        | inl lt ↦ let back = L.back g k head lt in let up = back.2 in climbs more (at prev g) k back.0 (omega arith)
        | inr ge ↦ let low = L.low g k head in let begins = L.begins g k head ge in omega arith
      ]

  -- if a listed block has order k, `firsts` has a granule of the machine for that order
  pub has_first : (g k : ℕ) → head_at heads g ≡ k + 1 → at firsts k < count
  has_first g k head = climbs L.top g k head (omega arith)

  -- ---- a granule becomes the first of a list

  module _ (g k : ℕ) (lt : g < count) (low : k < 10) (vacant : head_at heads g ≡ 0) (back : List ℕ) (sized : length back ≡ count) (alone : count ≤ at back g)
      (others : (y : ℕ) → y ≢ g → y ≢ at firsts k → at back y ≡ at prev y) (front : at firsts k < count → at back (at firsts k) ≡ g) where
    abbrev first : ℕ
    first = at firsts k

    abbrev now : List ℕ
    now = set heads g (k + 1)

    abbrev nexts : List ℕ
    nexts = set next g first

    abbrev fronts : List ℕ
    fronts = set firsts k g

    abbrev ranks : List ℕ
    ranks = set L.ranks g L.top

    not_g : (y j : ℕ) → head_at heads y ≡ j + 1 → y ≢ g
    not_g y j head same = let here : head_at heads g ≡ j + 1 = ap (head_at heads) (sym same) ∙ head in omega arith

    here : head_at now g ≡ k + 1
    here = written heads g (k + 1) (let s = L.sized.0 in omega arith)

    there : (y j : ℕ) → head_at heads y ≡ j + 1 → head_at now y ≡ j + 1
    there y j head = kept heads g y (k + 1) (not_g y j head) ∙ head

    was : (y j : ℕ) → head_at now y ≡ j + 1 → ((y ≡ g) × (j ≡ k)) ⊎ ((y ≢ g) × (head_at heads y ≡ j + 1))
    was y j head =
        elim (cases_eq y g) [
          | inl same ↦ let h : head_at now g ≡ j + 1 = ap (head_at now) (sym same) ∙ head in let is = here in inl (same, omega arith)
          | inr differs ↦ inr (differs, sym (kept heads g y (k + 1) differs) ∙ head)
        ]

    next_is : at nexts g ≡ first
    next_is = written next g first (let s = L.sized.1 in omega arith)

    first_is : at fronts k ≡ g
    first_is = written firsts k g (let s = L.sized.3 in omega arith)

    rank_is : at ranks g ≡ L.top
    rank_is = written L.ranks g L.top (let s = L.ranked in omega arith)

    begins_old : (y j : ℕ) → y ≢ g → head_at heads y ≡ j + 1 → count ≤ at back y → at fronts j ≡ y
    begins_old y j differs head ge =
        let inside = (L.low y j head).1 in
        elim (cases_eq y first) [
          | inl same ↦ let p : at back y ≡ g = ap (at back) same ∙ front (omega arith) in absurd (omega arith)
          | inr other ↦
              let before = others y differs other in
              let b : at firsts j ≡ y = L.begins y j head (omega arith) in
              elim (cases_eq j k) [
                | inl same ↦ absurd (other (sym b ∙ ap (at firsts) same))
                | inr apart ↦ kept firsts k j g apart ∙ b
              ]
        ]

    abbrev Back : ℕ → ℕ → ℕ → Type 0
    Back y j p = (head_at now p ≡ j + 1) × (at nexts p ≡ y) × (at ranks y < at ranks p)

    back_old : (y j : ℕ) → y ≢ g → head_at heads y ≡ j + 1 → at back y < count → Back y j (at back y)
    back_old y j differs head inside =
        let ly = (L.low y j head).1 in
        let rank_y = kept L.ranks g y L.top differs in
        elim (cases_eq y first) [
          | inl same ↦
              let fits : first < count = omega arith in
              let p : at back y ≡ g = ap (at back) same ∙ front fits in
              let f = (L.first k low fits).0 in
              let heads_same : head_at heads y ≡ head_at heads first = ap (head_at heads) same in
              let orders : k ≡ j = omega arith in
              let below = L.below y ly in
              let top = rank_is in
              subst (Back y j) (sym p) (here ∙ ap (λ (i : ℕ). i + 1) orders, next_is ∙ sym same, omega arith)
          | inr other ↦
              let before = others y differs other in
              let b = L.back y j head (omega arith) in
              let up = b.2 in
              let apart = not_g (at prev y) j b.0 in
              let rank_p = kept L.ranks g (at prev y) L.top apart in
              subst (Back y j) (sym before) (there (at prev y) j b.0, kept next g (at prev y) first apart ∙ b.1, omega arith)
        ]

    abbrev On : ℕ → ℕ → ℕ → Type 0
    On y j x = (head_at now x ≡ j + 1) × (at back x ≡ y)

    on_old : (y j : ℕ) → y ≢ g → head_at heads y ≡ j + 1 → at next y < count → On y j (at next y)
    on_old y j differs head inside =
        let o = L.on y j head inside in
        let ly = (L.low y j head).1 in
        let not_first : at next y ≢ first = λ same.
        let f = (L.first k low (omega arith)).1 in
        let p : at prev first ≡ y = ap (at prev) (sym same) ∙ o.1 in
        omega arith in
        (there (at next y) j o.0, others (at next y) (not_g (at next y) j o.0) not_first ∙ o.1)

    abbrev First : ℕ → ℕ → Type 0
    First j y = (head_at now y ≡ j + 1) × (count ≤ at back y)

    first_old : (j : ℕ) → j < 10 → j ≢ k → at firsts j < count → First j (at firsts j)
    first_old j lj apart inside =
        let f = L.first j lj inside in
        let alone_before = f.1 in
        let not_first : at firsts j ≢ first = λ same.
        let h = (L.first k low (omega arith)).0 in
        let heads_same : head_at heads (at firsts j) ≡ head_at heads first = ap (head_at heads) same in
        let head = f.0 in
        apart (omega arith) in
        let q = others (at firsts j) (not_g (at firsts j) j f.0) not_first in
        (there (at firsts j) j f.0, omega arith)

    pub put_linked : IsLinked count now nexts back fronts
    put_linked = record {
      sized = (length-set heads g (k + 1) ∙ L.sized.0, length-set next g first ∙ L.sized.1, sized, length-set firsts k g ∙ L.sized.3);
      few = L.few;
      low = λ y j head. elim (was y j head) [ inl s ↦ (omega arith, omega arith) | inr o ↦ L.low y j o.1 ];
      ranks = ranks;
      ranked = length-set L.ranks g L.top ∙ L.ranked;
      top = L.top + 1;
      below = λ y inside.
          elim (cases_eq y g) [
            | inl same ↦ let r : at ranks y ≡ at ranks g = ap (at ranks) same in let top = rank_is in omega arith
            | inr differs ↦ let r = kept L.ranks g y L.top differs in let b = L.below y inside in omega arith
          ];
      first = λ j lj inside.
          elim (cases_eq j k) [
            | inl same ↦ subst (First j) (sym (ap (at fronts) same ∙ first_is)) (here ∙ ap (λ (i : ℕ). i + 1) (sym same), alone)
            | inr apart ↦ let y = kept firsts k j g apart in subst (First j) (sym y) (first_old j lj apart (omega arith))
          ];
      begins = λ y j head ge. elim (was y j head) [ inl s ↦ ap (at fronts) s.1 ∙ first_is ∙ sym s.0 | inr o ↦ begins_old y j o.0 o.1 ge ];
      back = λ y j head inside.
          elim (was y j head) [
            | inl s ↦ let p : at back y ≡ at back g = ap (at back) s.0 in absurd (omega arith)
            | inr o ↦ back_old y j o.0 o.1 inside
          ];
      on = λ y j head inside.
          elim (was y j head) [
            | inl s ↦
                let x : at nexts y ≡ first = ap (at nexts) s.0 ∙ next_is in
                let fits : first < count = omega arith in
                let f = (L.first k low fits).0 in
                subst (On y j) (sym x) (there first j (f ∙ ap (λ (i : ℕ). i + 1) (sym s.1)), front fits ∙ sym s.0)
            | inr o ↦ let x = kept next g y first o.0 in subst (On y j) (sym x) (on_old y j o.0 o.1 (omega arith))
          ];
    }

  -- the lists are still linked after a block is inserted, whether its list was empty or had a first block
  module _ (g k : ℕ) (lt : g < count) (low : k < 10) (vacant : head_at heads g ≡ 0) where
    abbrev ended : List ℕ
    ended = set prev g 4096

    ends : at ended g ≡ 4096
    ends = written prev g 4096 (let s = L.sized.2 in omega arith)

    pub put_first : count ≤ at firsts k → IsLinked count (set heads g (k + 1)) (set next g (at firsts k)) ended (set firsts k g)
    put_first none =
        let few = L.few in
        let end = ends in
        put_linked g k lt low vacant ended (length-set prev g 4096 ∙ L.sized.2) (omega arith) (λ y differs other. kept prev g y 4096 differs) (λ some. absurd (omega arith))

    pub put_before : at firsts k < count → IsLinked count (set heads g (k + 1)) (set next g (at firsts k)) (set ended (at firsts k) g) (set firsts k g)
    put_before some =
        let few = L.few in
        let end = ends in
        let f = (L.first k low some).0 in
        let apart : g ≢ at firsts k = λ same. let h : head_at heads g ≡ head_at heads (at firsts k) = ap (head_at heads) same in omega arith in
        let len : length ended ≡ count = length-set prev g 4096 ∙ L.sized.2 in
        let still = kept ended (at firsts k) g g apart in
        put_linked g k lt low vacant (set ended (at firsts k) g) (length-set ended (at firsts k) g ∙ len) (omega arith)
        (λ y differs other. kept ended (at firsts k) y g other ∙ kept prev g y 4096 differs) (λ _. written ended (at firsts k) g (omega arith))

  -- ---- a granule leaves its list, and its neighbours are joined

  module _ (g k : ℕ) (head : head_at heads g ≡ k + 1) (nexts prevs fronts : List ℕ) (sized : (length nexts ≡ count) × (length prevs ≡ count) × (length fronts ≡ 10))
      (other_nexts : (y : ℕ) → y ≢ at prev g → at nexts y ≡ at next y) (joined : at prev g < count → at nexts (at prev g) ≡ at next g)
      (other_prevs : (y : ℕ) → y ≢ at next g → at prevs y ≡ at prev y) (joined_back : at next g < count → at prevs (at next g) ≡ at prev g)
      (other_fronts : (j : ℕ) → j ≢ k → at fronts j ≡ at firsts j) (front_kept : at prev g < count → at fronts k ≡ at firsts k) (front_next : count ≤ at prev g → at fronts k ≡ at next g) where
    abbrev p : ℕ
    p = at prev g

    abbrev n : ℕ
    n = at next g

    abbrev gone : List ℕ
    gone = set heads g 0

    g_inside : g < count
    g_inside = (L.low g k head).1

    had : (y j : ℕ) → head_at gone y ≡ j + 1 → (y ≢ g) × (head_at heads y ≡ j + 1)
    had y j is =
        elim (cases_eq y g) [
          | inl same ↦
              let h : head_at gone y ≡ head_at gone g = ap (head_at gone) same in
              let none = written heads g 0 (let i = g_inside in let s = L.sized.0 in omega arith) in
              absurd (omega arith)
          | inr differs ↦ (differs, sym (kept heads g y 0 differs) ∙ is)
        ]

    has : (y j : ℕ) → y ≢ g → head_at heads y ≡ j + 1 → head_at gone y ≡ j + 1
    has y j differs is = kept heads g y 0 differs ∙ is

    one_order : (y j i : ℕ) → head_at heads y ≡ j + 1 → head_at heads y ≡ i + 1 → j ≡ i
    one_order y j i a b = omega arith

    -- the granule before `g` in its list, if there is one, is not `g`
    p_not_g : p < count → p ≢ g
    p_not_g inside same = let up = (L.back g k head inside).2 in let r : at L.ranks p ≡ at L.ranks g = ap (at L.ranks) same in omega arith

    -- the granule after `g` in its list, if there is one, is not `g`
    n_not_g : n < count → n ≢ g
    n_not_g inside same =
        let o = (L.on g k head inside).1 in
        let q : at prev n ≡ at prev g = ap (at prev) same in
        let i = g_inside in
        p_not_g (omega arith) (sym q ∙ o)

    abbrev First' : ℕ → ℕ → Type 0
    First' j y = (head_at gone y ≡ j + 1) × (count ≤ at prevs y)

    first_of : (j : ℕ) → j < 10 → at firsts j < count → at firsts j ≢ g → First' j (at firsts j)
    first_of j lj inside differs =
        let f = L.first j lj inside in
        let alone = f.1 in
        let i = g_inside in
        let not_next : at firsts j ≢ n = λ same.
        let o = (L.on g k head (omega arith)).1 in
        let z : at prev (at firsts j) ≡ at prev n = ap (at prev) same in
        omega arith in
        let q = other_prevs (at firsts j) not_next in
        (has (at firsts j) j differs f.0, omega arith)

    -- if the removed block's list still has a first block, that block has the list's order and no previous block
    first_own : k < 10 → at fronts k < count → First' k (at fronts k)
    first_own low inside =
        elim (cases_lt p count) [
          | inl has_prev ↦
              let q = front_kept has_prev in
              let fits : at firsts k < count = omega arith in
              let alone = (L.first k low fits).1 in
              let differs : at firsts k ≢ g = λ same. let w : at prev (at firsts k) ≡ p = ap (at prev) same in omega arith in
              subst (First' k) (sym q) (first_of k low fits differs)
          | inr none ↦
              let q = front_next none in
              let fits : n < count = omega arith in
              let w = joined_back fits in
              subst (First' k) (sym q) (has n k (n_not_g fits) (L.on g k head fits).0, omega arith)
        ]

    first_new : (j : ℕ) → j < 10 → at fronts j < count → First' j (at fronts j)
    first_new j lj inside =
        elim (cases_eq j k) [
          | inl same ↦ subst (λ (i : ℕ). First' i (at fronts i)) (sym same) (first_own (omega arith) (subst (λ (i : ℕ). at fronts i < count) same inside))
          | inr apart ↦
              let q = other_fronts j apart in
              let fits : at firsts j < count = omega arith in
              let differs : at firsts j ≢ g = λ same. apart (one_order g j k (ap (head_at heads) (sym same) ∙ (L.first j lj fits).0) head) in
              subst (First' j) (sym q) (first_of j lj fits differs)
        ]

    begins_new : (y j : ℕ) → head_at gone y ≡ j + 1 → count ≤ at prevs y → at fronts j ≡ y
    begins_new y j is ge =
        let w = had y j is in
        let ly = (L.low y j w.1).1 in
        elim (cases_eq y n) [
          | inl same ↦
              let fits : n < count = omega arith in
              let orders : j ≡ k = one_order n j k (ap (head_at heads) (sym same) ∙ w.1) (L.on g k head fits).0 in
              let q : at prevs y ≡ p = ap (at prevs) same ∙ joined_back fits in
              ap (at fronts) orders ∙ front_next (omega arith) ∙ sym same
          | inr differs ↦
              let q = other_prevs y differs in
              let b : at firsts j ≡ y = L.begins y j w.1 (omega arith) in
              elim (cases_eq j k) [
                | inr apart ↦ other_fronts j apart ∙ b
                | inl same ↦
                    elim (cases_lt p count) [
                      | inl has_prev ↦ ap (at fronts) same ∙ front_kept has_prev ∙ ap (at firsts) (sym same) ∙ b
                      | inr none ↦ absurd (w.0 (sym b ∙ ap (at firsts) same ∙ L.begins g k head none))
                    ]
              ]
        ]

    abbrev Back' : ℕ → ℕ → ℕ → Type 0
    Back' y j i = (head_at gone i ≡ j + 1) × (at nexts i ≡ y) × (at L.ranks y < at L.ranks i)

    back_new : (y j : ℕ) → head_at gone y ≡ j + 1 → at prevs y < count → Back' y j (at prevs y)
    back_new y j is inside =
        let w = had y j is in
        let ly = (L.low y j w.1).1 in
        elim (cases_eq y n) [
          | inl same ↦
              let fits : n < count = omega arith in
              let o = L.on g k head fits in
              let orders : k ≡ j = one_order n k j o.0 (ap (head_at heads) (sym same) ∙ w.1) in
              let q : at prevs y ≡ p = ap (at prevs) same ∙ joined_back fits in
              let p_fits : p < count = omega arith in
              let b = L.back g k head p_fits in
              let i = g_inside in
              let prev_of = o.1 in
              let up_n = (L.back n k o.0 (omega arith)).2 in
              let up_g = b.2 in
              let rank_same : at L.ranks (at prev n) ≡ at L.ranks g = ap (at L.ranks) prev_of in
              let rank_y : at L.ranks y ≡ at L.ranks n = ap (at L.ranks) same in
              subst (Back' y j) (sym q) (has p j (p_not_g p_fits) (b.0 ∙ ap (λ (i : ℕ). i + 1) orders), joined p_fits ∙ sym same, omega arith)
          | inr differs ↦
              let q = other_prevs y differs in
              let fits : at prev y < count = omega arith in
              let b = L.back y j w.1 fits in
              subst (Back' y j) (sym q) (
                has (at prev y) j (λ same. differs (sym b.1 ∙ ap (at next) same)) b.0,
                other_nexts (at prev y) (λ same. let c = L.back g k head (let r : at prev y ≡ p = same in omega arith) in w.0 (sym b.1 ∙ ap (at next) same ∙ c.1)) ∙ b.1,
                b.2,
              )
        ]

    abbrev On' : ℕ → ℕ → ℕ → Type 0
    On' y j i = (head_at gone i ≡ j + 1) × (at prevs i ≡ y)

    on_new : (y j : ℕ) → head_at gone y ≡ j + 1 → at nexts y < count → On' y j (at nexts y)
    on_new y j is inside =
        let w = had y j is in
        let ly = (L.low y j w.1).1 in
        elim (cases_eq y p) [
          | inl same ↦
              let p_fits : p < count = omega arith in
              let orders : k ≡ j = one_order p k j (L.back g k head p_fits).0 (ap (head_at heads) (sym same) ∙ w.1) in
              let q : at nexts y ≡ n = ap (at nexts) same ∙ joined p_fits in
              let fits : n < count = omega arith in
              subst (On' y j) (sym q) (has n j (n_not_g fits) ((L.on g k head fits).0 ∙ ap (λ (i : ℕ). i + 1) orders), joined_back fits ∙ sym same)
          | inr differs ↦
              let q = other_nexts y differs in
              let fits : at next y < count = omega arith in
              let o = L.on y j w.1 fits in
              subst (On' y j) (sym q) (
                has (at next y) j (λ same. differs (sym o.1 ∙ ap (at prev) same)) o.0,
                other_prevs (at next y) (λ same. let c = L.on g k head (let r : at next y ≡ n = same in omega arith) in w.0 (sym o.1 ∙ ap (at prev) same ∙ c.1)) ∙ o.1,
              )
        ]

    pub take_linked : IsLinked count gone nexts prevs fronts
    take_linked = record {
      sized = (length-set heads g 0 ∙ L.sized.0, sized.0, sized.1, sized.2);
      few = L.few;
      low = λ y j is. L.low y j (had y j is).1;
      ranks = L.ranks;
      ranked = L.ranked;
      top = L.top;
      below = L.below;
      first = first_new;
      begins = begins_new;
      back = back_new;
      on = on_new;
    }

  -- the lists are still linked after a block is removed, whether it had both neighbours, only a previous one, only a
  -- next one, or none
  module _ (g k p n : ℕ) (head : head_at heads g ≡ k + 1) (p_is : p ≡ at prev g) (n_is : n ≡ at next g) where
    abbrev gone_from : List ℕ → List ℕ → List ℕ → Type 0
    gone_from nexts prevs fronts = IsLinked count (set heads g 0) nexts prevs fronts

    in_range : (g < count) × (k < 10)
    in_range = let l = L.low g k head in (l.1, l.0)

    next_written : at prev g < count → at (set next (at prev g) (at next g)) (at prev g) ≡ at next g
    next_written inside = written next (at prev g) (at next g) (let s = L.sized.1 in omega arith)

    prev_written : at next g < count → at (set prev (at next g) (at prev g)) (at next g) ≡ at prev g
    prev_written inside = written prev (at next g) (at prev g) (let s = L.sized.2 in omega arith)

    front_written : at (set firsts k (at next g)) k ≡ at next g
    front_written = written firsts k (at next g) (let s = L.sized.3 in let r = in_range.1 in omega arith)

    pub take_between : p < count → n < count → gone_from (set next p n) (set prev n p) firsts
    take_between a b =
        subst (λ (i : ℕ). gone_from (set next i n) (set prev n i) firsts) (sym p_is) (subst (λ (i : ℕ). gone_from (set next (at prev g) i) (set prev i (at prev g)) firsts) (sym n_is)
        (take_linked g k head (set next (at prev g) (at next g)) (set prev (at next g) (at prev g)) firsts
        (length-set next (at prev g) (at next g) ∙ L.sized.1, length-set prev (at next g) (at prev g) ∙ L.sized.2, L.sized.3)
        (λ y differs. kept next (at prev g) y (at next g) differs) next_written
        (λ y differs. kept prev (at next g) y (at prev g) differs) prev_written
        (λ j apart. refl) (λ inside. refl) (λ none. absurd (omega arith))))

    pub take_last : p < count → count ≤ n → gone_from (set next p n) prev firsts
    take_last a b =
        subst (λ (i : ℕ). gone_from (set next i n) prev firsts) (sym p_is) (subst (λ (i : ℕ). gone_from (set next (at prev g) i) prev firsts) (sym n_is)
        (take_linked g k head (set next (at prev g) (at next g)) prev firsts
        (length-set next (at prev g) (at next g) ∙ L.sized.1, L.sized.2, L.sized.3)
        (λ y differs. kept next (at prev g) y (at next g) differs) next_written
        (λ y differs. refl) (λ inside. absurd (omega arith))
        (λ j apart. refl) (λ inside. refl) (λ none. absurd (omega arith))))

    pub take_front : count ≤ p → n < count → gone_from next (set prev n p) (set firsts k n)
    take_front a b =
        subst (λ (i : ℕ). gone_from next (set prev n i) (set firsts k n)) (sym p_is) (subst (λ (i : ℕ). gone_from next (set prev i (at prev g)) (set firsts k i)) (sym n_is)
        (take_linked g k head next (set prev (at next g) (at prev g)) (set firsts k (at next g))
        (L.sized.1, length-set prev (at next g) (at prev g) ∙ L.sized.2, length-set firsts k (at next g) ∙ L.sized.3)
        (λ y differs. refl) (λ inside. absurd (omega arith))
        (λ y differs. kept prev (at next g) y (at prev g) differs) prev_written
        (λ j apart. kept firsts k j (at next g) apart) (λ inside. absurd (omega arith)) (λ none. front_written)))

    pub take_only : count ≤ p → count ≤ n → gone_from next prev (set firsts k n)
    take_only a b =
        subst (λ (i : ℕ). gone_from next prev (set firsts k i)) (sym n_is)
        (take_linked g k head next prev (set firsts k (at next g))
        (L.sized.1, L.sized.2, length-set firsts k (at next g) ∙ L.sized.3)
        (λ y differs. refl) (λ inside. absurd (omega arith))
        (λ y differs. refl) (λ inside. absurd (omega arith))
        (λ j apart. kept firsts k j (at next g) apart) (λ inside. absurd (omega arith)) (λ none. front_written))

pub recounted : {n m : ℕ} {heads next prev firsts : List ℕ} → n ≡ m → IsLinked n heads next prev firsts → IsLinked m heads next prev firsts
recounted {heads = heads} {next = next} {prev = prev} {firsts = firsts} same linked = subst (λ (i : ℕ). IsLinked i heads next prev firsts) same linked
