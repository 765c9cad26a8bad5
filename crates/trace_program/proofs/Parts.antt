-- Lemmas that bytes appended to a text extend its last line or begin new lines, and that earlier lines stay.
use Rattle.std.proofs.Common.{◌≡◌, ℕ, ◌<◌, ◌==◌, Bool, true, false, cond, not, List, [], ◌∷◌, ◌++◌, length, refl, sym, ap, ◌∙◌, subst, append_assoc, append-nil, arith, length-append, true-eqb, inl, inr}
use Rattle.std.specs.Prelude.{Option, Some, None}
use Rattle.std.specs.List.{list_all, onto_first}
use Rattle.std.proofs.lemmas.Bool.{and_parts, not-true, cases_Bool}
use Rattle.std.proofs.lemmas.List.Splits.{length-slice_split}
use Rattle.checked_io.specs.Lines.{parts_of, last_line, without_empty_last, lines_in}
use Rattle.rmm_trace.specs.Cuts.{before_mark, after_mark}

-- the parts of a text between line feeds, with one byte more at the end of the last part
abbrev onto_last : ℕ → List (List ℕ) → List (List ℕ)
onto_last b [] = []
onto_last b (part ∷ []) = (part ++ b ∷ []) ∷ []
onto_last b (part ∷ next ∷ more) = part ∷ onto_last b (next ∷ more)

abbrev grown : Bool → ℕ → List (List ℕ) → List (List ℕ)
grown true b parts = parts ++ [] ∷ []
grown false b parts = onto_last b parts

step : (s t : Bool) (x b : ℕ) (parts : List (List ℕ)) → 0 < length parts
    → cond s ([] ∷ grown t b parts) (onto_first x (grown t b parts)) ≡ grown t b (cond s ([] ∷ parts) (onto_first x parts))
step s t x b [] some = absurd (omega (arith, some))
step true true x b (part ∷ more) some = refl
step true false x b (part ∷ more) some = refl
step false true x b (part ∷ more) some = refl
step false false x b (part ∷ []) some = refl
step false false x b (part ∷ next ∷ more) some = refl

first : (t : Bool) (b : ℕ) → cond t ([] ∷ [] ∷ []) ((b ∷ []) ∷ []) ≡ grown t b ([] ∷ [])
first true b = refl
first false b = refl

parts_more : (bytes : List ℕ) (b : ℕ) → parts_of (bytes ++ b ∷ []) ≡ grown (b == 10) b (parts_of bytes)
parts_more [] b = first (b == 10) b
parts_more (x ∷ xs) b =
    ap (λ (t : List (List ℕ)). cond (x == 10) ([] ∷ t) (onto_first x t)) (parts_more xs b)
    ∙ step (x == 10) (b == 10) x b (parts_of xs) (omega (arith, length-slice_split (λ y. y == 10) xs))

last_more : (b : ℕ) (lines : List (List ℕ)) (rest : List ℕ) → onto_last b (lines ++ rest ∷ []) ≡ lines ++ (rest ++ b ∷ []) ∷ []
last_more b [] rest = refl
last_more b (line ∷ []) rest = refl
last_more b (line ∷ next ∷ more) rest = ap (λ (t : List (List ℕ)). line ∷ t) (last_more b (next ∷ more) rest)

module _ (bytes : List ℕ) (lines : List (List ℕ)) (rest : List ℕ) (b : ℕ) where
  cut_feed : (b == 10) ≡ true → parts_of bytes ≡ lines ++ rest ∷ [] → parts_of (bytes ++ b ∷ []) ≡ (lines ++ rest ∷ []) ++ [] ∷ []
  cut_feed feed cut = parts_more bytes b ∙ ap (λ (t : Bool). grown t b (parts_of bytes)) feed ∙ ap (λ (t : List (List ℕ)). t ++ [] ∷ []) cut

  cut_more : (b == 10) ≡ false → parts_of bytes ≡ lines ++ rest ∷ [] → parts_of (bytes ++ b ∷ []) ≡ lines ++ (rest ++ b ∷ []) ∷ []
  cut_more other cut = parts_more bytes b ∙ ap (λ (t : Bool). grown t b (parts_of bytes)) other ∙ ap (onto_last b) cut ∙ last_more b lines rest

-- ---- a part without a line feed, and one that ends in a line feed

abbrev pub HasNoFeed : List ℕ → Type 0
HasNoFeed bytes = list_all (λ b. not (b == 10)) bytes ≡ true

pub cut_part : (bytes part : List ℕ) (lines : List (List ℕ)) (rest : List ℕ) → HasNoFeed part → parts_of bytes ≡ lines ++ rest ∷ []
    → parts_of (bytes ++ part) ≡ lines ++ (rest ++ part) ∷ []
cut_part bytes [] lines rest none cut = rw (append-nil bytes, append-nil rest) cut
cut_part bytes (b ∷ part) lines rest none cut =
    let both = and_parts (not (b == 10)) (list_all (λ c. not (c == 10)) part) none in
    let one = cut_more bytes lines rest b (not-true (b == 10) both.0) cut in
    let all = cut_part (bytes ++ b ∷ []) part lines (rest ++ b ∷ []) both.1 one in
    subst (λ (t : List ℕ). parts_of t ≡ lines ++ (rest ++ b ∷ part) ∷ []) (append_assoc bytes (b ∷ []) part)
    (subst (λ (t : List ℕ). parts_of ((bytes ++ b ∷ []) ++ part) ≡ lines ++ t ∷ []) (append_assoc rest (b ∷ []) part) all)

pub cut_line : (bytes part : List ℕ) (lines : List (List ℕ)) (rest : List ℕ) → HasNoFeed part → parts_of bytes ≡ lines ++ rest ∷ []
    → parts_of (bytes ++ (part ++ 10 ∷ [])) ≡ (lines ++ (rest ++ part) ∷ []) ++ [] ∷ []
cut_line bytes part lines rest none cut =
    subst (λ (t : List ℕ). parts_of t ≡ (lines ++ (rest ++ part) ∷ []) ++ [] ∷ []) (append_assoc bytes part (10 ∷ []))
    (cut_feed (bytes ++ part) lines (rest ++ part) 10 refl (cut_part bytes part lines rest none cut))

-- ---- a text that is cut at a line feed

pub no_feed_before : (t : List ℕ) → HasNoFeed (before_mark 10 t)
no_feed_before [] = refl
no_feed_before (b ∷ bs) =
    elim (b == 10) as (λ v. (b == 10) ≡ v → HasNoFeed (cond v [] (b ∷ before_mark 10 bs))) [
      | true ↦ λ is. refl
      | false ↦ λ is. rw is (no_feed_before bs)
    ] refl

pub cut_some : (t after : List ℕ) → after_mark 10 t ≡ Some after → t ≡ (before_mark 10 t ++ 10 ∷ []) ++ after
cut_some [] after is = absurd (cc)
cut_some (b ∷ bs) after is =
    elim (b == 10) as (λ v. (b == 10) ≡ v → cond v (Some bs) (after_mark 10 bs) ≡ Some after → b ∷ bs ≡ (cond v [] (b ∷ before_mark 10 bs) ++ 10 ∷ []) ++ after) [
      | true ↦ λ e same. let here : b ≡ 10 = true-eqb b 10 (sym e) in let rest : bs ≡ after = cc in rw (here, rest) refl
      | false ↦ λ e some. ap (λ (xs : List ℕ). b ∷ xs) (cut_some bs after some)
    ] refl is

pub cut_none : (t : List ℕ) → after_mark 10 t ≡ None → before_mark 10 t ≡ t
cut_none [] is = refl
cut_none (b ∷ bs) is =
    elim (b == 10) as (λ v. cond v (Some bs) (after_mark 10 bs) ≡ None → cond v [] (b ∷ before_mark 10 bs) ≡ b ∷ bs) [
      | true ↦ λ none. absurd (cc)
      | false ↦ λ none. ap (λ (xs : List ℕ). b ∷ xs) (cut_none bs none)
    ] is

-- ---- parts that stay with more bytes

-- The parts of `bytes` between line feeds begin with `lines`, and more parts follow.
pub record Grows (bytes : List ℕ) (lines : List (List ℕ)) : Type 0 where
  pub left : List (List ℕ)
  pub cut : parts_of bytes ≡ lines ++ left
  pub some : 0 < length left

last_grows : (b : ℕ) (lines left : List (List ℕ)) → 0 < length left → onto_last b (lines ++ left) ≡ lines ++ onto_last b left
last_grows b [] left some = refl
last_grows b (line ∷ lines) [] some = absurd (omega (arith, some))
last_grows b (line ∷ []) (part ∷ left) some = refl
last_grows b (line ∷ next ∷ lines) (part ∷ left) some = ap (λ (t : List (List ℕ)). line ∷ t) (last_grows b (next ∷ lines) (part ∷ left) some)

some_last : (b : ℕ) (left : List (List ℕ)) → 0 < length left → 0 < length (onto_last b left)
some_last b [] some = some
some_last b (part ∷ []) some = omega arith
some_last b (part ∷ next ∷ left) some = omega arith

grows_one : (bytes : List ℕ) (lines : List (List ℕ)) (b : ℕ) → Grows bytes lines → Grows (bytes ++ b ∷ []) lines
grows_one bytes lines b g =
    elim (cases_Bool (b == 10)) [
      | inl feed ↦ record {
        left = g.left ++ [] ∷ [];
        cut = parts_more bytes b ∙ ap (λ (t : Bool). grown t b (parts_of bytes)) feed ∙ ap (λ (t : List (List ℕ)). t ++ [] ∷ []) g.cut ∙ append_assoc lines g.left ([] ∷ []);
        some = omega (arith, length-append g.left ([] ∷ []));
      }
      | inr other ↦ record {
        left = onto_last b g.left;
        cut = parts_more bytes b ∙ ap (λ (t : Bool). grown t b (parts_of bytes)) other ∙ ap (onto_last b) g.cut ∙ last_grows b lines g.left g.some;
        some = some_last b g.left g.some;
      }
    ]

pub grows_more : (bytes more : List ℕ) (lines : List (List ℕ)) → Grows bytes lines → Grows (bytes ++ more) lines
grows_more bytes [] lines g = subst (λ (t : List ℕ). Grows t lines) (sym (append-nil bytes)) g
grows_more bytes (b ∷ more) lines g =
    subst (λ (t : List ℕ). Grows t lines) (append_assoc bytes (b ∷ []) more) (grows_more (bytes ++ b ∷ []) more lines (grows_one bytes lines b g))

-- ---- the last part

last_part : (lines left : List (List ℕ)) → 0 < length left → without_empty_last (lines ++ left) ≡ lines ++ without_empty_last left
last_part [] left some = refl
last_part (line ∷ lines) [] some = absurd (omega (arith, some))
last_part (line ∷ []) (part ∷ left) some = refl
last_part (line ∷ next ∷ lines) (part ∷ left) some = ap (λ (t : List (List ℕ)). line ∷ t) (last_part (next ∷ lines) (part ∷ left) some)

pub lines_are : (bytes : List ℕ) (lines left : List (List ℕ)) → parts_of bytes ≡ lines ++ left → 0 < length left → lines_in bytes ≡ lines ++ without_empty_last left
lines_are bytes lines left cut some = ap without_empty_last cut ∙ last_part lines left some

none_last : (rest : List ℕ) → length rest ≡ 0 → last_line rest ≡ []
none_last [] none = refl
none_last (b ∷ rest) none = absurd (omega (arith, none))

some_line : (rest : List ℕ) → 0 < length rest → last_line rest ≡ rest ∷ []
some_line [] some = absurd (omega (arith, some))
some_line (b ∷ rest) some = refl

pub lines_without : (bytes : List ℕ) (lines : List (List ℕ)) (rest : List ℕ) → parts_of bytes ≡ lines ++ rest ∷ [] → length rest ≡ 0 → lines_in bytes ≡ lines
lines_without bytes lines rest cut none = lines_are bytes lines (rest ∷ []) cut (omega arith) ∙ ap (λ (t : List (List ℕ)). lines ++ t) (none_last rest none) ∙ append-nil lines

pub lines_with : (bytes : List ℕ) (lines : List (List ℕ)) (rest : List ℕ) → parts_of bytes ≡ lines ++ rest ∷ [] → 0 < length rest → lines_in bytes ≡ lines ++ rest ∷ []
lines_with bytes lines rest cut some = lines_are bytes lines (rest ∷ []) cut (omega arith) ∙ ap (λ (t : List (List ℕ)). lines ++ t) (some_line rest some)
