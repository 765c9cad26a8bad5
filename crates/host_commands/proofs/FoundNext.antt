-- Proofs that looking up pages one after another gives the granules of all pages, or the refusal of the first missing
-- page.
use Rattle.std.proofs.Common.{◌≡◌, ℕ, ◌+◌, ◌<◌, List, [], ◌∷◌, ◌++◌, map, length, take, drop, get_or, Option, Some, None, Ok, Err, refl, sym, ap, ◌∙◌, subst, append_assoc, arith}
use Rattle.std.specs.Prelude.{Result}
use Rattle.std.proofs.lemmas.List.{map-append, length-append, take_more, take-append-drop}
use Rattle.host_commands.specs.declared.refusal.Refusal.{Refusal}
use Rattle.host_commands.specs.declared.refusal.Refusal.TheVariants.{NotLeased}
use Rattle.host_commands.specs.BuildsSummary.{BuildsSummary, granule_of_page, AreGranulesOf}
use Rattle.host_commands.specs.Checks.{first_that_holds, page_checks}
use Rattle.host_commands.specs.PageLookup.{AreFoundNext}
use Rattle.host_commands.proofs.Refused.{first_passes, first_stops, all_there, one_missing}

module _ (view : BuildsSummary) (build : ℕ) where
  abbrev found : ℕ → Option ℕ
  found page = granule_of_page view build page

  checks_append : (xs ys : List ℕ) → first_that_holds (page_checks view build (xs ++ ys)) ≡ first_that_holds (page_checks view build xs ++ page_checks view build ys)
  checks_append xs ys = ap first_that_holds (map-append _ xs ys)

  pub page_missing : (page : ℕ) (old new : List ℕ) → found page ≡ None → AreFoundNext view build (page ∷ []) old (Err (NotLeased page)) new
  page_missing page old new none = λ before had.
      checks_append before (page ∷ [])
      ∙ first_passes (page_checks view build before) (page_checks view build (page ∷ [])) (all_there view build before old had)
      ∙ one_missing view build page [] none

  -- if looking up `ps` succeeds, and looking up `qs` after that has a result, looking up `ps ++ qs` has the same result
  pub next_after : (ps qs a b c d : List ℕ) (result : Result (Unit {0}) Refusal) → AreFoundNext view build ps a (Ok tt) b → AreFoundNext view build qs b result c
      → c ≡ d → AreFoundNext view build (ps ++ qs) a result d
  next_after ps qs a b c d (Ok done) one two same = (
    (let l = length-append ps qs in let x = one.0 in let y = two.0 in let z = ap (λ (gs : List ℕ). length gs) same in omega arith),
    λ before had.
        ap (λ (pages : List ℕ). map found pages) (sym (append_assoc before ps qs))
        ∙ two.1 (before ++ ps) (one.1 before had)
        ∙ ap (λ (gs : List ℕ). map (λ g. Some g) gs) same,
  )
  next_after ps qs a b c d (Err refusal) one two same = λ before had.
      ap (λ (pages : List ℕ). first_that_holds (page_checks view build pages)) (sym (append_assoc before ps qs)) ∙ two (before ++ ps) (one.1 before had)

  pub first_missing : (ps qs : List ℕ) (refusal : Refusal) (a b c : List ℕ) → AreFoundNext view build ps a (Err refusal) b → AreFoundNext view build (ps ++ qs) a (Err refusal) c
  first_missing ps qs refusal a b c one = λ before had.
      ap (λ (pages : List ℕ). first_that_holds (page_checks view build pages)) (sym (append_assoc before ps qs))
      ∙ checks_append (before ++ ps) qs
      ∙ first_stops (page_checks view build (before ++ ps)) (page_checks view build qs) refusal (one before had)

  -- if the lookup finds the pages before index `i`, and refuses the page at that index, the lookup of the whole list
  -- gets the same refusal
  pub missing_at : (pages : List ℕ) (i page d : ℕ) (refusal : Refusal) (a b c : List ℕ) → i < length pages → page ≡ get_or pages i d
      → AreFoundNext view build (take i pages) a (Ok tt) b → AreFoundNext view build (page ∷ []) b (Err refusal) c → AreFoundNext view build pages a (Err refusal) c
  missing_at pages i page d refusal a b c within at one two =
      let here : take (i + 1) pages ≡ take i pages ++ page ∷ [] = take_more pages i d within ∙ ap (λ (p : ℕ). take i pages ++ p ∷ []) (sym at) in
      let whole : (take i pages ++ page ∷ []) ++ drop (i + 1) pages ≡ pages = ap (λ (ps : List ℕ). ps ++ drop (i + 1) pages) (sym here) ∙ take-append-drop (i + 1) pages in
      let two_missing : AreFoundNext view build (take i pages ++ page ∷ []) a (Err refusal) c = next_after (take i pages) (page ∷ []) a b c c (Err refusal) one two refl in
      subst (λ (ps : List ℕ). AreFoundNext view build ps a (Err refusal) c) whole (first_missing (take i pages ++ page ∷ []) (drop (i + 1) pages) refusal a c c two_missing)

  -- if a lookup that begins with no granules succeeds, its result is the granules of all the pages
  pub all_found : (pages : List ℕ) (new : List ℕ) → AreFoundNext view build pages [] (Ok tt) new → AreGranulesOf view build pages new
  all_found pages new next = next.1 [] refl

  pub one_not_found : (pages : List ℕ) (refusal : Refusal) (new : List ℕ) → AreFoundNext view build pages [] (Err refusal) new → first_that_holds (page_checks view build pages) ≡ Some refusal
  one_not_found pages refusal new next = next [] refl
