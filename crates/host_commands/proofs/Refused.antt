-- Proofs that a list of checks gives the refusal of the first check whose condition holds, or success if no condition
-- holds.
use Rattle.std.proofs.Common.{◌≡◌, ℕ, true, false, cond, List, [], ◌∷◌, ◌++◌, map, Option, Some, None, Ok, Err, refl, sym, ap, ◌∙◌}
use Rattle.std.specs.Prelude.{Result, is_none}
use Rattle.host_commands.specs.declared.refusal.Refusal.{Refusal}
use Rattle.host_commands.specs.declared.refusal.Refusal.TheVariants.{NotLeased}
use Rattle.host_commands.specs.BuildsSummary.{BuildsSummary, granule_of_page, AreGranulesOf}
use Rattle.host_commands.specs.Checks.{Check, checked, first_that_holds, page_checks}

-- ---- the answer of a list of checks

abbrev answer : Option Refusal → Result (Unit {0}) Refusal
answer o = elim o [ Some refusal ↦ Err refusal | None ↦ Ok tt ]

none_from : (o : Option Refusal) → Ok tt ≡ answer o → o ≡ None
none_from None e = refl
none_from (Some refusal) e = cc

some_from : (o : Option Refusal) (refusal : Refusal) → Err refusal ≡ answer o → o ≡ Some refusal
some_from None refusal e = cc
some_from (Some other) refusal e = let same : refusal ≡ other = cc in ap Some (sym same)

pub none_of : (checks : List Check) → Ok tt ≡ checked checks → first_that_holds checks ≡ None
none_of checks e = none_from (first_that_holds checks) e

pub some_of : (checks : List Check) (refusal : Refusal) → Err refusal ≡ checked checks → first_that_holds checks ≡ Some refusal
some_of checks refusal e = some_from (first_that_holds checks) refusal e

pub is_checked_none : (checks : List Check) → first_that_holds checks ≡ None → Ok tt ≡ checked checks
is_checked_none checks e = ap answer (sym e)

pub is_checked_some : (checks : List Check) (refusal : Refusal) → first_that_holds checks ≡ Some refusal → Err refusal ≡ checked checks
is_checked_some checks refusal e = ap answer (sym e)

-- ---- one list after another

abbrev else : Option Refusal → Option Refusal → Option Refusal
else o rest = elim o [ Some refusal ↦ Some refusal | None ↦ rest ]

first_append : (xs ys : List Check) → first_that_holds (xs ++ ys) ≡ else (first_that_holds xs) (first_that_holds ys)
first_append [] ys = refl
first_append (x ∷ xs) ys = elim x.0 as (λ t. cond t (Some x.1) (first_that_holds (xs ++ ys)) ≡ else (cond t (Some x.1) (first_that_holds xs)) (first_that_holds ys)) [
  | true ↦ refl
  | false ↦ first_append xs ys
]

-- if the first of two lists of checks gives no refusal, the two in sequence give what the second list gives
pub first_passes : (xs ys : List Check) → first_that_holds xs ≡ None → first_that_holds (xs ++ ys) ≡ first_that_holds ys
first_passes xs ys none = first_append xs ys ∙ ap (λ o. else o (first_that_holds ys)) none

-- if the first of two lists of checks gives a refusal, the two in sequence give that refusal
pub first_stops : (xs ys : List Check) (refusal : Refusal) → first_that_holds xs ≡ Some refusal → first_that_holds (xs ++ ys) ≡ Some refusal
first_stops xs ys refusal some = first_append xs ys ∙ ap (λ o. else o (first_that_holds ys)) some

pub passes : (xs ys : List Check) → Ok tt ≡ checked xs → checked ys ≡ checked (xs ++ ys)
passes xs ys e = ap answer (sym (first_passes xs ys (none_of xs e)))

pub stops : (xs ys : List Check) (refusal : Refusal) → Err refusal ≡ checked xs → Err refusal ≡ checked (xs ++ ys)
stops xs ys refusal e = is_checked_some (xs ++ ys) refusal (first_stops xs ys refusal (some_of xs refusal e))

-- ---- four lists, one after another

module _ (a b c d : List Check) where
  abbrev all : List Check
  all = a ++ (b ++ (c ++ d))

  pub by_first : (refusal : Refusal) → Err refusal ≡ checked a → Err refusal ≡ checked all
  by_first refusal e = stops a (b ++ (c ++ d)) refusal e

  pub by_second : (refusal : Refusal) → Ok tt ≡ checked a → Err refusal ≡ checked b → Err refusal ≡ checked all
  by_second refusal first e = stops b (c ++ d) refusal e ∙ passes a (b ++ (c ++ d)) first

  pub by_third : (refusal : Refusal) → Ok tt ≡ checked a → Ok tt ≡ checked b → Err refusal ≡ checked c → Err refusal ≡ checked all
  by_third refusal first second e = stops c d refusal e ∙ passes b (c ++ d) second ∙ passes a (b ++ (c ++ d)) first

  pub by_last : Ok tt ≡ checked a → Ok tt ≡ checked b → Ok tt ≡ checked c → checked d ≡ checked all
  by_last first second third = passes c d third ∙ passes b (c ++ d) second ∙ passes a (b ++ (c ++ d)) first

-- ---- pages

module _ (view : BuildsSummary) (build : ℕ) where
  abbrev found : ℕ → Option ℕ
  found page = granule_of_page view build page

  some_head : (o : Option ℕ) (g : ℕ) (os gs : List (Option ℕ)) → o ∷ os ≡ Some g ∷ gs → (o ≡ Some g) × (os ≡ gs)
  some_head o g os gs e = (cc, cc)

  pub all_there : (pages gs : List ℕ) → AreGranulesOf view build pages gs → first_that_holds (page_checks view build pages) ≡ None
  all_there [] gs e = refl
  all_there (page ∷ pages) [] e = cc
  all_there (page ∷ pages) (g ∷ gs) e =
      let parts = some_head (found page) g (map found pages) (map (λ g. Some g) gs) e in
      ap (λ o. cond (is_none o) (Some (NotLeased page)) (first_that_holds (page_checks view build pages))) parts.0 ∙ all_there pages gs parts.1

  pub one_missing : (page : ℕ) (more : List ℕ) → found page ≡ None → first_that_holds (page_checks view build (page ∷ more)) ≡ Some (NotLeased page)
  one_missing page more none = ap (λ o. cond (is_none o) (Some (NotLeased page)) (first_that_holds (page_checks view build more))) none
