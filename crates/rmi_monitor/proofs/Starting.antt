-- Proofs that a test holds for all starting tables of a realm if and only if it holds for the starting table at each
-- index.
use Rattle.std.proofs.Common.{◌≡◌, ℕ, zero, suc, ◌+◌, ◌<◌, Bool, true, false, Some, refl, sym, ap, ◌∙◌, subst, arith}
use Rattle.std.specs.List.{list_all, range_with_len}
use Rattle.std.proofs.lemmas.Bool.{and_from}
use Rattle.std.proofs.lemmas.List.FromFn.{length-range_with_len, get_or-range_with_len}
use Rattle.std.proofs.lemmas.Option.{slice_get-get_or, slice_get_within, get_or_from_slice_get}
use Rattle.granule_addr.specs.Root.{start_count, starting_tables}
use Rattle.granule_addr.specs.declared.width.Root.{Root}
use Rattle.realm_model.proofs.Booleans.{false_from, true_false}
use Rattle.realm_model.specs.Command.Check.{is_in}
use Rattle.realm_model.proofs.Lists.{is_in_at, index_of, all_in}

all_range : (test : ℕ → Bool) (first n : ℕ) → ((number : ℕ) → number < n → test (first + number) ≡ true) → list_all test (range_with_len first n) ≡ true
all_range test first zero each = refl
all_range test first (suc n) each =
    let one : first + 0 ≡ first = omega arith in
    and_from _ _
    (subst (λ k. test k ≡ true) one (each 0 (omega arith)))
    (all_range test (first + 1) n (λ number less. let next : first + suc number ≡ first + 1 + number = omega arith in subst (λ k. test k ≡ true) next (each (suc number) (omega arith))))

pub all_start : (test : ℕ → Bool) (root : Root) → ((number : ℕ) → number < start_count root.width → test (root.first + number) ≡ true) → list_all test (starting_tables root) ≡ true
unfolding starting_tables
all_start test root each = all_range test root.first (start_count root.width) each

in_starts : (root : Root) (number : ℕ) → number < start_count root.width → is_in (root.first + number) (starting_tables root) ≡ true
unfolding starting_tables
in_starts root number few =
    let tables = range_with_len root.first (start_count root.width) in
    is_in_at tables number (root.first + number)
    (slice_get-get_or tables number 0 (subst (λ n. number < n) (sym (length-range_with_len root.first (start_count root.width))) few)
    ∙ ap Some (get_or-range_with_len root.first (start_count root.width) number 0 few))

pub one_does_not : (test : ℕ → Bool) (root : Root) (number : ℕ) → number < start_count root.width → test (root.first + number) ≡ false → list_all test (starting_tables root) ≡ false
one_does_not test root number few fails =
    false_from _ (λ all. true_false _ (all_in test (starting_tables root) (root.first + number) all (in_starts root number few)) fails)

-- each starting table is granule `root.first` plus an index below the number of starting tables
pub number_of : (root : Root) (table : ℕ) → is_in table (starting_tables root) ≡ true → (number : ℕ) × (number < start_count root.width) × (root.first + number ≡ table)
unfolding starting_tables
number_of root table e =
    let tables = range_with_len root.first (start_count root.width) in
    let found = index_of tables table e in
    let few : found.0 < start_count root.width = subst (λ n. found.0 < n) (length-range_with_len root.first (start_count root.width)) (slice_get_within tables found.0 table found.1) in
    (found.0, few, sym (get_or-range_with_len root.first (start_count root.width) found.0 table few) ∙ get_or_from_slice_get tables found.0 table table found.1)
