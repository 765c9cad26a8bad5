-- Proofs that a search of the leases decides whether a block is free, and that the check `no_block` refuses a Take
-- exactly if no block of its order is free.
use Rattle.std.proofs.Common.{◌≡◌, ℕ, zero, suc, ◌+◌, ◌<◌, ◌≤◌, Bool, true, false, not, ◌&&◌, ◌||◌, List, [], ◌∷◌, length, Option, Some, None, refl, ap, ◌∙◌, subst, arith}
use Rattle.std.specs.Prelude.{is_none, is_some, unwrap_or, slice_index_or}
use Rattle.std.specs.List.{list_all, list_any, range_with_len}
use Rattle.std.specs.Option.{option_eq}
use Rattle.std.proofs.lemmas.Bool.{and_from}
use Rattle.std.proofs.lemmas.List.{length-replicate}
use Rattle.std.proofs.lemmas.Option.{slice_get_past}
use Rattle.realm_model.specs.History.{replay}
use Rattle.realm_model.specs.World.{World, opening, is_leased_to, same_lease}
use Rattle.realm_model.proofs.Reached.{sized_reached}
use Rattle.host_commands.specs.declared.refusal.Refusal.TheVariants.{NoBlock}
use Rattle.host_commands.specs.Checks.{first_that_holds}
use Rattle.host_ledger.specs.View.{HostView, world_of}
use Rattle.realm_host.specs.Refusals.{is_free_block, no_block}

-- ---- leases

-- the list of leases has one entry for each granule of the machine
pub leases_long : (host : HostView) → length (world_of host).leases ≡ host.limits.pages
unfolding world_of
leases_long host = at (replay host.limits host.history) refl
  where
    at : (o : Option World) → replay host.limits host.history ≡ o → length (unwrap_or o (opening host.limits)).leases ≡ host.limits.pages
    at (Some world) is = (sized_reached host.limits host.history world is).leases
    at None is = length-replicate host.limits.pages None

-- for a granule of the machine, the lookup of its lease gives `None` exactly if no build leases it
pub free_read : (leases : List (Option ℕ)) (g : ℕ) → g < length leases → is_none (slice_index_or leases g None) ≡ is_leased_to None leases g
free_read [] g inside = absurd (omega arith)
free_read (None ∷ leases) zero inside = refl
free_read (Some build ∷ leases) zero inside = refl
free_read (lease ∷ leases) (suc g) inside = free_read leases g (omega (arith, inside))

pub none_from : (o : Option ℕ) (none : Bool) → is_some o ≡ not none → none ≡ is_none o
none_from None true e = refl
none_from None false e = cc
none_from (Some build) true e = cc
none_from (Some build) false e = refl

-- for a granule of the machine, the lease read from the host's ledger is `None` exactly if no build leases it
pub leased_read : (ledger host : HostView) (g number : ℕ) (read : Option ℕ) → ledger ≡ host → g ≡ number → number < host.limits.pages
    → read ≡ slice_index_or (world_of ledger).leases g None → is_none read ≡ is_leased_to None (world_of host).leases number
leased_read ledger host g number read same is below e =
    let long = leases_long host in
    ap is_none e ∙ ap (λ (h : HostView). is_none (slice_index_or (world_of h).leases g None)) same
    ∙ ap (λ n. is_none (slice_index_or (world_of host).leases n None)) is ∙ free_read (world_of host).leases number (omega (arith, long, below))

-- a granule past the end of the machine does not count as free
pub none_past : (leases : List (Option ℕ)) (g : ℕ) → length leases ≤ g → is_leased_to None leases g ≡ false
none_past leases g past = ap (λ o. option_eq same_lease o (Some None)) (slice_get_past leases g past)

-- ---- the refusal of a take

-- whether some block of the given order is free
abbrev pub has_block : HostView → ℕ → Bool
has_block host order = list_any (is_free_block (world_of host) order) (range_with_len 0 (length (world_of host).leases))

module _ (host : HostView) (order number : ℕ) (same : number ≡ order) where
  pub not_refused : true ≡ has_block host number → None ≡ first_that_holds (no_block host order ∷ [])
  not_refused some = ap (λ t. first_that_holds ((not t, NoBlock number) ∷ [])) some ∙ ap (λ n. first_that_holds (no_block host n ∷ [])) same

  pub refused : false ≡ has_block host number → Some (NoBlock number) ≡ first_that_holds (no_block host order ∷ [])
  refused none = ap (λ t. first_that_holds ((not t, NoBlock number) ∷ [])) none ∙ ap (λ n. first_that_holds (no_block host n ∷ [])) same

-- ---- ranges

module _ (test : ℕ → Bool) where
  shifted : (first n : ℕ) (t : Bool) → ((k : ℕ) → k < suc n → test (first + k) ≡ t) → (k : ℕ) → k < n → test (first + 1 + k) ≡ t
  shifted first n t each k less = let next : first + suc k ≡ first + 1 + k = omega arith in subst (λ j. test j ≡ t) next (each (suc k) (omega arith))

  here : (first n : ℕ) (t : Bool) → ((k : ℕ) → k < suc n → test (first + k) ≡ t) → test first ≡ t
  here first n t each = let one : first + 0 ≡ first = omega arith in subst (λ j. test j ≡ t) one (each 0 (omega arith))

  pub all_range : (first n : ℕ) → ((k : ℕ) → k < n → test (first + k) ≡ true) → list_all test (range_with_len first n) ≡ true
  all_range first zero each = refl
  all_range first (suc n) each = and_from _ _ (here first n true each) (all_range (first + 1) n (shifted first n true each))

  pub none_range : (first n : ℕ) → ((k : ℕ) → k < n → test (first + k) ≡ false) → list_any test (range_with_len first n) ≡ false
  none_range first zero each = refl
  none_range first (suc n) each =
      (λ i. here first n false each i || list_any test (range_with_len (first + 1) n)) ∙ none_range (first + 1) n (shifted first n false each)

  and_false : (a b : Bool) → b ≡ false → (a && b) ≡ false
  and_false true b e = e
  and_false false b e = refl

  or_true : (a b : Bool) → b ≡ true → (a || b) ≡ true
  or_true true b e = refl
  or_true false b e = e

  pub one_fails : (first n k : ℕ) → k < n → test (first + k) ≡ false → list_all test (range_with_len first n) ≡ false
  one_fails first zero k less fails = absurd (omega arith)
  one_fails first (suc n) zero less fails =
      let one : first + 0 ≡ first = omega arith in
      ap (λ t. t && list_all test (range_with_len (first + 1) n)) (subst (λ j. test j ≡ false) one fails)
  one_fails first (suc n) (suc k) less fails =
      let next : first + suc k ≡ first + 1 + k = omega arith in
      and_false (test first) _ (one_fails (first + 1) n k (omega arith) (subst (λ j. test j ≡ false) next fails))

  pub one_holds : (first n k : ℕ) → k < n → test (first + k) ≡ true → list_any test (range_with_len first n) ≡ true
  one_holds first zero k less holds = absurd (omega arith)
  one_holds first (suc n) zero less holds =
      let one : first + 0 ≡ first = omega arith in
      ap (λ t. t || list_any test (range_with_len (first + 1) n)) (subst (λ j. test j ≡ true) one holds)
  one_holds first (suc n) (suc k) less holds =
      let next : first + suc k ≡ first + 1 + k = omega arith in
      or_true (test first) _ (one_holds (first + 1) n k (omega arith) (subst (λ j. test j ≡ true) next holds))
