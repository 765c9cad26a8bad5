-- Proofs of the invariant that each realm's starting tables are in the machine: while all granules are UNDELEGATED, and
-- after a granule gets new attributes. If the new attributes are an RD's, the RD's realm has to satisfy `IsServed`.
use Rattle.std.proofs.Common.{◌≡◌, ◌≢◌, ℕ, ◌<◌, ◌≤◌, List, length, set, get_or, replicate, IfSome, sym, subst, ⊎_elim, arith}
use Rattle.std.proofs.lemmas.Bool.{cases_eq, cases_lt}
use Rattle.std.proofs.lemmas.List.{length-set, length-replicate, get_or-replicate, get_or_past, get_or-set_same, get_or-set_other}
use Rattle.rmm_model.specs.declared.granule.RmmGranule.{RmmGranule}
use Rattle.rmm_model.specs.declared.granule.RmmGranuleState.TheVariants.{Undelegated}
use Rattle.rmm_model.specs.Granule.{realm_of, of_no_realm}
use Rattle.rmm_model.specs.Machine.{HasTables}
use Rattle.rmm_model.specs.Realm.{IsServed}

abbrev Served : ℕ → RmmGranule → Type 0
Served count granule = IfSome (realm_of granule.state) (IsServed count)

-- starting tables stay in the machine if a granule becomes an RD whose realm satisfies `IsServed`, or gets a state
-- other than RD
pub HasTables-set : (granules : List RmmGranule) (g : ℕ) (kept : RmmGranule) → g < length granules → HasTables granules → IfSome (realm_of kept.state) (IsServed (length granules)) → HasTables (set granules g kept)
HasTables-set granules g kept inside roots served = record {
  each = λ h.
      subst (λ (n : ℕ). Served n (get_or (set granules g kept) h (of_no_realm Undelegated))) (sym (length-set granules g kept))
      (⊎_elim
      (λ (same : h ≡ g). subst (λ (k : ℕ). Served (length granules) (get_or (set granules g kept) k (of_no_realm Undelegated))) (sym same)
      (subst (Served (length granules)) (sym (get_or-set_same granules g kept (of_no_realm Undelegated) inside)) served))
      (λ (other : h ≢ g). subst (Served (length granules)) (sym (get_or-set_other granules g h kept (of_no_realm Undelegated) other)) (roots.each h))
      (cases_eq h g));
}

-- in a list of UNDELEGATED granules without owners, each number gives such a granule, also a number past the end
undelegated : (count g : ℕ) → get_or (replicate count (of_no_realm Undelegated)) g (of_no_realm Undelegated) ≡ of_no_realm Undelegated
undelegated count g =
    ⊎_elim
    (λ (inside : g < count). get_or-replicate count g (of_no_realm Undelegated) (of_no_realm Undelegated) inside)
    (λ (past : count ≤ g). get_or_past (replicate count (of_no_realm Undelegated)) g (of_no_realm Undelegated)
    (let len = length-replicate count (of_no_realm Undelegated) in omega arith))
    (cases_lt g count)

-- `HasTables` holds of granules that are all UNDELEGATED and of no realm, as there are no starting tables
pub HasTables-replicate : (count : ℕ) → HasTables (replicate count (of_no_realm Undelegated))
HasTables-replicate count = record {
  each = λ g. subst (λ (granule : RmmGranule). Served (length (replicate count (of_no_realm Undelegated))) granule) (sym (undelegated count g)) tt;
}
