-- A proof that a call on one realm's tables leaves the tables of other realms unchanged.
use Rattle.std.proofs.Common.{◌≡◌, ◌≢◌, ℕ, Bool, List, Option, Some, refl, sym, ap, ◌∙◌}
use Rattle.granule_addr.specs.declared.width.Root.{Root}
use Rattle.rtt.specs.Granules.{granule_at, IsIn}
use Rattle.rtt.specs.declared.granule.Granule.{Granule}
use Rattle.page_arena.specs.Page.{page_at}
use Rattle.realm_model.specs.declared.states.GranuleState.{GranuleState}
use Rattle.realm_model.specs.declared.states.GranuleState.TheVariants.{Rtt as InRtt}
use Rattle.rtt.specs.Calls.{Keeps, KeepsRest}
use Rattle.rtt.specs.Realm.{IsBacked, HasTables, LeavesOthers}
use Rattle.rtt.proofs.Owned.{Moves, apart_realms}

-- an RTT granule of one realm is not a granule of another realm, in any state
of_one_realm : (granules : List Granule) (rd other granule : ℕ) (state : GranuleState) → other ≢ rd → IsIn granules granule InRtt (Some rd) → IsIn granules granule state (Some other) → ⊥
of_one_realm granules rd other granule state apart its others = apart_realms granules granule granule state InRtt other rd others its apart (λ i. granule)

-- if a call changes only the granule `moved`, which belonged to no other realm, and the bytes of RTT granules of `rd`,
-- other realms are left alone
pub others_left : (pages new_pages : List (List ℕ)) (granules new_granules : List Granule) (rd moved : ℕ) (state new_state : GranuleState) (realm new_realm : Option ℕ)
    → IsIn granules moved state realm → ((other : ℕ) → other ≢ rd → realm ≢ Some other) → Moves granules new_granules moved new_state new_realm
    → ((granule : ℕ) → granule ≢ moved → ¬ (IsIn granules granule InRtt (Some rd)) → page_at new_pages granule ≡ page_at pages granule)
    → LeavesOthers rd pages granules new_pages new_granules
others_left pages new_pages granules new_granules rd moved state new_state realm new_realm was free moves changed other apart =
    let beside : (granule : ℕ) (its : GranuleState) → IsIn granules granule its (Some other) → granule ≢ moved = λ granule its is same.
    free other apart (ap (λ (x : Granule). x.realm) (sym was.is ∙ ap (granule_at granules) (sym same) ∙ is.is)) in
    record {
      page = λ granule is. changed granule (beside granule _ is) (λ its. of_one_realm granules rd other granule _ apart its is);
      table = λ granule is. moves.others granule _ _ (beside granule _ is) is;
      «data» = λ granule is. moves.others granule _ _ (beside granule _ is) is;
    }

-- if a call changes only the bytes of RTT granules of `rd`, other realms are left alone
pub others_kept : (pages new_pages : List (List ℕ)) (granules : List Granule) (rd : ℕ)
    → ((granule : ℕ) → ¬ (IsIn granules granule InRtt (Some rd)) → page_at new_pages granule ≡ page_at pages granule)
    → LeavesOthers rd pages granules new_pages granules
others_kept pages new_pages granules rd changed other apart = record {
  page = λ granule is. changed granule (λ its. of_one_realm granules rd other granule _ apart its is);
  table = λ granule is. is;
  «data» = λ granule is. is;
}

-- if nothing changes, the invariants outside the realm's tables are kept
pub rest_kept : {pages : List (List ℕ)} {flags : List Bool} {granules : List Granule} {rd : ℕ} → IsBacked pages flags granules → KeepsRest rd pages flags granules pages flags granules
rest_kept {pages = pages} {granules = granules} {rd = rd} backed = record { backed = backed; flags = refl; other_realms = others_kept pages pages granules rd (λ granule apart. refl) }

-- if nothing changes, all invariants are kept
pub all_kept : {pages : List (List ℕ)} {flags : List Bool} {granules : List Granule} {rd : ℕ} {root : Root}
    → IsBacked pages flags granules → HasTables pages granules rd root → Keeps rd root pages flags granules pages flags granules
all_kept backed tables = record { tables = tables; rest = rest_kept backed }
