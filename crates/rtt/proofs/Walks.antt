-- Proofs that an RTT walk comes only to granules of the realm, and that the walk over the realm's rows ends at the same
-- entry.
use Rattle.std.proofs.Common.{◌≡◌, ℕ, ◌+◌, ◌*◌, ◌<◌, ◌≤◌, List, length, Some, None, ◌⊎◌, ⊎_elim, inl, inr, refl, sym, ap, ◌∙◌, arith, add-one}
use Rattle.std.specs.Prelude.{option_and_then}
use Rattle.granule_addr.specs.Ipa.{entry_index, served_count}
use Rattle.granule_addr.specs.Root.{start_count, served_space, start_table}
use Rattle.granule_addr.specs.declared.width.Root.{Root}
use Rattle.rtt.specs.Granules.{IsIn}
use Rattle.rtt.specs.declared.granule.Granule.{Granule}
use Rattle.realm_model.specs.declared.states.GranuleState.TheVariants.{Data as InData, Rtt as InRtt}
use Rattle.realm_model.specs.Rows.{Row, Walk, walk, table_of, data_of}
use Rattle.rtt.specs.Tables.{Entries, entries_of, table_at, rows}
use Rattle.rtt.specs.Realm.{IsInside, HasTables}
use Rattle.rtt.proofs.StartTables.{first_served, starts_fit}
use Rattle.rtt.proofs.TableAt.{table_at-root, table_at-next}
use Rattle.rtt.proofs.RowsIn.{walk_ends}

-- a walk starts at a starting table
pub table_at-start : (entries : Entries) (root : Root) (level ipa : ℕ) → level ≡ 1 → table_at entries root level ipa ≡ Some (start_table root ipa)
table_at-start entries root level ipa start = ap (λ (k : ℕ). table_at entries root k ipa) start ∙ table_at-root entries root ipa

-- a walk goes on to the table that an entry leads to
pub table_at-below : (entries : Entries) (root : Root) (level below ipa table child : ℕ) (entry : Row) → 1 ≤ level → below ≡ level + 1 → table_at entries root level ipa ≡ Some table
    → entry ≡ entries table (entry_index level ipa) → Some child ≡ table_of entry → table_at entries root below ipa ≡ Some child
table_at-below entries root level below ipa table child entry low next at is leads =
    ap (λ (k : ℕ). table_at entries root k ipa) (next ∙ add-one level)
    ∙ table_at-next entries root level ipa table low at
    ∙ ap table_of (sym is) ∙ sym leads

-- a table lies inside the machine
pub table_inside : (pages : List (List ℕ)) (granules : List Granule) (rd : ℕ) (root : Root) (level ipa table : ℕ) → length granules ≡ length pages → HasTables pages granules rd root
    → IsInside root.width level ipa → table_at (entries_of pages) root level ipa ≡ Some table → table < length pages
table_inside pages granules rd root level ipa table as_many tables inside at =
    let lies = (tables.own.tables level ipa table inside at).inside in
    omega arith

pub start_inside : (pages : List (List ℕ)) (granules : List Granule) (rd : ℕ) (root : Root) (ipa : ℕ) → length granules ≡ length pages
    → HasTables pages granules rd root → ipa < served_space root.width
    → start_table root ipa < length pages
start_inside pages granules rd root ipa as_many tables below =
    table_inside pages granules rd root 1 ipa (start_table root ipa) as_many tables (record { least = omega arith; most = omega arith; below = below }) (table_at-root (entries_of pages) root ipa)

-- each starting table is an RTT granule of the realm
pub start_in : (pages : List (List ℕ)) (granules : List Granule) (rd : ℕ) (root : Root) → HasTables pages granules rd root → (number : ℕ) → number < start_count root.width
    → IsIn granules (root.first + number) InRtt (Some rd)
start_in pages granules rd root tables number few =
    let at = first_served root.width number few in
    tables.own.tables 1 (number * served_count 1) (root.first + number) (record { least = omega arith; most = omega arith; below = at.0 })
    (table_at-root (entries_of pages) root (number * served_count 1) ∙ ap (λ (n : ℕ). Some (root.first + n)) at.1)

pub starts_inside : (pages : List (List ℕ)) (granules : List Granule) (rd : ℕ) (root : Root) → HasTables pages granules rd root → root.first + start_count root.width ≤ length granules
starts_inside pages granules rd root tables = starts_fit root (length granules) (λ number few. (start_in pages granules rd root tables number few).inside)

-- the table that an entry leads to is an RTT granule of the realm
pub child_in : (pages : List (List ℕ)) (granules : List Granule) (rd : ℕ) (root : Root) (level ipa table child : ℕ) (entry : Row) → HasTables pages granules rd root
    → IsInside root.width level ipa → level < 3 → table_at (entries_of pages) root level ipa ≡ Some table → entry ≡ entries_of pages table (entry_index level ipa) → table_of entry ≡ Some child
    → IsIn granules child InRtt (Some rd)
child_in pages granules rd root level ipa table child entry tables inside high at is leads =
    let low = inside.least in
    tables.own.tables (level + 1) ipa child (record { least = omega arith; most = omega arith; below = inside.below })
    (table_at-below (entries_of pages) root level (level + 1) ipa table child entry low refl at is (sym leads))

-- the page of data that an entry leads to is a DATA granule of the realm
pub page_in : (pages : List (List ℕ)) (granules : List Granule) (rd : ℕ) (root : Root) (level ipa table page : ℕ) (entry : Row) → HasTables pages granules rd root
    → IsInside root.width level ipa → table_at (entries_of pages) root level ipa ≡ Some table → entry ≡ entries_of pages table (entry_index level ipa) → data_of entry ≡ Some page
    → IsIn granules page InData (Some rd)
page_in pages granules rd root level ipa table page entry tables inside at is leads =
    tables.own.«data» level ipa page inside (ap (option_and_then (λ t. data_of (entries_of pages t (entry_index level ipa)))) at ∙ ap data_of (sym is) ∙ leads)

-- a walk over the rows ends at an entry for the IPA granule if that entry is of level `wanted`, or is above that level
-- and leads to no table
pub walk_found : (pages : List (List ℕ)) (root : Root) (level wanted ipa table : ℕ) (entry : Row) → IsInside root.width level ipa → level ≤ wanted → wanted ≤ 3
    → table_at (entries_of pages) root level ipa ≡ Some table → entry ≡ entries_of pages table (entry_index level ipa) → (level ≡ wanted) ⊎ (table_of entry ≡ None)
    → walk (rows pages root) ipa wanted ≡ Some (record { level = level; row = entry })
unfolding rows
walk_found pages root level wanted ipa table entry inside le high at is stop =
    walk_ends (entries_of pages) root level wanted ipa table inside le high at (⊎_elim (λ s. inl s) (λ none. inr (ap table_of (sym is) ∙ none)) stop)
    ∙ ap (λ (r : Row). let end : Walk = record { level = level; row = r } in Some end) (sym is)
