-- Proofs that writing the contents of a DATA granule leaves the tables of all realms unchanged.
use Rattle.std.proofs.Common.{◌≡◌, ◌≢◌, ℕ, Bool, List, [], set, sym, ap, ◌∙◌}
use Rattle.std.proofs.lemmas.List.{length-set, get_or-set_other}
use Rattle.granule_addr.specs.declared.width.Root.{Root}
use Rattle.rtt.specs.Granules.{granule_at}
use Rattle.rtt.specs.declared.granule.Granule.{Granule}
use Rattle.realm_model.specs.declared.states.GranuleState.TheVariants.{Data as InData, Rtt as InRtt}
use Rattle.rtt.specs.Tables.{rows}
use Rattle.rtt.specs.Realm.{IsBacked, HasTables, LeavesAlone}
use Rattle.rtt.proofs.FrameLaws.{rows-alone, HasTables-alone}

-- if each of two changes in sequence leaves a realm alone, so do both together
pub alone_twice : (rd : ℕ) (pages : List (List ℕ)) (granules : List Granule) (next : List (List ℕ)) (next_granules : List Granule) (last : List (List ℕ)) (last_granules : List Granule)
    → LeavesAlone rd pages granules next next_granules → LeavesAlone rd next next_granules last last_granules → LeavesAlone rd pages granules last last_granules
alone_twice rd pages granules next next_granules last last_granules a b = record {
  page = λ g is. b.page g (a.table g is) ∙ a.page g is;
  table = λ g is. b.table g (a.table g is);
  «data» = λ g is. b.«data» g (a.«data» g is);
}

module _ (pages : List (List ℕ)) (granules : List Granule) (g : ℕ) (page : List ℕ) (is : (granule_at granules g).state ≡ InData) where
  pub alone_written : (rd : ℕ) → LeavesAlone rd pages granules (set pages g page) granules
  alone_written rd = record {
    page = λ h table. get_or-set_other pages g h page [] (apart h (ap (λ (x : Granule). x.state) table.is));
    table = λ h table. table;
    «data» = λ h table. table;
  }
    where
      apart : (h : ℕ) → (granule_at granules h).state ≡ InRtt → h ≢ g
      apart h table e = let differ : InData ≡ InRtt = sym is ∙ ap (λ k. (granule_at granules k).state) (sym e) ∙ table in cc

  pub tables_written : (rd : ℕ) (root : Root) → HasTables pages granules rd root → HasTables (set pages g page) granules rd root
  tables_written rd root there = HasTables-alone pages granules (set pages g page) granules rd root there (alone_written rd)

  pub rows_written : (rd : ℕ) (root : Root) → HasTables pages granules rd root → rows (set pages g page) root ≡ rows pages root
  rows_written rd root there = rows-alone pages granules (set pages g page) granules rd root there (alone_written rd)

pub backed_written : (pages : List (List ℕ)) (free : List Bool) (granules : List Granule) (g : ℕ) (page : List ℕ) → IsBacked pages free granules → IsBacked (set pages g page) free granules
backed_written pages free granules g page backed = record { as_many = backed.as_many ∙ sym (length-set pages g page); taken = backed.taken }
