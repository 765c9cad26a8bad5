-- Proofs that a property of addresses, such as RIPAS, is the same in two machines in which the tables of a realm are
-- the same.
use Rattle.std.proofs.Common.{◌≡◌, ◌⊎◌, ℕ, inl, inr, true, List, length, Option, Some, None, refl, sym, ap, ◌∙◌, ⊎_elim, Bool}
use Rattle.std.proofs.lemmas.Bool.{both_ways}
use Rattle.rmm_model.specs.declared.entry.RmmRttEntry.{RmmRttEntry}
use Rattle.rmm_model.specs.declared.granule.RmmGranule.{RmmGranule}
use Rattle.rmm_model.specs.declared.granule.RmmGranuleState.TheVariants.{Rd}
use Rattle.rmm_model.specs.declared.realm.RmmRealm.{RmmRealm}
use Rattle.rmm_model.specs.declared.realm.RttWalk.{RttWalk}
use Rattle.rmm_model.specs.Level.{entry_index}
use Rattle.rmm_model.specs.Machine.{Machine, granule_at, page_in}
use Rattle.rmm_model.specs.Realm.{is_protected}
use Rattle.rmm_model.specs.Table.{entry_in_page}
use Rattle.rmm_model.specs.Walk.{entry_at, table_below, walk}
use Rattle.rmm_laws.specs.Apart.{IsSameAt, IsOfRealm}
use Rattle.rmm_laws.specs.Owner.{is_rd}
use Rattle.rmm_laws.specs.Proper.{IsProper}
use Rattle.rmm_laws.specs.Walk.{IsTableOf}
use Rattle.rmm_laws.proofs.Along.{IsOn, along}
use Rattle.rmm_laws.proofs.Halves.{below_same}
use Rattle.rmm_laws.proofs.Mappings.{protected_within}
use Rattle.rmm_laws.proofs.SameTables.{KeepsTables}
use Rattle.rmm_laws.proofs.Touching.{Touches, IsFree, IsMine, free_spare}

-- ---- tables of a realm

-- each table of the realm with the given RD has the same contents in both machines
abbrev pub KeepsTablesOf : Machine → Machine → ℕ → Type 0
KeepsTablesOf m n rd = (g : ℕ) → IsTableOf m rd g → page_in n g ≡ page_in m g

pub tables_of : (m n : Machine) (rd : ℕ) → KeepsTables m n → KeepsTablesOf m n rd
tables_of m n rd kept g is = (kept g (ap (λ (r : RmmGranule). r.state) is)).1

not_ours : (m : Machine) (named : Option ℕ) (rd g : ℕ) → (named ≡ Some rd → ⊥) → ((r : ℕ) → named ≡ Some r → is_rd (granule_at m r).state ≡ true) → IsTableOf m rd g → IsOfRealm m named g → ⊥
not_ours m (Some r) rd g apart rds is (inl here) =
    both_ways (is_rd (granule_at m r).state) (ap (λ (y : ℕ). is_rd (granule_at m y).state) (sym here) ∙ ap (λ (c : RmmGranule). is_rd c.state) is) (rds r refl)
not_ours m (Some r) rd g apart rds is (inr owned) = apart (sym owned ∙ ap (λ (c : RmmGranule). c.owner) is)
not_ours m None rd g apart rds is ours = ours

-- a call on another realm or on no realm leaves the contents of a realm's tables as they were
pub tables_apart : (host : Bool) (m n : Machine) (named : Option ℕ) (rd : ℕ) → Touches host m n named → (named ≡ Some rd → ⊥) → ((r : ℕ) → named ≡ Some r → is_rd (granule_at m r).state ≡ true) → KeepsTablesOf m n rd
tables_apart host m n named rd touches apart rds g is =
    ⊎_elim
    (λ (same : IsSameAt m n g). same.1)
    (λ (mine : IsMine host m named g). absurd (⊎_elim
    (λ (ours : IsOfRealm m named g). not_ours m named rd g apart rds is ours)
    (λ (free : IsFree host m g). ⊎_elim (λ kept. (let s = ap (λ (r : RmmGranule). r.state) is in cc)) (λ blank. (let s = ap (λ (r : RmmGranule). r.state) is in cc)) (free_spare host m g free))
    mine))
    (touches.each g)

-- ---- what is read

-- the value that is read at an address of a realm: `F` of the entry at which the address's walk ends, and of that
-- entry's level
abbrev pub read_at : (A : Type 0) → (RmmRttEntry → ℕ → A) → Machine → RmmRealm → ℕ → A
read_at A F m realm x = F (entry_at m (walk m realm x 3) x) (walk m realm x 3).level

-- an old and a new entry at a level have the same value by `F`, or values that `G` allows
abbrev pub IsReadAs : (A : Type 0) → (RmmRttEntry → ℕ → A) → (A → A → Type 0) → RmmRttEntry → RmmRttEntry → ℕ → Type 0
IsReadAs A F G old new l = (F new l ≡ F old l) ⊎ G (F old l) (F new l)

-- the same value is read at an address in two machines
abbrev pub IsRead : (A : Type 0) → (RmmRttEntry → ℕ → A) → Machine → Machine → RmmRealm → RmmRealm → ℕ → Type 0
IsRead A F m n before after x = read_at A F n after x ≡ read_at A F m before x

module _ (m n : Machine) (proper : IsProper m) (settings : n.settings ≡ m.settings) (count : length n.granules ≡ length m.granules) (rd x : ℕ) (realm : RmmRealm) where
  -- a place whose entry is the same in both machines satisfies `IsOn`, if its table is `Good` and `Q p p` holds
  pub on_same : (Good : ℕ → Type 0) (Q : RttWalk → RttWalk → Type 0) (p : RttWalk) → entry_at n p x ≡ entry_at m p x → ((table : ℕ) → table_below m (entry_at m p x) ≡ Some table → Good table) → Q p p
      → IsOn m n proper.linked proper.ordered.halves rd x realm Good Q p
  on_same Good Q p entry good end = record { leads = below_same m n settings count (entry_at n p x) ∙ ap (λ (e : RmmRttEntry). table_below m e) entry; good = good; end = end }

  -- the value read at a protected address of a realm is the same in both machines, if the realm's tables have the same
  -- contents in both
  module _ (A : Type 0) (F : RmmRttEntry → ℕ → A) where
    abbrev SameRead : RttWalk → RttWalk → Type 0
    SameRead p q = F (entry_at n q x) q.level ≡ F (entry_at m p x) p.level

    pub same_read : (after : RmmRealm) → after.start_level ≡ realm.start_level → after.first_table ≡ realm.first_table → (granule_at m rd).state ≡ Rd realm → is_protected realm x ≡ true → KeepsTablesOf m n rd
        → IsRead A F m n realm after x
    unfolding entry_at
    same_read after level first is protected kept =
        along m n proper.linked proper.ordered.halves rd x realm (λ table. Unit {0}) SameRead after level first is (protected_within realm x protected) tt
        (λ p seat good.
        let entry : entry_at n p x ≡ entry_at m p x = ap (λ (q : List ℕ). entry_in_page q (entry_index p.level x)) (kept p.table seat.is.table) in
        inl (on_same (λ table. Unit {0}) SameRead p entry (λ table leads. tt) (ap (λ (e : RmmRttEntry). F e p.level) entry)))
