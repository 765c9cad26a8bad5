-- Proofs that the table at which a walk ends serves the walk's address.
use Rattle.std.proofs.Common.{◌≡◌, ℕ, zero, suc, ◌+◌, ◌-◌, ◌*◌, ◌/◌, ◌^◌, ◌<◌, ◌≤◌, Option, Some, None, refl, ap, subst, ◌∙◌, arith, false}
use Rattle.std.specs.Option.{option_map_or}
use Rattle.rmm_model.specs.declared.entry.RmmRttEntry.{RmmRttEntry}
use Rattle.rmm_model.specs.declared.entry.RmmRttEntry.TheVariants.{Unassigned, Assigned, Table, UnassignedNs, AssignedNs}
use Rattle.rmm_model.specs.declared.granule.RmmGranule.{RmmGranule}
use Rattle.rmm_model.specs.declared.granule.RmmGranuleState.TheVariants.{Rd}
use Rattle.rmm_model.specs.declared.realm.RmmRealm.{RmmRealm}
use Rattle.rmm_model.specs.declared.realm.RttWalk.{RttWalk}
use Rattle.rmm_model.specs.Entry.{is_table}
use Rattle.rmm_model.specs.Level.{entry_size, entry_index, start_table_index}
use Rattle.rmm_model.specs.Machine.{Machine, granule_at}
use Rattle.rmm_model.specs.Walk.{entry_at, table_below, walk_from, start_of, walk}
use Rattle.rmm_laws.specs.Role.{IsLinked, LeadsInside}
use Rattle.rmm_laws.specs.Walk.{Serves}
use Rattle.rmm_laws.proofs.Entries.{named_inside}
use Rattle.rmm_laws.proofs.Mappings.{served}
use Rattle.rmm_laws.proofs.Walks.{IsPlace, next, start_is, start_inside, entry_index-few}

-- an entry that satisfies `LeadsInside` and leads to no table is no TABLE
pub no_table_entry : (m : Machine) (entry : RmmRttEntry) → LeadsInside m entry → table_below m entry ≡ None → is_table entry ≡ false
no_table_entry m (Table address) leads none = let some = named_inside m address leads.0 in absurd (cc)
no_table_entry m (Assigned ripas address) leads none = refl
no_table_entry m (Unassigned ripas) leads none = refl
no_table_entry m UnassignedNs leads none = refl
no_table_entry m (AssignedNs desc) leads none = refl

-- ---- addresses

-- the beginning of the range that a table of a level serves, if the table serves the given address
abbrev pub base_of : ℕ → ℕ → ℕ
base_of level ipa = ipa / entry_size level / 512 * (512 * entry_size level)

pub level_cases : (P : ℕ → Type 0) → P 0 → P 1 → P 2 → P 3 → (l : ℕ) → l ≤ 3 → P l
level_cases P a b c d zero few = a
level_cases P a b c d (suc zero) few = b
level_cases P a b c d (suc (suc zero)) few = c
level_cases P a b c d (suc (suc (suc zero))) few = d
level_cases P a b c d (suc (suc (suc (suc l)))) few = absurd (omega arith)

pub base_low : (l ipa : ℕ) → l ≤ 3 → base_of l ipa ≤ ipa
unfolding entry_size
base_low l ipa few = level_cases (λ (k : ℕ). base_of k ipa ≤ ipa) (omega arith) (omega arith) (omega arith) (omega arith) l few

pub base_high : (l ipa : ℕ) → l ≤ 3 → ipa < base_of l ipa + 512 * entry_size l
unfolding entry_size
base_high l ipa few = level_cases (λ (k : ℕ). ipa < base_of k ipa + 512 * entry_size k) (omega arith) (omega arith) (omega arith) (omega arith) l few

-- the range that the table below an entry serves begins where the entry does
pub base_next : (l ipa : ℕ) → l ≤ 2 → base_of (l + 1) ipa ≡ base_of l ipa + entry_index l ipa * entry_size l
unfolding entry_size entry_index
base_next zero ipa few = omega arith
base_next (suc zero) ipa few = omega arith
base_next (suc (suc zero)) ipa few = omega arith
base_next (suc (suc (suc l))) ipa few = absurd (omega arith)

-- ---- walks

module _ (m : Machine) (linked : IsLinked m) (rd ipa : ℕ) (realm : RmmRealm) where
  -- `place` is a place of the walk of `ipa`, and the table there serves the range of addresses with `ipa` in it
  pub record IsServing (place : RttWalk) : Type 0 where
    pub is : IsPlace m linked rd ipa place
    pub levels : ℕ
    pub depth : place.level ≡ realm.start_level + levels
    pub serves : Serves m realm levels place.table (base_of place.level ipa)

  pub few_at : (place : RttWalk) → IsPlace m linked rd ipa place → place.level ≤ 3
  few_at place is = subst (λ (l : ℕ). l ≤ 3) is.level (linked.most place.table (ap (λ (r : RmmGranule). r.state) is.table))

  serving_next : (place : RttWalk) (child : ℕ) → IsServing place → table_below m (entry_at m place ipa) ≡ Some child → IsServing (record { table = child; level = place.level + 1 })
  unfolding Serves entry_at
  serving_next place child at leads =
      let below : IsPlace m linked rd ipa (record { table = child; level = place.level + 1 }) = next m linked rd ipa place child at.is leads in
      let few = few_at (record { table = child; level = place.level + 1 }) below in
      let depth = at.depth in
      let sizes : entry_size place.level ≡ entry_size (realm.start_level + at.levels) = ap entry_size at.depth in
      record {
        is = below;
        levels = suc at.levels;
        depth = omega arith;
        serves = (
          place.table,
          base_of place.level ipa,
          entry_index place.level ipa,
          at.serves,
          entry_index-few place.level ipa,
          leads,
          base_next place.level ipa (omega arith) ∙ ap (λ (s : ℕ). base_of place.level ipa + entry_index place.level ipa * s) sizes,
        );
      }

  on : (levels : ℕ) (place : RttWalk) (o : Option ℕ) → table_below m (entry_at m place ipa) ≡ o → IsServing place
      → ((child : ℕ) → IsServing (record { table = child; level = place.level + 1 }) → IsServing (walk_from m ipa levels (record { table = child; level = place.level + 1 })))
      → IsServing (option_map_or (λ (child : ℕ). walk_from m ipa levels (record { table = child; level = place.level + 1 })) o place)
  on levels place (Some child) leads at rest = rest child (serving_next place child at leads)
  on levels place None leads at rest = at

  from : (levels : ℕ) (place : RttWalk) → IsServing place → IsServing (walk_from m ipa levels place)
  unfolding walk_from
  from zero place at = at
  from (suc levels) place at = on levels place (table_below m (entry_at m place ipa)) refl at (λ child there. from levels (record { table = child; level = place.level + 1 }) there)

  start_serves : (granule_at m rd).state ≡ Rd realm → ipa < 2 ^ realm.s2sz → IsServing (start_of realm ipa)
  unfolding Serves start_of start_table_index
  start_serves is within =
      let fit = served m rd realm linked is in
      record {
        is = start_is m linked rd ipa realm is within;
        levels = 0;
        depth = omega arith;
        serves = (start_table_index realm.start_level ipa, start_inside realm.start_level ipa realm.s2sz realm.table_count within fit.served, refl, refl);
      }

  -- the table at the end of a walk serves the range with the walk's address
  pub walk_serves : (level : ℕ) → (granule_at m rd).state ≡ Rd realm → ipa < 2 ^ realm.s2sz → IsServing (walk m realm ipa level)
  unfolding walk
  walk_serves level is within = from (level - realm.start_level) (start_of realm ipa) (start_serves is within)
