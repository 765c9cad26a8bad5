use Rattle.std.proofs.Common.{◌≡◌, inl, inr, None, ap, ⊎_elim}
use Rattle.rmm_model.specs.declared.granule.RmmGranule.{RmmGranule}
use Rattle.rmm_model.specs.declared.granule.RmmGranuleState.TheVariants.{Rtt}
use Rattle.rmm_model.specs.Level.{entry_index}
use Rattle.rmm_model.specs.Machine.{granule_at}
use Rattle.rmm_model.specs.Walk.{entry_at, table_below, walk}
use Rattle.rmm_laws.proofs.Serving.{no_table_entry, base_of, base_low, base_high, walk_serves, few_at}
use Rattle.rmm_laws.proofs.Walks.{walk_ends, entry_index-few}
use Rattle.rmm_laws.proofs.law.walks_end_at_covering_table.Goals as goal

pub returns : goal.returns
unfolding entry_at
returns c = λ m rd ipa level realm proper is within least.
    let found = walk m realm ipa level in
    let end = walk_ends m proper.linked rd ipa realm level is within least in
    let at = walk_serves m proper.linked rd ipa realm level is within in
    let few = few_at m proper.linked rd ipa realm found end.place_is in
    let table : (granule_at m found.table).state ≡ Rtt = ap (λ (r : RmmGranule). r.state) end.place_is.table in
    record {
      table = end.place_is.table;
      is_level = end.place_is.level;
      above = end.above;
      end = ⊎_elim (λ reached. inl reached)
          (λ (none : table_below m (entry_at m found ipa) ≡ None).
          inr (no_table_entry m (entry_at m found ipa) (proper.linked.inside found.table (entry_index found.level ipa) table (entry_index-few found.level ipa)) none))
          end.end;
      levels = at.levels;
      first = base_of found.level ipa;
      serves = at.serves;
      depth = at.depth;
      low = base_low found.level ipa few;
      high = base_high found.level ipa few;
    }
