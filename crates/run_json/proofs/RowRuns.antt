-- Proofs that reading runs of equal rows by ascending address, until no row follows, gives all translation table rows
-- of a realm.
use Rattle.std.proofs.Common.{◌≡◌, ℕ, ◌+◌, ◌*◌, ◌<◌, Bool, true, false, List, [], ◌∷◌, ◌++◌, Option, Some, None, refl, sym, ap, ap₂, ◌∙◌, subst, arith, append_assoc, if◌then◌else◌, below_more}
use Rattle.std.specs.List.{flat_map}
use Rattle.std.proofs.lemmas.List.{flat_map_more}
use Rattle.granule_addr.specs.Ipa.{covered_count}
use Rattle.realm_model.specs.World.{World}
use Rattle.realm_host.specs.Readings.{row_at}
use Rattle.realm_host.specs.declared.reading.RowView.{RowView}
use Rattle.run_json.specs.Rows.{first_after, RunGoesOn, IsRowRun, AreRowRuns, rows_above, run_items, AreRowsOf}
use Rattle.run_json.specs.declared.items.RowItem.{RowItem}

-- ---- what code has read

pub some_of : {A : Type 0} (test : Bool) (it found : A) → Some found ≡ (if test then Some it else None) → found ≡ it
some_of true it found is = cc
some_of false it found is = cc

module _ (world : World) (build : ℕ) where
  -- reading a row at an IPA granule that equals `ipa` and a level that equals `level` gives the row at `ipa` and
  -- `level`
  pub row_read : (found : Option RowView) (read ipa asked level : ℕ) → found ≡ row_at world build read asked → read ≡ ipa → asked ≡ level → found ≡ row_at world build ipa level
  row_read found read ipa asked level is same_ipa same_level = is ∙ ap₂ (row_at world build) same_ipa same_level

  -- ---- a run that goes on

  pub behind_more : (row : RowView) (count next after : ℕ) → next ≡ first_after row count → after ≡ next + covered_count row.level → after ≡ first_after row (count + 1)
  behind_more row count next after so_far more = by (covered_count row.level) so_far more
    where
      by : (covered : ℕ) → next ≡ row.first + count * covered → after ≡ next + covered → after ≡ row.first + (count + 1) * covered
      by covered so_far more = omega arith

  pub same_more :
      (row : RowView) (count next : ℕ)
      → next ≡ first_after row count
      → ((k : ℕ) → 0 < k → k < count → RunGoesOn world build row (first_after row k))
      → RunGoesOn world build row next
      → (k : ℕ) → 0 < k → k < count + 1 → RunGoesOn world build row (first_after row k)
  same_more row count next so_far same more k some below =
      below_more (λ n. 0 < n → RunGoesOn world build row (first_after row n)) count (λ n less positive. same n positive less)
      (λ _. subst (RunGoesOn world build row) so_far more) k below some

  -- ---- the runs so far

  -- the items are successive runs of equal rows, which together cover the IPA granules from `from` to `to - 1`
  pub RunsTo : ℕ → List RowItem → ℕ → Type 0
  RunsTo from [] to = to ≡ from
  RunsTo from (run ∷ runs) to = (row_at world build from 3 ≡ Some run.row) × IsRowRun world build run.row run.count × RunsTo (first_after run.row run.count) runs to

  RunsTo-then :
      (runs : List RowItem) (from ipa : ℕ) (run : RowItem)
      → RunsTo from runs ipa
      → row_at world build ipa 3 ≡ Some run.row
      → IsRowRun world build run.row run.count
      → RunsTo from (runs ++ run ∷ []) (first_after run.row run.count)
  unfolding RunsTo
  RunsTo-then [] from ipa run lead there is = (ap (λ n. row_at world build n 3) (sym lead) ∙ there, is, refl)
  RunsTo-then (first ∷ runs) from ipa run lead there is = (lead.0, lead.1, RunsTo-then runs (first_after first.row first.count) ipa run lead.2 there is)

  RunsTo-all : (runs : List RowItem) (from ipa : ℕ) → RunsTo from runs ipa → row_at world build ipa 3 ≡ None → AreRowRuns world build from runs
  unfolding RunsTo
  RunsTo-all [] from ipa lead ends = ap (λ n. row_at world build n 3) (sym lead) ∙ ends
  RunsTo-all (first ∷ runs) from ipa lead ends = (lead.0, lead.1, RunsTo-all runs (first_after first.row first.count) ipa lead.2 ends)

  -- the items are those of all rows that begin below the IPA granule `ipa`
  pub record IsSoFar (ipa : ℕ) (items : List RowItem) : Type 0 where
    pub runs : List RowItem
    pub lead : RunsTo 0 runs ipa
    pub whole : items ≡ flat_map (run_items world build) runs

  pub so_far_none : (items : List RowItem) → items ≡ [] → IsSoFar 0 items
  unfolding RunsTo
  so_far_none items none = record { runs = []; lead = refl; whole = none }

  pub so_far_more :
      (ipa : ℕ) (old mid new : List RowItem) (run : RowItem)
      → IsSoFar ipa old
      → row_at world build ipa 3 ≡ Some run.row
      → IsRowRun world build run.row run.count
      → mid ≡ old ++ rows_above world build run.row
      → new ≡ mid ++ run ∷ []
      → IsSoFar (first_after run.row run.count) new
  so_far_more ipa old mid new run so_far there is above itself = record {
    runs = so_far.runs ++ run ∷ [];
    lead = RunsTo-then so_far.runs 0 ipa run so_far.lead there is;
    whole =
        itself ∙ ap (λ items. items ++ run ∷ []) (above ∙ ap (λ items. items ++ rows_above world build run.row) so_far.whole)
        ∙ append_assoc (flat_map (run_items world build) so_far.runs) (rows_above world build run.row) (run ∷ [])
        ∙ flat_map_more (run_items world build) [] so_far.runs run;
  }

  pub so_far_all : (ipa : ℕ) (items : List RowItem) → IsSoFar ipa items → row_at world build ipa 3 ≡ None → AreRowsOf world build items
  so_far_all ipa items so_far ends = record { runs = so_far.runs; are_runs = RunsTo-all so_far.runs 0 ipa so_far.lead ends; whole = so_far.whole }
