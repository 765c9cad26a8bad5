-- Proofs that a command succeeds only if its walk ends at the required level, in a row that passes the command's test.
-- A command that finds such a row goes on.
use Rattle.std.proofs.Common.{◌≡◌, ℕ, Bool, true, false, List, Option, Some, None, Ok, Err, refl, ◌∙◌}
use Rattle.std.specs.Prelude.{◌==◌}
use Rattle.std.proofs.lemmas.Bool.{eqb-true, eq-eqb}
use Rattle.realm_model.specs.Rows.{Row, Rows, Walk, walk, row_at}
use Rattle.realm_model.specs.Update.{Update, Outcome}
use Rattle.realm_model.specs.Command.Check.{check, error_rtt, with_row, with_end}
use Rattle.realm_model.specs.declared.rmi.Rmi.{Rmi}
use Rattle.realm_model.proofs.Walks.{walk_at}
use Rattle.realm_model.proofs.Outcomes.{check_true, end_there}

-- if `check t rmi rest` succeeds, `t` is true, and `rest` succeeds with the same updates
pub check_done : (t : Bool) (rmi : Rmi) (rest : Outcome) (updates : List Update) → check t rmi rest ≡ Ok updates → (t ≡ true) × (rest ≡ Ok updates)
unfolding check
check_done true rmi rest updates e = (refl, e)
check_done false rmi rest updates e = cc

-- the walk ends at the required level, in a row that passes the test
pub record Passes (rows : Rows) (ipa level : ℕ) (passes : Row → Bool) : Type 0 where
  pub row : Row
  pub walked : walk rows ipa level ≡ Some (record { level = level; row = row })
  pub at : row_at rows level ipa ≡ Some row
  pub holds : passes row ≡ true

module _ (rows : Rows) (ipa level : ℕ) (passes : Row → Bool) (rest : Row → Outcome) where
  abbrev on_row : Outcome
  on_row = with_row rows ipa level (λ row. check (passes row) (error_rtt level) (rest row))

  -- if a command succeeds, its walk ends in a row that meets `Passes`, and the rest of the command succeeds with that
  -- row
  pub passed_row : (updates : List Update) → on_row ≡ Ok updates → (found : Passes rows ipa level passes) × (rest found.row ≡ Ok updates)
  unfolding with_end
  passed_row updates = found (walk rows ipa level) refl
    where
      found : (o : Option Walk) → walk rows ipa level ≡ o
          → ◌≡◌ {A = Outcome} (elim o [ Some end ↦ check (end.level == level) (error_rtt end.level) (check (passes end.row) (error_rtt level) (rest end.row)) | None ↦ Err (error_rtt 0) ]) (Ok updates)
          → (found : Passes rows ipa level passes) × (rest found.row ≡ Ok updates)
      found None is e = cc
      found (Some end) is e =
          let here = check_done (end.level == level) (error_rtt end.level) (check (passes end.row) (error_rtt level) (rest end.row)) updates e in
          let passed = check_done (passes end.row) (error_rtt level) (rest end.row) updates here.1 in
          let same : end.level ≡ level = eqb-true end.level level here.0 in (
            record {
              row = end.row;
              walked = is ∙ (λ i. Some (record { level = same i; row = end.row }));
              at = walk_at rows ipa level end is same;
              holds = passed.0;
            },
            passed.1,
          )

  -- if a command's walk ends in a row that meets `Passes`, the command's outcome is what the rest of the command gives
  -- for that row
  pub row_passes : (found : Passes rows ipa level passes) → on_row ≡ rest found.row
  row_passes found =
      end_there rows ipa level (λ end. check (end.level == level) (error_rtt end.level) (check (passes end.row) (error_rtt level) (rest end.row))) _ found.walked
      ∙ check_true (level == level) _ _ (eq-eqb level level refl)
      ∙ check_true (passes found.row) _ _ found.holds
