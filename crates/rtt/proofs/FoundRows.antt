-- Proofs that the row at which an RTT walk ends decides whether a command is refused, and with which level. For
-- RMI_RTT_DESTROY the entries of the table decide too.
use Rattle.std.proofs.Common.{◌≡◌, ◌≢◌, ℕ, ◌-◌, Bool, true, false, Some, None, Err, ◌⊎◌, ⊎_elim, sym, ap, ◌∙◌}
use Rattle.std.specs.Prelude.{◌==◌}
use Rattle.std.proofs.lemmas.Bool.{cases_eq, eq-eqb, ne_eqb}
use Rattle.realm_model.specs.Rows.{Row, Rows, walk, is_table, is_table_unused}
use Rattle.realm_model.specs.Update.{Outcome}
use Rattle.realm_model.specs.Command.Check.{check, error_rtt, with_row, with_end}
use Rattle.realm_model.specs.Command.Found.{with_unused_table}
use Rattle.realm_model.proofs.Outcomes.{check_true, check_false}

module _ (rows : Rows) (ipa level wanted ended : ℕ) (row : Row) (at : wanted ≡ level) (ends : walk rows ipa wanted ≡ Some (record { level = ended; row = row })) where
  -- a command goes on with the row where its walk ended if that row is of the required level, and otherwise fails with
  -- the level of the row
  ended_so : (f : Row → Outcome) → with_row rows ipa level f ≡ check (ended == level) (error_rtt ended) (f row)
  unfolding with_end
  ended_so f = ap (λ o. elim o [ Some end ↦ check (end.level == level) (error_rtt end.level) (f end.row) | None ↦ Err (error_rtt 0) ]) (ap (walk rows ipa) (sym at) ∙ ends)

  ended_there : ended ≡ wanted → (f : Row → Outcome) → with_row rows ipa level f ≡ f row
  ended_there there f = ended_so f ∙ check_true (ended == level) (error_rtt ended) (f row) (eq-eqb ended level (there ∙ at))

  module _ (passes : Row → Bool) where
    found_so : ended ≡ wanted → passes row ≡ true → (f : Row → Outcome) → with_row rows ipa level (λ r. check (passes r) (error_rtt level) (f r)) ≡ f row
    found_so there holds f = ended_there there (λ r. check (passes r) (error_rtt level) (f r)) ∙ check_true (passes row) (error_rtt level) (f row) holds

    -- A command goes on with the row where its walk ended, if the row is of the required level and passes the test.
    pub row_passed : ended ≡ wanted → passes row ≡ true → (found : Row) × ((f : Row → Outcome) → with_row rows ipa level (λ r. check (passes r) (error_rtt level) (f r)) ≡ f found)
    row_passed there holds = (row, found_so there holds)

    -- If the walk ended at another level, or the row fails the test, the command is refused with the level where the
    -- walk ended.
    pub row_refused : (ended ≢ wanted) ⊎ (passes row ≡ false) → (f : Row → Outcome) → with_row rows ipa level (λ r. check (passes r) (error_rtt level) (f r)) ≡ Err (error_rtt ended)
    row_refused fails f =
        ⊎_elim
        (λ (there : ended ≡ wanted).
        ended_there there (λ r. check (passes r) (error_rtt level) (f r))
        ∙ check_false (passes row) (error_rtt level) (f row) (⊎_elim (λ (away : ended ≢ wanted). absurd (away there)) (λ failed. failed) fails)
        ∙ ap (λ (l : ℕ). Err (error_rtt l)) (sym (there ∙ at)))
        (λ (away : ended ≢ wanted).
        ended_so (λ r. check (passes r) (error_rtt level) (f r))
        ∙ check_false (ended == level) (error_rtt ended) (check (passes row) (error_rtt level) (f row)) (ne_eqb ended level (λ e. away (e ∙ sym at))))
        (cases_eq ended wanted)

-- ---- a table that is to be destroyed

module _ (rows : Rows) (ipa level wanted ended : ℕ) (row : Row) (at : wanted ≡ level - 1) (ends : walk rows ipa wanted ≡ Some (record { level = ended; row = row })) where
  on_table : (Row → Outcome) → Row → Outcome
  on_table f above = check (is_table_unused rows level ipa) (error_rtt level) (f above)

  pub table_missed : (ended ≢ wanted) ⊎ (is_table row ≡ false) → (f : Row → Outcome) → with_unused_table rows ipa level f ≡ Err (error_rtt ended)
  unfolding on_table
  table_missed fails f = row_refused rows ipa (level - 1) wanted ended row at ends is_table fails (on_table f)

  leads_so : ended ≡ wanted → is_table row ≡ true → (f : Row → Outcome) → with_unused_table rows ipa level f ≡ on_table f row
  unfolding on_table
  leads_so there leads f = found_so rows ipa (level - 1) wanted ended row at ends is_table there leads (on_table f)

  pub table_passed : ended ≡ wanted → is_table row ≡ true → is_table_unused rows level ipa ≡ true → (found : Row) × ((f : Row → Outcome) → with_unused_table rows ipa level f ≡ f found)
  unfolding on_table
  table_passed there leads unused = (row, λ f. leads_so there leads f ∙ check_true (is_table_unused rows level ipa) (error_rtt level) (f row) unused)

  pub table_refused : ended ≡ wanted → is_table row ≡ true → is_table_unused rows level ipa ≡ false → (f : Row → Outcome) → with_unused_table rows ipa level f ≡ Err (error_rtt level)
  unfolding on_table
  table_refused there leads used f = leads_so there leads f ∙ check_false (is_table_unused rows level ipa) (error_rtt level) (f row) used
