-- Lemmas on the outcome of a command whose checks pass, and on properties that the command's updates have because the
-- checks pass.
use Rattle.std.proofs.Common.{◌≡◌, ℕ, Bool, true, false, cond, List, Some, None, Ok, Err, refl, ap, subst}
use Rattle.std.specs.FinMap.{get}
use Rattle.realm_model.specs.declared.rmi.Rmi.{Rmi}
use Rattle.realm_model.specs.Rows.{Row, Rows, Walk, walk}
use Rattle.realm_model.specs.Machine.{RecRow, RealmRow, Seen}
use Rattle.realm_model.specs.Update.{Update, Outcome}
use Rattle.realm_model.specs.Command.Check.{check, with_realm, with_rec, with_end, with_granule, error_input, error_rtt}

pub record Yields (P : List Update → Type 0) (o : Outcome) : Type 0 where
  pub where_ok : (us : List Update) → o ≡ Ok us → P us

module _ (P : List Update → Type 0) where
  pub Yields-Ok : (us : List Update) → P us → Yields P (Ok us)
  Yields-Ok us h = record { where_ok = λ vs e. subst P (same_Ok us vs e) h }
    where
      same_Ok : (us vs : List Update) → ◌≡◌ {A = Outcome} (Ok us) (Ok vs) → us ≡ vs
      same_Ok us vs e = cc

  pub Yields-Err : (rmi : Rmi) → Yields P (Err rmi)
  Yields-Err rmi = record { where_ok = λ us e. cc }

  pub Yields-check : (t : Bool) (rmi : Rmi) (o : Outcome) → (t ≡ true → Yields P o) → Yields P (check t rmi o)
  unfolding check
  Yields-check t rmi o h = elim t as (λ s. t ≡ s → Yields P (cond s o (Err rmi))) [ true ↦ λ e. h e | false ↦ λ e. Yields-Err rmi ] refl

  pub Yields-with_realm : (rd : Seen) (f : RealmRow → Outcome) → ((r : RealmRow) → rd.cell.descriptor ≡ Some r → Yields P (f r)) → Yields P (with_realm rd f)
  unfolding with_realm
  Yields-with_realm rd f h =
      elim rd.cell.descriptor as (λ o. rd.cell.descriptor ≡ o → Yields P (elim o [ Some realm ↦ f realm | None ↦ Err error_input ])) [ Some r ↦ λ e. h r e | None ↦ λ e. Yields-Err _ ] refl

  pub Yields-with_rec : (r : RealmRow) (n : ℕ) (f : RecRow → Outcome) → ((rec : RecRow) → get r.recs n ≡ Some rec → Yields P (f rec)) → Yields P (with_rec r n f)
  unfolding with_rec
  Yields-with_rec r n f h = elim (get r.recs n) as (λ o. get r.recs n ≡ o → Yields P (elim o [ Some rec ↦ f rec | None ↦ Err error_input ])) [ Some rec ↦ λ e. h rec e | None ↦ λ e. Yields-Err _ ] refl

  pub Yields-with_granule : (row : Row) (f : ℕ → Outcome) → ((granule : ℕ) → row.granule ≡ Some granule → Yields P (f granule)) → Yields P (with_granule row f)
  unfolding with_granule
  Yields-with_granule row f h =
      elim row.granule as (λ o. row.granule ≡ o → Yields P (elim o [ Some granule ↦ f granule | None ↦ Err error_input ])) [ Some granule ↦ λ e. h granule e | None ↦ λ e. Yields-Err _ ] refl

  pub Yields-with_end : (rows : Rows) (ipa level : ℕ) (f : Walk → Outcome) → ((end : Walk) → walk rows ipa level ≡ Some end → Yields P (f end)) → Yields P (with_end rows ipa level f)
  unfolding with_end
  Yields-with_end rows ipa level f h =
      elim (walk rows ipa level) as (λ o. walk rows ipa level ≡ o → Yields P (elim o [ Some end ↦ f end | None ↦ Err (error_rtt 0) ])) [ Some end ↦ λ e. h end e | None ↦ λ e. Yields-Err _ ] refl

-- ---- the lookups find a value

pub check_true : (t : Bool) (rmi : Rmi) (o : Outcome) → t ≡ true → check t rmi o ≡ o
unfolding check
check_true t rmi o h = ap (λ s. cond s o (Err rmi)) h

pub check_false : (t : Bool) (rmi : Rmi) (o : Outcome) → t ≡ false → check t rmi o ≡ Err rmi
unfolding check
check_false t rmi o h = ap (λ s. cond s o (Err rmi)) h

pub realm_there : (rd : Seen) (f : RealmRow → Outcome) (d : RealmRow) → rd.cell.descriptor ≡ Some d → with_realm rd f ≡ f d
unfolding with_realm
realm_there rd f d h = ap (λ o. elim o [ Some realm ↦ f realm | None ↦ Err error_input ]) h

pub rec_there : (realm : RealmRow) (n : ℕ) (f : RecRow → Outcome) (rec : RecRow) → get realm.recs n ≡ Some rec → with_rec realm n f ≡ f rec
unfolding with_rec
rec_there realm n f rec h = ap (λ o. elim o [ Some rec ↦ f rec | None ↦ Err error_input ]) h

pub granule_there : (row : Row) (f : ℕ → Outcome) (g : ℕ) → row.granule ≡ Some g → with_granule row f ≡ f g
unfolding with_granule
granule_there row f g h = ap (λ o. elim o [ Some granule ↦ f granule | None ↦ Err error_input ]) h

pub end_there : (rows : Rows) (ipa level : ℕ) (f : Walk → Outcome) (end : Walk) → walk rows ipa level ≡ Some end → with_end rows ipa level f ≡ f end
unfolding with_end
end_there rows ipa level f end h = ap (λ o. elim o [ Some end ↦ f end | None ↦ Err (error_rtt 0) ]) h

pub of_check : (t : Bool) (rmi : Rmi) (us vs : List Update) → check t rmi (Ok us) ≡ Ok vs → vs ≡ us
unfolding check
of_check t rmi us vs e = of_cond t e
  where
    of_cond : (t : Bool) → ◌≡◌ {A = Outcome} (cond t (Ok us) (Err rmi)) (Ok vs) → vs ≡ us
    of_cond true e = cc
    of_cond false e = cc
