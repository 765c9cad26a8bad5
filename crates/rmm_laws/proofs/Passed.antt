-- Proofs that a command always keeps a property if it does so whenever all its checks pass, and lemmas on what passed
-- checks imply.
use Rattle.std.proofs.Common.{◌≡◌, ℕ, ◌&&◌, ◌++◌, List, [], ◌∷◌, Bool, true, false, Option, Some, None, refl, sym, ap, ◌∙◌, ⊎_elim, unwrap_or}
use Rattle.std.specs.Prelude.{is_none, is_some, not}
use Rattle.std.proofs.lemmas.Bool.{cases_Bool, and_from, cond-true, cond-false}
use Rattle.rmm_model.specs.declared.answer.FailedCondition.{FailedCondition}
use Rattle.rmm_model.specs.declared.granule.RmmGranuleState.{RmmGranuleState}
use Rattle.rmm_model.specs.declared.granule.RmmGranuleState.TheVariants.{Undelegated, Delegated, Rd, Rec as IsRec}
use Rattle.rmm_model.specs.declared.realm.RmmRealm.{RmmRealm}
use Rattle.rmm_model.specs.Check.{Check, Command, first_failing, decided, outcome}
use Rattle.rmm_model.specs.Granule.{is_undelegated, is_delegated, realm_of, rec_of}
use Rattle.rmm_model.specs.Guest.{is_rec_named}
use Rattle.rmm_model.specs.Machine.{Machine, granule_at, is_aligned, is_inside, number_of, state_at}
use Rattle.rmm_model.specs.Realm.{no_realm}
use Rattle.rmm_model.specs.Rec.{no_rec}
use Rattle.rmm_laws.specs.Apart.{rd_named, realm_of_rec}

-- no check of a list fails
abbrev pub Passed : List Check → Type 0
Passed [] = Unit {0}
Passed (c ∷ cs) = (c.fails ≡ false) × Passed cs

pub passed : (cs : List Check) → first_failing cs ≡ None → Passed cs
passed [] none = tt
passed (c ∷ cs) none =
    ⊎_elim
    (λ yes. let some = cond-true c.fails (Some c.refusal) (first_failing cs) yes in absurd (cc))
    (λ no. (no, passed cs (sym (cond-false c.fails (Some c.refusal) (first_failing cs) no) ∙ none)))
    (cases_Bool c.fails)

-- if all checks of two lists have passed, all checks of the first list have passed
pub passed_first : (cs ds : List Check) → Passed (cs ++ ds) → Passed cs
passed_first [] ds ok = tt
passed_first (c ∷ cs) ds ok = (ok.0, passed_first cs ds ok.1)

-- if all checks of two lists have passed, all checks of the second list have passed
pub passed_second : (cs ds : List Check) → Passed (cs ++ ds) → Passed ds
passed_second [] ds ok = ok
passed_second (c ∷ cs) ds ok = passed_second cs ds ok.1

kept_at : (P : Machine → Type 0) (command : Command) (m : Machine) (o : Option FailedCondition) → first_failing command.checks ≡ o → P m → (Passed command.checks → P command.machine)
    → P (decided o command m).1
kept_at P command m (Some refusal) is before after = before
kept_at P command m None is before after = after (passed command.checks is)

-- a command keeps a property `P`, if `P` holds of the machine that the command makes once all checks pass
pub kept : (P : Machine → Type 0) (command : Command) (m : Machine) → P m → (Passed command.checks → P command.machine) → P (outcome command m).1
kept P command m before after = kept_at P command m (first_failing command.checks) refl before after

-- ---- what tests of states say

pub yes_from : (b : Bool) → not b ≡ false → b ≡ true
yes_from true is = refl
yes_from false is = sym is

pub is_delegated-true : (s : RmmGranuleState) → is_delegated s ≡ true → s ≡ Delegated
is_delegated-true Delegated is = refl
is_delegated-true _ is = absurd (cc)

pub is_undelegated-true : (s : RmmGranuleState) → is_undelegated s ≡ true → s ≡ Undelegated
is_undelegated-true Undelegated is = refl
is_undelegated-true _ is = absurd (cc)

pub realm_of-some : (s : RmmGranuleState) → is_none (realm_of s) ≡ false → s ≡ Rd (unwrap_or (realm_of s) no_realm)
realm_of-some (Rd realm) is = refl
realm_of-some _ is = absurd (cc)

pub rec_of-some : (s : RmmGranuleState) → is_none (rec_of s) ≡ false → s ≡ IsRec (unwrap_or (rec_of s) no_rec)
rec_of-some (IsRec rec) is = refl
rec_of-some _ is = absurd (cc)

pub rec_of-there : (s : RmmGranuleState) → is_some (rec_of s) ≡ true → s ≡ IsRec (unwrap_or (rec_of s) no_rec)
rec_of-there (IsRec rec) is = refl
rec_of-there _ is = absurd (cc)

pub realm_of-is : (s : RmmGranuleState) (realm : RmmRealm) → realm_of s ≡ Some realm → s ≡ Rd realm
realm_of-is (Rd other) realm is = (let same : other ≡ realm = cc in ap Rd same)
realm_of-is _ realm is = absurd (cc)

-- ---- RDs and RECs that calls name

pub some_same : {a b : ℕ} → Some a ≡ Some b → a ≡ b
some_same is = cc

not_none : {X : Type 0} (o : Option X) → is_none o ≡ false → is_some o ≡ true
not_none (Some x) is = refl
not_none None is = absurd (cc)

pub rd_named-is : (m : Machine) (rd : ℕ) → not (is_aligned rd) ≡ false → not (is_inside m rd) ≡ false → is_none (realm_of (state_at m rd)) ≡ false → rd_named m rd ≡ Some (number_of m rd)
rd_named-is m rd aligned inside is =
    cond-true _ _ _
    (and_from (is_aligned rd && is_inside m rd) (is_some (realm_of (state_at m rd)))
    (and_from (is_aligned rd) (is_inside m rd) (yes_from (is_aligned rd) aligned) (yes_from (is_inside m rd) inside)) (not_none (realm_of (state_at m rd)) is))

pub rec_named : (m : Machine) (rec : ℕ) → not (is_aligned rec) ≡ false → not (is_inside m rec) ≡ false → is_none (rec_of (state_at m rec)) ≡ false → is_rec_named m rec ≡ true
rec_named m rec aligned inside is =
    and_from (is_aligned rec && is_inside m rec) (is_some (rec_of (state_at m rec)))
    (and_from (is_aligned rec) (is_inside m rec) (yes_from (is_aligned rec) aligned) (yes_from (is_inside m rec) inside)) (not_none (rec_of (state_at m rec)) is)

pub rec_named-is : (m : Machine) (rec : ℕ) → not (is_aligned rec) ≡ false → not (is_inside m rec) ≡ false → is_none (rec_of (state_at m rec)) ≡ false → realm_of_rec m rec ≡ (granule_at m (number_of m rec)).owner
rec_named-is m rec aligned inside is = cond-true _ _ _ (rec_named m rec aligned inside is)
