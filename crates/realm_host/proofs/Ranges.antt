-- Proofs that `list_any` of a test is true if some number of the list passes the test, and false if no number at all
-- passes the test.
use Rattle.std.proofs.Common.{◌≡◌, ℕ, Bool, true, false, ◌||◌, List, [], ◌∷◌, refl, sym, ap, ◌∙◌, ⊎_elim}
use Rattle.std.specs.List.{list_any}
use Rattle.std.proofs.lemmas.Bool.{cases_eq, ne_eqb}
use Rattle.realm_model.specs.Command.Check.{is_in}
use Rattle.realm_model.proofs.Booleans.{false_from}

-- ---- tests

either : (s t : Bool) → t ≡ true → (s || t) ≡ true
either true t h = refl
either false t h = h

pub any_from : (test : ℕ → Bool) (ks : List ℕ) (k : ℕ) → is_in k ks ≡ true → test k ≡ true → list_any test ks ≡ true
any_from test [] k here h = cc
any_from test (x ∷ ks) k here h = ⊎_elim
    (λ same. ap (λ t. t || list_any test ks) (ap test (sym same) ∙ h))
    (λ other. either (test x) _ (any_from test ks k (ap (λ t. t || is_in k ks) (sym (ne_eqb k x other)) ∙ here) h))
    (cases_eq k x)

pub none_from : (test : ℕ → Bool) (ks : List ℕ) → ((k : ℕ) → test k ≡ true → ⊥) → list_any test ks ≡ false
none_from test [] never = refl
none_from test (x ∷ ks) never =
    ap (λ t. t || list_any test ks) (false_from (test x) (never x)) ∙ none_from test ks never
