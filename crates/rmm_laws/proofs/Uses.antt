-- Proofs that each granule keeps one role when granules begin or cease to use other granules, or use the same granules
-- as before.
use Rattle.std.proofs.Common.{◌≡◌, ◌≢◌, ℕ, ◌⊎◌, inl, inr, ⊎_elim, Bool, true, false, Option, Some, None, refl, sym, ap, ◌∙◌}
use Rattle.std.proofs.lemmas.Bool.{cases_eq, cases_Bool, both_ways}
use Rattle.rmm_laws.specs.Role.{Used, has_user, IsUsed, HasNoUser, HasOneRole}

abbrev pub has_user_at : Used → Bool
has_user_at u = has_user u.attributes.state

-- a granule is as it was, or its state requires a user neither before nor after
abbrev pub IsAlike : Used → Used → Type 0
IsAlike u v = (v ≡ u) ⊎ ((has_user_at u ≡ false) × (has_user_at v ≡ false))

-- ---- uses that are the same

module _ (F G : ℕ → ℕ → ℕ → Option Used) (S T : ℕ → Used) (same : (x i k : ℕ) → G x i k ≡ F x i k) (alike : (g : ℕ) → IsAlike (S g) (T g)) where
  kept_used : (g : ℕ) → IsUsed F S g → IsAlike (S g) (T g) → HasOneRole G T g
  kept_used g r (inl is) = inl (record {
    user = r.user;
    index = r.index;
    part = r.part;
    is = same r.user r.index r.part ∙ r.is ∙ ap (λ (u : Used). Some u) (sym is);
    once = λ x i k u gives at. r.once x i k u (sym (same x i k) ∙ gives) at;
    role = ap has_user_at is ∙ r.role;
  })
  kept_used g r (inr plain) = absurd (both_ways (has_user_at (S g)) plain.0 r.role)

  plain_on : (g : ℕ) → has_user_at (S g) ≡ false → IsAlike (S g) (T g) → has_user_at (T g) ≡ false
  plain_on g plain (inl is) = ap has_user_at is ∙ plain
  plain_on g plain (inr both) = both.1

  pub kept_roles : ((g : ℕ) → HasOneRole F S g) → (g : ℕ) → HasOneRole G T g
  kept_roles roles g =
      ⊎_elim
      (λ (r : IsUsed F S g). kept_used g r (alike g))
      (λ (r : HasNoUser F S g). inr (record {
        none = λ x i k u gives. r.none x i k u (sym (same x i k) ∙ gives);
        role = plain_on g r.role (alike g);
      }))
      (roles g)

-- ---- uses that one granule has more

-- In `G` one granule uses more granules than in `F`; the additional ones require no user in `S`, and one in `T`. The
-- new uses are at indices and parts that had none in `F`. All other uses are the same.
pub record IsMore (F G : ℕ → ℕ → ℕ → Option Used) (S T : ℕ → Used) : Type 0 where
  pub user : ℕ
  pub is_new : ℕ → ℕ → Bool
  pub new : ℕ → ℕ → ℕ
  pub before : (i k : ℕ) → is_new i k ≡ true → F user i k ≡ None
  pub after : (i k : ℕ) → is_new i k ≡ true → G user i k ≡ Some (T (new i k))
  pub beside : (x i k : ℕ) → (x ≢ user) ⊎ (is_new i k ≡ false) → G x i k ≡ F x i k
  pub apart : (i k j l : ℕ) → is_new i k ≡ true → is_new j l ≡ true → new i k ≡ new j l → (i ≡ j) × (k ≡ l)
  pub free : (i k : ℕ) → is_new i k ≡ true → has_user_at (S (new i k)) ≡ false
  pub made : (i k : ℕ) → is_new i k ≡ true → has_user_at (T (new i k)) ≡ true
  pub others : (g : ℕ) → ((i k : ℕ) → is_new i k ≡ true → g ≢ new i k) → IsAlike (S g) (T g)
  pub new_or_not : (g : ℕ) → ((i : ℕ) × (k : ℕ) × (is_new i k ≡ true) × (g ≡ new i k)) ⊎ ((i k : ℕ) → is_new i k ≡ true → g ≢ new i k)
  pub number_before : (g : ℕ) → (S g).number ≡ g
  pub number_after : (g : ℕ) → (T g).number ≡ g

module _ (F G : ℕ → ℕ → ℕ → Option Used) (S T : ℕ → Used) (more : IsMore F G S T) where
  -- the use of granule `x` at index `i` and part `k` is a new one, in `G` and not in `F`
  abbrev IsNewPlace : ℕ → ℕ → ℕ → Type 0
  IsNewPlace x i k = (x ≡ more.user) × (more.is_new i k ≡ true)

  -- the use of granule `x` at index `i` and part `k` is an old one, so `F` and `G` agree there
  abbrev IsOldPlace : ℕ → ℕ → ℕ → Type 0
  IsOldPlace x i k = (x ≢ more.user) ⊎ (more.is_new i k ≡ false)

  place_cases : (x i k : ℕ) → IsNewPlace x i k ⊎ IsOldPlace x i k
  place_cases x i k =
      ⊎_elim
      (λ (same : x ≡ more.user). ⊎_elim (λ (sure : more.is_new i k ≡ true). inl (same, sure)) (λ (never : more.is_new i k ≡ false). inr (inr never)) (cases_Bool (more.is_new i k)))
      (λ (other : x ≢ more.user). inr (inl other))
      (cases_eq x more.user)

  -- a use is not both new and old
  not_both : (i k : ℕ) → more.is_new i k ≡ true → IsOldPlace more.user i k → ⊥
  not_both i k sure (inl other) = other refl
  not_both i k sure (inr never) = both_ways (more.is_new i k) never sure

  -- a new use in `G` is of the granule that `new` gives for its index and part
  at_new : (x i k : ℕ) (u : Used) → IsNewPlace x i k → G x i k ≡ Some u → u ≡ T (more.new i k)
  at_new x i k u (here, sure) gives =
      let there : G x i k ≡ Some (T (more.new i k)) = ap (λ (y : ℕ). G y i k) here ∙ more.after i k sure in
      let both : Some u ≡ Some (T (more.new i k)) = sym gives ∙ there in
      cc

  -- each use in `F` is old
  old_place : (x i k : ℕ) (u : Used) → F x i k ≡ Some u → IsOldPlace x i k
  old_place x i k u gives =
      ⊎_elim
      (λ (new : IsNewPlace x i k). let none : F x i k ≡ None = ap (λ (y : ℕ). F y i k) new.0 ∙ more.before i k new.1 in absurd (cc))
      (λ (old : IsOldPlace x i k). old)
      (place_cases x i k)

  -- a granule with a new use in `G` has the number that `new` gives for the index and part of that use
  number_new : (x i k : ℕ) (u : Used) → IsNewPlace x i k → G x i k ≡ Some u → u.number ≡ more.new i k
  number_new x i k u new gives = ap (λ (v : Used). v.number) (at_new x i k u new gives) ∙ more.number_after (more.new i k)

  -- a granule with a new use in `G` is not used in `F`, if the granule has one role in `F`
  unused_before : (i k x j l : ℕ) (u : Used) → more.is_new i k ≡ true → HasOneRole F S (more.new i k) → F x j l ≡ Some u → u.number ≢ more.new i k
  unused_before i k x j l u sure (inl r) gives = absurd (both_ways (has_user_at (S (more.new i k))) (more.free i k sure) r.role)
  unused_before i k x j l u sure (inr r) gives = r.none x j l u gives

  added_new : (g i k : ℕ) → more.is_new i k ≡ true → g ≡ more.new i k → HasOneRole F S (more.new i k) → HasOneRole G T g
  added_new g i k sure at before = inl (record {
    user = more.user;
    index = i;
    part = k;
    is = more.after i k sure ∙ ap (λ (h : ℕ). Some (T h)) (sym at);
    once = λ x j l u gives number. ⊎_elim
        (λ (new : IsNewPlace x j l).
        let same = more.apart j l i k new.1 sure (sym (number_new x j l u new gives) ∙ number ∙ at) in
        (new.0, same.0, same.1))
        (λ (old : IsOldPlace x j l). absurd (unused_before i k x j l u sure before (sym (more.beside x j l old) ∙ gives) (number ∙ at)))
        (place_cases x j l);
    role = ap (λ (h : ℕ). has_user_at (T h)) at ∙ more.made i k sure;
  })

  -- each use in `G` of a granule without new uses is also in `F`
  back : (g : ℕ) → ((i k : ℕ) → more.is_new i k ≡ true → g ≢ more.new i k) → (x i k : ℕ) (u : Used) → G x i k ≡ Some u → u.number ≡ g → F x i k ≡ Some u
  back g not_new x i k u gives number =
      ⊎_elim
      (λ (new : IsNewPlace x i k). absurd (not_new i k new.1 (sym number ∙ number_new x i k u new gives)))
      (λ (old : IsOldPlace x i k). sym (more.beside x i k old) ∙ gives)
      (place_cases x i k)

  forth : (x i k : ℕ) (u : Used) → F x i k ≡ Some u → G x i k ≡ Some u
  forth x i k u gives = more.beside x i k (old_place x i k u gives) ∙ gives

  added_old : (g : ℕ) → ((i k : ℕ) → more.is_new i k ≡ true → g ≢ more.new i k) → HasOneRole F S g → IsAlike (S g) (T g) → HasOneRole G T g
  added_old g not_new (inl r) (inl is) = inl (record {
    user = r.user;
    index = r.index;
    part = r.part;
    is = forth r.user r.index r.part (S g) r.is ∙ ap (λ (u : Used). Some u) (sym is);
    once = λ x i k u gives number. r.once x i k u (back g not_new x i k u gives number) number;
    role = ap has_user_at is ∙ r.role;
  })
  added_old g not_new (inl r) (inr plain) = absurd (both_ways (has_user_at (S g)) plain.0 r.role)
  added_old g not_new (inr r) alike = inr (record {
    none = λ x i k u gives number. r.none x i k u (back g not_new x i k u gives number) number;
    role = ⊎_elim (λ (is : T g ≡ S g). ap has_user_at is ∙ r.role) (λ plain. plain.1) alike;
  })

  pub added : ((g : ℕ) → HasOneRole F S g) → (g : ℕ) → HasOneRole G T g
  added roles g =
      ⊎_elim
      (λ new. added_new g new.0 new.1 new.2 new.3 (roles (more.new new.0 new.1)))
      (λ not_new. added_old g not_new (roles g) (more.others g not_new))
      (more.new_or_not g)

  -- ---- and the other way round

  removed_new : (g i k : ℕ) → more.is_new i k ≡ true → g ≡ more.new i k → HasOneRole G T (more.new i k) → HasOneRole F S g
  removed_new g i k sure at after = inr (record {
    none = λ x j l u gives number.
        let old : IsOldPlace x j l = old_place x j l u gives in
        ⊎_elim
        (λ (r : IsUsed G T (more.new i k)).
        let here = r.once more.user i k (T (more.new i k)) (more.after i k sure) (more.number_after (more.new i k)) in
        let there = r.once x j l u (forth x j l u gives) (number ∙ at) in
        let same : x ≡ more.user = there.0 ∙ sym here.0 in
        let index : j ≡ i = there.1 ∙ sym here.1 in
        let part : l ≡ k = there.2 ∙ sym here.2 in
        ⊎_elim
        (λ (other : x ≢ more.user). other same)
        (λ (never : more.is_new j l ≡ false). both_ways (more.is_new i k) (sym (ap (λ (y : ℕ). more.is_new y l) index ∙ ap (more.is_new i) part) ∙ never) sure)
        old)
        (λ (r : HasNoUser G T (more.new i k)). both_ways (has_user_at (T (more.new i k))) r.role (more.made i k sure))
        after;
    role = ap (λ (h : ℕ). has_user_at (S h)) at ∙ more.free i k sure;
  })

  removed_old : (g : ℕ) → ((i k : ℕ) → more.is_new i k ≡ true → g ≢ more.new i k) → HasOneRole G T g → IsAlike (S g) (T g) → HasOneRole F S g
  removed_old g not_new (inl r) (inl is) = inl (record {
    user = r.user;
    index = r.index;
    part = r.part;
    is = back g not_new r.user r.index r.part (T g) r.is (more.number_after g) ∙ ap (λ (u : Used). Some u) is;
    once = λ x i k u gives number. r.once x i k u (forth x i k u gives) number;
    role = sym (ap has_user_at is) ∙ r.role;
  })
  removed_old g not_new (inl r) (inr plain) = absurd (both_ways (has_user_at (T g)) plain.1 r.role)
  removed_old g not_new (inr r) alike = inr (record {
    none = λ x i k u gives. r.none x i k u (forth x i k u gives);
    role = ⊎_elim (λ (is : T g ≡ S g). sym (ap has_user_at is) ∙ r.role) (λ plain. plain.0) alike;
  })

  pub removed : ((g : ℕ) → HasOneRole G T g) → (g : ℕ) → HasOneRole F S g
  removed roles g =
      ⊎_elim
      (λ new. removed_new g new.0 new.1 new.2 new.3 (roles (more.new new.0 new.1)))
      (λ not_new. removed_old g not_new (roles g) (more.others g not_new))
      (more.new_or_not g)
