-- Proofs that a write keeps the invariant that each granule has one role, if each granule uses what it used before.
use Rattle.std.proofs.Common.{◌≡◌, ◌≢◌, ℕ, ◌<◌, ◌⊎◌, inl, inr, true, false, List, length, IfSome, Option, refl, sym, ap, subst, ◌∙◌, ⊎_elim, arith}
use Rattle.std.proofs.lemmas.Bool.{cases_eq}
use Rattle.std.proofs.lemmas.List.{length-set}
use Rattle.rmm_model.specs.declared.granule.RmmGranule.{RmmGranule}
use Rattle.rmm_model.specs.declared.granule.RmmGranuleState.TheVariants.{Rtt}
use Rattle.rmm_model.specs.Granule.{realm_of}
use Rattle.rmm_model.specs.Machine.{Machine, granule_at, page_in, with_granule, with_page}
use Rattle.rmm_model.specs.Realm.{IsServed}
use Rattle.rmm_model.specs.Table.{entry_in_page}
use Rattle.rmm_laws.specs.Role.{has_user, used_at, state_uses, uses, IsSound, IsLinked, LeadsInside}
use Rattle.rmm_laws.proofs.Uses.{IsAlike, kept_roles}
use Rattle.rmm_laws.proofs.Writes.{granule_at-same, granule_at-other, page_in-same, page_in-other, uses-same, leads-same, used_at-same, state_uses-same, sound-with_granule, sound-with_page}

-- Each granule uses the same granules as before. It has the same attributes, or its state requires no user, both before
-- and after. Each entry of a table leads to a granule of the machine.
pub record IsKept (m n : Machine) : Type 0 where
  pub settings : n.settings ≡ m.settings
  pub count : length n.granules ≡ length m.granules
  pub sound : IsSound n
  pub same : (level : ℕ → ℕ) (g i part : ℕ) → uses n level g i part ≡ uses m level g i part
  pub states : (g : ℕ) → (granule_at n g ≡ granule_at m g) ⊎ ((has_user (granule_at m g).state ≡ false) × (has_user (granule_at n g).state ≡ false))
  pub inside : (table i : ℕ) → (granule_at m table).state ≡ Rtt → i < 512 → LeadsInside m (entry_in_page (page_in n table) i)

module _ (m n : Machine) (kept : IsKept m n) where
  was_table : (g : ℕ) → (granule_at n g).state ≡ Rtt
      → (granule_at n g ≡ granule_at m g) ⊎ ((has_user (granule_at m g).state ≡ false) × (has_user (granule_at n g).state ≡ false)) → (granule_at m g).state ≡ Rtt
  was_table g is (inl same) = sym (ap (λ (r : RmmGranule). r.state) same) ∙ is
  was_table g is (inr plain) = let table : has_user (granule_at n g).state ≡ true = ap has_user is in let p = plain.1 in absurd (cc)

  alike : (level : ℕ → ℕ) (g : ℕ) → (granule_at n g ≡ granule_at m g) ⊎ ((has_user (granule_at m g).state ≡ false) × (has_user (granule_at n g).state ≡ false))
      → IsAlike (used_at m level g) (used_at n level g)
  alike level g (inl same) = inl (used_at-same m n kept.settings kept.count level level g same refl)
  alike level g (inr plain) = inr plain

  pub keep_proper : IsLinked m → IsLinked n
  keep_proper proper = record {
    sound = kept.sound;
    level = proper.level;
    roles = kept_roles (uses m proper.level) (uses n proper.level) (used_at m proper.level) (used_at n proper.level) (kept.same proper.level)
        (λ g. alike proper.level g (kept.states g)) proper.roles;
    most = λ table is. proper.most table (was_table table is (kept.states table));
    inside = λ table i is lt. leads-same m n kept.settings kept.count (entry_in_page (page_in n table) i) (kept.inside table i (was_table table is (kept.states table)) lt);
  }

-- ---- another page

module _ (m : Machine) (g : ℕ) (page : List ℕ) (proper : IsLinked m) (inside : g < length m.granules) (whole : length page ≡ 4096)
    (same : (owner : Option ℕ) (level i part : ℕ) → state_uses m (granule_at m g).state owner level page g i part ≡ state_uses m (granule_at m g).state owner level (page_in m g) g i part)
    (leads : (granule_at m g).state ≡ Rtt → (i : ℕ) → i < 512 → LeadsInside m (entry_in_page page i)) where
  there : page_in (with_page m g page) g ≡ page
  there = let pages = proper.sound.pages in page_in-same m g page (omega arith)

  page_kept : IsKept m (with_page m g page)
  unfolding uses
  page_kept = record {
    settings = refl;
    count = refl;
    sound = sound-with_page m g page whole proper.sound;
    same = λ level h i part. ⊎_elim
        (λ (here : h ≡ g).
        subst (λ (x : ℕ). uses (with_page m g page) level x i part ≡ uses m level x i part) (sym here)
        (state_uses-same m (with_page m g page) refl refl (granule_at m g).state (granule_at m g).owner (level g) (page_in (with_page m g page) g) g i part
        ∙ ap (λ (p : List ℕ). state_uses m (granule_at m g).state (granule_at m g).owner (level g) p g i part) there
        ∙ same (granule_at m g).owner (level g) i part))
        (λ (other : h ≢ g). uses-same m (with_page m g page) refl refl level level h i part refl (page_in-other m g h page other) refl)
        (cases_eq h g);
    states = λ h. inl refl;
    inside = λ table i is lt. ⊎_elim
        (λ (here : table ≡ g).
        subst (λ (x : ℕ). LeadsInside m (entry_in_page (page_in (with_page m g page) x) i)) (sym here)
        (subst (λ (p : List ℕ). LeadsInside m (entry_in_page p i)) (sym there) (leads (subst (λ (x : ℕ). (granule_at m x).state ≡ Rtt) here is) i lt)))
        (λ (other : table ≢ g).
        subst (λ (p : List ℕ). LeadsInside m (entry_in_page p i)) (sym (page_in-other m g table page other)) (proper.inside table i is lt))
        (cases_eq table g);
  }

  pub keep_page : IsLinked (with_page m g page)
  keep_page = keep_proper m (with_page m g page) page_kept proper

-- ---- other attributes

module _ (m : Machine) (g : ℕ) (kept : RmmGranule) (proper : IsLinked m) (inside : g < length m.granules)
    (before : has_user (granule_at m g).state ≡ false) (after : has_user kept.state ≡ false)
    (same : (level : ℕ) (page : List ℕ) (i part : ℕ) → state_uses m kept.state kept.owner level page g i part ≡ state_uses m (granule_at m g).state (granule_at m g).owner level page g i part)
    (served : IfSome (realm_of kept.state) (IsServed (length m.granules))) where
  now : granule_at (with_granule m g kept) g ≡ kept
  now = granule_at-same m g kept inside

  count : length (with_granule m g kept).granules ≡ length m.granules
  count = length-set m.granules g kept

  granule_kept : IsKept m (with_granule m g kept)
  unfolding uses
  granule_kept = record {
    settings = refl;
    count = count;
    sound = sound-with_granule m g kept inside served proper.sound;
    same = λ level h i part. ⊎_elim
        (λ (here : h ≡ g).
        subst (λ (x : ℕ). uses (with_granule m g kept) level x i part ≡ uses m level x i part) (sym here)
        (state_uses-same m (with_granule m g kept) refl count (granule_at (with_granule m g kept) g).state (granule_at (with_granule m g kept) g).owner (level g) (page_in m g) g i part
        ∙ ap (λ (r : RmmGranule). state_uses m r.state r.owner (level g) (page_in m g) g i part) now
        ∙ same (level g) (page_in m g) i part))
        (λ (other : h ≢ g). uses-same m (with_granule m g kept) refl count level level h i part (granule_at-other m g h kept other) refl refl)
        (cases_eq h g);
    states = λ h. ⊎_elim
        (λ (here : h ≡ g).
        inr (
          subst (λ (x : ℕ). has_user (granule_at m x).state ≡ false) (sym here) before,
          subst (λ (x : ℕ). has_user (granule_at (with_granule m g kept) x).state ≡ false) (sym here) (ap (λ (r : RmmGranule). has_user r.state) now ∙ after),
        ))
        (λ (other : h ≢ g). inl (granule_at-other m g h kept other))
        (cases_eq h g);
    inside = λ table i is lt. proper.inside table i is lt;
  }

  pub keep_granule : IsLinked (with_granule m g kept)
  keep_granule = keep_proper m (with_granule m g kept) granule_kept proper
