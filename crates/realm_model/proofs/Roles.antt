-- Proofs about the states of granules that have a role in a realm, and about changes that preserve the invariant that
-- links realms to the granules that they name. Each granule that a realm names after such a change had no role before,
-- or keeps its state and its realm.
use Rattle.std.proofs.Common.{◌≡◌, ℕ, true, false, ◌⊎◌, inl, inr, List, Option, Some, None, refl, sym, ap, ◌∙◌}
use Rattle.std.specs.Prelude.{option_map, slice_get}
use Rattle.std.specs.FinMap.{get}
use Rattle.std.proofs.lemmas.Option.{same_Some}
use Rattle.granule_addr.specs.Root.{starting_tables}
use Rattle.realm_model.specs.declared.states.GranuleState.{GranuleState}
use Rattle.realm_model.specs.declared.states.GranuleState.TheVariants.{Undelegated, Delegated, Rd, Rec as InRec, RecAux, Data as InData, Rtt as InRtt}
use Rattle.realm_model.specs.declared.states.EntryState.{EntryState}
use Rattle.realm_model.specs.declared.states.EntryState.TheVariants.{Unassigned, Assigned, Table}
use Rattle.realm_model.specs.Machine.{RealmRow, Cell}
use Rattle.realm_model.specs.Ownership.{granules_of_rec, Mapping}
use Rattle.realm_model.specs.Sound.{mapping_at, is_host_state, is_rd_state}
use Rattle.realm_model.specs.Roles.{Role, AsStart, AtRow, AsRec, AsAux, kind_target, row_target, aux_target, target, is_role_state, HasRole}
use Rattle.realm_model.proofs.Booleans.{true_false}
use Rattle.realm_model.proofs.Parts.{IsLinked}

-- ---- states

pub role_no_host : (s : GranuleState) → is_role_state s ≡ true → is_host_state s ≡ false
role_no_host Undelegated h = cc
role_no_host Delegated h = cc
role_no_host Rd h = cc
role_no_host _ h = refl

-- if a property holds of UNDELEGATED and of DELEGATED, it holds of each state that satisfies `is_host_state`
of_host : (P : GranuleState → Type 0) → P Undelegated → P Delegated → (s : GranuleState) → is_host_state s ≡ true → P s
of_host P undelegated delegated Undelegated h = undelegated
of_host P undelegated delegated Delegated h = delegated
of_host P undelegated delegated Rd h = cc
of_host P undelegated delegated InRec h = cc
of_host P undelegated delegated RecAux h = cc
of_host P undelegated delegated InData h = cc
of_host P undelegated delegated InRtt h = cc

pub host_no_role : (s : GranuleState) → is_host_state s ≡ true → is_role_state s ≡ false
host_no_role = of_host (λ s. is_role_state s ≡ false) refl refl

pub host_no_rd : (s : GranuleState) → is_host_state s ≡ true → is_rd_state s ≡ false
host_no_rd = of_host (λ s. is_rd_state s ≡ false) refl refl

-- ---- what is named is in the state of a role

abbrev pub rec_target : Option (ℕ × List ℕ) → Option (ℕ × GranuleState)
rec_target o = option_map (λ rec. (rec.0, InRec)) o

state_of : (g : ℕ) (s : GranuleState) (to : ℕ × GranuleState) → ◌≡◌ {A = Option (ℕ × GranuleState)} (Some (g, s)) (Some to) → is_role_state s ≡ true → is_role_state to.1 ≡ true
state_of g s to e h = ap (λ (t : ℕ × GranuleState). is_role_state t.1) (sym (same_Some _ _ e)) ∙ h

one_state : (s : GranuleState) → is_role_state s ≡ true → (o : Option ℕ) (to : ℕ × GranuleState) → option_map (λ g. (g, s)) o ≡ Some to → is_role_state to.1 ≡ true
one_state s h None to e = cc
one_state s h (Some g) to e = state_of g s to e h

kind_state : (h : EntryState) (g : Option ℕ) (to : ℕ × GranuleState) → kind_target h g ≡ Some to → is_role_state to.1 ≡ true
kind_state Unassigned g to e = cc
kind_state Assigned g to e = one_state InData refl g to e
kind_state Table g to e = one_state InRtt refl g to e

row_state : (o : Option Mapping) (to : ℕ × GranuleState) → row_target o ≡ Some to → is_role_state to.1 ≡ true
row_state None to e = cc
row_state (Some row) to e = kind_state row.state row.granule to e

rec_state : (o : Option (ℕ × List ℕ)) (to : ℕ × GranuleState) → rec_target o ≡ Some to → is_role_state to.1 ≡ true
rec_state None to e = cc
rec_state (Some rec) to e = state_of rec.0 InRec to e refl

aux_state : (o : Option (ℕ × List ℕ)) (i : ℕ) (to : ℕ × GranuleState) → aux_target o i ≡ Some to → is_role_state to.1 ≡ true
aux_state None i to e = cc
aux_state (Some rec) i to e = one_state RecAux refl (slice_get rec.1 i) to e

pub target_state : (d : RealmRow) (p : Role) (to : ℕ × GranuleState) → target d p ≡ Some to → is_role_state to.1 ≡ true
target_state d (AsStart i) to e = one_state InRtt refl (slice_get (starting_tables d.root) i) to e
target_state d (AtRow place) to e = row_state (mapping_at d.rows place) to e
target_state d (AsRec n) to e = rec_state (option_map granules_of_rec (get d.recs n)) to e
target_state d (AsAux n i) to e = aux_state (option_map granules_of_rec (get d.recs n)) i to e

-- ---- cells that change

abbrev pub SameHead : Cell → Cell → Type 0
SameHead c d = (c.state ≡ d.state) × (c.realm ≡ d.realm)

module _ (cells after : ℕ → Cell) (old : IsLinked cells) where
  -- The invariant still holds if no realm is new and each granule that a realm names either keeps its role, state and
  -- realm, or is fresh. A fresh granule had no role, and now has the realm and the state of its role. Each granule in a
  -- role's state must be named.
  pub linked_after : (fresh : ℕ → Option Role) → ((k : ℕ) (q : Role) → fresh k ≡ Some q → is_role_state (cells k).state ≡ false)
      → ((k : ℕ) (e : RealmRow) → (after k).descriptor ≡ Some e → (d : RealmRow) × ((cells k).descriptor ≡ Some d) × ((p : Role) (to : ℕ × GranuleState) → target e p ≡ Some to →
      ((target d p ≡ Some to) × (fresh to.0 ≡ None → old.roles to.0 ≡ p → SameHead (after to.0) (cells to.0)))
      ⊎ ((fresh to.0 ≡ Some p) × ((after to.0).state ≡ to.1) × ((after to.0).realm ≡ Some k))))
      → ((g : ℕ) → is_role_state (after g).state ≡ true → HasRole after g)
      → IsLinked after
  linked_after fresh host names named = record {
    roles = λ k. elim (fresh k) [ Some q ↦ q | None ↦ old.roles k ];
    names = λ rd e is p to there.
        let was = names rd e is in
        elim (was.2 p to there) [
          | inl same ↦
              let before = old.names rd was.0 was.1 p to same.0 in
              let plain : fresh to.0 ≡ None = not_fresh (fresh to.0) (λ q f. true_false _ (ap is_role_state before.0 ∙ target_state was.0 p to same.0) (host to.0 q f)) in
              let head = same.1 plain before.2 in
              (head.0 ∙ before.0, head.1 ∙ before.1, ap (λ o. elim o [ Some q ↦ q | None ↦ old.roles to.0 ]) plain ∙ before.2)
          | inr new ↦ (new.1, new.2, ap (λ o. elim o [ Some q ↦ q | None ↦ old.roles to.0 ]) new.0)
        ];
    named = named;
  }
    where
      not_fresh : (o : Option Role) → ((q : Role) → o ≡ Some q → ⊥) → o ≡ None
      not_fresh None h = refl
      not_fresh (Some q) h = absurd (h q refl)
