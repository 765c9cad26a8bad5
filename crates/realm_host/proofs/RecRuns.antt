-- Proofs that a build's REC, with its state, can be read at the granule of that REC.
use Rattle.std.proofs.Common.{◌≡◌, ℕ, Bool, false, not, List, Option, Some, None, refl, sym, ap, ◌∙◌}
use Rattle.std.specs.Prelude.{option_map, option_and_then}
use Rattle.std.specs.FinMap.{get}
use Rattle.std.proofs.lemmas.Option.{same_Some}
use Rattle.arrayvec.specs.declared.array_vec.ArrayVec.{ArrayVec}
use Rattle.realm_model.specs.declared.act.Act.TheVariants.{Rec}
use Rattle.realm_model.specs.declared.act.Event.{Event}
use Rattle.realm_model.specs.declared.states.GranuleState.TheVariants.{Rec as InRec}
use Rattle.realm_model.specs.Command.Check.{is_ready}
use Rattle.realm_model.specs.Machine.{Limits, Cell, RealmRow, RecRow, Seen, seen, cell_at}
use Rattle.realm_model.specs.Ownership.{granules_of_rec}
use Rattle.realm_model.specs.Reachable.{IsReachable}
use Rattle.realm_model.specs.Roles.{Role, AsRec, target}
use Rattle.realm_model.specs.Running.{rec_runs, is_rec_running, is_running}
use Rattle.realm_model.specs.History.{replay}
use Rattle.realm_model.proofs.Reachable.{reachable_worlds}
use Rattle.realm_model.proofs.RealmOf.{IsAt, IsAt-realm_of}
use Rattle.realm_model.specs.Places.{rec_granule}
use Rattle.realm_model.specs.World.{World, realm_of}
use Rattle.rmi_monitor.specs.Attributes.{RecAttributes}
use Rattle.rmi_monitor.specs.View.{IsRec, rec_in}
use Rattle.rmi_monitor.specs.Named.{rec_named, rec_attributes_of, rec_attributes_at}
use Rattle.realm_host.specs.Readings.{rec_at}
use Rattle.rmi_monitor.proofs.RecNamed.{named_some, named_none}

-- there is a REC, and it runs
abbrev pub state_runs : Option RecAttributes → Bool
state_runs None = false
state_runs (Some rec) = not (is_ready rec.state)

number_of : Role → ℕ
number_of (AsRec number) = number
number_of _ = 0

module _ (limits : Limits) (world : World) (sound : IsReachable limits world) (granule : ℕ) where
  target_is : (rd number : ℕ) (is : IsRec world.machine rd number granule) → target is.realm (AsRec number) ≡ Some (granule, InRec)
  target_is rd number is =
      ap (λ (o : Option RecRow). option_map (λ (rec : ℕ × _). (rec.0, InRec)) (option_map granules_of_rec o)) is.numbered ∙ ap (λ g. Some (g, InRec)) is.is

  -- a granule is the REC of at most one realm
  same_rd : (rd number other n : ℕ) → IsRec world.machine rd number granule → IsRec world.machine other n granule → rd ≡ other
  same_rd rd number other n a b =
      let at_a = sound.names rd a.realm a.there (AsRec number) granule InRec (target_is rd number a) in
      let at_b = sound.names other b.realm b.there (AsRec n) granule InRec (target_is other n b) in
      same_Some _ _ (sym at_a.1 ∙ at_b.1)

  -- a granule is a REC with at most one number
  same_number : (rd number other n : ℕ) → IsRec world.machine rd number granule → IsRec world.machine other n granule → number ≡ n
  unfolding number_of
  same_number rd number other n a b =
      let rds = same_rd rd number other n a b in
      let realms : a.realm ≡ b.realm = same_Some _ _ (sym a.there ∙ ap (λ k. (cell_at world.machine k).descriptor) rds ∙ b.there) in
      ap number_of (sound.once rd a.realm a.there (AsRec number) (AsRec n) granule InRec InRec (target_is rd number a)
      (ap (λ (r : RealmRow). target r (AsRec n)) realms ∙ target_is other n b))

  -- if a granule is a REC, `rec_named` finds the RD of the REC's realm and the REC's number
  found : (rd number : ℕ) → IsRec world.machine rd number granule → rec_named world.machine granule ≡ Some (rd, number)
  found rd number is = at (rec_named world.machine granule) refl
    where
      at : (o : Option (ℕ × ℕ)) → rec_named world.machine granule ≡ o → o ≡ Some (rd, number)
      at None none = absurd (named_none world.machine granule none rd number is)
      at (Some named) some =
          let other = named_some world.machine granule named.0 named.1 some in
          λ i. Some (same_rd named.0 named.1 rd number other is i, same_number named.0 named.1 rd number other is i)

  pub attributes_as : (rd number : ℕ) (is : IsRec world.machine rd number granule) → rec_attributes_at world.machine granule ≡ Some (rec_attributes_of number is.rec)
  attributes_as rd number is =
      ap (λ o. option_and_then (λ (named : ℕ × ℕ). option_map (rec_attributes_of named.1) (rec_in world.machine named.0 named.1)) o) (found rd number is)
      ∙ ap (λ o. option_map (rec_attributes_of number) (option_and_then (λ (realm : RealmRow). get realm.recs number) o)) is.there
      ∙ ap (option_map (rec_attributes_of number)) is.numbered

-- ---- of an act of a build, by the granule of the REC of its number

module _ (limits : Limits) (history : List Event) (world : World) (at_world : replay limits history ≡ Some world) (build granule number : ℕ)
    (granule_is : rec_granule (realm_of build world) number ≡ Some granule) where
  record There : Type 0 where
    rd : Seen
    realm_is : realm_of build world ≡ Some (seen world.machine rd.number)
    rec : IsRec world.machine rd.number number granule

  rec_there : There
  rec_there = at (realm_of build world) refl (IsAt-realm_of build world) granule_is
    where
      by_rec : (rd : Seen) (realm : RealmRow) → (cell_at world.machine rd.number).descriptor ≡ Some realm → (o : Option RecRow) → get realm.recs number ≡ o
          → option_map (λ (rec : RecRow). rec.granule) o ≡ Some granule → IsRec world.machine rd.number number granule
      by_rec rd realm there None numbered e = cc
      by_rec rd realm there (Some rec) numbered e = record { realm = realm; there = there; rec = rec; numbered = numbered; is = same_Some _ _ e }

      by_row : (rd : Seen) (o : Option RealmRow) → (cell_at world.machine rd.number).descriptor ≡ o
          → option_map (λ (rec : RecRow). rec.granule) (option_and_then (λ (row : RealmRow). get row.recs number) o) ≡ Some granule → IsRec world.machine rd.number number granule
      by_row rd None there e = cc
      by_row rd (Some realm) there e = by_rec rd realm there (get realm.recs number) refl e

      at : (o : Option Seen) → realm_of build world ≡ o → IsAt world.machine o → rec_granule o number ≡ Some granule → There
      at None is there e = cc
      at (Some rd) is there e = record {
        rd = rd;
        realm_is = is ∙ (λ i. Some (record { number = rd.number; cell = sym there i }));
        rec = by_row rd rd.cell.descriptor (ap (λ (c : Cell). c.descriptor) there) e;
      }

  pub is_there : rec_attributes_at world.machine granule ≡ None → ⊥
  is_there none =
      let found = rec_there in
      some_is_not_none (attributes_as limits world (reachable_worlds limits history world at_world) granule found.rd.number number found.rec) none
    where
      some_is_not_none : {A : Type 0} {o : Option A} {a : A} → o ≡ Some a → o ≡ None → ⊥
      some_is_not_none some none = let both = sym some ∙ none in cc

  pub runs_is : (aux : ArrayVec ℕ 16 (Unit {0})) → state_runs (rec_attributes_at world.machine granule) ≡ is_running (realm_of build world) (Rec granule aux number)
  runs_is aux =
      let found = rec_there in
      ap state_runs (attributes_as limits world (reachable_worlds limits history world at_world) granule found.rd.number number found.rec)
      ∙ sym (ap (λ o. rec_runs o number) found.realm_is
      ∙ ap (λ o. elim o [ Some realm ↦ is_rec_running (get realm.recs number) | None ↦ false ]) found.rec.there
      ∙ ap is_rec_running found.rec.numbered)

  -- `rec_at` gives the granule of the build's REC, with the attributes that are read at that granule
  pub rec_is : rec_at world build number ≡ option_map (λ rec. (granule, rec)) (rec_attributes_at world.machine granule)
  rec_is =
      let found = rec_there in
      ap (λ o. read (option_and_then (λ (rd : Seen). rd.cell.descriptor) o)) found.realm_is
      ∙ ap read found.rec.there
      ∙ ap (option_map (λ (rec : RecRow). (rec.granule, rec_attributes_of number rec))) found.rec.numbered
      ∙ ap (λ g. Some (g, rec_attributes_of number found.rec.rec)) found.rec.is
      ∙ sym (ap (option_map (λ rec. (granule, rec))) (attributes_as limits world (reachable_worlds limits history world at_world) granule found.rd.number number found.rec))
    where
      read : Option RealmRow → Option (ℕ × RecAttributes)
      read o = option_map (λ (rec : RecRow). (rec.granule, rec_attributes_of number rec)) (option_and_then (λ (realm : RealmRow). get realm.recs number) o)
