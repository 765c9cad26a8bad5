-- The proof that an operation that destroys a REC names the granule of that REC, if the operation meets the
-- requirements on a build's command.
use Rattle.std.proofs.Common.{◌≡◌, ℕ, Bool, true, false, ◌&&◌, ◌==◌, Option, Some, None, refl, ap}
use Rattle.std.specs.Prelude.{option_map, option_and_then}
use Rattle.std.specs.FinMap.{get}
use Rattle.std.specs.Str.{bytes_eq}
use Rattle.std.proofs.lemmas.Bool.{eqb-true}
use Rattle.realm_model.specs.declared.act.Act.{Act}
use Rattle.realm_model.specs.declared.act.Act.TheVariants.{UnRec}
use Rattle.realm_model.specs.Machine.{Limits, RecRow, RealmRow, Seen}
use Rattle.realm_model.specs.Outcome.{fits, realm_is}
use Rattle.realm_model.specs.World.{World, realm_of}
use Rattle.realm_model.specs.Places.{rec_granule}
use Rattle.rmi_monitor.specs.Mirror.{UnRecNamesItsRec}

first_of : (s t : Bool) → (s && t) ≡ true → s ≡ true
first_of true t both = refl
first_of false t both = both

-- there is a REC, its granule is the given one, and the REC passes a further test
abbrev is_rec_with : ℕ → (RecRow → Bool) → Option RecRow → Bool
is_rec_with granule test found = elim found [ Some rec ↦ rec.granule == granule && test rec | None ↦ false ]

of_rec : (granule : ℕ) (test : RecRow → Bool) (found : Option RecRow) → is_rec_with granule test found ≡ true
    → option_map (λ (rec : RecRow). rec.granule) found ≡ Some granule
of_rec granule test None is = cc
of_rec granule test (Some rec) is = ap Some (eqb-true rec.granule granule (first_of (rec.granule == granule) (test rec) is))

of_row : (granule number : ℕ) (test : RecRow → Bool) (row : Option RealmRow)
    → elim row [ Some realm ↦ is_rec_with granule test (get realm.recs number) | None ↦ false ] ≡ true
    → option_map (λ (rec : RecRow). rec.granule) (option_and_then (λ (realm : RealmRow). get realm.recs number) row) ≡ Some granule
of_row granule number test None is = cc
of_row granule number test (Some realm) is = of_rec granule test (get realm.recs number) is

of_realm : (granule number : ℕ) (test : RecRow → Bool) (realm : Option Seen)
    → realm_is realm (λ rd row. is_rec_with granule test (get row.recs number)) ≡ true → rec_granule realm number ≡ Some granule
of_realm granule number test None is = cc
of_realm granule number test (Some rd) is = of_row granule number test rd.cell.descriptor is

pub rec_named_is : (limits : Limits) (world : World) (build : ℕ) (act : Act) → UnRecNamesItsRec limits world build act
unfolding fits
rec_named_is limits world build (UnRec granule auxiliaries number) =
    λ asked. of_realm granule number (λ rec. bytes_eq rec.auxiliaries auxiliaries.items) (realm_of build world) asked.fitting
rec_named_is limits world build _ = tt
