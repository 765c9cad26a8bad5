-- The RD of a build's realm, and the granule of the REC that the build's operation names.
use Rattle.std.specs.Prelude.{◌≡◌, ℕ, Option, Some, None, option_map, option_and_then}
use Rattle.std.specs.FinMap.{get}
use Rattle.realm_model.specs.declared.act.Act.{Act}
use Rattle.realm_model.specs.declared.act.Act.TheVariants.{UnRec, Enter, Exit, Poke}
use Rattle.realm_model.specs.declared.act.RealmAndRec.{RealmAndRec}
use Rattle.realm_model.specs.Machine.{RealmRow, RecRow, Seen}
use Rattle.realm_model.specs.World.{World, realm_of}

-- the number by which an operation names an existing REC, or None if it names none
abbrev pub rec_named : Act → Option ℕ
rec_named (UnRec granule auxiliaries number) = Some number
rec_named (Enter number) = Some number
rec_named (Exit number) = Some number
rec_named (Poke number ipa offset value) = Some number
rec_named _ = None

-- the granule of the realm's REC with this number, or None if there is no such REC
abbrev pub rec_granule : Option Seen → ℕ → Option ℕ
rec_granule realm number =
    option_map (λ (rec : RecRow). rec.granule)
    (option_and_then (λ (row : RealmRow). get row.recs number) (option_and_then (λ (rd : Seen). rd.cell.descriptor) realm))

-- the RD of a build's realm, or None if the build has no realm
abbrev pub rd_of : ℕ → World → Option ℕ
rd_of build world = option_map (λ (rd : Seen). rd.number) (realm_of build world)

-- if a number is given, `rec` is the granule of the realm's REC with this number, or None if there is no such REC
abbrev pub IsRecOf : Option Seen → Option ℕ → Option ℕ → Type 0
IsRecOf realm None rec = Unit {0}
IsRecOf realm (Some number) rec = rec ≡ rec_granule realm number

-- `place` has the RD of the build's realm, and the granule of the REC that the operation names, if any
pub record IsPlaceOf (world : World) (build : ℕ) (act : Act) (place : RealmAndRec) : Type 0 where
  pub realm : place.realm ≡ rd_of build world
  pub rec : IsRecOf (realm_of build world) (rec_named act) place.rec
