-- Proofs that the word that encodes an entry fits in 64 bits and is decoded to the same entry, and that each word is
-- decoded to an entry.
use Rattle.std.specs.Prelude.{◌≡◌, ℕ, ◌+◌, ◌*◌, ◌/◌, ◌%◌, ◌^◌, ◌<◌, Option, Some, None}
use Rattle.std.proofs.Common.{refl, sym, ap, ◌∙◌, arith}
use Rattle.realm_model.specs.declared.states.EntryState.{EntryState}
use Rattle.realm_model.specs.declared.states.EntryState.TheVariants.{Unassigned, Assigned, Table}
use Rattle.realm_model.specs.declared.states.Ripas.{Ripas}
use Rattle.realm_model.specs.declared.states.Ripas.TheVariants.{Empty, Ram, Destroyed}
use Rattle.realm_model.specs.Rows.{Row}
use Rattle.rtt.specs.Word.{kind_bits, ripas_bits, address_bits, entry_word, kind_of, ripas_of, decoded, entry_of, IsEncodable, IsEntry}

-- the kind, the RIPAS and the granule from which a word is made are read back from it
parts : (kind ripas granule : ℕ) → kind < 4 → ripas < 4 → granule < 4096
    → ((kind + ripas * 4 + granule * 4096) % 4 ≡ kind) × ((kind + ripas * 4 + granule * 4096) / 4 % 4 ≡ ripas)
    × ((kind + ripas * 4 + granule * 4096) / 4096 % 4096 ≡ granule)
parts kind ripas granule few_kinds few_ripas few = (omega arith, omega arith, omega arith)

ripas_small : (ripas : Ripas) → ripas_bits ripas < 4
ripas_small Empty = omega arith
ripas_small Ram = omega arith
ripas_small Destroyed = omega arith

ripas_back : (ripas : Ripas) → ripas_of (ripas_bits ripas) ≡ ripas
ripas_back Empty = refl
ripas_back Ram = refl
ripas_back Destroyed = refl

by_parts : (kind granule : ℕ) (ripas : Ripas) → kind < 4 → granule < 4096
    → entry_of (kind + ripas_bits ripas * 4 + granule * 4096) ≡ decoded (kind_of kind) ripas granule
by_parts kind granule ripas few few_granules =
    let p = parts kind (ripas_bits ripas) granule few (ripas_small ripas) few_granules in
    (λ i. decoded (kind_of (p.0 i)) (ripas_of (p.1 i)) (p.2 i)) ∙ ap (λ r. decoded (kind_of kind) r granule) (ripas_back ripas)

back : (state : EntryState) (ripas : Ripas) (granule : Option ℕ) → IsEncodable state ripas granule
    → entry_of (kind_bits state + ripas_bits ripas * 4 + address_bits granule) ≡ record { state = state; ripas = ripas; granule = granule }
back Unassigned ripas None is = by_parts 0 0 ripas (omega arith) (omega arith)
back Unassigned ripas (Some granule) is = cc
back Assigned ripas None is = absurd is
back Assigned ripas (Some granule) is = by_parts 1 granule ripas (omega arith) is
back Table ripas None is = absurd is
back Table ripas (Some granule) is =
    by_parts 2 granule ripas (omega arith) is.0 ∙ ap (λ r. let row : Row = record { state = Table; ripas = r; granule = Some granule } in row) (sym is.1)

-- the word that encodes an entry is decoded to that entry
pub entry_of-entry_word : (row : Row) → IsEntry row → entry_of (entry_word row) ≡ row
entry_of-entry_word row is = back row.state row.ripas row.granule is

small : (state : EntryState) (ripas : Ripas) (granule : Option ℕ) → IsEncodable state ripas granule
    → kind_bits state + ripas_bits ripas * 4 + address_bits granule < 2 ^ 64
small Unassigned ripas None is = let few = ripas_small ripas in omega arith
small Unassigned ripas (Some granule) is = cc
small Assigned ripas None is = absurd is
small Assigned ripas (Some granule) is = let few = ripas_small ripas in let below : granule < 4096 = is in omega arith
small Table ripas None is = absurd is
small Table ripas (Some granule) is = let few = ripas_small ripas in let below : granule < 4096 = is.0 in omega arith

-- the word that encodes an entry fits in 64 bits
pub entry_word_fits : (row : Row) → IsEntry row → entry_word row < 2 ^ 64
entry_word_fits row is = small row.state row.ripas row.granule is

-- `decoded` gives an entry for each kind, each RIPAS and each granule below 4,096
said_is : (state : EntryState) (ripas : Ripas) (granule : ℕ) → granule < 4096 → IsEntry (decoded state ripas granule)
said_is Unassigned ripas granule below = refl
said_is Assigned ripas granule below = below
said_is Table ripas granule below = (below, refl)

-- each word is decoded to an entry
pub IsEntry-entry_of : (word : ℕ) → IsEntry (entry_of word)
IsEntry-entry_of word = said_is (kind_of (word % 4)) (ripas_of (word / 4 % 4)) (word / 4096 % 4096) (omega arith)
