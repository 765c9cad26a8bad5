-- The function from a word and its numbers to the operation that they spell. It has a row for each word.
use Rattle.std.specs.Prelude.{ℕ, nat_le, ◌&&◌, List, [], ◌∷◌, codes, if◌then◌else◌, Option, Some, None, option_map}
use Rattle.std.specs.Option.{option_or}
use Rattle.std.specs.Str.{bytes_eq}
use Rattle.arrayvec.specs.ArrayVec.{ArrayVec}
use Rattle.granule_addr.specs.declared.width.Root.{Root}
use Rattle.decimal_text.specs.Grammar.{meaning_of_text}
use Rattle.decimal_text.specs.Rows.{none, one, two, three, four, up_to}
use Rattle.decimal_text.specs.Written.{u8, u16}
use Rattle.realm_model.specs.declared.act.Act.{Act}
use Rattle.realm_model.specs.declared.act.Act.TheVariants.{Take, UnTake, Fill, Peek, Delegate, Undelegate, Realm, UnRealm, Activate, Rtt}
use Rattle.realm_model.specs.declared.act.Act.TheVariants.{UnRtt, Ripas, Data, Unknown, UnData, Rec, UnRec, Enter, Exit, Poke}
use Rattle.history_text.specs.Written.{order, granule, offset, ipa, width, level}

-- ---- rows with more than maxima

module _ {A : Type 0} where
  -- the value of `make` for the four numbers in a list, if in range: an RD, a first starting table, an IPA width and a
  -- VMID
  abbrev pub realm_row : (ℕ → Root → ℕ → A) → List ℕ → Option A
  realm_row make (rd ∷ first ∷ w ∷ vmid ∷ []) =
      if nat_le rd granule && nat_le first granule && nat_le w width && nat_le vmid u8
      then (if nat_le 39 w && nat_le 1 vmid then Some (make rd (record { first = first; width = w }) vmid) else None) else None
  realm_row make _ = None

  -- the value of `make` for the three numbers in a list, if in range: a table's granule, an IPA granule and a level
  abbrev pub table_row : (ℕ → ℕ → ℕ → A) → List ℕ → Option A
  table_row make (g ∷ i ∷ l ∷ []) =
      if nat_le g granule && nat_le i ipa && nat_le l level then (if nat_le 1 l then Some (make g i l) else None) else None
  table_row make _ = None

  -- the value of `make` for the numbers in a list, if in range: a REC's granule, the REC's number, and up to 16
  -- auxiliary granules
  abbrev pub rec_row : (ℕ → ArrayVec ℕ → ℕ → A) → List ℕ → Option A
  rec_row make (g ∷ number ∷ more) =
      if nat_le g granule && nat_le number u16 then option_map (λ auxiliaries. make g auxiliaries number) (up_to 16 granule more) else None
  rec_row make _ = None

-- ---- the operation that a word and its numbers spell

-- the operation on blocks or granules, such as `take` or `fill`, that a word and its numbers spell, if there is one
abbrev pub page_act_at : List ℕ → List ℕ → Option Act
page_act_at word ns =
    if bytes_eq word (codes "take") then two order granule (λ o first. Take o first) ns
    else if bytes_eq word (codes "untake") then two order granule (λ o first. UnTake o first) ns
    else if bytes_eq word (codes "fill") then two granule u8 (λ g value. Fill g value) ns
    else if bytes_eq word (codes "peek") then three granule offset u8 (λ g o byte. Peek g o byte) ns
    else if bytes_eq word (codes "delegate") then one granule (λ g. Delegate g) ns
    else if bytes_eq word (codes "undelegate") then one granule (λ g. Undelegate g) ns
    else None

abbrev pub realm_act_at : List ℕ → List ℕ → Option Act
realm_act_at word ns =
    if bytes_eq word (codes "realm") then realm_row (λ rd root vmid. Realm rd root vmid) ns
    else if bytes_eq word (codes "unrealm") then realm_row (λ rd root vmid. UnRealm rd root vmid) ns
    else if bytes_eq word (codes "activate") then none Activate ns
    else None

abbrev pub table_act_at : List ℕ → List ℕ → Option Act
table_act_at word ns =
    if bytes_eq word (codes "rtt") then table_row (λ g i l. Rtt g i l) ns
    else if bytes_eq word (codes "unrtt") then table_row (λ g i l. UnRtt g i l) ns
    else if bytes_eq word (codes "ripas") then two ipa u16 (λ i count. Ripas i count) ns
    else None

abbrev pub data_act_at : List ℕ → List ℕ → Option Act
data_act_at word ns =
    if bytes_eq word (codes "data") then three granule ipa granule (λ g i source. Data g i source) ns
    else if bytes_eq word (codes "unknown") then two granule ipa (λ g i. Unknown g i) ns
    else if bytes_eq word (codes "undata") then two granule ipa (λ g i. UnData g i) ns
    else None

abbrev pub rec_act_at : List ℕ → List ℕ → Option Act
rec_act_at word ns =
    if bytes_eq word (codes "rec") then rec_row (λ g auxiliaries number. Rec g auxiliaries number) ns
    else if bytes_eq word (codes "unrec") then rec_row (λ g auxiliaries number. UnRec g auxiliaries number) ns
    else if bytes_eq word (codes "enter") then one u16 (λ number. Enter number) ns
    else if bytes_eq word (codes "exit") then one u16 (λ number. Exit number) ns
    else if bytes_eq word (codes "poke") then four u16 ipa offset u8 (λ number i o value. Poke number i o value) ns
    else None

abbrev pub act_at : List ℕ → List ℕ → Option Act
act_at word ns =
    option_or (page_act_at word ns) (option_or (realm_act_at word ns)
    (option_or (table_act_at word ns) (option_or (data_act_at word ns) (rec_act_at word ns))))

-- the operation that a text spells: a word up to the first space, then a number after each space
abbrev pub act_of_text : List ℕ → Option Act
act_of_text text = meaning_of_text act_at text
