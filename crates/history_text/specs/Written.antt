-- The spelling of an operation: a word, and numbers in their ranges. Granules and IPA granules are spelled as their
-- numbers, and the starting tables of a realm as the first of them and its IPA width. A value that the host allocated
-- or read is last; only the number of a REC is followed by its auxiliary granules.
use Rattle.std.specs.Prelude.{ℕ, ◌≤◌, List, [], ◌∷◌, codes, replicate}
use Rattle.arrayvec.specs.ArrayVec.{array_vec_len}
use Rattle.decimal_text.specs.Grammar.{spelled}
use Rattle.decimal_text.specs.Ranges.{AreAtMost}
use Rattle.decimal_text.specs.Written.{Written, written, u8, u16}
use Rattle.realm_model.specs.declared.act.Act.{Act}
use Rattle.realm_model.specs.declared.act.Act.TheVariants.{Take, UnTake, Fill, Peek, Delegate, Undelegate, Realm, UnRealm, Activate, Rtt}
use Rattle.realm_model.specs.declared.act.Act.TheVariants.{UnRtt, Ripas, Data, Unknown, UnData, Rec, UnRec, Enter, Exit, Poke}

-- the greatest order of a block
abbrev pub order : ℕ
order = 9

-- the greatest granule number of the largest machine
abbrev pub granule : ℕ
granule = 4095

-- the greatest offset in a page
abbrev pub offset : ℕ
offset = 4095

-- the greatest IPA granule number of the widest address space
abbrev pub ipa : ℕ
ipa = 2147483647

-- the greatest IPA width. RMM 1.0, Realm attributes; the range is this profile's own
abbrev pub width : ℕ
width = 43

-- the greatest level of a table. RMM 1.0, RTT level
abbrev pub level : ℕ
level = 3

abbrev pub written_act : Act → Written
written_act (Take o first) = written (codes "take") (o ∷ first ∷ []) (order ∷ granule ∷ [])
written_act (UnTake o first) = written (codes "untake") (o ∷ first ∷ []) (order ∷ granule ∷ [])
written_act (Fill g value) = written (codes "fill") (g ∷ value ∷ []) (granule ∷ u8 ∷ [])
written_act (Peek g o byte) = written (codes "peek") (g ∷ o ∷ byte ∷ []) (granule ∷ offset ∷ u8 ∷ [])
written_act (Delegate g) = written (codes "delegate") (g ∷ []) (granule ∷ [])
written_act (Undelegate g) = written (codes "undelegate") (g ∷ []) (granule ∷ [])
written_act (Realm rd root vmid) = written (codes "realm") (rd ∷ root.first ∷ root.width ∷ vmid ∷ []) (granule ∷ granule ∷ width ∷ u8 ∷ [])
written_act (UnRealm rd root vmid) = written (codes "unrealm") (rd ∷ root.first ∷ root.width ∷ vmid ∷ []) (granule ∷ granule ∷ width ∷ u8 ∷ [])
written_act Activate = written (codes "activate") [] []
written_act (Rtt g i l) = written (codes "rtt") (g ∷ i ∷ l ∷ []) (granule ∷ ipa ∷ level ∷ [])
written_act (UnRtt g i l) = written (codes "unrtt") (g ∷ i ∷ l ∷ []) (granule ∷ ipa ∷ level ∷ [])
written_act (Ripas i count) = written (codes "ripas") (i ∷ count ∷ []) (ipa ∷ u16 ∷ [])
written_act (Data g i source) = written (codes "data") (g ∷ i ∷ source ∷ []) (granule ∷ ipa ∷ granule ∷ [])
written_act (Unknown g i) = written (codes "unknown") (g ∷ i ∷ []) (granule ∷ ipa ∷ [])
written_act (UnData g i) = written (codes "undata") (g ∷ i ∷ []) (granule ∷ ipa ∷ [])
written_act (Rec g auxiliaries number) = written (codes "rec") (g ∷ number ∷ auxiliaries.items) (granule ∷ u16 ∷ replicate (array_vec_len auxiliaries) granule)
written_act (UnRec g auxiliaries number) = written (codes "unrec") (g ∷ number ∷ auxiliaries.items) (granule ∷ u16 ∷ replicate (array_vec_len auxiliaries) granule)
written_act (Enter number) = written (codes "enter") (number ∷ []) (u16 ∷ [])
written_act (Exit number) = written (codes "exit") (number ∷ []) (u16 ∷ [])
written_act (Poke number i o value) = written (codes "poke") (number ∷ i ∷ o ∷ value ∷ []) (u16 ∷ ipa ∷ offset ∷ u8 ∷ [])

-- The operation's IPA width, VMID, table level and number of auxiliary granules are within bounds, as far as the
-- operation has them. An IPA width is at least 39, a VMID and a level are at least 1, and the auxiliary granules are at
-- most 16.
abbrev pub HasBounds : Act → Type 0
HasBounds (Realm rd root vmid) = (39 ≤ root.width) × (1 ≤ vmid)
HasBounds (UnRealm rd root vmid) = (39 ≤ root.width) × (1 ≤ vmid)
HasBounds (Rtt g i l) = 1 ≤ l
HasBounds (UnRtt g i l) = 1 ≤ l
HasBounds (Rec g auxiliaries number) = array_vec_len auxiliaries ≤ 16
HasBounds (UnRec g auxiliaries number) = array_vec_len auxiliaries ≤ 16
HasBounds _ = Unit {0}

pub record IsActInRange (act : Act) : Type 0 where
  pub at_most : AreAtMost (written_act act).numbers (written_act act).maxima
  pub bounds : HasBounds act

-- the text of an operation: its word, then each of its numbers in decimal after one space
abbrev pub act_text : Act → List ℕ
act_text act = spelled (written_act act).word (written_act act).numbers
