-- A proof that the operation parsed from a word and numbers is spelled by that word and those numbers.
use Rattle.std.proofs.Common.{◌≡◌, ℕ, List, Some, codes, refl}
use Rattle.decimal_text.specs.Ranges.{AreAtMost}
use Rattle.decimal_text.specs.Rows.{none, one, two, three, four}
use Rattle.decimal_text.specs.Written.{u8, u16}
use Rattle.decimal_text.proofs.Grammars.{Spells}
use Rattle.decimal_text.proofs.Rows.{none_makes, one_makes, two_makes, three_makes, four_makes, choose, among_five}
use Rattle.realm_model.specs.declared.act.Act.{Act}
use Rattle.realm_model.specs.declared.act.Act.TheVariants.{Take, UnTake, Fill, Peek, Delegate, Undelegate, Realm, UnRealm, Activate, Rtt}
use Rattle.realm_model.specs.declared.act.Act.TheVariants.{UnRtt, Ripas, Data, Unknown, UnData, Rec, UnRec, Enter, Exit, Poke}
use Rattle.history_text.specs.Acts.{realm_row, table_row, rec_row, page_act_at, realm_act_at, table_act_at, data_act_at, rec_act_at, act_at}
use Rattle.history_text.specs.Written.{order, granule, offset, ipa, written_act, HasBounds, IsActInRange}
use Rattle.history_text.proofs.RowsMake.{realm_makes, table_makes, rec_makes}

abbrev pub SpellsAct : List ℕ → List ℕ → Act → Type 0
SpellsAct word ns a = Spells (λ it. (written_act it).word) (λ it. (written_act it).numbers) IsActInRange word ns a

made : (a : Act) → AreAtMost (written_act a).numbers (written_act a).maxima → HasBounds a → SpellsAct (written_act a).word (written_act a).numbers a
made a at_most bounds = record { word_is = refl; numbers_are = refl; in_range = record { at_most = at_most; bounds = bounds } }

page_spells : (word ns : List ℕ) (a : Act) → page_act_at word ns ≡ Some a → SpellsAct word ns a
page_spells word ns a =
    choose SpellsAct word ns a (codes "take") (two order granule (λ k l. Take k l)) _ (two_makes (SpellsAct (codes "take")) order granule _ (λ k l h i. made (Take k l) (h, (i, tt)) tt))
    (choose SpellsAct word ns a (codes "untake") (two order granule (λ k l. UnTake k l)) _ (two_makes (SpellsAct (codes "untake")) order granule _ (λ k l h i. made (UnTake k l) (h, (i, tt)) tt))
    (choose SpellsAct word ns a (codes "fill") (two granule u8 (λ k l. Fill k l)) _ (two_makes (SpellsAct (codes "fill")) granule u8 _ (λ k l h i. made (Fill k l) (h, (i, tt)) tt))
    (choose SpellsAct word ns a (codes "peek") (three granule offset u8 (λ k l m. Peek k l m)) _
    (three_makes (SpellsAct (codes "peek")) granule offset u8 _ (λ k l m h i j. made (Peek k l m) (h, (i, (j, tt))) tt))
    (choose SpellsAct word ns a (codes "delegate") (one granule (λ k. Delegate k)) _ (one_makes (SpellsAct (codes "delegate")) granule _ (λ k h. made (Delegate k) (h, tt) tt))
    (choose SpellsAct word ns a (codes "undelegate") (one granule (λ k. Undelegate k)) _ (one_makes (SpellsAct (codes "undelegate")) granule _ (λ k h. made (Undelegate k) (h, tt) tt))
    (λ e. absurd (cc)))))))

realm_spells : (word ns : List ℕ) (a : Act) → realm_act_at word ns ≡ Some a → SpellsAct word ns a
realm_spells word ns a =
    choose SpellsAct word ns a (codes "realm") (realm_row (λ rd root vmid. Realm rd root vmid)) _
    (realm_makes (SpellsAct (codes "realm")) (λ rd root vmid. Realm rd root vmid)
    (λ rd first w vmid h low. made (Realm rd (record { first = first; width = w }) vmid) (h.0, (h.1, (h.2, (h.3, tt)))) low))
    (choose SpellsAct word ns a (codes "unrealm") (realm_row (λ rd root vmid. UnRealm rd root vmid)) _
    (realm_makes (SpellsAct (codes "unrealm")) (λ rd root vmid. UnRealm rd root vmid)
    (λ rd first w vmid h low. made (UnRealm rd (record { first = first; width = w }) vmid) (h.0, (h.1, (h.2, (h.3, tt)))) low))
    (choose SpellsAct word ns a (codes "activate") (none Activate) _ (none_makes (SpellsAct (codes "activate")) _ (made Activate tt tt))
    (λ e. absurd (cc))))

table_spells : (word ns : List ℕ) (a : Act) → table_act_at word ns ≡ Some a → SpellsAct word ns a
table_spells word ns a =
    choose SpellsAct word ns a (codes "rtt") (table_row (λ g i l. Rtt g i l)) _ (table_makes (SpellsAct (codes "rtt")) _ (λ g i l h low. made (Rtt g i l) (h.0, (h.1, (h.2, tt))) low))
    (choose SpellsAct word ns a (codes "unrtt") (table_row (λ g i l. UnRtt g i l)) _ (table_makes (SpellsAct (codes "unrtt")) _ (λ g i l h low. made (UnRtt g i l) (h.0, (h.1, (h.2, tt))) low))
    (choose SpellsAct word ns a (codes "ripas") (two ipa u16 (λ k l. Ripas k l)) _ (two_makes (SpellsAct (codes "ripas")) ipa u16 _ (λ k l h i. made (Ripas k l) (h, (i, tt)) tt))
    (λ e. absurd (cc))))

data_spells : (word ns : List ℕ) (a : Act) → data_act_at word ns ≡ Some a → SpellsAct word ns a
data_spells word ns a =
    choose SpellsAct word ns a (codes "data") (three granule ipa granule (λ k l m. Data k l m)) _
    (three_makes (SpellsAct (codes "data")) granule ipa granule _ (λ k l m h i j. made (Data k l m) (h, (i, (j, tt))) tt))
    (choose SpellsAct word ns a (codes "unknown") (two granule ipa (λ k l. Unknown k l)) _ (two_makes (SpellsAct (codes "unknown")) granule ipa _ (λ k l h i. made (Unknown k l) (h, (i, tt)) tt))
    (choose SpellsAct word ns a (codes "undata") (two granule ipa (λ k l. UnData k l)) _ (two_makes (SpellsAct (codes "undata")) granule ipa _ (λ k l h i. made (UnData k l) (h, (i, tt)) tt))
    (λ e. absurd (cc))))

rec_spells : (word ns : List ℕ) (a : Act) → rec_act_at word ns ≡ Some a → SpellsAct word ns a
rec_spells word ns a =
    choose SpellsAct word ns a (codes "rec") (rec_row (λ g it number. Rec g it number)) _
    (rec_makes (SpellsAct (codes "rec")) _ (λ g number more h few small. made (Rec g (record { items = more }) number) (h.0, (h.1, small)) few))
    (choose SpellsAct word ns a (codes "unrec") (rec_row (λ g it number. UnRec g it number)) _
    (rec_makes (SpellsAct (codes "unrec")) _ (λ g number more h few small. made (UnRec g (record { items = more }) number) (h.0, (h.1, small)) few))
    (choose SpellsAct word ns a (codes "enter") (one u16 (λ k. Enter k)) _ (one_makes (SpellsAct (codes "enter")) u16 _ (λ k h. made (Enter k) (h, tt) tt))
    (choose SpellsAct word ns a (codes "exit") (one u16 (λ k. Exit k)) _ (one_makes (SpellsAct (codes "exit")) u16 _ (λ k h. made (Exit k) (h, tt) tt))
    (choose SpellsAct word ns a (codes "poke") (four u16 ipa offset u8 (λ k l m n. Poke k l m n)) _
    (four_makes (SpellsAct (codes "poke")) u16 ipa offset u8 _ (λ k l m n h i j o. made (Poke k l m n) (h, (i, (j, (o, tt)))) tt))
    (λ e. absurd (cc))))))

pub spells : (word ns : List ℕ) (a : Act) → act_at word ns ≡ Some a → SpellsAct word ns a
spells word ns a =
    among_five SpellsAct word ns a (page_act_at word ns) (realm_act_at word ns) (table_act_at word ns) (data_act_at word ns) (rec_act_at word ns)
    (page_spells word ns a) (realm_spells word ns a) (table_spells word ns a) (data_spells word ns a) (rec_spells word ns a)
