-- Proofs that parsing the word and the numbers of an operation gives that operation, if the numbers are in range. The
-- word is ASCII and has no space, and there are at most 18 numbers.
use Rattle.std.proofs.Common.{◌≡◌, ℕ, ◌≤◌, [], ◌∷◌, replicate, true, eqb, ltb, not, Some, refl}
use Rattle.std.specs.List.{list_all}
use Rattle.std.proofs.lemmas.Bool.{le-leb}
use Rattle.arrayvec.specs.ArrayVec.{ArrayVec, array_vec_len}
use Rattle.granule_addr.specs.declared.width.Root.{Root}
use Rattle.decimal_text.specs.Numbers.{AreNumbers}
use Rattle.decimal_text.specs.Ranges.{AreAtMost}
use Rattle.decimal_text.specs.Written.{u8, u16}
use Rattle.decimal_text.proofs.Cuts.{HasNoSpace}
use Rattle.decimal_text.proofs.Spelled.{no_space_from_test}
use Rattle.decimal_text.proofs.UpTo.{up_to-items, few_from_test}
use Rattle.realm_model.specs.declared.act.Act.{Act}
use Rattle.realm_model.specs.declared.act.Act.TheVariants.{Take, UnTake, Fill, Peek, Delegate, Undelegate, Realm, UnRealm, Activate, Rtt}
use Rattle.realm_model.specs.declared.act.Act.TheVariants.{UnRtt, Ripas, Data, Unknown, UnData, Rec, UnRec, Enter, Exit, Poke}
use Rattle.history_text.specs.Acts.{realm_row, table_row, rec_row, act_at}
use Rattle.history_text.specs.Written.{order, granule, offset, ipa, width, level, written_act, IsActInRange}
use Rattle.history_text.proofs.Auxiliaries.{few_with_auxiliaries}

-- ---- rows with more than maxima

module _ {A : Type 0} where
  realm_means : (make : ℕ → Root → ℕ → A) (rd : ℕ) (root : Root) (vmid : ℕ) → AreAtMost (rd ∷ root.first ∷ root.width ∷ vmid ∷ []) (granule ∷ granule ∷ width ∷ u8 ∷ [])
      → (39 ≤ root.width) × (1 ≤ vmid) → realm_row make (rd ∷ root.first ∷ root.width ∷ vmid ∷ []) ≡ Some (make rd root vmid)
  realm_means make rd root vmid h low =
      rw (le-leb rd granule h.0, le-leb root.first granule h.1.0, le-leb root.width width h.1.1.0, le-leb vmid u8 h.1.1.1.0, le-leb 39 root.width low.0, le-leb 1 vmid low.1) refl

  table_means : (make : ℕ → ℕ → ℕ → A) (g i l : ℕ) → AreAtMost (g ∷ i ∷ l ∷ []) (granule ∷ ipa ∷ level ∷ []) → 1 ≤ l → table_row make (g ∷ i ∷ l ∷ []) ≡ Some (make g i l)
  table_means make g i l h low = rw (le-leb g granule h.0, le-leb i ipa h.1.0, le-leb l level h.1.1.0, le-leb 1 l low) refl

  rec_means : (make : ℕ → ArrayVec ℕ → ℕ → A) (g : ℕ) (it : ArrayVec ℕ) (number : ℕ) → AreAtMost (g ∷ number ∷ it.items) (granule ∷ u16 ∷ replicate (array_vec_len it) granule)
      → array_vec_len it ≤ 16 → rec_row make (g ∷ number ∷ it.items) ≡ Some (make g it number)
  rec_means make g it number h few = rw (le-leb g granule h.0, le-leb number u16 h.1.0, up_to-items 16 granule it few h.1.1) refl

-- ---- acts

pub means : (a : Act) → IsActInRange a → act_at (written_act a).word (written_act a).numbers ≡ Some a
means (Take o first) h = rw (le-leb o order h.at_most.0, le-leb first granule h.at_most.1.0) refl
means (UnTake o first) h = rw (le-leb o order h.at_most.0, le-leb first granule h.at_most.1.0) refl
means (Fill g value) h = rw (le-leb g granule h.at_most.0, le-leb value u8 h.at_most.1.0) refl
means (Peek g o byte) h = rw (le-leb g granule h.at_most.0, le-leb o offset h.at_most.1.0, le-leb byte u8 h.at_most.1.1.0) refl
means (Delegate g) h = rw (le-leb g granule h.at_most.0) refl
means (Undelegate g) h = rw (le-leb g granule h.at_most.0) refl
means (Realm rd root vmid) h = rw (realm_means Realm rd root vmid h.at_most h.bounds) refl
means (UnRealm rd root vmid) h = rw (realm_means UnRealm rd root vmid h.at_most h.bounds) refl
means Activate h = refl
means (Rtt g i l) h = rw (table_means Rtt g i l h.at_most h.bounds) refl
means (UnRtt g i l) h = rw (table_means UnRtt g i l h.at_most h.bounds) refl
means (Ripas i count) h = rw (le-leb i ipa h.at_most.0, le-leb count u16 h.at_most.1.0) refl
means (Data g i source) h = rw (le-leb g granule h.at_most.0, le-leb i ipa h.at_most.1.0, le-leb source granule h.at_most.1.1.0) refl
means (Unknown g i) h = rw (le-leb g granule h.at_most.0, le-leb i ipa h.at_most.1.0) refl
means (UnData g i) h = rw (le-leb g granule h.at_most.0, le-leb i ipa h.at_most.1.0) refl
means (Rec g auxiliaries number) h = rw (rec_means Rec g auxiliaries number h.at_most h.bounds) refl
means (UnRec g auxiliaries number) h = rw (rec_means UnRec g auxiliaries number h.at_most h.bounds) refl
means (Enter number) h = rw (le-leb number u16 h.at_most.0) refl
means (Exit number) h = rw (le-leb number u16 h.at_most.0) refl
means (Poke number i o value) h = rw (le-leb number u16 h.at_most.0, le-leb i ipa h.at_most.1.0, le-leb o offset h.at_most.1.1.0, le-leb value u8 h.at_most.1.1.1.0) refl

-- ---- words have no space, and there are few numbers

no_space_test : (a : Act) → list_all (λ b. not (eqb b 32)) (written_act a).word ≡ true
no_space_test (Rec g auxiliaries number) = refl
no_space_test _ = refl

pub one_word : (a : Act) → HasNoSpace (written_act a).word
one_word a = no_space_from_test (written_act a).word (no_space_test a)

pub ascii_test : (a : Act) → list_all (λ b. ltb b 128) (written_act a).word ≡ true
ascii_test (Rec g auxiliaries number) = refl
ascii_test _ = refl

pub few_numbers : (a : Act) → IsActInRange a → AreNumbers 18 (written_act a).numbers
few_numbers (Rec g auxiliaries number) h = few_with_auxiliaries g number auxiliaries.items h.bounds h.at_most
few_numbers (UnRec g auxiliaries number) h = few_with_auxiliaries g number auxiliaries.items h.bounds h.at_most
few_numbers a h = few_from_test 18 (written_act a).numbers (written_act a).maxima h.at_most refl
