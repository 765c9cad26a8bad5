-- Proofs that the parser accepts exactly the texts of operations, and returns the operation of each text.
use Rattle.std.proofs.Common.{◌≡◌, ℕ, List, Some, IsUtf8}
use Rattle.std.proofs.lemmas.Str.{IsUtf8-from_ascii, IsAscii-append}
use Rattle.decimal_text.proofs.Grammars.{IsGrammar, meaning_of_spelled, spelled_from_meaning}
use Rattle.decimal_text.proofs.Spelled.{IsAscii-from_test, IsAscii-spelled}
use Rattle.realm_model.specs.declared.act.Act.{Act}
use Rattle.history_text.specs.Acts.{act_at, act_of_text}
use Rattle.history_text.specs.Written.{written_act, act_text, IsActInRange}
use Rattle.history_text.proofs.ActMeans.{means, one_word, ascii_test, few_numbers}
use Rattle.history_text.proofs.ActSpells.{spells}
use Rattle.decimal_text.specs.Numbers.{spelled_numbers}

pub acts : IsGrammar (λ a. (written_act a).word) (λ a. (written_act a).numbers) IsActInRange act_at 18
acts = record { means = means; spells = spells; one_word = one_word; few_numbers = few_numbers }

pub text_from_act : (text : List ℕ) (act : Act) → act_of_text text ≡ Some act → (text ≡ act_text act) × IsActInRange act
text_from_act text act e = spelled_from_meaning acts text act e

pub act_from_text : (text : List ℕ) (act : Act) → text ≡ act_text act → IsActInRange act → act_of_text text ≡ Some act
act_from_text text act is in_range = meaning_of_spelled acts text act is in_range

pub IsUtf8-act_text : (act : Act) → IsActInRange act → IsUtf8 (act_text act)
IsUtf8-act_text act in_range =
    IsUtf8-from_ascii (act_text act)
    (IsAscii-append (written_act act).word (spelled_numbers (written_act act).numbers)
    (IsAscii-from_test (written_act act).word (ascii_test act))
    (IsAscii-spelled (written_act act).numbers (few_numbers act in_range).1))
