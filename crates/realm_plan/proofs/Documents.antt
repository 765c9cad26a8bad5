-- A proof that bytes spell a TOML document if and only if they are UTF-8 and the TOML parser accepts them.
use Rattle.std.proofs.Common.{◌≡◌, List, ℕ, Some, None, inl, inr}
use Rattle.std.specs.Str.{IsUtf8, is_utf8}
use Rattle.std.proofs.lemmas.Bool.{cases_Bool}
use Rattle.std.proofs.lemmas.Str.{IsUtf8-from_is_utf8, is_utf8-from_IsUtf8}
use Rattle.toml.specs.Data.{Members}
use Rattle.toml.specs.Parse.{parse_document}
use Rattle.realm_plan.specs.Plan.{document_of}

pub document_some : (bytes : List ℕ) (ms : Members) → IsUtf8 bytes → parse_document bytes ≡ Some ms → document_of bytes ≡ Some ms
unfolding document_of
document_some bytes ms text parsed = rw (is_utf8-from_IsUtf8 bytes text) parsed

pub document_none : (bytes : List ℕ) → (IsUtf8 bytes → parse_document bytes ≡ None) → document_of bytes ≡ None
unfolding document_of
document_none bytes none = elim (cases_Bool (is_utf8 bytes)) [
  | inl text ↦ rw text (none (IsUtf8-from_is_utf8 bytes text))
  | inr not_text ↦ rw not_text
]
