-- Proofs that an accepted text of the option `--erase` is read as a build number from 0 to 7.
use Rattle.std.proofs.Common.{◌≡◌, ◌<◌, ℕ, arith, subst, List, false, refl, ap, codes}
use Rattle.std.specs.Prelude.{Option, Some, None, option_and_then, nat_lt, pos, if◌then◌else◌, Result, Ok}
use Rattle.std.specs.Str.Parse.{ParsesUnsigned}
use Rattle.std.proofs.lemmas.Bool.{lt-ltb}
use Rattle.clap.specs.Lexer.{without_minus}
use Rattle.clap.specs.Values.{IsSignedIn}
use Rattle.clap.specs.Words.{ReadsOne, Row, Text, one_of}
use Rattle.clap.specs.declared.builder.value_parser.ValueParser.TheVariants as parser
use Rattle.clap.proofs.CallerReads.{signed_reads}
use Rattle.command_line.specs.Options.{Each, IsPassed, IsErase, built_erase}
use Rattle.command_line.proofs.Passed.{accepted, text_passed}

-- ---- the build that is left out

abbrev pub build_in : Option ℕ → Option ℕ
build_in number = option_and_then (λ n. if nat_lt n 8 then Some n else None) number

-- if a text is parsed as a number below 8, the text is a value of `--erase` that names the build with that number
read_below : (text : Text) (n : ℕ) → n < 8 → ParsesUnsigned {E = Unit {0}} 8 10 text (Ok n) → IsErase (Some text) (build_in (Some n))
read_below text n small read = rw (lt-ltb n 8 small) ((read.0.0, subst (λ k. k < 8) read.1 small), read.1)

-- if the values of `--erase` have passed its parser, the option's text is what remains of a number from 0 to 7 once a
-- leading hyphen is removed
erase_in_range : (rows : List Row) (text : Text) → Each (IsPassed built_erase) rows → one_of (codes "erase") rows ≡ Some text
    → (t : Text) × (text ≡ without_minus t) × IsSignedIn (pos 0) (pos 7) t
erase_in_range rows text passed is =
    let p = text_passed built_erase rows text passed is in
    (p.0, p.1, accepted false (parser.Signed (pos 0) (pos 7)) p.0 p.2)

pub erase_from : {E : Type 0} (rows : List Row) (o : Option Text) (b : Option ℕ) (gives : List ℕ → Result ℕ E → Type 0)
    → ((t : List ℕ) (r : Result ℕ E) → gives t r → ParsesUnsigned 8 10 t r)
    → Each (IsPassed built_erase) rows → one_of (codes "erase") rows ≡ o
    → (o ≡ None → b ≡ None) → ((t : Text) → o ≡ Some t → ReadsOne gives t b) → IsErase o (build_in b)
erase_from rows None b gives parses passed is none value = ap build_in (none refl)
erase_from {E} rows (Some t) b gives parses passed is none value =
    let range = erase_in_range rows t passed is in
    let reads = value t refl in
    let number = signed_reads E gives 8 0 7 range.0 b (subst (λ (u : Text). ReadsOne gives u b) range.1 reads) parses (omega arith) range.2 in
    rw number.1 (read_below t number.0 (omega (arith, number.3)) (parses t (Ok number.0) (rw number.1 at reads)))
