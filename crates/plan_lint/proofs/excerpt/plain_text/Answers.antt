use Rattle.std.proofs.Common.{◌≡◌, ◌++◌, ◌∷◌, [], List, ℕ, map, take, string_bytes, ap, subst, sym, ◌∙◌}
use Rattle.std.specs.Prelude.{IfOk}
use Rattle.std.specs.Str.Lossy.{utf8_lossy}
use Rattle.std.proofs.lemmas.List.{map_more, take_all}
use Rattle.plan_lint.specs.Shown.{shown_byte}
use Rattle.plan_lint.proofs.excerpt.plain_text.Goals as goal

pub returns : goal.returns
returns c =
    let all = take_all c.loop-byte.byte-index c.args.bytes.now c.loop-byte-test.false in
    subst (λ (shown : List ℕ). IfOk c.from_utf8_lossy.result (λ text. string_bytes text ≡ utf8_lossy shown))
    (c.as_slice.ensures.value ∙ c.loop-byte.invariant ∙ ap (map shown_byte) all) c.from_utf8_lossy.ensures.lossy

pub loop-byte-preserved : goal.loop-byte-preserved
loop-byte-preserved c =
    let bytes = c.args.bytes.now in
    let i = c.loop-byte.byte-index in
    c.in_ok-push.ensures.items
    ∙ ap (λ (t : List ℕ). t ++ c.shown_byte.result ∷ []) c.loop-byte.invariant
    ∙ ap (λ byte. map shown_byte (take i bytes) ++ byte ∷ []) c.shown_byte.ensures
    ∙ sym (map_more shown_byte bytes i 0 c.loop-byte-test.true)
