use Rattle.std.proofs.Common.{Bool, [], ◌∷◌, ◌++◌, codes, if◌then◌else◌, get_or, refl, sym, ap, ◌∙◌, ne_eqb}
use Rattle.run_json.specs.Page.{escaped_byte}
use Rattle.run_json.proofs.Lists.{elements_more}
use Rattle.run_json.proofs.page.push_escaped.Goals as goal
use Rattle.run_json.proofs.page.push_escaped.Goals.{then-byte-eq60+in_ok-extend_from_slice, else-byte-eq60+in_ok-push}

pub loop-byte-preserved : goal.loop-byte-preserved
loop-byte-preserved c =
    let json = c.args.json.now in
    let i = c.loop-byte.byte-index in
    let byte = get_or json i 0 in
    let mid = c.loop-byte.page.items in
    elements_more escaped_byte json i 0 byte c.args.page.now.items mid c.if-byte-eq60.page.items c.loop-byte-test.true refl
    c.loop-byte.invariant
    (elim c.if-byte-eq60.branch [
      | then-byte-eq60+in_ok-extend_from_slice w ↦
          ap (λ page. page.items) w.page-is ∙ w.in_ok-extend_from_slice.ensures.items
          ∙ ap (λ byte. mid ++ escaped_byte byte) (sym w.if-byte-eq60.true)
      | else-byte-eq60+in_ok-push w ↦
          ap (λ page. page.items) w.page-is ∙ w.in_ok-push.ensures.items
          ∙ ap (λ (is_tag : Bool). mid ++ (if is_tag then codes "\\u003c" else byte ∷ [])) (sym (ne_eqb byte 60 w.if-byte-eq60.false))
    ])
