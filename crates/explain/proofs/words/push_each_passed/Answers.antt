use Rattle.std.proofs.Common.{length, string_bytes, take, ap, sym, ◌∙◌, subst}
use Rattle.std.proofs.lemmas.List.{length-append, take_more}
use Rattle.explain.specs.Words.{AppendsPassed}
use Rattle.explain.proofs.ReasonLines.{passed_more}
use Rattle.explain.proofs.words.push_each_passed.Goals as goal

pub loop-check-preserved : goal.loop-check-preserved
loop-check-preserved c =
    let checks = c.args.checks.now in
    let i = c.loop-check.check-index in
    let check = c.check-item.result in
    let told = c.in_ok-push_passed.ensures in
    subst (λ n. AppendsPassed n (string_bytes c.args.text.now) (string_bytes c.push_passed.new.text))
    (sym (ap length (take_more checks i check c.loop-check-test.true) ∙ length-append (take i checks) _))
    (passed_more (length (take i checks)) (string_bytes c.args.text.now) (string_bytes c.loop-check.text) (string_bytes c.push_passed.new.text)
    told.0 c.loop-check.invariant told.1)
