use Rattle.std.proofs.Common.{◌≡◌, ℕ, ◌+◌, ◌<◌, Bool, true, false, cond, length, List, [], ◌∷◌, ◌++◌, drop, get_or, sym, ap, ◌∙◌, append_assoc, append-nil}
use Rattle.std.proofs.lemmas.List.{drop_more, drop_all}
use Rattle.explain.specs.Explained.{up_to_failing}
use Rattle.explain.specs.declared.check.Check.{Check}
use Rattle.explain.proofs.explaining.up_to_failing.Goals as goal

-- after the next check is appended, the loop invariant of `up_to_failing` still holds; if that check fails, the list of
-- checks is complete
with_check : (checks front new : List Check) (check : Check) (i : ℕ) (fails : Bool)
    → i < length checks → check ≡ get_or checks i check → check.fails ≡ fails → new ≡ front ++ check ∷ []
    → front ++ up_to_failing (drop i checks) ≡ up_to_failing checks
    → new ++ cond fails [] (up_to_failing (drop (i + 1) checks)) ≡ up_to_failing checks
with_check checks front new check i fails inside is test added so_far =
    let rest : List Check = up_to_failing (drop (i + 1) checks) in
    ap (λ xs. xs ++ cond fails [] rest) added
    ∙ append_assoc front (check ∷ []) (cond fails [] rest)
    ∙ sym (ap (λ (b : Bool). front ++ check ∷ cond b [] rest) test)
    ∙ sym (ap (λ (c : Check). front ++ c ∷ cond c.fails [] rest) (sym is))
    ∙ sym (ap (λ (xs : List Check). front ++ up_to_failing xs) (drop_more checks i check inside))
    ∙ so_far

pub loop-check-preserved : goal.loop-check-preserved
loop-check-preserved c =
    with_check c.args.checks.now c.loop-check.front.items c.add.new.checks.items c.check-item.result c.loop-check.check-index false
    c.loop-check-test.true c.check-item.is c.if-check.false c.in_ok-add.ensures c.loop-check.invariant

pub returns-then-check : goal.returns-then-check
returns-then-check c =
    sym (append-nil c.add.new.checks.items)
    ∙ with_check c.args.checks.now c.loop-check.front.items c.add.new.checks.items c.check-item.result c.loop-check.check-index true
    c.loop-check-test.true c.check-item.is c.if-check.true c.in_ok-add.ensures c.loop-check.invariant

pub returns : goal.returns
returns c =
    sym (append-nil c.loop-check.front.items)
    ∙ ap (λ (xs : List Check). c.loop-check.front.items ++ up_to_failing xs) (sym (drop_all c.loop-check.check-index c.args.checks.now c.loop-check-test.false))
    ∙ c.loop-check.invariant
