use Rattle.std.proofs.Common.{◌≡◌, ◌==◌, ◌++◌, ◌<◌, ◌+◌, ℕ, List, length, map, reverse, OnOk, All, ap, sym, subst, ◌∙◌, string_bytes}
use Rattle.schedule_graph.specs.Number.{numeral, trimmed}
use Rattle.schedule_graph.proofs.Trimmed.{small_trimmed, zero_numeral, more_numeral}
use Rattle.schedule_graph.proofs.number.Count.push_to.Goals as goal

pub returns-then-is_empty : goal.returns-then-is_empty
returns-then-is_empty c =
    let digits = c.self.inside.digits.items in
    let are = c.trimmed-digits.ensures ∙ ap trimmed c.deref.ensures.value in
    c.in_ok-push_str.ensures.bytes
    ∙ ap (λ t. string_bytes c.args.text.now ++ t)
    (sym (zero_numeral digits (ap (λ ds. length ds == 0) (sym are) ∙ sym c.is_empty.ensures ∙ c.if-is_empty.true)) ∙ ap numeral c.self.view_is)

pub push_digits-requires : goal.push_digits-requires
push_digits-requires c =
    let are = c.trimmed-digits.ensures ∙ ap trimmed c.deref.ensures.value in
    subst (λ (ds : List ℕ). All (λ digit. digit < 10) ds) (sym are) (small_trimmed c.self.inside.digits.items c.self.invariant)

pub returns : goal.returns
returns c =
    let digits = c.self.inside.digits.items in
    let are = c.trimmed-digits.ensures ∙ ap trimmed c.deref.ensures.value in
    subst (λ t. OnOk c.push_digits.result (string_bytes c.push_digits.new.text ≡ string_bytes c.args.text.now ++ t))
    (ap (λ ds. map (λ digit. 48 + digit) (reverse ds)) are
    ∙ sym (more_numeral digits c.self.invariant (ap (λ ds. length ds == 0) (sym are) ∙ sym c.is_empty.ensures ∙ c.if-is_empty.false))
    ∙ ap numeral c.self.view_is)
    c.push_digits.ensures
