use Rattle.std.proofs.Common.{◌∙◌, sym, string_bytes}
use Rattle.std.proofs.lemmas.Slice.Eq.{bytes_eq-Decides}
use Rattle.plan_states.proofs.Unseen.{unseen}
use Rattle.plan_states.proofs.leftovers.is_unseen.Goals as goal

pub returns : goal.returns
returns c = λ is_map none.
    let same = unseen c.args.ledger.now c.args.build (string_bytes c.in_ok-without.without) c.history-history.ensures.legal none c.in_ok-without.ensures ∙ sym is_map in
    c.eq.ensures ∙ (bytes_eq-Decides c.as_str.result.now c.args.map.now).1 (c.as_str.ensures.value ∙ same)
