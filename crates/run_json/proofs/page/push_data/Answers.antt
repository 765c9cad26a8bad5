use Rattle.std.proofs.Common.{◌++◌, List, ℕ, codes, append_assoc, ap, ◌∙◌}
use Rattle.run_json.specs.Page.{escaped}
use Rattle.run_json.proofs.page.push_data.Goals as goal

pub returns : goal.returns
returns c =
    let page = c.args.page.now.items in
    let opening = codes "<script id=\"data\" type=\"application/json\">" in
    let json = escaped c.args.json.now in
    let closing = codes "</script>" in
    c.in_ok-extend_from_slice-2.ensures.items
    ∙ ap (λ (it : List ℕ). it ++ closing) (c.in_ok-push_escaped.ensures ∙ ap (λ (it : List ℕ). it ++ json) c.in_ok-extend_from_slice.ensures.items)
    ∙ append_assoc (page ++ opening) json closing
    ∙ append_assoc page opening (json ++ closing)
