use Rattle.std.proofs.Common.{◌++◌, append_assoc, ap, ap₂, ◌∙◌}
use Rattle.run_json.specs.Page.{data_element, page_bytes}
use Rattle.run_json.specs.declared.template.TheConstants.{HEAD, TAIL}
use Rattle.run_json.proofs.page.page_of.Goals as goal

pub returns : goal.returns
unfolding page_bytes
returns c =
    let element = data_element c.args.json.now in
    c.in_ok-extend_from_slice-2.ensures.items
    ∙ ap₂ (λ page tail. page ++ tail)
    (c.in_ok-push_data.ensures ∙ ap (λ page. page ++ element) (c.in_ok-extend_from_slice.ensures.items ∙ ap₂ (λ page head. page ++ head) c.new-page.ensures.items c.as_bytes.ensures.value))
    c.as_bytes-2.ensures.value
    ∙ append_assoc HEAD.now element TAIL.now
