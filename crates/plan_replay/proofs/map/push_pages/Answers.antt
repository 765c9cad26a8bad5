use Rattle.std.proofs.Common.{string_bytes, ◌<◌, ◌∙◌, arith, subst, sym}
use Rattle.host_ledger.specs.View.{pages_of_build}
use Rattle.plan_replay.specs.Run.{page_text}
use Rattle.realm_plan.specs.Lines.{page_line}
use Rattle.plan_replay.proofs.MapLines.{lines_more, page_is_told, page_line_is}
use Rattle.plan_replay.proofs.map.push_pages.Goals as goal

pub unwrap-state-requires : goal.unwrap-state-requires
unwrap-state-requires g c = page_is_told _ (pages_of_build c.args.host.now c.args.build) c.loop-page.page _ (omega arith) c.page_state.ensures

pub unwrap-sum-requires : goal.unwrap-sum-requires
unwrap-sum-requires g c = page_is_told _ (pages_of_build c.args.host.now c.args.build) c.loop-page.page _ (omega arith) c.page_sum.ensures

pub loop-page-preserved : goal.loop-page-preserved
loop-page-preserved g c =
    lines_more (page_text c.args.host.now c.args.build) c.loop-page.page (string_bytes c.args.text.now) (string_bytes c.loop-page.text)
    (page_line c.args.build c.loop-page.page c.unwrap-state.result c.unwrap-sum.result) (string_bytes c.push_page.new.text)
    c.loop-page.invariant
    c.in_ok-push_page.ensures
    (page_line_is c.args.host.now c.args.build c.loop-page.page c.unwrap-state.result c.unwrap-sum.result
    (subst (λ n. c.loop-page.page < n) c.page_count-page-end.ensures c.loop-page-test.true) (sym c.unwrap-state.ensures ∙ c.page_state.ensures) (sym c.unwrap-sum.ensures ∙ c.page_sum.ensures))
