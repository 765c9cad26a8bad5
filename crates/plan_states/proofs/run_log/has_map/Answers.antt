use Rattle.std.proofs.Common.{Option, ℕ, List, Some, sym, ap, ◌∙◌, subst}
use Rattle.std.specs.Prelude.{option_map, string_bytes}
use Rattle.std.proofs.lemmas.Bool.{OnTrue_from}
use Rattle.std.proofs.lemmas.Slice.Eq.{bytes_eq-Decides}
use Rattle.realm_plan.specs.PlanView.{plan_view}
use Rattle.plan_states.specs.Runs.{IsMapNamed}
use Rattle.plan_states.specs.RunLog.{position_of}
use Rattle.plan_states.proofs.RunLogs.{read_at}
use Rattle.plan_states.proofs.run_log.has_map.Goals as goal

pub returns-in-Some-get : goal.returns-in-Some-get
returns-in-Some-get c =
    let plan = plan_view c.args.plan.now in
    let at = position_of c.args.running.now in
    OnTrue_from c.eq.result (IsMapNamed plan c.args.maps.now c.args.map at) (λ is.
    subst (λ (map : Option ℕ). IsMapNamed plan c.args.maps.now map at) (sym c.in-Some.is) (
      c.if-has_more.ensures,
      ap (option_map string_bytes) (read_at c.args.maps.now c.in-Some.number c.in-Some-get.named.now c.in-Some-get.ensures.lookup.3.0 c.in-Some-get.ensures.lookup.1)
          ∙ ap (λ (text : List ℕ). Some text)
          (sym c.as_str.ensures.value ∙ (bytes_eq-Decides c.as_str.result.now c.as_str-in-Some-get.result.now).0 (sym c.eq.ensures ∙ is)
          ∙ c.as_str-in-Some-get.ensures.value ∙ c.in_ok-text.ensures),
    ))
