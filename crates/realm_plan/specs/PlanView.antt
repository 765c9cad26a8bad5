-- The conversion of the code's `Plan` to the specification's `Plan`.
use Rattle.std.specs.Prelude.{map}
use Rattle.realm_plan.specs.Plan.{Plan}
use Rattle.realm_plan.specs.declared.plan.Plan as code

abbrev pub plan_view : code.Plan → Plan
plan_view p = record {
  pages = p.pages;
  vmids = p.vmids;
  aux = p.aux;
  history = p.history;
  builds = map (λ b. b.items) p.builds.items;
  order = p.order.items;
  gives_up = p.gives_up;
}
