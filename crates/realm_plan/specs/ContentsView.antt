-- The conversion of the code's `Contents`, which are the values of a plan's TOML keys, to the specification's
-- `Contents`.
use Rattle.std.specs.Prelude.{map}
use Rattle.realm_plan.specs.Contents.{Contents}
use Rattle.realm_plan.specs.declared.contents.Contents as code

abbrev pub contents_view : code.Contents → Contents
contents_view c = record {
  pages = c.pages;
  vmids = c.vmids;
  aux = c.aux;
  history = c.history;
  order = c.order.items;
  builds = map (λ b. map (λ t. t.now) b.items) c.builds.items;
}
