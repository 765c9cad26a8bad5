use Rattle.std.proofs.Common.{◌≡◌, ◌+◌, Some, option_map, refl, ap, subst, ◌∙◌}
use Rattle.rmm_model.specs.declared.entry.RmmRttEntry.{RmmRttEntry}
use Rattle.rmm_model.specs.declared.granule.RmmGranule.{RmmGranule}
use Rattle.rmm_model.specs.declared.granule.RmmGranuleState.TheVariants.{Rtt}
use Rattle.rmm_model.specs.declared.realm.RttWalk.{RttWalk}
use Rattle.rmm_model.specs.Machine.{number_of}
use Rattle.rmm_laws.specs.Role.{used, entry_uses, uses, IsLinked, LeadsInside}
use Rattle.rmm_laws.proofs.Entries.{named_inside}
use Rattle.rmm_laws.proofs.Walks.{IsPlace, right, table_right, uses-entry}
use Rattle.rmm_laws.proofs.law.tables_lead_to_tables.Goals as goal

pub returns : goal.returns
returns c = λ m whole rd table i address is lt leads.
    let proper : IsLinked m = whole.linked in
    let place : RttWalk = record { table = table; level = proper.level table } in
    let here : IsPlace m proper rd 0 place = record { table = is; level = refl } in
    let begin = subst (LeadsInside m) leads (proper.inside table i (ap (λ (r : RmmGranule). r.state) is) lt) in
    let gives : uses m proper.level table i 0 ≡ Some (used Rtt (Some rd) (proper.level table + 1) (number_of m address)) =
    uses-entry m proper rd 0 place i 0 here lt
    ∙ ap (λ (e : RmmRttEntry). entry_uses m (Some rd) (proper.level table) e 0) leads
    ∙ ap (option_map (used Rtt (Some rd) (proper.level table + 1))) (named_inside m address begin.0) in
    let there = table_right m proper (Some rd) (proper.level table + 1) (number_of m address) (right m proper table i 0 (used Rtt (Some rd) (proper.level table + 1) (number_of m address)) gives) in
    record {
      granule = number_of m address;
      begins = begin.1;
      is = there.0;
      below = there.1;
      most = proper.most (number_of m address) (ap (λ (r : RmmGranule). r.state) there.0);
    }
