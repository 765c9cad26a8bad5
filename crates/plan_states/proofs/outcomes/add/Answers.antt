use Rattle.std.proofs.Common.{◌≡◌, ◌≤◌, List, map, length, Option, ap, sym, ◌∙◌, arith}
use Rattle.std.specs.Prelude.{option_map}
use Rattle.std.specs.List.{insert}
use Rattle.std.proofs.lemmas.List.{length-map}
use Rattle.plan_states.specs.Tallies.{with_tally, count_of_tally, place_for}
use Rattle.plan_states.specs.declared.tally.PathTally.{PathTally}
use Rattle.plan_states.proofs.Tallies.{map-insert, place_for-inside}
use Rattle.plan_states.proofs.outcomes.add.Goals as goal

pub insert-requires : goal.insert-requires
insert-requires g c =
    let tallies = map (count_of_tally {K = g.row.K.Denot}) c.deref.result.now in
    let inside : place_for c.deref-2.result.now tallies ≤ length tallies = place_for-inside c.deref-2.result.now tallies in
    let long : length tallies ≡ length c.deref.result.now = length-map c.deref.result.now (count_of_tally {K = g.row.K.Denot}) in
    omega (arith, inside, long, c.place_for-place.ensures, c.deref.ensures.len)

pub returns : goal.returns
returns g c =
    let old = c.args.tallies.now.items in
    let tally = c.in-Some.tally in
    let to_counted = count_of_tally {K = g.row.K.Denot} in
    ap (λ (tallies : List (PathTally g.row.K.Denot)). map to_counted tallies) c.in_ok-insert.ensures.items
    ∙ map-insert to_counted old c.place_for-place.result tally
    ∙ ap (λ place. insert (map to_counted old) place (to_counted tally)) (c.place_for-place.ensures ∙ (λ j. place_for (c.deref-2.ensures.value j) (map to_counted (c.deref.ensures.value j))))
    ∙ sym (ap (λ (o : Option (PathTally g.row.K.Denot)). with_tally (option_map to_counted o) (map to_counted old)) c.in-Some.is)
