use Rattle.std.proofs.Common.{refl, ap, ◌∙◌, length, subst}
use Rattle.std.specs.Prelude.{option_map}
use Rattle.plan_replay.proofs.Turns.{place_is-place_of}
use Rattle.run_json.specs.Turns.{placed, IsAfterTurn}
use Rattle.run_json.proofs.document.push_turn.Goals as goal

pub returns : goal.returns
returns g c =
    let places = c.args.places.now in
    let build = c.args.build in
    let host = c.take_turn-told.new.host in
    let told = option_map (λ it. (it.0.now, it.1)) c.take_turn-told.result in
    let item = c.in_ok-item.item in
    let same = place_is-place_of places build c.index-places-build.result c.requires c.args.plan.now.builds_in_limits.1 c.told-places in
    record {
      item = item;
      is_item = record {
        turn = record { build = build; told = told };
        of_build = refl;
        is_turn = c.take_turn-told.ensures;
        build_is = c.in_ok-item.ensures.turn.0 ∙ c.at.ensures;
        step_is =
            ap (option_map _) c.in_ok-item.ensures.turn.1 ∙ c.in_ok-step.ensures
            ∙ ap (λ place. option_map (placed place) told) (ap (λ it. it.done) same);
        after = subst (λ n. IsAfterTurn host build n item) (ap length c.history.ensures.events)
            (subst (λ b. IsAfterTurn host b (length c.history.result.now) item) c.at.ensures c.in_ok-item.ensures.after);
      };
      appended = c.in_ok-push.ensures.items;
    }
