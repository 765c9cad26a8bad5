use Rattle.std.proofs.Common.{◌≡◌, [], ◌∷◌, ◌++◌, length, map, take, drop, ap, sym, ◌∙◌}
use Rattle.view_program.specs.Tally.{Sighting, bump, is_known}
use Rattle.plan_states.specs.Tallies.{count_of_tally}
use Rattle.plan_states.specs.declared.tally.PathTally.{PathTally}
use Rattle.view_program.specs.declared.schedules.choice.Choice.{Choice}
use Rattle.view_program.proofs.Counted.{shown_again, shown_first, written_back}
use Rattle.view_program.proofs.schedules.count.count.Goals as goal
use Rattle.view_program.proofs.schedules.count.count.Goals.{In_ok-is_known}
use Rattle.view_program.proofs.schedules.count.count.Given.{Over}

module _ (g : Over) (c : In_ok-is_known g) where
  back : take c.args.tallies.now.len (c.bump.new.tallies ++ drop (length c.bump.new.tallies) c.args.tallies.now.items) ≡ c.bump.new.tallies
  back = written_back c.args.tallies.now.len c.args.tallies.now.items c.bump.new.tallies c.args.tallies.now.ok.0 (c.bump.auto.tallies ∙ ap length c.deref_mut.ensures.value)

  bumped : map count_of_tally c.bump.new.tallies ≡ map (bump g.K.PartialEq.eq c.args.outcome) (map count_of_tally c.args.tallies.now.items)
  bumped = c.in_ok-is_known.ensures.bumped ∙ ap (λ ts. map (bump g.K.PartialEq.eq c.args.outcome) (map count_of_tally ts)) c.deref_mut.ensures.value

  known : c.in_ok-is_known.is_known ≡ is_known g.K.PartialEq.eq c.args.outcome c.args.tallies.now.items
  known = c.in_ok-is_known.ensures.known ∙ ap (is_known g.K.PartialEq.eq c.args.outcome) c.deref_mut.ensures.value

pub returns-then-is_known : goal.returns-then-is_known
returns-then-is_known g c = λ seen are.
    let at = (goal.at.returns-then-is_known g c).In_ok-is_known in
    ap (map count_of_tally) (back g at)
    ∙ shown_again g.K.PartialEq.eq g.met.K.Eq.laws c.args.tallies.now.items c.bump.new.tallies seen
    (record { outcome = c.args.outcome; schedule = map (λ (choice : Choice). choice.build) c.args.schedule.now }) are (bumped g at) (sym (known g at) ∙ c.if-is_known.true)

pub returns : goal.returns
returns g c = λ seen are.
    let at = (goal.at.returns g c).In_ok-is_known in
    let s : Sighting _ = record { outcome = c.args.outcome; schedule = map (λ (choice : Choice). choice.build) c.args.schedule.now } in
    let tally : PathTally _ = record { outcome = c.args.outcome; count = c.in_ok-count.count; first = c.in_ok-first.first } in
    ap (map count_of_tally) (c.in_ok-push.ensures.items ∙ ap (λ ts. ts ++ tally ∷ []) (back g at))
    ∙ shown_first g.K.PartialEq.eq g.met.K.Eq.laws c.args.tallies.now.items c.bump.new.tallies seen s are (bumped g at) tally (sym (known g at) ∙ c.if-is_known.false)
    (λ i. record { outcome = c.args.outcome; count = c.in_ok-count.ensures i; first = c.in_ok-first.ensures i })
