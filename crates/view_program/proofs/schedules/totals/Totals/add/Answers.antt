use mathlib.Core.Bool.{beq}
use Rattle.std.proofs.Common.{[], ◌∷◌, ◌++◌, map, length-append, ap, sym, ◌∙◌, arith}
use Rattle.std.specs.Prelude.{nat_eq}
use Rattle.std.specs.List.{flat_map}
use Rattle.std.proofs.lemmas.List.{flat_map_more, map-append}
use Rattle.std.proofs.lemmas.Result.{on_ok_weaker}
use Rattle.view_program.specs.Same.{same_end}
use Rattle.view_program.specs.Tally.{counted}
use Rattle.view_program.specs.Totals.{Visit, sighting_in, whole_seen, ends_seen, map_seen, smooth_seen, same_text}
use Rattle.view_program.proofs.schedules.totals.Totals.add.Goals as goal

pub returns : goal.returns
returns c = on_ok_weaker c.count_never_refused.result (λ never_refused visits are.
    let visit : Visit = record { choices = c.args.choices.now; ends = c.args.ends.now; map = c.args.map } in
    record {
      schedule_count = (let so_far = are.schedule_count in let more = c.in_ok-add_one.ensures in omega (arith, length-append visits (visit ∷ [])));
      by_refusal = c.in_ok-count-2.ensures (map whole_seen visits) are.by_refusal
          ∙ ap (counted beq) (ap (λ b. map whole_seen visits ++ sighting_in c.args.choices.now b ∷ []) c.has_refusal.ensures ∙ sym (map-append whole_seen visits (visit ∷ [])));
      ends = c.in_ok-count_ends.ensures (flat_map ends_seen visits) are.ends ∙ ap (counted same_end) (flat_map_more ends_seen [] visits visit);
      maps = c.in_ok-count.ensures (map map_seen visits) are.maps ∙ ap (counted same_text) (sym (map-append map_seen visits (visit ∷ [])));
      never_refused = never_refused (flat_map (smooth_seen c.args.builds) visits) are.never_refused ∙ ap (counted nat_eq) (flat_map_more (smooth_seen c.args.builds) [] visits visit);
    })
    c.count_never_refused.ensures
