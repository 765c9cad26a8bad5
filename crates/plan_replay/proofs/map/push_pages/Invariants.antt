use Rattle.std.proofs.Common.{◌≡◌, ◌++◌, string_bytes}
use Rattle.std.specs.List.{flat_map, range_with_len}
use Rattle.plan_replay.specs.Run.{page_text}
use Rattle.plan_replay.proofs.map.push_pages.Given as goal

abbrev pub invariant-loop-page : goal.invariant-loop-page
invariant-loop-page g l = string_bytes l.text ≡ string_bytes l.fn.text ++ flat_map (page_text l.host l.build) (range_with_len 0 l.page)
