use Rattle.std.proofs.Common.{◌≡◌, ◌++◌, take}
use Rattle.run_json.specs.Page.{escaped}
use Rattle.run_json.proofs.page.push_escaped.Given as goal

abbrev pub invariant-loop-byte : goal.invariant-loop-byte
invariant-loop-byte l = l.page.items ≡ l.fn.page.items ++ escaped (take l.byte-index l.json)
