use Rattle.std.proofs.Common.{◌<◌, ◌+◌, arith, rules}
use Rattle.std.proofs.lemmas.Grind.{common_steps}
use Rattle.rmm_granules.proofs.Starts.{start_inside}
use Rattle.rmm_granules.proofs.walking.start_of.Goals as goal

pub overflow_add-table : goal.overflow_add-table
overflow_add-table c =
    let within = start_inside c.args.realm.now.start_level c.args.ipa c.args.realm.now.s2sz c.args.realm.now.table_count c.requires.in_space c.requires.served.served in
    let inside = c.requires.served.inside in
    omega arith

pub overflow_cast-table-2 : goal.overflow_cast-table-2
overflow_cast-table-2 c =
    let within = start_inside c.args.realm.now.start_level c.args.ipa c.args.realm.now.s2sz c.args.realm.now.table_count c.requires.in_space c.requires.served.served in
    let inside = c.requires.served.inside in
    omega arith

pub from_number-requires : goal.from_number-requires
from_number-requires c =
    let within = start_inside c.args.realm.now.start_level c.args.ipa c.args.realm.now.s2sz c.args.realm.now.table_count c.requires.in_space c.requires.served.served in
    let inside = c.requires.served.inside in
    omega arith

pub returns-clause-inside : goal.returns-clause-inside
returns-clause-inside c =
    let within = start_inside c.args.realm.now.start_level c.args.ipa c.args.realm.now.s2sz c.args.realm.now.table_count c.requires.in_space c.requires.served.served in
    let inside = c.requires.served.inside in
    let few : c.number.result + c.start_table_index.result < c.args.count = omega arith in
    grind (arith, common_steps)
