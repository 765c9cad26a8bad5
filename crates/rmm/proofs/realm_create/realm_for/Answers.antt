use Rattle.std.proofs.Common.{◌+◌, ◌≤◌, ℕ, nat_le, sym, subst, arith}
use Rattle.std.proofs.lemmas.Bool.{and_parts, leb-true}
use Rattle.rmm_model.specs.Machine.{granule_count, is_inside, number_of}
use Rattle.rmm_model.specs.Command.RealmCreate.{are_delegated, can_start, is_range_inside}
use Rattle.rmm_granules.proofs.StartCounts.{starts}
use Rattle.rmm.proofs.realm_create.realm_for.Goals as goal

pub overflow_cast-result : goal.overflow_cast-result
overflow_cast-result g c =
    let p = c.args.p.now in
    let start = starts p.s2sz p.rtt_level_start p.rtt_num_start c.requires.start in
    let level = start.level in
    omega arith

pub overflow_cast-result-2 : goal.overflow_cast-result-2
overflow_cast-result-2 g c =
    let p = c.args.p.now in
    let start = starts p.s2sz p.rtt_level_start p.rtt_num_start c.requires.start in
    let most = start.most in
    omega arith

pub number_of-requires : goal.number_of-requires
unfolding can_start
number_of-requires g c =
    let p = c.args.p.now in
    let m = c.args.granules.now in
    let range = and_parts (is_range_inside m p.rtt_base p.rtt_num_start) (are_delegated m (number_of m p.rtt_base) p.rtt_num_start) c.requires.free in
    (and_parts (is_inside m p.rtt_base) (nat_le (number_of m p.rtt_base + p.rtt_num_start) (granule_count m)) range.0).0

pub returns-clause-served : goal.returns-clause-served
unfolding can_start
returns-clause-served g c =
    let p = c.args.p.now in
    let m = c.args.granules.now in
    let start = starts p.s2sz p.rtt_level_start p.rtt_num_start c.requires.start in
    let range = and_parts (is_range_inside m p.rtt_base p.rtt_num_start) (are_delegated m (number_of m p.rtt_base) p.rtt_num_start) c.requires.free in
    let room = and_parts (is_inside m p.rtt_base) (nat_le (number_of m p.rtt_base + p.rtt_num_start) (granule_count m)) range.0 in
    record {
      few = c.requires.few;
      inside = subst (λ (n : ℕ). n + p.rtt_num_start ≤ granule_count m) (sym c.number_of.ensures.value) (leb-true (number_of m p.rtt_base + p.rtt_num_start) (granule_count m) room.1);
      most = start.most;
      level = start.level;
      width = c.requires.width;
      served = start.served;
    }
