use Rattle.std.proofs.Common.{◌≡◌, ◌≤◌, [], length, map, replicate, vec_len, vec_capacity, sym, ap, ◌∙◌, arith}
use Rattle.std.specs.List.{range_with_len}
use Rattle.std.proofs.lemmas.List.{length-replicate}
use Rattle.build_seats.specs.Seats.{new_seat}
use Rattle.build_seats.proofs.Starting.{kept_at_start}
use Rattle.build_seats.proofs.kept.Kept.start.Goals as goal

pub new-books-requires : goal.new-books-requires
new-books-requires g c = (omega arith, c.requires.named)

pub seats_of_trails-seats-requires : goal.seats_of_trails-seats-requires
seats_of_trails-seats-requires g c =
    let count : vec_len c.in-Ok.trails ≡ c.build_count-count.result = c.in-Ok.trails.ok.0 ∙ ap length c.in-Ok.ensures.trails ∙ length-replicate c.build_count-count.result [] in
    let few : vec_len c.in-Ok.trails ≤ 8 = omega (arith, count, c.build_count-count.ensures.few) in
    let empty = c.in-Ok.ensures.trails ∙ ap (λ n. replicate n []) (sym count) in
    let room : vec_len c.in-Ok.trails ≤ vec_capacity c.in-Ok.seats = omega (arith, count, c.in-Ok.ensures.room) in
    (omega arith, (c.in-Ok.ensures.seats, (c.new-books.result.passes_are, (few, (empty, room)))))

pub invariant_of-result : goal.invariant_of-result
invariant_of-result g c =
    kept_at_start _ c.args.host c.new-books.result.books
    (record {
      legal = c.history.ensures.legal;
      in_range = c.history.ensures.in_range;
      room = c.history.ensures.room;
      each = c.history.ensures.each;
      points = c.history.ensures.points;
    })
    c.requires.empty c.requires.opened c.new-books.result.books_are

pub returns-clause-seats : goal.returns-clause-seats
returns-clause-seats g c =
    let count : vec_len c.in-Ok.trails ≡ c.build_count-count.result = c.in-Ok.trails.ok.0 ∙ ap length c.in-Ok.ensures.trails ∙ length-replicate c.build_count-count.result [] in
    c.seats_of_trails-seats.ensures ∙ ap (λ n. map new_seat (range_with_len 0 n)) (count ∙ c.build_count-count.ensures.value)
