use Rattle.std.proofs.Common.{◌≡◌, true, false, Some, None, get_or, sym, ◌∙◌, subst, below_more, arith}
use Rattle.std.proofs.lemmas.Bool.{eqb-true, eqb-false}
use Rattle.std.proofs.lemmas.List.{get_or_read_under}
use Rattle.std.proofs.lemmas.Option.{none-some}
use Rattle.realm_model.specs.Machine.{RecRow}
use Rattle.rmi_monitor.specs.Inside.{is_of_realm, rec_of, IsRecAt}
use Rattle.rmi_monitor.proofs.RecEntries.{is_of_realm-test, rec_of-none, rec_of-other, rec_of-number}
use Rattle.rmi_monitor.proofs.RealmRecs.{IsRecAt-there, recs_of-without}
use Rattle.rmi_monitor.proofs.rec.find_rec.Goals as goal
use Rattle.rmi_monitor.proofs.rec.find_rec.Goals.{else-eq-via-then-eq+else-eq-2, else-eq-via-else-eq}

pub granules-preserved-in_default : goal.granules-preserved-in_default
granules-preserved-in_default c =
    let place = c.granules.place in
    let here : c.index-recs-place.result ≡ get_or c.args.recs.now place None =
    get_or_read_under c.args.recs.now place c.pages-place-end.result c.index-recs-place.result None c.index-recs-place.is (omega arith) (omega arith) in
    below_more (λ k. (row : RecRow) → rec_of c.args.granules.now c.args.recs.now c.args.rd k ≡ Some (c.args.number, row) → ⊥) place c.granules.invariant
    (λ row at. none-some (c.args.number, row) (sym (rec_of-none c.args.granules.now c.args.recs.now c.args.rd place (sym here ∙ c.in_default.is)) ∙ at))

pub returns-then-eq-2-clause-some : goal.returns-then-eq-2-clause-some
returns-then-eq-2-clause-some c =
    let place = c.granules.place in
    let here : c.index-recs-place.result ≡ get_or c.args.recs.now place None =
    get_or_read_under c.args.recs.now place c.pages-place-end.result c.index-recs-place.result None c.index-recs-place.is (omega arith) (omega arith) in
    let granule : c.from_number-granule.result ≡ place = c.from_number-granule.ensures in
    let of : is_of_realm c.args.granules.now c.args.rd place ≡ true =
    is_of_realm-test c.args.granules.now c.args.rd place c.from_number-granule.result c.realm_of.result c.eq-then-eq.result true granule c.realm_of.ensures c.eq-then-eq.ensures c.if-eq-2.true in
    let same : c.in-Some.rec.number ≡ c.args.number = sym c.number.ensures ∙ eqb-true c.number.result c.args.number (sym c.eq.ensures ∙ c.if-eq.true) in
    subst (IsRecAt c.args.granules.now c.args.recs.now c.args.rd c.args.number) (sym granule)
    (IsRecAt-there c.args.granules.now c.args.recs.now c.args.rd c.args.number place c.in-Some.rec c.requires.numbered (omega arith) of (sym here ∙ c.in-Some.is) same)

pub granules-preserved : goal.granules-preserved
granules-preserved c =
    let place = c.granules.place in
    let here : c.index-recs-place.result ≡ get_or c.args.recs.now place None =
    get_or_read_under c.args.recs.now place c.pages-place-end.result c.index-recs-place.result None c.index-recs-place.is (omega arith) (omega arith) in
    let granule : c.from_number-granule.result ≡ place = c.from_number-granule.ensures in
    below_more (λ k. (row : RecRow) → rec_of c.args.granules.now c.args.recs.now c.args.rd k ≡ Some (c.args.number, row) → ⊥) place c.granules.invariant
    (λ row at. elim c.else-eq.branch [
      | else-eq-via-then-eq+else-eq-2 w ↦
          let other : is_of_realm c.args.granules.now c.args.rd place ≡ false =
          is_of_realm-test c.args.granules.now c.args.rd place c.from_number-granule.result w.realm_of.result w.eq-then-eq.result false granule w.realm_of.ensures w.eq-then-eq.ensures w.if-eq-2.false in
          none-some (c.args.number, row) (sym (rec_of-other c.args.granules.now c.args.recs.now c.args.rd place other) ∙ at)
      | else-eq-via-else-eq w ↦
          let same : c.in-Some.rec.number ≡ c.args.number = rec_of-number c.args.granules.now c.args.recs.now c.args.rd place c.in-Some.rec c.args.number row (sym here ∙ c.in-Some.is) at in
          eqb-false c.number.result c.args.number (sym c.eq.ensures ∙ w.if-eq.false) (c.number.ensures ∙ same)
    ])

pub returns-clause-none : goal.returns-clause-none
returns-clause-none c = recs_of-without c.args.granules.now c.args.recs.now c.args.rd c.args.number (λ granule lt. c.granules.invariant granule (omega arith))
