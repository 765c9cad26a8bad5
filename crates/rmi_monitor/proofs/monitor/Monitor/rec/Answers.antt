use Rattle.std.proofs.Common.{◌<◌, length, sym, ap, subst, ◌∙◌}
use Rattle.std.specs.Prelude.{option_map}
use Rattle.std.specs.FinMap.{get}
use Rattle.std.specs.Option.{option_copied}
use Rattle.rmi_monitor.specs.Attributes.{rec_row}
use Rattle.rmi_monitor.specs.Inside.{recs_of, IsNumbered}
use Rattle.rmi_monitor.proofs.Granules.{as_many_granules}
use Rattle.rmi_monitor.proofs.RecEntries.{numbered_recs}
use Rattle.rmi_monitor.proofs.RecNumbers.{rec_in-none, rec_there, rec_in-read, rec_numbered}
use Rattle.rmi_monitor.proofs.monitor.Monitor.rec.Goals as goal

pub returns-in_err-granule-clause-value : goal.returns-in_err-granule-clause-value
returns-in_err-granule-clause-value g c =
    ap (option_map (λ r. rec_row r.0 r.1.now)) c.from_residual.ensures
    ∙ sym (rec_in-none c.args.self.now _ c.self.view_is c.self.invariant c.args.rd c.args.number c.requires
    (ap (λ recs. get (recs_of c.self.inside.granules recs c.args.rd) c.args.number) (sym c.as_slice.ensures.value) ∙ c.in_err-granule.ensures.none))

pub unwrap-rec-requires : goal.unwrap-rec-requires
unwrap-rec-requires g c =
    c.as_ref.ensures.variant
    ∙ rec_there c.args.self.now _ c.self.view_is c.self.invariant c.args.rd c.args.number c.in_ok-granule.granule c.as_slice.result.now c.number.result c.index.result.now
    c.as_slice.ensures.value c.in_ok-granule.ensures.some c.number.ensures.value c.index.ensures

pub returns-clause-value : goal.returns-clause-value
returns-clause-value g c =
    rec_in-read c.args.self.now _ c.self.view_is c.self.invariant c.args.rd c.args.number c.in_ok-granule.granule c.as_slice.result.now c.number.result c.index.result.now
    c.as_slice.ensures.value c.in_ok-granule.ensures.some c.number.ensures.value c.index.ensures c.unwrap-rec.result.now (sym (ap option_copied c.unwrap-rec.ensures) ∙ c.as_ref.ensures.value)

pub returns-clause-number : goal.returns-clause-number
returns-clause-number g c =
    rec_numbered c.args.self.now _ c.self.view_is c.self.invariant c.args.rd c.args.number c.in_ok-granule.granule c.as_slice.result.now c.number.result c.index.result.now
    c.as_slice.ensures.value c.in_ok-granule.ensures.some c.number.ensures.value c.index.ensures c.unwrap-rec.result.now (sym (ap option_copied c.unwrap-rec.ensures) ∙ c.as_ref.ensures.value)

pub returns-clause-inside : goal.returns-clause-inside
returns-clause-inside g c =
    subst (λ n. c.in_ok-granule.granule < n) (sym (as_many_granules c.args.self.now _ c.self.view_is c.self.invariant)) c.in_ok-granule.ensures.some.inside

pub find_rec-requires-clause-places : goal.find_rec-requires-clause-places
find_rec-requires-clause-places g c = ap length c.as_slice.ensures.value ∙ c.self.invariant.rec_places

pub find_rec-requires-clause-numbered : goal.find_rec-requires-clause-numbered
find_rec-requires-clause-numbered g c =
    subst (λ recs. IsNumbered c.self.inside.granules recs c.args.rd) (sym c.as_slice.ensures.value) (numbered_recs _ c.self.invariant.recs c.args.rd)

pub index-requires : goal.index-requires
index-requires g c =
    subst (λ n. c.number.result < n) (sym (c.self.inside.recs.ok.0 ∙ c.self.invariant.rec_places))
    (subst (λ n. n < length c.self.inside.granules) (sym c.number.ensures.value) c.in_ok-granule.ensures.some.inside)
