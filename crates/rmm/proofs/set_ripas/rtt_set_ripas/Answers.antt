use Rattle.std.proofs.Common.{ℕ, ◌+◌, ◌*◌, Option, ap, ◌∙◌}
use Rattle.rmm_model.specs.declared.answer.FailedCondition.{FailedCondition}
use Rattle.rmm_model.specs.declared.entry.Changeable.{Changeable}
use Rattle.rmm_model.specs.declared.realm.RttWalk.{RttWalk as Walked}
use Rattle.rmm_model.specs.declared.rec.RipasRequest.{RipasRequest}
use Rattle.rmm_model.specs.Check.{Command, decided}
use Rattle.rmm_model.specs.Guest.{rec_in}
use Rattle.rmm_model.specs.Level.{entry_index, entry_size}
use Rattle.rmm_model.specs.Machine.{Machine}
use Rattle.rmm_model.specs.Walk.{walk}
use Rattle.rmm_model.specs.Command.Operand.{realm_at, rec_at}
use Rattle.rmm_model.specs.Command.PsciComplete.{with_rec}
use Rattle.rmm_model.specs.Command.RipasRange.{change_count, with_ripas_from}
use Rattle.rmm_model.specs.Command.RttSetRipas.{rtt_set_ripas, set_changeable}
use Rattle.rmm.proofs.set_ripas.rtt_set_ripas.Goals as goal

module _ (m : Machine) (base top : ℕ) where
  -- the machine after a REC gets the given RIPAS request with the base `base + count * size`
  abbrev asks : RipasRequest → ℕ → ℕ → ℕ → Machine → Machine
  asks request g count size now = with_rec now g (record (rec_in now g) { ripas = record request { base = base + count * size } })

  -- the machine after `count` entries of the found table, from `first` on, get the requested RIPAS, and the request's
  -- base is `base + count * size`
  abbrev changed : Walked → RipasRequest → ℕ → ℕ → ℕ → ℕ → Machine
  changed found request g first count size = asks request g count size (with_ripas_from m found.table first request.ripas count)

  abbrev all : Walked → RipasRequest → ℕ → Machine
  all found request g = changed found request g (entry_index found.level base) (change_count m (set_changeable request) found base top) (entry_size found.level)

pub returns-in-Ok-clause-machine : goal.returns-in-Ok-clause-machine
unfolding rtt_set_ripas with_ripas_from
returns-in-Ok-clause-machine g c =
    let m : Machine = c.args.granules.now in
    let base : ℕ = c.args.base in
    let top : ℕ = c.args.top in
    let found : Walked = c.in-Ok.range.found in
    let request : RipasRequest = c.in-Ok.range.request in
    let granule : ℕ = c.in-Ok.range.granule in
    let is = c.in-Ok.ensures.found in
    let there : Walked = walk m (realm_at m c.args.rd) base 3 in
    let first : ℕ = entry_index found.level base in
    let count : ℕ = change_count m (set_changeable request) found base top in
    let command : Command = rtt_set_ripas c.args.rd c.args.rec base top m in
    c.edit_rec.ensures.machine
    ∙ ap (asks m base top request granule c.change_count-count.result c.entry_size.result) c.write_ripas.ensures.changed
    ∙ ap (λ (n : ℕ). changed m base top found request granule n c.change_count-count.result c.entry_size.result) c.entry_index-first.ensures.value
    ∙ ap (λ (n : ℕ). changed m base top found request granule first n c.entry_size.result)
    (c.change_count-count.ensures.value ∙ ap (λ (x : Changeable). change_count m x found base top) c.set_changeable.ensures)
    ∙ ap (changed m base top found request granule first count) c.entry_size.ensures.value
    ∙ ap (λ (x : Walked). all m base top x request granule) is.place
    ∙ ap (λ (x : RipasRequest). all m base top there x granule) is.request
    ∙ ap (all m base top there (rec_at m c.args.rec).ripas) is.named
    ∙ ap (λ (o : Option FailedCondition). (decided o command m).1) c.in-Ok.ensures.refusal
