use Rattle.rmm_granules.proofs.rec_params.are_aux_delegated.Goals as goal

pub returns : goal.returns
returns g c = c.all_aux.ensures
