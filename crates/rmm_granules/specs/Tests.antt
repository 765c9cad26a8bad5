-- The tests that RMI_REC_CREATE applies to the addresses of auxiliary granules.
use Rattle.std.specs.Prelude.{ℕ, ◌==◌, Bool, not, List}
use Rattle.rmi_abi.specs.RecParams.{aux_in}
use Rattle.rmm_model.specs.Machine.{Machine, is_aligned, is_inside}
use Rattle.rmm_model.specs.Command.RecCreate.{can_be_aux}
use Rattle.rmm_granules.specs.declared.rec_params.AuxTest.{AuxTest}
use Rattle.rmm_granules.specs.declared.rec_params.AuxTest.TheVariants.{Aligned, Inside, Delegated, Not}

-- an address passes the given test for addresses of auxiliary granules
abbrev pub aux_passes : Machine → AuxTest → ℕ → Bool
aux_passes m Aligned address = is_aligned address
aux_passes m Inside address = is_inside m address
aux_passes m Delegated address = can_be_aux m address
aux_passes m (Not other) address = not (address == other)

-- the address of auxiliary granule k in the REC parameters passes the given test
abbrev pub aux_test : Machine → AuxTest → List ℕ → ℕ → Bool
aux_test m test page k = aux_passes m test (aux_in page k)
