-- The check of RMI_DATA_CREATE's flags, and the machine after the command has mapped the page of data.
use Rattle.std.specs.Prelude.{ℕ, not, List, [], ◌∷◌}
use Rattle.rmi_abi.specs.declared.settings.RmmSettings.{RmmSettings}
use Rattle.rmm_model.specs.declared.condition.Condition.TheVariants.{FlagsValid}
use Rattle.rmm_model.specs.declared.entry.RmmRttEntry.TheVariants.{Assigned}
use Rattle.rmm_model.specs.declared.entry.RmmRipas.TheVariants.{Ram}
use Rattle.rmm_model.specs.declared.granule.RmmGranuleState.TheVariants.{Data}
use Rattle.rmm_model.specs.Check.{Check, check, error_input}
use Rattle.rmm_model.specs.Granule.{of_realm}
use Rattle.rmm_model.specs.Machine.{Machine, page_in, with_granule, with_page}
use Rattle.rmm_model.specs.Walk.{with_entry}
use Rattle.rmm_model.specs.Command.DataCreate.{are_flags_valid}
use Rattle.rmm.specs.declared.data_create.NewPage.{NewPage}

-- the first check of RMI_DATA_CREATE, that its flags are valid
abbrev pub flags_checks : RmmSettings → ℕ → List Check
flags_checks s flags = check FlagsValid [] (not (are_flags_valid s flags)) error_input ∷ []

-- the machine after the new page's granule becomes DATA with the bytes of its source, and is mapped at an IPA with
-- RIPAS RAM
abbrev pub with_data : Machine → NewPage → ℕ → ℕ → Machine
with_data m new page ipa =
    with_entry (with_page (with_granule m new.granule (of_realm new.owner.granule Data)) new.granule (page_in m new.source)) new.found ipa (Assigned Ram page)
