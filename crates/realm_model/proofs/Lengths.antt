-- The proof that no command changes the number of a machine's granules.
use Rattle.std.proofs.Common.{◌≡◌, List, [], ◌∷◌, length, Ok, Err, refl, ◌∙◌}
use Rattle.std.proofs.lemmas.List.{length-set}
use Rattle.realm_model.specs.Machine.{Machine}
use Rattle.realm_model.specs.Update.{Update, Outcome, granule_of, machine_after, machine_after_all, machine_after_command}

length_after_all : (updates : List Update) (machine : Machine) → length (machine_after_all updates machine) ≡ length machine
unfolding machine_after_all
length_after_all [] machine = refl
length_after_all (update ∷ updates) machine = length_after_all updates (machine_after update machine) ∙ length-set machine (granule_of update) _

pub length_after : (outcome : Outcome) (machine : Machine) → length (machine_after_command outcome machine) ≡ length machine
length_after (Ok updates) machine = length_after_all updates machine
length_after (Err rmi) machine = refl
