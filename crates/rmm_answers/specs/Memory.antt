-- The words that answer the host's loads and stores in a trace: `done`, `fault` or the loaded value.
use Rattle.std.specs.Prelude.{ℕ, Bool, if◌then◌else◌, Option, Some, None}
use Rattle.rmm_trace.specs.declared.word.Atom.{Atom}
use Rattle.rmm_trace.specs.declared.word.Atom.TheVariants.{Name, Hexadecimal}
use Rattle.rmm_answers.specs.declared.place.TheConstants.{DONE, FAULT}

-- the word that answers a host's access to memory: `done`, or `fault` if the access is not done
abbrev pub access_atom : Bool → Atom
access_atom is_done = Name (if is_done then DONE else FAULT)

-- the word that answers a load: the loaded value, or `fault`
abbrev pub load_atom : Option ℕ → Atom
load_atom (Some w) = Hexadecimal w
load_atom None = Name FAULT
