-- The state of a build as the build's worker derives it from the host's replies.
use Rattle.std.specs.Prelude.{ℕ, ◌+◌, ◌-◌, ◌==◌, nat_lt, not, List, [], ◌∷◌, length, filter, Option, Some, None, Ok, Err, if◌then◌else◌}
use Rattle.host_ledger.specs.declared.mark.Mark.{Mark}
use Rattle.host_commands.specs.Needs.{needs_of}
use Rattle.host_commands.specs.declared.cmd.Cmd.{Cmd}
use Rattle.host_commands.specs.declared.cmd.Cmd.TheVariants.{Enter, Exit}
use Rattle.build_seats.specs.Exchange.{Exchange, Did, Undid, KeptMark, CheckedBack}

pub record StandingView : Type 0 where
  -- the index of the next turn, which is the number of exchanges so far
  pub turn : ℕ
  -- the number of open operations
  pub journal : ℕ
  -- the numbers of the running RECs, in ascending order
  pub running : List ℕ
  -- the last mark that was set, if any
  pub mark : Option Mark

-- the state of a build, as its worker knows it, before the worker's first question
abbrev pub first_standing : StandingView
first_standing = record { turn = 0; journal = 0; running = []; mark = None }

-- a list of rising numbers with one number inserted, unless the list already has it
abbrev pub with_number : ℕ → List ℕ → List ℕ
with_number number [] = number ∷ []
with_number number (first ∷ rest) =
    if nat_lt number first then number ∷ first ∷ rest
    else (if number == first then first ∷ rest else first ∷ with_number number rest)

abbrev pub without_number : ℕ → List ℕ → List ℕ
without_number number numbers = filter (λ other. not (other == number)) numbers

abbrev pub numbers_running_after : Cmd → List ℕ → List ℕ
numbers_running_after (Enter number) running = with_number number running
numbers_running_after (Exit number) running = without_number number running
numbers_running_after _ running = running

-- The state of a build, as its worker knows it, after an accepted command. A command with a reverse adds an open
-- operation; an entered REC runs until it exits.
unfoldable pub standing_after_command : Cmd → StandingView → StandingView
standing_after_command cmd standing = record standing {
  journal = if (needs_of cmd).paired then standing.journal + 1 else standing.journal;
  running = numbers_running_after cmd standing.running;
}

-- the state of a build, as its worker knows it, after an answer; a refusal changes nothing
abbrev pub after_answer : Exchange → StandingView → StandingView
after_answer (Did cmd (Ok reply)) standing = standing_after_command cmd standing
after_answer (Did cmd (Err refusal)) standing = standing
after_answer (Undid (Ok undone)) standing = record standing { journal = standing.journal - 1 }
after_answer (Undid (Err refusal)) standing = standing
after_answer (KeptMark (Ok mark)) standing = record standing { mark = Some mark }
after_answer (KeptMark (Err refusal)) standing = standing
after_answer (CheckedBack mark result) standing = standing

abbrev pub after_exchange : Exchange → StandingView → StandingView
after_exchange exchange standing = after_answer exchange (record standing { turn = standing.turn + 1 })

-- the state of a build, as its worker knows it, after a list of exchanges, taken in sequence
abbrev pub standing_after : List Exchange → StandingView → StandingView
standing_after [] standing = standing
standing_after (exchange ∷ more) standing = standing_after more (after_exchange exchange standing)

-- the number of exits and undos that a worker would ask for after a refusal: one for each running REC and each open
-- operation
abbrev pub left_to_clear : StandingView → ℕ
left_to_clear standing = length standing.running + standing.journal
