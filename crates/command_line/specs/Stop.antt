-- The reasons why a program stops before its work is done, with their exit statuses and messages.
use Rattle.std.specs.Prelude.{ℕ, List, codes, string_bytes, Option, Some, None}
use Rattle.std.specs.Fmt.{with_newline}
use Rattle.clap.specs.Values.{kind_of}
use Rattle.clap.specs.declared.error.Error.{Error}
use Rattle.clap.specs.declared.error.kind.ErrorKind.{ErrorKind}
use Rattle.clap.specs.declared.error.kind.ErrorKind.TheVariants.{OutOfMemory}
use Rattle.command_line.specs.declared.stop.Stop.{Stop}
use Rattle.command_line.specs.declared.stop.Stop.TheVariants.{Usage, NotUtf8, Unopened, Run}

-- The exit status for a reason to stop: 2 for a refused command line, 5 for a file that cannot be opened, and for any
-- other fault its own status. A device that fails has the status 5 too.
abbrev pub status_of_stop : {F : Type 0} → (F → ℕ) → Stop F → ℕ
status_of_stop status_of (Usage error) = 2
status_of_stop status_of NotUtf8 = 2
status_of_stop status_of (Unopened line) = 5
status_of_stop status_of (Run fault) = status_of fault

-- The text that is printed for a reason to stop, if that text is known. The text of a usage error is known to `clap`
-- alone, and the text of a fault may be known.
abbrev pub text_of_stop : {F : Type 0} → (F → Option (List ℕ)) → Stop F → Option (List ℕ)
text_of_stop text_of (Usage error) = None
text_of_stop text_of NotUtf8 = Some (codes "an argument is not UTF-8\n")
text_of_stop text_of (Unopened line) = with_newline (Some (string_bytes line))
text_of_stop text_of (Run fault) = with_newline (text_of fault)

-- the reason to stop after an error of `clap`: a usage error, unless memory ran out
abbrev pub stop_of_kind : {F : Type 0} → F → ErrorKind → Error → Stop F
stop_of_kind memory OutOfMemory error = Run memory
stop_of_kind memory _ error = Usage error

abbrev pub stop_of_error : {F : Type 0} → F → Error → Stop F
stop_of_error memory error = stop_of_kind memory (kind_of error) error
