-- The condition that a seat's event list has one event for each accepted command or undo of its worker, in sequence.
use Rattle.std.specs.Prelude.{◌≡◌, ℕ, List, filter, Some, Ok}
use Rattle.std.specs.List.{AllZip}
use Rattle.host_commands.specs.Acts.{act_of}
use Rattle.host_commands.specs.Replies.{reply_of}
use Rattle.host_commands.specs.declared.cmd.Cmd.{Cmd}
use Rattle.host_commands.specs.declared.cmd.Cmd.TheVariants.{Take}
use Rattle.host_commands.specs.declared.reply.Allocated.{Allocated}
use Rattle.realm_model.specs.Kind.{act_kind}
use Rattle.realm_model.specs.declared.act.Kind.{Kind}
use Rattle.realm_model.specs.Act.{reverse_of}
use Rattle.realm_model.specs.declared.act.Act.{Act}
use Rattle.realm_model.specs.declared.act.Act.TheVariants as acts
use Rattle.realm_model.specs.declared.act.Event.{Event}
use Rattle.build_seats.specs.Exchange.{Exchange, Did, Undid, is_event}

-- The command asks for this operation, given some granules for the command's pages and some allocated values.
abbrev pub IsActFor : Cmd → Act → Type 0
IsActFor (Take order) act = (first : ℕ) × (act ≡ acts.Take order first)
IsActFor cmd act = (granules : List ℕ) × (allocated : Allocated) × (act_of cmd granules allocated ≡ Some act)

-- the operation is the reverse of an operation of this kind
abbrev pub IsReverseOf : Kind → Act → Type 0
IsReverseOf kind act = (opened : Act) × (act_kind opened ≡ Some kind) × (reverse_of opened ≡ Some act)

-- The event can be the record of this exchange, which is an accepted command or undo of the build. An accepted command
-- can ask for the event's operation, and the command's reply fits that operation. An accepted undo performs the reverse
-- of an operation of the undone kind.
abbrev pub IsEventOf : ℕ → Exchange → Event → Type 0
IsEventOf build (Did cmd (Ok reply)) event =
    (event.build ≡ build) × IsActFor cmd event.act × ((pages : ℕ) × (reply ≡ reply_of pages event.act))
IsEventOf build (Undid (Ok undone)) event = (event.build ≡ build) × IsReverseOf undone.kind event.act
IsEventOf build _ event = ⊥

-- A list of events has one event of the build for each accepted command or undo among the exchanges, in sequence.
unfoldable pub IsTrailOf : ℕ → List Exchange → List Event → Type 0
IsTrailOf build exchanges trail = AllZip (IsEventOf build) (filter is_event exchanges) trail
