-- The text of the RMM calls of a plan's run, as a trace or as rows of a C table.
use Rattle.std.specs.Prelude.{◌≡◌, ◌⊎◌, ◌≤◌, ℕ, Bool, true, false, List, [], ◌∷◌, ◌++◌, length, replicate, codes, slice_get, Option, Some, None, IfSome}
use Rattle.std.specs.List.{flat_map}
use Rattle.command_line.specs.declared.realmview.CallsForm.{CallsForm}
use Rattle.command_line.specs.declared.realmview.CallsForm.TheVariants.{Trace, Rows}
use Rattle.host_commands.specs.declared.refusal.Refusal.TheVariants.{Rmi}
use Rattle.host_ledger.specs.View.{HostView, world_of}
use Rattle.history_calls.specs.Actions.{actions_of}
use Rattle.history_calls.specs.Frame.{Place}
use Rattle.history_calls.specs.Lines.{action_line, platform_line}
use Rattle.history_calls.specs.Runs.{run_page_for, run_pages_after}
use Rattle.history_calls.specs.declared.action.HostAction.{HostAction}
use Rattle.realm_model.specs.Places.{IsPlaceOf}
use Rattle.realm_model.specs.declared.act.Act.{Act}
use Rattle.realm_model.specs.declared.act.Act.TheVariants.{Poke}
use Rattle.realm_model.specs.declared.act.Event.{Event}
use Rattle.realm_model.specs.declared.act.RealmAndRec.{RealmAndRec}
use Rattle.realm_plan.specs.Plan.{Plan}
use Rattle.realm_plan.specs.declared.step.PlanStep.{PlanStep}
use Rattle.plan_replay.specs.Run.{Position, Turn, start, IsTurn, turn_text}
use Rattle.plan_replay.specs.declared.answer.TurnAnswer.{TurnAnswer}
use Rattle.plan_replay.specs.declared.answer.TurnAnswer.TheVariants.{Refused}
use Rattle.realm_program.specs.Replay.{opening_host}

-- the characters with which a comment begins: `# ` in a trace, and `// ` in a C table
abbrev pub comment_start : CallsForm → List ℕ
comment_start Trace = codes "# "
comment_start Rows = codes "// "

-- ---- an event

-- the trace lines of a host's actions, none of which is refused
abbrev pub action_lines : List HostAction → List ℕ
action_lines actions = flat_map (λ action. action_line action None) actions

-- The text consists of the trace lines of the actions for an event that a host has recorded. The run pages are `runs`
-- before it, and `next` after it.
pub record AreEventLines (frame : Place) (runs next : List (Option ℕ)) (host : HostView) (event : Event) (text : List ℕ) : Type 0 where
  pub place : RealmAndRec
  pub is_place : IsPlaceOf (world_of host) event.build event.act place
  pub lines : text ≡ action_lines (actions_of frame place (run_page_for place.rec event.act runs) event.act)
  pub pages : next ≡ run_pages_after place.rec event.act runs

abbrev pub is_poke : Act → Bool
is_poke (Poke number ipa offset value) = true
is_poke act = false

-- the text is a comment in place of a guest's write that RMM 1.0 refuses
pub record IsNoWrite (runs next : List (Option ℕ)) (event : Event) (text : List ℕ) : Type 0 where
  pub of_guest : is_poke event.act ≡ true
  pub comment : text ≡ codes "# no call: the RIPAS there is not RAM, and in RMM 1.0 the guest's write is refused\n"
  pub pages : next ≡ runs

-- the text consists of the trace lines of an event's actions, or of the comment in place of a guest's write that RMM
-- 1.0 refuses
abbrev pub AreCallsOfEvent : Place → (runs next : List (Option ℕ)) → HostView → Event → List ℕ → Type 0
AreCallsOfEvent frame runs next host event text = AreEventLines frame runs next host event text ⊎ IsNoWrite runs next event text

pub record AppendsCallsOfEvent (frame : Place) (runs next : List (Option ℕ)) (host : HostView) (event : Event) (old new : List ℕ) : Type 0 where
  pub text : List ℕ
  pub is_text : AreCallsOfEvent frame runs next host event text
  pub appended : new ≡ old ++ text

-- ---- a turn

-- the answer is a refusal by the RMM
abbrev pub is_refusal_of_rmm : TurnAnswer → Bool
is_refusal_of_rmm (Refused (Rmi rmi)) = true
is_refusal_of_rmm answer = false

abbrev pub is_refused_by_rmm : Option (PlanStep × TurnAnswer) → Bool
is_refused_by_rmm None = false
is_refused_by_rmm (Some told) = is_refusal_of_rmm told.1

-- The text belongs below the turn's line: in a trace, it is the text of the event that the turn has added. The history
-- had `before` events before the turn. If the turn has added no event, the text is empty, unless the RMM has refused
-- the command.
pub record IsBelowTurn (form : CallsForm) (frame : Place) (runs next : List (Option ℕ)) (before : ℕ) (host : HostView) (turn : Turn) (below : List ℕ) : Type 0 where
  pub event : form ≡ Trace → IfSome (slice_get host.history before) (λ event. AreCallsOfEvent frame runs next host event below)
  pub nothing : length host.history ≤ before → is_refused_by_rmm turn.told ≡ false → below ≡ []
  pub pages : length host.history ≤ before → next ≡ runs

-- the line of the turn is appended, with the text that belongs below it
pub record AppendsTurnAndCalls (form : CallsForm) (frame : Place) (runs next : List (Option ℕ)) (before : ℕ) (host : HostView) (turn : Turn) (old new : List ℕ) : Type 0 where
  pub below : List ℕ
  pub is_below : IsBelowTurn form frame runs next before host turn below
  pub appended : new ≡ old ++ (turn_text turn ++ below)

-- A turn of the build leads from `from` to `to`, and its line is appended as a comment, with the text that belongs
-- below it.
pub record AppendsCallsOfTurn (form : CallsForm) (frame : Place) (plan : Plan) (runs next : List (Option ℕ)) (from : Position) (build : ℕ) (to : Position)
    (old new : List ℕ) : Type 0 where
  pub turn : Turn
  pub of_build : turn.build ≡ build
  pub is_turn : IsTurn plan from turn to
  pub text : AppendsTurnAndCalls form frame runs next (length from.host.history) to.host turn (old ++ comment_start form) new

-- ---- a run

-- the turns of a schedule, given as a list of builds, are taken in sequence, and the text of each is appended
abbrev pub AppendsCallsOfTurns : CallsForm → Place → Plan → List ℕ → (runs next : List (Option ℕ)) → Position → Position → List ℕ → List ℕ → Type 0
AppendsCallsOfTurns form frame plan [] runs next from to old new = (to ≡ from) × (new ≡ old) × (next ≡ runs)
AppendsCallsOfTurns form frame plan (build ∷ order) runs next from to old new =
    (between : Position) × (text : List ℕ) × (pages : List (Option ℕ))
    × AppendsCallsOfTurn form frame plan runs pages from build between old text × AppendsCallsOfTurns form frame plan order pages next between to text new

-- the address range of the plan's machine, with granule 0 at the address `base`
abbrev pub frame_of : ℕ → Plan → Place
frame_of base plan = record { base = base; pages = plan.pages }

-- The text shows the RMM calls of some run of the plan: an opening, then each turn's line as a comment, followed by the
-- text that belongs below this line. A trace opens with the line that describes the machine.
pub record IsCallsText (form : CallsForm) (base : ℕ) (plan : Plan) (text : List ℕ) : Type 0 where
  pub opening : List ℕ
  pub of_machine : form ≡ Trace → opening ≡ platform_line (frame_of base plan) plan.aux
  pub last : Position
  pub pages : List (Option ℕ)
  pub turns : AppendsCallsOfTurns form (frame_of base plan) plan plan.order (replicate 64 None) pages (start (opening_host plan)) last opening text
