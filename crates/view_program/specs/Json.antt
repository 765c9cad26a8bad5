-- The JSON document of a plan's run.
use Rattle.std.specs.Prelude.{ℕ, List}
use Rattle.host_ledger.specs.View.{HostView}
use Rattle.realm_plan.specs.Plan.{Plan}
use Rattle.realm_program.specs.Replay.{opening_host}
use Rattle.run_json.specs.Document.{IsDocument}
use Rattle.run_json.specs.declared.document.Document.{Document}

-- A document describes some run of the plan; that `text` is this document in JSON is tested, and not stated here.
pub record IsJsonText (plan : Plan) (text : List ℕ) : Type 0 where
  pub last : HostView
  pub document : Document
  pub is_document : IsDocument plan (opening_host plan) last document
