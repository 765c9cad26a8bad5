-- The browser page that shows a plan's run, and the data of the page.
use Rattle.std.specs.Prelude.{◌≡◌, ℕ, List, length}
use Rattle.std.specs.List.{range_with_len, AllZip}
use Rattle.host_ledger.specs.View.{HostView}
use Rattle.realm_host.specs.Recorded.{IsWithout}
use Rattle.realm_plan.specs.Plan.{Plan}
use Rattle.realm_program.specs.Replay.{opening_host}
use Rattle.run_json.specs.Document.{IsDocument}
use Rattle.run_json.specs.Worlds.{IsWorldItem}
use Rattle.run_json.specs.Page.{page_bytes}
use Rattle.run_json.specs.declared.world.WorldItem.{WorldItem}
use Rattle.view_program.specs.declared.plan_page.PageData.{PageData}

-- the host's history without the build's events leads to this world
pub record IsWithoutWorld (host : HostView) (build : ℕ) (world : WorldItem) : Type 0 where
  pub fresh : HostView
  pub without : IsWithout host build fresh
  pub is_world : IsWorldItem fresh world

-- the list has, for each of the first `count` builds, the world that the host's history leads to without the build's
-- events
abbrev pub AreWorldsWithout : HostView → ℕ → List WorldItem → Type 0
AreWorldsWithout host count worlds = AllZip (IsWithoutWorld host) (range_with_len 0 count) worlds

-- The page's data are the document of some run of the plan, with one world for each build. A build's world is what the
-- run's history leads to without the build's events.
pub record IsPageData (plan : Plan) (shown : PageData) : Type 0 where
  pub last : HostView
  pub is_document : IsDocument plan (opening_host plan) last shown.run
  pub are_worlds : AreWorldsWithout last (length plan.builds) shown.without.items

-- The text is the browser page with the data bytes `json`, and `shown` is the page data of some run of the plan. That
-- `json` is what JSON writes for `shown` is tested, and no clause states it.
pub record IsPageText (plan : Plan) (text : List ℕ) : Type 0 where
  pub shown : PageData
  pub is_data : IsPageData plan shown
  pub json : List ℕ
  pub whole : text ≡ page_bytes json
