-- Worlds that the examples use, functions that extract parts of a world, and lemmas about several events in sequence.
use Rattle.std.proofs.Common.{◌≡◌, ℕ, true, false, cond, List, [], ◌∷◌, ◌++◌, map, Option, Some, None, Ok, refl, sym, ap, ◌∙◌, subst}
use Rattle.std.specs.Prelude.{option_map, option_and_then}
use Rattle.std.specs.List.{list_any}
use Rattle.std.specs.Cmp.{nat_cmp_total}
use Rattle.std.specs.FinMap.{FinMap, get, insert, remove, empty, get-insert}
use Rattle.std.specs.Ordering.{nat_cmp}
use Rattle.std.proofs.lemmas.List.{append_assoc, append-nil}
use Rattle.granule_addr.specs.Page.{zero_page}
use Rattle.granule_addr.specs.declared.width.Root.{Root}
use Rattle.realm_model.specs.declared.act.Event.{Event}
use Rattle.realm_model.specs.declared.states.GranuleState.{GranuleState}
use Rattle.realm_model.specs.declared.states.GranuleState.TheVariants.{Undelegated, Delegated, Rd, Rtt as InRtt}
use Rattle.realm_model.specs.declared.states.RealmState.TheVariants.{New}
use Rattle.realm_model.specs.declared.states.RecState.{RecState}
use Rattle.realm_model.specs.declared.states.RecState.TheVariants.{Ready, Running}
use Rattle.realm_model.specs.Rows.{Rows, root_rows}
use Rattle.realm_model.specs.Measurement.{zero_measurement}
use Rattle.realm_model.specs.Machine.{Limits, RecRow, RealmRow, Cell}
use Rattle.realm_model.specs.Act.{is_reverse}
use Rattle.realm_model.specs.Update.{Update}
use Rattle.realm_model.specs.World.{World, updated_all, free_set}
use Rattle.realm_model.specs.Step.{step, is_allowed, after_outcome, outcome_in}
use Rattle.realm_model.specs.History.{after, AllInTurn}
use Rattle.realm_model.proofs.Booleans.{or_parts, true_false}

abbrev pub machine_of : ℕ → Limits
machine_of pages = record { pages = pages; vmids = 8; aux = 0; builds = 2 }

-- ---- cells and worlds

-- the cell of an UNDELEGATED granule with the given bytes
abbrev pub page : List ℕ → Cell
page bytes = record { state = Undelegated; realm = None; bytes = bytes; descriptor = None }

-- the cell of a DELEGATED granule
abbrev pub delegated : Cell
delegated = record { state = Delegated; realm = None; bytes = zero_page; descriptor = None }

-- the cell of granule 0 as the RD of the given realm; `of_realm` is the cell of another granule of that realm
abbrev pub rd : RealmRow → Cell
rd realm = record { state = Rd; realm = Some 0; bytes = zero_page; descriptor = Some realm }

abbrev pub of_realm : GranuleState → List ℕ → Cell
of_realm state bytes = record { state = state; realm = Some 0; bytes = bytes; descriptor = None }

-- the cell of a table of the realm whose RD is granule 0
abbrev pub table_page : Cell
table_page = of_realm InRtt zero_page

-- the root of a realm with a single starting table, at granule 1; `start_rows` are the rows of a new realm with this
-- root
abbrev pub start : Root
start = record { first = 1; width = 39 }

abbrev pub start_rows : Rows
start_rows = root_rows 39

-- the row of a new realm with VMID 1
abbrev pub fresh : RealmRow
fresh = record { state = New; vmid = 1; root = start; next = 0; measurement = zero_measurement; recs = empty; rows = start_rows }

-- the type of a realm's RECs by number; by `latest`, a REC that is put at number 0 is found there
abbrev pub Recs : Type 0
Recs = FinMap nat_cmp RecRow

pub latest : (recs : Recs) (rec : RecRow) → get (insert recs 0 rec) 0 ≡ Some rec
latest recs rec = get-insert nat_cmp_total recs 0 rec 0

-- the type of `ready`, `running`, `stopped` and `gone`, each of which gives a realm's RECs, given the row of REC 0 in
-- each state
abbrev pub OneRec : Type 0
OneRec = (RecState → RecRow) → Recs

module _ (rec : RecState → RecRow) where
  abbrev pub ready : Recs
  ready = insert empty 0 (rec Ready)

  abbrev pub running : Recs
  running = insert ready 0 (rec Running)

  abbrev pub stopped : Recs
  stopped = insert running 0 (rec Ready)

  abbrev pub gone : Recs
  gone = remove stopped 0

-- a world with these cells, in which build 0 leases every granule
abbrev pub world_of : List Cell → World
world_of cells = record { machine = cells; leases = map (λ _. Some 0) cells }

-- ---- what is seen of a world

abbrev pub states : Option World → Option (List GranuleState)
states w = option_map (λ (w : World). map (λ (c : Cell). c.state) w.machine) w

abbrev pub free : Option World → Option (List ℕ)
free w = option_map free_set w

abbrev pub pages_seen : Option World → Option (List (List ℕ))
pages_seen w = option_map (λ (w : World). map (λ (c : Cell). c.bytes) w.machine) w

-- ---- steps

-- if an event is allowed and its outcome is a list of updates, the event leads to the world after these updates
pub step_by : (limits : Limits) (w v : World) (e : Event) (us : List Update) → is_allowed limits w e ≡ true → outcome_in limits w e ≡ Ok us → updated_all e.build us w ≡ Some v
    → step limits w e ≡ Some v
unfolding step
step_by limits w v e us allowed outcome did =
    ap (λ t. cond t (after_outcome e.build (outcome_in limits w e) w) None) allowed ∙ ap (λ o. after_outcome e.build o w) outcome ∙ did

-- if a history's first event leads to `x`, the history leads to where its other events lead from `x`
pub and_then : (limits : Limits) (w x : World) (o : Option World) (e : Event) (es : List Event) → step limits w e ≡ Some x → after limits es x ≡ o → after limits (e ∷ es) w ≡ o
unfolding after
and_then limits w x o e es stepped rest = ap (option_and_then (after limits es)) stepped ∙ rest

pub at_end : (limits : Limits) (w : World) → after limits [] w ≡ Some w
unfolding after
at_end limits w = refl

-- ---- events in turn: those that are no reverses, and then others

pub forward : (before es : List Event) → list_any (λ (x : Event). is_reverse x.act) es ≡ false → AllInTurn before es
forward before [] none = tt
forward before (e ∷ es) none =
    let parts = or_parts (is_reverse e.act) _ none in
    (λ back. absurd (true_false _ back parts.0), forward (before ++ e ∷ []) es parts.1)

pub joined : (before xs ys : List Event) → AllInTurn before xs → AllInTurn (before ++ xs) ys → AllInTurn before (xs ++ ys)
joined before [] ys h rest = subst (λ es. AllInTurn es ys) (append-nil before) rest
joined before (x ∷ xs) ys h rest = (h.0, joined (before ++ x ∷ []) xs ys h.1 (subst (λ es. AllInTurn es ys) (sym (append_assoc before (x ∷ []) xs)) rest))
