-- Proofs that one more turn extends a run: the schedule gets the turn's build at its end, and the run's text gets the
-- turn's text.
use Rattle.std.proofs.Common.{◌≡◌, ℕ, Result, Ok, Err, OnErr, ◌+◌, ◌<◌, ◌≤◌, List, [], ◌∷◌, ◌++◌, length, take, get_or, refl, sym, ap, ◌∙◌, subst}
use Rattle.std.specs.List.{flat_map}
use Rattle.std.proofs.lemmas.List.{flat_map_more, take_all, take_more}
use Rattle.host_ledger.specs.View.{HostView}
use Rattle.realm_plan.specs.Plan.{Plan}
use Rattle.plan_replay.specs.Run.{Position, Turn, start, IsTurn, AreTurns}

-- a run followed by a turn is a run of the schedule with that turn's build at its end
pub AreTurns-more :
    (plan : Plan) (order : List ℕ) (from : Position) (turns : List Turn) (at : Position) (build : ℕ) (turn : Turn) (to : Position)
    → AreTurns plan order from turns at
    → turn.build ≡ build
    → IsTurn plan at turn to
    → AreTurns plan (order ++ build ∷ []) from (turns ++ turn ∷ []) to
AreTurns-more plan [] from [] at build turn to run of_build is_turn =
    (of_build, to, subst (λ p. IsTurn plan p turn to) run is_turn, refl)
AreTurns-more plan [] from (t ∷ turns) at build turn to run of_build is_turn = elim run [ ]
AreTurns-more plan (b ∷ order) from [] at build turn to run of_build is_turn = elim run [ ]
AreTurns-more plan (b ∷ order) from (t ∷ turns) at build turn to run of_build is_turn =
    (run.0, run.1, run.2, AreTurns-more plan order run.1 turns at build turn to run.3 of_build is_turn)

-- ---- the first turns of a schedule, with a text of each

-- Some turns of the builds in `order` lead to the position `to`, and `new` is `old` followed by the texts of these
-- turns.
pub record IsFront {T : Type 0} (Lead : List ℕ → List T → Position → Type 0) (text_of : T → List ℕ) (order : List ℕ) (to : Position) (old new : List ℕ) : Type 0 where
  pub turns : List T
  pub is_run : Lead order turns to
  pub appended : new ≡ old ++ flat_map text_of turns

module _ {T : Type 0} (Lead : List ℕ → List T → Position → Type 0) (text_of : T → List ℕ) (order : List ℕ) (i : ℕ) (old : List ℕ) where
  -- if the next build of the schedule takes its turn, and the turn's text is appended, `IsFront` holds for one more
  -- turn
  pub front_more :
      (items : List ℕ) (build : ℕ) (at to : Position) (turn : T) (between new : List ℕ)
      → items ≡ order
      → i < length items
      → build ≡ get_or items i build
      → IsFront Lead text_of (take i order) at old between
      → ((turns : List T) → Lead (take i order) turns at → Lead (take i order ++ build ∷ []) (turns ++ turn ∷ []) to)
      → new ≡ between ++ text_of turn
      → IsFront Lead text_of (take (i + 1) order) to old new
  front_more items build at to turn between new same inside next front leads appended =
      let taken : take i order ++ build ∷ [] ≡ take (i + 1) order = ap (λ b. take i order ++ b ∷ []) (next ∙ ap (λ xs. get_or xs i build) same)
      ∙ sym (take_more order i build (subst (λ xs. i < length xs) same inside)) in
      record {
        turns = front.turns ++ turn ∷ [];
        is_run = subst (λ o. Lead o (front.turns ++ turn ∷ []) to) taken (leads front.turns front.is_run);
        appended = appended ∙ ap (λ t. t ++ text_of turn) front.appended ∙ flat_map_more text_of old front.turns turn;
      }

  -- if `IsFront` holds for as many turns as the schedule has, it holds for the whole schedule
  pub front_whole : (items : List ℕ) (to : Position) (new : List ℕ) → items ≡ order → length items ≤ i
      → IsFront Lead text_of (take i order) to old new → IsFront Lead text_of order to old new
  front_whole items to new same done =
      subst (λ o. IsFront Lead text_of o to old new) (take_all i order (subst (λ xs. length xs ≤ i) same done))

abbrev pub LeadsTold : Plan → HostView → List ℕ → List Turn → Position → Type 0
LeadsTold plan from order turns to = AreTurns plan order (start from) turns to

-- if `P` holds, `OnErr result P` holds for any result
pub at_err : {T E P : Type 0} (result : Result T E) → P → OnErr result P
at_err (Ok value) holds = tt
at_err (Err error) holds = holds
