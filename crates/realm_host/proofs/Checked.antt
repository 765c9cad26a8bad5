-- Proofs that if a command passes all of the host's checks, its build has enough room, has a realm if the command needs
-- one, and has none if it forbids one. The last lemmas are about the granules of the pages that a command names, if its
-- build has all of these pages.
use Rattle.std.proofs.Common.{◌≡◌, ℕ, suc, ◌<◌, ◌≤◌, Bool, true, false, not, cond, List, [], ◌∷◌, ◌++◌, length, map, Option, Some, None, refl, sym, ap, ◌∙◌}
use Rattle.std.specs.Prelude.{nat_lt, nat_le}
use Rattle.std.specs.List.{All, filter_map, cons_option}
use Rattle.std.proofs.lemmas.Bool.{leb-false, ltb-false}
use Rattle.std.proofs.lemmas.List.Elements.{All-nil, All-cons}
use Rattle.host_commands.specs.declared.cmd.Cmd.{Cmd}
use Rattle.host_commands.specs.declared.needs.RealmRequirement.{RealmRequirement}
use Rattle.host_commands.specs.declared.needs.RealmRequirement.TheVariants.{Either, Realm as ARealm, NoRealm as NoneOf}
use Rattle.host_commands.specs.declared.refusal.Refusal.TheVariants.{RealmThere, NoRealm, JournalFull, HistoryFull}
use Rattle.host_commands.specs.BuildsSummary.{BuildsSummary}
use Rattle.host_commands.specs.Needs.{operands, needs_of}
use Rattle.host_commands.specs.Checks.{Check, build_checks, order_checks, page_checks, realm_checks, journal_checks, room_checks, vmid_checks, state_checks, checks_of, first_that_holds}
use Rattle.host_commands.proofs.Refused.{first_passes}
use Rattle.realm_model.proofs.Booleans.{not_false}

-- ---- lists of checks

first_none : (checks more : List Check) → first_that_holds (checks ++ more) ≡ None → first_that_holds checks ≡ None
first_none [] more none = refl
first_none (check ∷ checks) more none = at check.0 refl none (first_none checks more)
  where
    at : (t : Bool) → check.0 ≡ t → cond t (Some check.1) (first_that_holds (checks ++ more)) ≡ None
        → (first_that_holds (checks ++ more) ≡ None → first_that_holds checks ≡ None) → cond check.0 (Some check.1) (first_that_holds checks) ≡ None
    at true is e rest = cc
    at false is e rest = ap (λ t. cond t (Some check.1) (first_that_holds checks)) is ∙ rest e

rest_none : (checks more : List Check) → first_that_holds (checks ++ more) ≡ None → first_that_holds more ≡ None
rest_none checks more none = sym (first_passes checks more (first_none checks more none)) ∙ none

pub head_false : (check : Check) (checks : List Check) → first_that_holds (check ∷ checks) ≡ None → check.0 ≡ false
head_false check checks none = at check.0 refl none
  where
    at : (t : Bool) → check.0 ≡ t → cond t (Some check.1) (first_that_holds checks) ≡ None → check.0 ≡ false
    at true is e = cc
    at false is e = is

-- ---- the checks of a command

-- the build has a realm, or has none, as required
abbrev pub IsWanted : RealmRequirement → Bool → Type 0
IsWanted Either there = Unit {0}
IsWanted NoneOf there = there ≡ false
IsWanted ARealm there = there ≡ true

module _ (view : BuildsSummary) (build : ℕ) (cmd : Cmd) (none : first_that_holds (checks_of view build cmd) ≡ None) where
  abbrev page_part : List Check
  page_part = page_checks view build (operands cmd) ++ state_checks view build (needs_of cmd)

  abbrev order_part : List Check
  order_part = order_checks cmd ++ page_part

  after_build : first_that_holds order_part ≡ None
  unfolding checks_of
  after_build = rest_none (build_checks view build) order_part none

  states : first_that_holds (state_checks view build (needs_of cmd)) ≡ None
  states =
      rest_none (page_checks view build (operands cmd)) (state_checks view build (needs_of cmd)) (rest_none (order_checks cmd) page_part after_build)

  pub order_fits : first_that_holds (order_checks cmd) ≡ None
  order_fits = first_none (order_checks cmd) page_part after_build

  abbrev room_part : List Check
  room_part = room_checks view build (needs_of cmd).room ++ vmid_checks view (needs_of cmd).vmid

  abbrev journal_part : List Check
  journal_part = journal_checks view build (needs_of cmd).paired ++ room_part

  after_realm : first_that_holds journal_part ≡ None
  unfolding state_checks
  after_realm = rest_none (realm_checks view build (needs_of cmd).realm) journal_part states

  pub realm_wanted : IsWanted (needs_of cmd).realm (view.realm build)
  unfolding state_checks
  realm_wanted = at (needs_of cmd).realm (first_none (realm_checks view build (needs_of cmd).realm) journal_part states)
    where
      at : (wants : RealmRequirement) → first_that_holds (realm_checks view build wants) ≡ None → IsWanted wants (view.realm build)
      at Either e = tt
      at NoneOf e = head_false (view.realm build, RealmThere) [] e
      at ARealm e = not_false (view.realm build) (head_false (not (view.realm build), NoRealm) [] e)

  pub journal_fits : (needs_of cmd).paired ≡ true → view.opened build < 512
  journal_fits paired = at (needs_of cmd).paired paired (first_none (journal_checks view build (needs_of cmd).paired) room_part after_realm)
    where
      at : (p : Bool) → p ≡ true → first_that_holds (journal_checks view build p) ≡ None → view.opened build < 512
      at true is e = leb-false 512 (view.opened build) (head_false (nat_le 512 (view.opened build), JournalFull) [] e)
      at false is e = cc

  pub room_fits : (needs_of cmd).room ≤ view.room_left build
  room_fits =
      ltb-false (view.room_left build) (needs_of cmd).room
      (head_false (nat_lt (view.room_left build) (needs_of cmd).room, HistoryFull) []
      (first_none (room_checks view build (needs_of cmd).room) (vmid_checks view (needs_of cmd).vmid) (rest_none (journal_checks view build (needs_of cmd).paired) room_part after_realm)))

-- ---- the granules of its operands

pub named_are : (f : ℕ → Option ℕ) (pages granules : List ℕ) → map f pages ≡ map (λ g. Some g) granules → filter_map f pages ≡ granules
named_are f [] [] e = refl
named_are f [] (g ∷ gs) e = cc
named_are f (p ∷ ps) [] e = cc
named_are f (p ∷ ps) (g ∷ gs) e =
    let head : f p ≡ Some g = cc in
    let tail : map f ps ≡ map (λ (h : ℕ). Some h) gs = cc in
    ap (λ (o : Option ℕ). cons_option o (filter_map f ps)) head ∙ ap (λ rest. g ∷ rest) (named_are f ps gs tail)

pub as_many : (f : ℕ → Option ℕ) (pages granules : List ℕ) → map f pages ≡ map (λ g. Some g) granules → length granules ≡ length pages
as_many f [] [] e = refl
as_many f [] (g ∷ gs) e = cc
as_many f (p ∷ ps) [] e = cc
as_many f (p ∷ ps) (g ∷ gs) e =
    let tail : map f ps ≡ map (λ (h : ℕ). Some h) gs = cc in
    ap suc (as_many f ps gs tail)

pub all_found : (f : ℕ → Option ℕ) (P : ℕ → Type 0) → ((page granule : ℕ) → f page ≡ Some granule → P granule) → (pages granules : List ℕ)
    → map f pages ≡ map (λ g. Some g) granules → All P granules
all_found f P each [] [] e = All-nil P
all_found f P each [] (g ∷ gs) e = cc
all_found f P each (p ∷ ps) [] e = cc
all_found f P each (p ∷ ps) (g ∷ gs) e =
    let head : f p ≡ Some g = cc in
    let tail : map f ps ≡ map (λ (h : ℕ). Some h) gs = cc in
    All-cons P g gs (each p g head) (all_found f P each ps gs tail)
