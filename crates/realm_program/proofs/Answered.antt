-- A proof that a host's reply to a command matches the event that the command adds to a legal history. The host has at
-- most 4,096 pages.
use Rattle.std.proofs.Common.{◌≡◌, ℕ, ◌<◌, ◌≤◌, cond, List, [], ◌∷◌, ◌++◌, map, Option, Some, None, refl, sym, ap, ◌∙◌, subst, arith}
use Rattle.std.specs.Prelude.{slice_get, nat_lt, is_none, option_and_then, if◌then◌else◌}
use Rattle.std.specs.List.{All, filter_map, cons_option}
use Rattle.std.proofs.lemmas.Bool.{lt-ltb}
use Rattle.std.proofs.lemmas.Option.{slice_get_within, get_or_from_slice_get}
use Rattle.host_ledger.proofs.Worlds.{world_is}
use Rattle.host_ledger.specs.View.{HostView, world_of, granule_of_page}
use Rattle.host_ledger.specs.Summary.{summary_of}
use Rattle.host_commands.specs.Checks.{Check, build_checks, order_checks, page_checks, state_checks, checks_of, first_that_holds}
use Rattle.host_commands.specs.Needs.{operands, needs_of}
use Rattle.host_commands.specs.declared.cmd.Cmd.{Cmd}
use Rattle.host_commands.specs.declared.cmd.Cmd.TheVariants.{Take}
use Rattle.host_commands.specs.declared.refusal.Refusal.TheVariants.{NotLeased}
use Rattle.host_commands.specs.declared.reply.Reply.{Reply}
use Rattle.host_commands.proofs.Refused.{first_passes, first_stops}
use Rattle.realm_host.specs.Answer.{IsActOf as IsHostActOf}
use Rattle.realm_host.specs.Call.{Ask}
use Rattle.realm_host.specs.Allocation.{granules_named, allocated_for}
use Rattle.realm_host.specs.Refusals.{refusal_of, last_checks}
use Rattle.realm_model.specs.History.{pages_of, IsLegal}
use Rattle.realm_model.specs.declared.act.Act.{Act}
use Rattle.realm_model.proofs.Pages.{pages_are_leased}
use Rattle.realm_program.specs.Fitting.{granule_of_number, AreGranules, IsFittingAct}
use Rattle.realm_program.specs.Hosts.{HostReplyFits}

-- ---- checks of which none holds

module _ (xs ys : List Check) (none : first_that_holds (xs ++ ys) ≡ None) where
  none_left : first_that_holds xs ≡ None
  none_left = elim (first_that_holds xs) as (λ o. first_that_holds xs ≡ o → first_that_holds xs ≡ None) [
    | None ↦ λ is. is
    | Some refusal ↦ λ is. let no : Some refusal ≡ None = sym (first_stops xs ys refusal is) ∙ none in cc
  ] refl

  none_right : first_that_holds ys ≡ None
  none_right = sym (first_passes xs ys none_left) ∙ none

-- if a command is not refused, no check of its pages finds a missing page
no_page_missing : (host : HostView) (build : ℕ) (cmd : Cmd) → refusal_of host build (Ask cmd) ≡ None → first_that_holds (page_checks (summary_of host) build (operands cmd)) ≡ None
unfolding refusal_of checks_of
no_page_missing host build cmd none =
    none_left (page_checks (summary_of host) build (operands cmd)) (state_checks (summary_of host) build (needs_of cmd))
    (none_right (order_checks cmd) (page_checks (summary_of host) build (operands cmd) ++ state_checks (summary_of host) build (needs_of cmd))
    (none_right (build_checks (summary_of host) build) (order_checks cmd ++ (page_checks (summary_of host) build (operands cmd) ++ state_checks (summary_of host) build (needs_of cmd)))
    (none_left (checks_of (summary_of host) build cmd) (last_checks host build cmd) none)))

-- ---- the granules that are named

module _ (pages : List ℕ) (few : All (λ page. page < 4096) pages) where
  -- if all granules of a build are below 4,096, a test for numbers below 4,096 accepts the granule of any of the
  -- build's pages
  granule_there : (page granule : ℕ) → slice_get pages page ≡ Some granule → option_and_then (λ number. if nat_lt number 4096 then Some number else None) (Some granule) ≡ Some granule
  granule_there page granule is =
      let inside = slice_get_within pages page granule is in
      let below : granule < 4096 = subst (λ n. n < 4096) (get_or_from_slice_get pages page granule 0 is) (few page 0 inside) in
      ap (λ t. if t then Some granule else None) (lt-ltb granule 4096 below)

module _ (host : HostView) (build : ℕ) (few : All (λ page. page < 4096) (pages_of build host.history)) where
  -- if all granules of a build are below 4,096, and the checks find none of the pages `numbers` missing, the host finds
  -- the granules of these pages, in sequence
  are_granules : (numbers : List ℕ) → first_that_holds (page_checks (summary_of host) build numbers) ≡ None
      → AreGranules (pages_of build host.history) numbers (filter_map (λ page. granule_of_page host build page) numbers)
  are_granules [] none = refl
  are_granules (n ∷ ns) none = at (slice_get (pages_of build host.history) n) refl none (are_granules ns)
    where
      at : (o : Option ℕ) → slice_get (pages_of build host.history) n ≡ o
          → cond (is_none o) (Some (NotLeased n)) (first_that_holds (page_checks (summary_of host) build ns)) ≡ None
          → (first_that_holds (page_checks (summary_of host) build ns) ≡ None → AreGranules (pages_of build host.history) ns (filter_map (λ page. granule_of_page host build page) ns))
          → option_and_then (λ number. if nat_lt number 4096 then Some number else None) o ∷ map (granule_of_number (pages_of build host.history)) ns
          ≡ map (λ granule. Some granule) (cons_option o (filter_map (λ page. granule_of_page host build page) ns))
      at None is missing more = cc
      at (Some granule) is rest more = λ i. granule_there (pages_of build host.history) few n granule is i ∷ more rest i

-- ---- the reply

few_pages : (host : HostView) (build : ℕ) → IsLegal host.limits host.history → host.limits.pages ≤ 4096 → All (λ page. page < 4096) (pages_of build host.history)
few_pages host build legal few place d inside =
    let below = (pages_are_leased host.limits build host.history (world_of host) legal (world_is host legal)).inside place d inside in
    omega arith

act_fits : (host : HostView) (build : ℕ) (cmd : Cmd) (act : Act) → All (λ page. page < 4096) (pages_of build host.history) → refusal_of host build (Ask cmd) ≡ None
    → IsHostActOf host build (Ask cmd) act → IsFittingAct (pages_of build host.history) cmd act
act_fits host build (Take order) act few none is = is
act_fits host build cmd act few none is = record {
  granules = granules_named host build cmd;
  allocated = allocated_for host build cmd (granules_named host build cmd);
  are_granules = are_granules host build few (operands cmd) (no_page_missing host build cmd none);
  act_is = is;
}

pub reply_fits : (host : HostView) (build : ℕ) (cmd : Cmd) (reply : Reply) (new : HostView) → HostReplyFits host build cmd reply new
reply_fits host build cmd reply new legal few replied = record {
  act = replied.act;
  grows = ap (λ (h : HostView). h.history) replied.accepted.grows;
  fits = record {
    act_is = act_fits host build cmd replied.act (few_pages host build legal few) replied.accepted.not_refused replied.accepted.act_of;
    reply_is = replied.reply_is;
  };
}
