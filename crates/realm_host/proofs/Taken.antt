-- Proofs that a Take that has passed its checks leases a block, or is refused since no block is free.
use Rattle.std.proofs.Common.{◌≡◌, ℕ, ◌≤◌, true, false, cond, [], ◌∷◌, length, Option, Some, None, refl, sym, ap, ◌∙◌, subst, arith}
use Rattle.std.specs.Prelude.{nat_lt, nat_le, if◌then◌else◌}
use Rattle.std.proofs.lemmas.Bool.{ltb-false, le-leb}
use Rattle.realm_model.specs.declared.act.Act.TheVariants as acts
use Rattle.realm_model.specs.Act.{reverse_of}
use Rattle.realm_model.specs.Room.{room_taken}
use Rattle.host_commands.specs.declared.cmd.Cmd.TheVariants as cmd
use Rattle.realm_host.specs.Call.{Ask}
use Rattle.host_commands.specs.declared.refusal.Refusal.TheVariants.{BadOrder, NoBlock}
use Rattle.host_commands.specs.declared.reply.Reply.TheVariants.{FirstPage}
use Rattle.host_commands.specs.Needs.{needs_of}
use Rattle.host_commands.specs.Checks.{checks_of, first_that_holds}
use Rattle.host_commands.proofs.Refused.{first_passes}
use Rattle.host_ledger.specs.View.{HostView, pages_of_build}
use Rattle.host_ledger.specs.Summary.{summary_of}
use Rattle.realm_host.specs.Refusals.{no_block, refusal_of}
use Rattle.realm_host.specs.Answer.{IsReplied}
use Rattle.realm_host.specs.Acting.{HasRoomFor, IsRecorded, IsBlockTaken}
use Rattle.realm_host.proofs.Checked.{head_false, order_fits, journal_fits, room_fits}

take_paired : (order : ℕ) → (needs_of (cmd.Take order)).paired ≡ true
unfolding needs_of
take_paired order = refl

take_room : (order first : ℕ) → room_taken (acts.Take order first) ≡ (needs_of (cmd.Take order)).room
unfolding needs_of room_taken reverse_of
take_room order first = refl

module _ (host : HostView) (build order : ℕ) (none : first_that_holds (checks_of (summary_of host) build (cmd.Take order)) ≡ None) where
  pub low : order ≤ 9
  low = ltb-false 9 order (head_false (nat_lt 9 order, BadOrder) [] (order_fits (summary_of host) build (cmd.Take order) none))

  pub room : (first : ℕ) → HasRoomFor host build (acts.Take order first)
  room first = record {
    room = λ some. let fits = room_fits (summary_of host) build (cmd.Take order) none in let taken = take_room order first in omega (arith, some, fits, taken);
    few_open = λ paired. journal_fits (summary_of host) build (cmd.Take order) none (take_paired order);
  }

  -- if a Take has passed its checks, its number can be turned into the order of a block
  pub new_is : (told : Option ℕ) → told ≡ (if nat_le order 9 then Some order else None) → told ≡ Some order
  new_is told is = is ∙ ap (λ t. cond t (Some order) None) (le-leb order 9 low)

  refusal_is : refusal_of host build (Ask (cmd.Take order)) ≡ first_that_holds (no_block host order ∷ [])
  unfolding refusal_of
  refusal_is = first_passes (checks_of (summary_of host) build (cmd.Take order)) (no_block host order ∷ []) none

  pub no_block_there : (no_block host order).0 ≡ true → refusal_of host build (Ask (cmd.Take order)) ≡ Some (NoBlock order)
  no_block_there is = refusal_is ∙ ap (λ t. cond t (Some (NoBlock order)) None) is

  pub replied_to : (first : ℕ) (new : HostView) → (no_block host order).0 ≡ false → IsRecorded host build (acts.Take order first) new
      → IsReplied host build (cmd.Take order) (FirstPage (length (pages_of_build host build))) new
  replied_to first new is recorded = record {
    act = acts.Take order first;
    accepted = record {
      not_refused = refusal_is ∙ ap (λ t. cond t (Some (NoBlock order)) None) is;
      act_of = (first, refl);
      legal = recorded.legal;
      grows = recorded.grows;
    };
    reply_is = refl;
  }

  module _ (number : ℕ) (same : number ≡ order) where
    pub room_of : (first : ℕ) → HasRoomFor host build (acts.Take number first)
    room_of first = subst (λ n. HasRoomFor host build (acts.Take n first)) (sym same) (room first)

    pub low_of : number ≤ 9
    low_of = subst (λ n. n ≤ 9) (sym same) low

    pub told_none : (new : HostView) → IsBlockTaken host build number None new → (refusal_of host build (Ask (cmd.Take order)) ≡ Some (NoBlock number)) × (new ≡ host)
    told_none new taken = (no_block_there (ap (λ n. (no_block host n).0) (sym same) ∙ taken.0) ∙ ap (λ n. Some (NoBlock n)) (sym same), taken.1)

    pub told_some : (first page : ℕ) (new : HostView) → page ≡ length (pages_of_build host build) → IsBlockTaken host build number (Some first) new
        → IsReplied host build (cmd.Take order) (FirstPage page) new
    told_some first page new page_is taken =
        subst (λ n. IsReplied host build (cmd.Take order) (FirstPage n) new) (sym page_is)
        (replied_to first new (ap (λ n. (no_block host n).0) (sym same) ∙ taken.0) (subst (λ n. IsRecorded host build (acts.Take n first) new) same taken.1))
