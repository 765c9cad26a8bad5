use Rattle.std.proofs.Common.{◌≡◌, ◌<◌, ◌∙◌, ℕ, List, Some, length, refl, sym, ap, subst}
use Rattle.std.specs.Prelude.{slice_get}
use Rattle.std.specs.List.{All}
use Rattle.std.proofs.lemmas.Result.{err_from_is_err_and}
use Rattle.realm_model.specs.History.{IsLegal}
use Rattle.host_commands.specs.declared.reply.Reply.{Reply}
use Rattle.host_commands.specs.Acts.{act_of}
use Rattle.host_commands.specs.Checks.{AreFound, checks_of, first_that_holds}
use Rattle.host_commands.specs.Replies.{reply_of}
use Rattle.host_ledger.specs.View.{HostView, world_of, pages_of_build}
use Rattle.host_ledger.specs.Summary.{summary_of}
use Rattle.realm_host.specs.Allocation.{allocated_for, IsPeekRefused}
use Rattle.realm_host.specs.Answer.{IsReplied}
use Rattle.realm_host.proofs.Asked.{plain_of, refused_by_needs, all_leased, long, can_act, not_read, no_act, act_refused, replied_to}
use Rattle.realm_host.proofs.host.Host.ask.Goals as goal

pub returns-in_err-granules : goal.returns-in_err-granules
returns-in_err-granules g c =
    let told = err_from_is_err_and c.from_residual.result c.from_residual.ensures.1 in
    rw (told.1, told.2) (
      refused_by_needs c.args.self.now c.args.build c.args.cmd.now _
          (ap (λ (h : HostView). first_that_holds (checks_of (summary_of h) c.args.build c.args.cmd.now)) (sym c.self.view_is) ∙ c.in_err-granules.ensures.refusal),
      refl,
    )

pub allocated_for-requires : goal.allocated_for-requires
allocated_for-requires g c = record {
  leased = subst (All (λ (x : ℕ). slice_get (world_of c.args.self.now).leases x ≡ Some (Some c.args.build))) (sym c.as_slice.ensures.value)
      (all_leased c.args.self.now (subst (λ (h : HostView). IsLegal h.limits h.history) c.self.view_is c.self.invariant.mirror.legal) c.args.build
      c.args.cmd.now c.in_ok-granules.granules.items (subst (λ (h : HostView). c.args.build < h.limits.builds) c.self.view_is c.in_ok-granules.ensures.there)
      (ap (λ (h : HostView). first_that_holds (checks_of (summary_of h) c.args.build c.args.cmd.now)) (sym c.self.view_is) ∙ c.in_ok-granules.ensures.none)
      (subst (λ (h : HostView). AreFound (summary_of h) c.args.build c.args.cmd.now c.in_ok-granules.granules.items) c.self.view_is c.in_ok-granules.ensures.granules));
  named = ap length c.as_slice.ensures.value ∙ long c.args.self.now (subst (λ (h : HostView). IsLegal h.limits h.history) c.self.view_is c.self.invariant.mirror.legal)
      c.args.build c.args.cmd.now c.in_ok-granules.granules.items (subst (λ (h : HostView). c.args.build < h.limits.builds) c.self.view_is c.in_ok-granules.ensures.there)
      (ap (λ (h : HostView). first_that_holds (checks_of (summary_of h) c.args.build c.args.cmd.now)) (sym c.self.view_is) ∙ c.in_ok-granules.ensures.none)
      (subst (λ (h : HostView). AreFound (summary_of h) c.args.build c.args.cmd.now c.in_ok-granules.granules.items) c.self.view_is c.in_ok-granules.ensures.granules);
}

pub returns-in-Err : goal.returns-in-Err
returns-in-Err g c = (
  not_read c.args.self.now (subst (λ (h : HostView). IsLegal h.limits h.history) c.self.view_is c.self.invariant.mirror.legal) c.args.build c.args.cmd.now
      c.in_ok-granules.granules.items (subst (λ (h : HostView). c.args.build < h.limits.builds) c.self.view_is c.in_ok-granules.ensures.there)
      (ap (λ (h : HostView). first_that_holds (checks_of (summary_of h) c.args.build c.args.cmd.now)) (sym c.self.view_is) ∙ c.in_ok-granules.ensures.none)
      (subst (λ (h : HostView). AreFound (summary_of h) c.args.build c.args.cmd.now c.in_ok-granules.granules.items) c.self.view_is c.in_ok-granules.ensures.granules)
      (plain_of c.args.cmd.now c.in_default.not-Take) c.in-Err.rmi
      (subst (λ (gs : List ℕ). IsPeekRefused c.args.self.now c.args.cmd.now gs c.in-Err.rmi) c.as_slice.ensures.value c.in-Err.ensures.err),
  refl,
)

pub returns-in_default-act_of : goal.returns-in_default-act_of
returns-in_default-act_of g c = (
  no_act c.args.self.now (subst (λ (h : HostView). IsLegal h.limits h.history) c.self.view_is c.self.invariant.mirror.legal) c.args.build c.args.cmd.now
      c.in_ok-granules.granules.items (subst (λ (h : HostView). c.args.build < h.limits.builds) c.self.view_is c.in_ok-granules.ensures.there)
      (ap (λ (h : HostView). first_that_holds (checks_of (summary_of h) c.args.build c.args.cmd.now)) (sym c.self.view_is) ∙ c.in_ok-granules.ensures.none)
      (subst (λ (h : HostView). AreFound (summary_of h) c.args.build c.args.cmd.now c.in_ok-granules.granules.items) c.self.view_is c.in_ok-granules.ensures.granules)
      (plain_of c.args.cmd.now c.in_default.not-Take)
      (ap (act_of c.args.cmd.now c.in_ok-granules.granules.items) (sym (c.in-Ok.ensures.ok
      ∙ ap (λ (gs : List ℕ). allocated_for c.args.self.now c.args.build c.args.cmd.now gs) c.as_slice.ensures.value)) ∙ sym c.in_default-act_of.ensures.act),
  refl,
)

pub act-requires : goal.act-requires
act-requires g c = can_act c.args.self.now (subst (λ (h : HostView). IsLegal h.limits h.history) c.self.view_is c.self.invariant.mirror.legal) c.args.build
    c.args.cmd.now c.in_ok-granules.granules.items (subst (λ (h : HostView). c.args.build < h.limits.builds) c.self.view_is c.in_ok-granules.ensures.there)
    (ap (λ (h : HostView). first_that_holds (checks_of (summary_of h) c.args.build c.args.cmd.now)) (sym c.self.view_is) ∙ c.in_ok-granules.ensures.none)
    (subst (λ (h : HostView). AreFound (summary_of h) c.args.build c.args.cmd.now c.in_ok-granules.granules.items) c.self.view_is c.in_ok-granules.ensures.granules) c.in-Some.act
    (ap (act_of c.args.cmd.now c.in_ok-granules.granules.items) (sym (c.in-Ok.ensures.ok
    ∙ ap (λ (gs : List ℕ). allocated_for c.args.self.now c.args.build c.args.cmd.now gs) c.as_slice.ensures.value)) ∙ sym c.in-Some.ensures.act) c.in-Some.ensures.in_range

pub returns-in-Err-act : goal.returns-in-Err-act
returns-in-Err-act g c = (
  act_refused c.args.self.now (subst (λ (h : HostView). IsLegal h.limits h.history) c.self.view_is c.self.invariant.mirror.legal) c.args.build c.args.cmd.now
      c.in_ok-granules.granules.items (subst (λ (h : HostView). c.args.build < h.limits.builds) c.self.view_is c.in_ok-granules.ensures.there)
      (ap (λ (h : HostView). first_that_holds (checks_of (summary_of h) c.args.build c.args.cmd.now)) (sym c.self.view_is) ∙ c.in_ok-granules.ensures.none)
      (subst (λ (h : HostView). AreFound (summary_of h) c.args.build c.args.cmd.now c.in_ok-granules.granules.items) c.self.view_is c.in_ok-granules.ensures.granules)
      (plain_of c.args.cmd.now c.in_default.not-Take) c.in-Some.act (ap (act_of c.args.cmd.now c.in_ok-granules.granules.items)
      (sym (c.in-Ok.ensures.ok ∙ ap (λ (gs : List ℕ). allocated_for c.args.self.now c.args.build c.args.cmd.now gs) c.as_slice.ensures.value))
      ∙ sym c.in-Some.ensures.act) c.in-Err-act.rmi c.in-Err-act.ensures.0,
  c.in-Err-act.ensures.1,
)

pub returns : goal.returns
returns g c =
    subst (λ (r : Reply). IsReplied c.args.self.now c.args.build c.args.cmd.now r c.act.new.self)
    (sym (c.reply_of-reply.ensures ∙ ap (λ (n : ℕ). reply_of n c.in-Some.act) (c.page_count.ensures ∙ ap (λ (h : HostView). length (pages_of_build h c.args.build)) c.self.view_is)))
    (replied_to c.args.self.now (subst (λ (h : HostView). IsLegal h.limits h.history) c.self.view_is c.self.invariant.mirror.legal) c.args.build c.args.cmd.now
    c.in_ok-granules.granules.items (subst (λ (h : HostView). c.args.build < h.limits.builds) c.self.view_is c.in_ok-granules.ensures.there)
    (ap (λ (h : HostView). first_that_holds (checks_of (summary_of h) c.args.build c.args.cmd.now)) (sym c.self.view_is) ∙ c.in_ok-granules.ensures.none)
    (subst (λ (h : HostView). AreFound (summary_of h) c.args.build c.args.cmd.now c.in_ok-granules.granules.items) c.self.view_is c.in_ok-granules.ensures.granules)
    (plain_of c.args.cmd.now c.in_default.not-Take) c.in-Some.act (ap (act_of c.args.cmd.now c.in_ok-granules.granules.items)
    (sym (c.in-Ok.ensures.ok ∙ ap (λ (gs : List ℕ). allocated_for c.args.self.now c.args.build c.args.cmd.now gs) c.as_slice.ensures.value))
    ∙ sym c.in-Some.ensures.act) c.act.new.self c.in_default-act.ensures)
