use Rattle.std.proofs.Common.{◌≡◌, ◌-◌, ◌∙◌, ℕ, false, None, length, refl, sym, ap, subst}
use Rattle.std.specs.Prelude.{IsSome, nat_lt}
use Rattle.std.specs.List.{last_or}
use Rattle.realm_model.specs.History.{IsLegal}
use Rattle.host_ledger.specs.View.{HostView, open_of}
use Rattle.realm_host.proofs.Aborts.{last_undone}
use Rattle.realm_host.proofs.Pairs.{leads_back}
use Rattle.realm_host.proofs.There.{build_there}
use Rattle.realm_host.proofs.UndoAnswers.{no_build_there, nothing_there, rec_runs, undone_is, is_back, has_kind}
use Rattle.realm_host.proofs.host.Host.undo.Goals as goal

pub returns-then-not-has_build-clause-answer : goal.returns-then-not-has_build-clause-answer
returns-then-not-has_build-clause-answer g c = (
  no_build_there c.args.self.now c.args.build (subst (λ (h : HostView). nat_lt c.args.build h.limits.builds ≡ false) c.self.view_is (sym c.if-not-has_build.ensures.there)),
  refl,
)

pub returns-in_default-clause-answer : goal.returns-in_default-clause-answer
returns-in_default-clause-answer g c = (
  nothing_there c.args.self.now c.args.build (build_there _ c.args.self.now c.args.build c.self.view_is c.if-not-has_build.ensures.there)
      (sym (c.in_default.ensures.value ∙ ap (λ (h : HostView). last_or None (open_of h c.args.build)) c.self.view_is)),
  refl,
)

pub returns-then-is_running-clause-answer : goal.returns-then-is_running-clause-answer
returns-then-is_running-clause-answer g c = (
  rec_runs c.args.self.now c.args.build (build_there _ c.args.self.now c.args.build c.self.view_is c.if-not-has_build.ensures.there) c.in-Some.newest.now
      (sym (c.in-Some.ensures.value ∙ ap (λ (h : HostView). last_or None (open_of h c.args.build)) c.self.view_is)) (sym c.if-is_running.ensures),
  refl,
)

pub is_running-requires : goal.is_running-requires
is_running-requires g c = build_there _ c.args.self.now c.args.build c.self.view_is c.if-not-has_build.ensures.there

pub unwrap-kind-requires : goal.unwrap-kind-requires
unwrap-kind-requires g c = subst IsSome (sym c.kind_of.ensures) (has_kind c.in-Some.newest.now c.in-Some.ensures.paired)

pub reverse-requires : goal.reverse-requires
reverse-requires g c = record {
  there = build_there _ c.args.self.now c.args.build c.self.view_is c.if-not-has_build.ensures.there;
  legal = subst (λ (h : HostView). IsLegal h.limits h.history) c.self.view_is c.self.invariant.mirror.legal;
  back = is_back c.args.self.now c.args.build (build_there _ c.args.self.now c.args.build c.self.view_is c.if-not-has_build.ensures.there) c.in-Some.newest.now
      (sym (c.in-Some.ensures.value ∙ ap (λ (h : HostView). last_or None (open_of h c.args.build)) c.self.view_is)) c.unwrap-back.result (sym c.reverse_of.ensures ∙ c.unwrap-back.ensures)
      (sym c.if-is_running.ensures);
}

pub returns-clause-answer : goal.returns-clause-answer
returns-clause-answer g c =
    undone_is c.args.self.now c.args.build (build_there _ c.args.self.now c.args.build c.self.view_is c.if-not-has_build.ensures.there) c.in-Some.newest.now
    (sym (c.in-Some.ensures.value ∙ ap (λ (h : HostView). last_or None (open_of h c.args.build)) c.self.view_is))
    c.unwrap-back.result (sym c.reverse_of.ensures ∙ c.unwrap-back.ensures) (sym c.if-is_running.ensures)
    c.unwrap-kind.result (sym c.kind_of.ensures ∙ c.unwrap-kind.ensures) (c.open_count-left.result - 1)
    (ap (λ (n : ℕ). n - 1) (c.open_count-left.ensures.value ∙ ap (λ (h : HostView). length (open_of h c.args.build)) c.self.view_is)) c.reverse.new.self c.reverse.ensures

pub returns-clause-pair : goal.returns-clause-pair
returns-clause-pair g c =
    leads_back c.args.self.now (subst (λ (h : HostView). IsLegal h.limits h.history) c.self.view_is c.self.invariant.mirror.legal) c.args.build c.unwrap-back.result
    (is_back c.args.self.now c.args.build (build_there _ c.args.self.now c.args.build c.self.view_is c.if-not-has_build.ensures.there) c.in-Some.newest.now
    (sym (c.in-Some.ensures.value ∙ ap (λ (h : HostView). last_or None (open_of h c.args.build)) c.self.view_is))
    c.unwrap-back.result (sym c.reverse_of.ensures ∙ c.unwrap-back.ensures) (sym c.if-is_running.ensures)) c.reverse.new.self c.reverse.ensures

pub returns-clause-last : goal.returns-clause-last
returns-clause-last g c = λ none.
    last_undone c.args.self.now (subst (λ (h : HostView). IsLegal h.limits h.history) c.self.view_is c.self.invariant.mirror.legal) c.args.build c.in-Some.newest.now c.unwrap-back.result
    (sym (c.in-Some.ensures.value ∙ ap (λ (h : HostView). last_or None (open_of h c.args.build)) c.self.view_is)) (sym c.reverse_of.ensures ∙ c.unwrap-back.ensures)
    (sym (ap (λ (n : ℕ). n - 1) (c.open_count-left.ensures.value ∙ ap (λ (h : HostView). length (open_of h c.args.build)) c.self.view_is)) ∙ none) c.reverse.new.self c.reverse.ensures
