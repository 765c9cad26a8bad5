-- Proofs that no command, undo or abort distinguishes two hosts that differ only in their builds' schedule.
use Rattle.std.proofs.Common.{◌≡◌, ℕ, ◌-◌, ◌+◌, ◌≤◌, false, not, ◌&&◌, cond, List, [], ◌∷◌, ◌++◌, map, length, set, get_or}
use Rattle.std.proofs.Common.{Option, Some, None, Result, Ok, Err, refl, sym, ap, ◌∙◌, subst, arith, zero, suc, true}
use Rattle.std.specs.Prelude.{◌==◌, nat_le, nat_lt, reverse, is_some, slice_get, slice_index, slice_index_or, slice_set, unwrap_or, option_map, option_and_then}
use Rattle.std.specs.List.{last_or, list_any, filter_map, find, flat_map, range_with_len}
use Rattle.std.proofs.lemmas.Bool.{ltb-false}
use Rattle.std.proofs.lemmas.List.{map-set}
use Rattle.std.proofs.lemmas.List.Elements.{filter-append}
use Rattle.realm_model.specs.Places.{rd_of}
use Rattle.realm_model.specs.VmidsUsed.{is_vmid_used}
use Rattle.realm_model.specs.declared.act.Act.{Act}
use Rattle.realm_model.specs.declared.act.Event.{Event}
use Rattle.realm_model.specs.Act.{reverse_of}
use Rattle.realm_model.specs.Machine.{cell_at, seen}
use Rattle.realm_model.specs.History.{events_of, acts_of, open_entries, unmatched, pages_held, replay, IsInTurn, IsLegal}
use Rattle.realm_model.specs.Running.{next_number, running_count, is_running}
use Rattle.realm_model.specs.Step.{used_vmids}
use Rattle.realm_model.specs.Undoing.{by, reverses, undoing}
use Rattle.realm_model.specs.World.{World, realm_of}
use Rattle.realm_model.proofs.Booleans.{neither, some_is}
use Rattle.realm_model.proofs.Growth.{grows}
use Rattle.realm_model.proofs.HistoryParts.{split}
use Rattle.realm_model.proofs.TakenAlone.{schedule_does_not_matter}
use Rattle.realm_model.proofs.UndoAll.{undone}
use Rattle.host_commands.specs.declared.cmd.Cmd.{Cmd}
use Rattle.host_commands.specs.declared.cmd.Cmd.TheVariants.{Take, Peek}
use Rattle.host_commands.specs.declared.refusal.Refusal.{Refusal}
use Rattle.host_commands.specs.declared.refusal.Refusal.TheVariants.{NoBuild, NothingToUndo, RecRunning, NoBlock}
use Rattle.host_commands.specs.Acts.{act_of}
use Rattle.host_commands.specs.Checks.{build_checks, checks_of, first_that_holds}
use Rattle.host_commands.specs.Laws.{outcome_of_act}
use Rattle.host_commands.specs.Needs.{operands}
use Rattle.host_commands.specs.Replies.{reply_of}
use Rattle.realm_model.specs.Kind.{act_kind}
use Rattle.host_ledger.specs.declared.mark.Mark.{Mark}
use Rattle.host_ledger.specs.Summary.{summary_of}
use Rattle.host_ledger.specs.Marks.{mark_while}
use Rattle.host_ledger.specs.View.{HostView, world_of, open_of, pages_of_build, used, is_aborting, mark_of, begun, with_event}
use Rattle.host_ledger.specs.Vmids.{lowest_vmid}
use Rattle.host_ledger.proofs.Worlds.{world_is, world_of-replay}
use Rattle.realm_host.specs.declared.command.HostAnswer.{HostAnswer}
use Rattle.realm_host.specs.declared.command.HostAnswer.TheVariants.{Replied, Undone as WasUndone, Refused}
use Rattle.realm_host.specs.Abort.{checks_of_begin, checks_of_abort, undone_to, IsDown}
use Rattle.realm_host.specs.Answer.{IsActOf, IsAccepted}
use Rattle.realm_host.specs.Call.{Call, Ask, Undo}
use Rattle.realm_host.specs.Interleaving.{DidTheSame, DifferInInterleaving, AreIndistinguishable, CallRevealsNothing, BeginRevealsNothing, AbortRevealsNothing}
use Rattle.realm_host.specs.Allocation.{granules_named, byte_read, allocated_for, act_asked, outcome_asked}
use Rattle.realm_host.specs.Refusals.{is_free_block, is_newest_running, refused_by, last_checks, refusal_of}
use Rattle.realm_host.proofs.Calls.{aborted}
use Rattle.realm_host.proofs.Pairs.{one_step}

-- ---- marks by their depths

abbrev depth : Option Mark → Option ℕ
depth mark = option_map (λ (m : Mark). m.length) mark

abbrev depth_while : ℕ → Option ℕ → Option ℕ
depth_while opened None = None
depth_while opened (Some length) = cond (nat_le length opened) (Some length) None

depth-while : (opened : ℕ) (mark : Option Mark) → depth (mark_while opened mark) ≡ depth_while opened (depth mark)
depth-while opened None = refl
depth-while opened (Some mark) = elim (nat_le mark.length opened) as (λ t. depth (cond t (Some mark) None) ≡ cond t (Some mark.length) None) [ true ↦ refl | false ↦ refl ]

depth-at : (marks : List (Option Mark)) (b : ℕ) → depth (get_or marks b None) ≡ get_or (map depth marks) b None
depth-at [] b = refl
depth-at (mark ∷ marks) zero = refl
depth-at (mark ∷ marks) (suc b) = depth-at marks b

depths-while : (opened b : ℕ) (marks : List (Option Mark))
    → map depth (set marks b (mark_while opened (get_or marks b None))) ≡ set (map depth marks) b (depth_while opened (get_or (map depth marks) b None))
depths-while opened b marks =
    map-set depth marks b (mark_while opened (get_or marks b None)) ∙ ap (set (map depth marks) b) (depth-while opened (get_or marks b None) ∙ ap (depth_while opened) (depth-at marks b))

-- ---- two hosts

module _ (host twin : HostView) (same : DidTheSame host twin) where
  legal_here : IsLegal host.limits twin.history
  legal_here = subst (λ l. IsLegal l twin.history) same.limits same.twin_legal

  at_world : replay host.limits twin.history ≡ Some (world_of host)
  at_world = sym (schedule_does_not_matter host.limits host.history twin.history same.legal legal_here same.events) ∙ world_is host same.legal

  world : world_of twin ≡ world_of host
  world = world_of-replay twin (world_of host) (ap (λ l. replay l twin.history) same.limits ∙ at_world)

  acts : (b : ℕ) → acts_of b twin.history ≡ acts_of b host.history
  acts b = ap (map (λ (e : Event). e.act)) (sym (same.events b))

  opened : (b : ℕ) → open_of twin b ≡ open_of host b
  unfolding open_entries
  opened b = ap unmatched (acts b)

  pages : (b : ℕ) → pages_of_build twin b ≡ pages_of_build host b
  pages b = ap (flat_map pages_held) (opened b)

  room : (b : ℕ) → used twin b ≡ used host b
  room b = λ i. length (acts b i) + length (opened b i) + running_count (realm_of b (world i))

  pub are_indistinguishable : AreIndistinguishable host twin
  are_indistinguishable = record { world = world; opened = opened; pages = pages; room = room }

module _ (host twin : HostView) (differ : DifferInInterleaving host twin) where
  alike : AreIndistinguishable host twin
  alike = are_indistinguishable host twin differ.same

  limits : twin.limits ≡ host.limits
  limits = differ.same.limits

  -- ---- the allocated values, and the outcome

  lowest : lowest_vmid twin ≡ lowest_vmid host
  lowest = λ i. find (λ vmid. nat_le 1 vmid && nat_le vmid (limits i).vmids && not (is_vmid_used (alike.world i).machine vmid)) (range_with_len 1 (limits i).vmids)

  view : summary_of twin ≡ summary_of host
  view = λ i. record {
    builds = (limits i).builds;
    aborting = λ b. slice_index_or (differ.aborting i) b false;
    pages = λ b. alike.pages b i;
    realm = λ b. is_some (rd_of b (alike.world i));
    opened = λ b. length (alike.opened b i);
    room_left = λ b. differ.capacity i - alike.room b i;
    vmid = is_some (lowest i);
  }

  named : (b : ℕ) (cmd : Cmd) → granules_named twin b cmd ≡ granules_named host b cmd
  named b cmd = λ i. filter_map (λ page. slice_get (alike.pages b i) page) (operands cmd)

  byte : (cmd : Cmd) (gs : List ℕ) → byte_read twin cmd gs ≡ byte_read host cmd gs
  byte (Peek page offset) (g ∷ gs) = ap (λ (w : World). slice_index (cell_at w.machine g).bytes offset) alike.world
  byte _ _ = refl

  act_same : (b : ℕ) (cmd : Cmd) → act_asked twin b cmd ≡ act_asked host b cmd
  act_same b cmd =
      ap (λ gs. act_of cmd gs (allocated_for twin b cmd gs)) (named b cmd)
      ∙ (λ i. act_of cmd (granules_named host b cmd) (record { vmid = unwrap_or (lowest i) 1; number = next_number (realm_of b (alike.world i)); byte = byte cmd (granules_named host b cmd) i }))

  outcome : (b : ℕ) (cmd : Cmd) → outcome_asked twin b cmd ≡ outcome_asked host b cmd
  outcome b cmd = λ i. outcome_of_act (limits i) (used_vmids (alike.world i).machine) (act_same b cmd i) (realm_of b (alike.world i)) (map (seen (alike.world i).machine) (named b cmd i))

  -- ---- refusals

  last : (b : ℕ) (cmd : Cmd) → last_checks twin b cmd ≡ last_checks host b cmd
  last b (Take order) = ap (λ (w : World). (not (list_any (is_free_block w order) (range_with_len 0 (length w.leases))), NoBlock order) ∷ []) alike.world
  last b cmd = ap refused_by (outcome b cmd)

  newest_runs : (b : ℕ) → is_newest_running twin b ≡ is_newest_running host b
  newest_runs b = λ i. elim (last_or None (alike.opened b i)) [ Some act ↦ is_running (realm_of b (alike.world i)) act | None ↦ false ]

  refusal : (b : ℕ) (call : Call) → refusal_of twin b call ≡ refusal_of host b call
  unfolding refusal_of
  refusal b (Ask cmd) = λ i. first_that_holds (checks_of (view i) b cmd ++ last b cmd i)
  refusal b Undo = λ i. first_that_holds ((nat_le (limits i).builds b, NoBuild) ∷ (nat_lt (length (alike.opened b i)) 1, NothingToUndo) ∷ (newest_runs b i, RecRunning) ∷ [])

  act_of_call : (b : ℕ) (call : Call) (act : Act) → IsActOf host b call act → IsActOf twin b call act
  act_of_call b (Ask (Take order)) act h = h
  act_of_call b (Ask cmd) act h = act_same b cmd ∙ h
  act_of_call b Undo act h = ap (λ acts. option_and_then reverse_of (last_or None acts)) (alike.opened b) ∙ h

  -- ---- one more event, or several

  same_then : (es fs : List Event) → fs ≡ es → (c : ℕ) → events_of c (host.history ++ es) ≡ events_of c (twin.history ++ fs)
  same_then es fs e c =
      filter-append (λ x. x.build == c) host.history es
      ∙ (λ i. differ.same.events c i ++ events_of c (sym e i))
      ∙ sym (filter-append (λ x. x.build == c) twin.history fs)

  opened_then : (es fs : List Event) → fs ≡ es → (b : ℕ) → open_entries b (twin.history ++ fs) ≡ open_entries b (host.history ++ es)
  unfolding open_entries
  opened_then es fs e b = ap (λ xs. unmatched (map (λ (x : Event). x.act) xs)) (sym (same_then es fs e b))

  flags : (b n m : ℕ) → m ≡ n → slice_set twin.aborting b (is_aborting twin b && nat_lt 0 m) ≡ slice_set host.aborting b (is_aborting host b && nat_lt 0 n)
  flags b n m e = λ i. slice_set (differ.aborting i) b (slice_index_or (differ.aborting i) b false && nat_lt 0 (e i))

  deep : (b n m : ℕ) → m ≡ n → map depth (slice_set twin.marks b (mark_while m (mark_of twin b))) ≡ map depth (slice_set host.marks b (mark_while n (mark_of host b)))
  deep b n m e =
      depths-while m b twin.marks
      ∙ (λ i. set (differ.depths i) b (depth_while (e i) (get_or (differ.depths i) b None)))
      ∙ sym (depths-while n b host.marks)

  module _ (b : ℕ) (act : Act) (legal : IsLegal host.limits (host.history ++ by b act ∷ [])) where
    turned : IsInTurn host.history (by b act) → IsInTurn twin.history (by b act)
    turned turn = λ r. ap (λ acts. option_and_then reverse_of (last_or None acts)) (alike.opened b) ∙ turn r

    legal_too : IsLegal twin.limits (twin.history ++ by b act ∷ [])
    legal_too =
        let last = some_is (replay host.limits (host.history ++ by b act ∷ [])) legal.steps in
        let parts = split host.limits host.history (by b act ∷ []) last.0 legal last.1 in
        let base : replay host.limits twin.history ≡ Some parts.base = at_world host twin differ.same ∙ sym (world_is host differ.same.legal) ∙ parts.base_is in
        subst (λ l. IsLegal l (twin.history ++ by b act ∷ [])) (sym limits)
        (grows host.limits twin.history (by b act) parts.base last.0 (legal_here host twin differ.same) base
        (one_step host.limits (by b act) parts.base last.0 parts.goes_on) (turned parts.turns.0)).legal

    pub differ_then : DifferInInterleaving (with_event host b act) (with_event twin b act)
    differ_then =
        let left = ap length (opened_then (by b act ∷ []) (by b act ∷ []) refl b) in
        record {
          same = record { legal = legal; twin_legal = legal_too; limits = limits; events = same_then (by b act ∷ []) (by b act ∷ []) refl };
          capacity = differ.capacity;
          aborting = flags b _ _ left;
          depths = deep b _ _ left;
        }

  accepted : (b : ℕ) (call : Call) (act : Act) (new : HostView) → IsAccepted host b call act new → IsAccepted twin b call act (with_event twin b act)
  accepted b call act new h = record { not_refused = refusal b call ∙ h.not_refused; act_of = act_of_call b call act h.act_of; legal = legal_too b act h.legal; grows = refl }

  differ_after : (b : ℕ) (call : Call) (act : Act) (new : HostView) → IsAccepted host b call act new → DifferInInterleaving new (with_event twin b act)
  differ_after b call act new h = subst (λ n. DifferInInterleaving n (with_event twin b act)) (sym h.grows) (differ_then b act h.legal)

  unchanged : (new : HostView) → new ≡ host → DifferInInterleaving new twin
  unchanged new same = subst (λ n. DifferInInterleaving n twin) (sym same) differ

  pub call_reveals_nothing : (b : ℕ) (call : Call) (answer : HostAnswer) (new : HostView) → CallRevealsNothing host twin b call answer new
  call_reveals_nothing b (Ask cmd) (Refused reason) new h = record { then = twin; answered = (refusal b (Ask cmd) ∙ h.0, refl); differ = unchanged new h.1 }
  call_reveals_nothing b Undo (Refused reason) new h = record { then = twin; answered = (refusal b Undo ∙ h.0, refl); differ = unchanged new h.1 }
  call_reveals_nothing b (Ask cmd) (Replied reply) new h = record {
    then = with_event twin b h.act;
    answered = record { act = h.act; accepted = accepted b (Ask cmd) h.act new h.accepted; reply_is = h.reply_is ∙ sym (ap (λ ps. reply_of (length ps) h.act) (alike.pages b)) };
    differ = differ_after b (Ask cmd) h.act new h.accepted;
  }
  call_reveals_nothing b Undo (WasUndone done) new h = record {
    then = with_event twin b h.act;
    answered = record {
      act = h.act;
      accepted = accepted b Undo h.act new h.accepted;
      kind = ap (λ acts. option_and_then act_kind (last_or None acts)) (alike.opened b) ∙ h.kind;
      left = h.left ∙ sym (ap (λ (acts : List Act). length acts - 1) (alike.opened b));
    };
    differ = differ_after b Undo h.act new h.accepted;
  }
  call_reveals_nothing b Undo (Replied reply) new h = absurd h
  call_reveals_nothing b (Ask cmd) (WasUndone done) new h = absurd h

  -- ---- aborts

  begin_checks : (b : ℕ) → checks_of_begin twin b ≡ checks_of_begin host b
  begin_checks b = λ i. build_checks (view i) b ++ (nat_lt 0 (running_count (realm_of b (alike.world i))), RecRunning) ∷ []

  begun_flags : (b : ℕ) → (begun twin b).aborting ≡ (begun host b).aborting
  begun_flags b = λ i. slice_set (differ.aborting i) b (nat_lt 0 (length (alike.opened b i)))

  differ_begun : (b : ℕ) → DifferInInterleaving (begun host b) (begun twin b)
  differ_begun b = record {
    same = record { legal = differ.same.legal; twin_legal = differ.same.twin_legal; limits = limits; events = differ.same.events };
    capacity = differ.capacity;
    aborting = begun_flags b;
    depths = differ.depths;
  }

  pub begin_reveals_nothing : (b : ℕ) (result : Result ℕ Refusal) (new : HostView) → BeginRevealsNothing host twin b result new
  begin_reveals_nothing b (Err reason) new h = record { then = twin; answered = (ap first_that_holds (begin_checks b) ∙ h.0, refl); differ = unchanged new h.1 }
  begin_reveals_nothing b (Ok count) new h = record {
    then = begun twin b;
    answered = (
      ap first_that_holds (begin_checks b) ∙ h.0,
      record {
        count_is = h.1.count_is ∙ ap length (sym (alike.opened b));
        new_is = refl;
        in_abort = ap (λ fs. slice_index_or fs b false) (begun_flags b) ∙ ap (λ (n : HostView). is_aborting n b) (sym h.1.new_is) ∙ h.1.in_abort;
      },
    );
    differ = subst (λ n. DifferInInterleaving n (begun twin b)) (sym h.1.new_is) (differ_begun b);
  }

  abort_checks : (b : ℕ) → checks_of_abort twin b ≡ checks_of_abort host b
  abort_checks b = λ i. (nat_le (limits i).builds b, NoBuild) ∷ (nat_lt 0 (running_count (realm_of b (alike.world i))), RecRunning) ∷ []

  module _ (b : ℕ) (none : first_that_holds (checks_of_abort host b) ≡ None) where
    rests : (w : World) → w ≡ world_of host → running_count (realm_of b w) ≡ 0
    rests w same =
        let second = neither (nat_le host.limits.builds b) NoBuild _ none in
        let third = neither (nat_lt 0 (running_count (realm_of b (world_of host)))) RecRunning _ second.1 in
        ap (λ v. running_count (realm_of b v)) same ∙ zero_of (running_count (realm_of b (world_of host))) (ltb-false 0 (running_count (realm_of b (world_of host))) third.0)
      where
        zero_of : (n : ℕ) → n ≤ 0 → n ≡ 0
        zero_of n h = omega arith

    down : (h : HostView) → IsLegal h.limits h.history → world_of h ≡ world_of host → IsDown h b 0 (undone_to h b 0)
    down h legal same =
        let all = undone h.limits h.history b (world_of h) legal (world_is h legal) (rests (world_of h) same) in
        record { new_is = refl; legal = all.legal; opened = ap length all.none_open }

    differ_aborted : DifferInInterleaving (undone_to host b 0) (undone_to twin b 0)
    differ_aborted = record {
      same = record {
        legal = (down host differ.same.legal refl).legal;
        twin_legal = (down twin differ.same.twin_legal alike.world).legal;
        limits = limits;
        events = same_then (undoing b host.history) (undoing b twin.history) (ap (λ acts. map (by b) (reverses (reverse acts))) (alike.opened b));
      };
      capacity = differ.capacity;
      aborting = flags b 0 0 refl;
      depths = deep b 0 0 refl;
    }

  pub abort_reveals_nothing : (b : ℕ) (result : Result ℕ Refusal) (new : HostView) → AbortRevealsNothing host twin b result new
  abort_reveals_nothing b (Err reason) new h = record { then = twin; answered = (ap first_that_holds (abort_checks b) ∙ h.0, refl); differ = unchanged new h.1 }
  abort_reveals_nothing b (Ok count) new h = record {
    then = undone_to twin b 0;
    answered = (
      ap first_that_holds (abort_checks b) ∙ h.0,
      aborted twin b count (h.1.count_is ∙ ap length (sym (alike.opened b))) (undone_to twin b 0) (down b h.0 twin differ.same.twin_legal alike.world),
    );
    differ = subst (λ n. DifferInInterleaving n (undone_to twin b 0)) (sym h.1.new_is) (differ_aborted b h.0);
  }
