-- Proofs that a command can ask for an operation if and only if `act_of` returns that operation, given the VMID, REC
-- number or byte that the operation holds. Lemmas about undos are here too.
use Rattle.std.proofs.Common.{◌≡◌, ℕ, ◌-◌, ◌↔◌, Bool, true, false, List, length, drop, Option, Some, None, sym, ap, ◌∙◌}
use Rattle.std.specs.Prelude.{IsTrue, slice_get, option_map, option_and_then}
use Rattle.std.specs.List.{last_or}
use Rattle.std.proofs.lemmas.Option.{same_Some}
use Rattle.granule_addr.specs.declared.width.Root.{Root}
use Rattle.host_commands.specs.Acts.{act_of, root_of}
use Rattle.host_commands.specs.Needs.{operands}
use Rattle.host_commands.specs.declared.cmd.Cmd.{Cmd}
use Rattle.host_commands.specs.declared.cmd.Cmd.TheVariants.{Peek, Realm, Rec}
use Rattle.host_commands.specs.declared.reply.Allocated.{Allocated}
use Rattle.realm_model.specs.Kind.{act_kind}
use Rattle.host_commands.specs.declared.reply.Undone.{Undone}
use Rattle.realm_model.specs.Act.{reverse_of}
use Rattle.realm_model.specs.declared.act.Act.{Act}
use Rattle.realm_model.specs.declared.act.Act.TheVariants as acts
use Rattle.realm_program.specs.Fitting.{AreGranules, IsMadeOf, IsFittingUndo}
use Rattle.realm_program.specs.Allocation.{allocated_in}
use Rattle.realm_program.proofs.Held.{same_granules}

-- ---- the values allocated for a command are those in its operation

module _ (allocated : Allocated) (act : Act) where
  allocated_peek : (offset : ℕ) (o : Option ℕ) → option_and_then (λ g. Some (acts.Peek g offset allocated.byte)) o ≡ Some act
      → option_and_then (λ g. Some (acts.Peek g offset (allocated_in act).byte)) o ≡ Some act
  allocated_peek offset None e = cc
  allocated_peek offset (Some g) e =
      ap (λ (a : Act). Some (acts.Peek g offset (allocated_in a).byte)) (sym (same_Some (acts.Peek g offset allocated.byte) act e)) ∙ e

  allocated_root : (g : ℕ) (o : Option Root) → option_map (λ (tables : Root). acts.Realm g tables allocated.vmid) o ≡ Some act
      → option_map (λ (tables : Root). acts.Realm g tables (allocated_in act).vmid) o ≡ Some act
  allocated_root g None e = cc
  allocated_root g (Some tables) e =
      ap (λ (a : Act). Some (acts.Realm g tables (allocated_in a).vmid)) (sym (same_Some (acts.Realm g tables allocated.vmid) act e)) ∙ e

  allocated_realm : (root : Option Root) (o : Option ℕ) → option_and_then (λ g. option_map (λ (tables : Root). acts.Realm g tables allocated.vmid) root) o ≡ Some act
      → option_and_then (λ g. option_map (λ (tables : Root). acts.Realm g tables (allocated_in act).vmid) root) o ≡ Some act
  allocated_realm root None e = cc
  allocated_realm root (Some g) e = allocated_root g root e

  allocated_rec : (granules : List ℕ) (o : Option ℕ) → option_and_then (λ g. Some (acts.Rec g (record { items = granules }) allocated.number)) o ≡ Some act
      → option_and_then (λ g. Some (acts.Rec g (record { items = granules }) (allocated_in act).number)) o ≡ Some act
  allocated_rec granules None e = cc
  allocated_rec granules (Some g) e =
      ap (λ (a : Act). Some (acts.Rec g (record { items = granules }) (allocated_in a).number)) (sym (same_Some (acts.Rec g (record { items = granules }) allocated.number) act e)) ∙ e

  allocated_again : (cmd : Cmd) (granules : List ℕ) → act_of cmd granules allocated ≡ Some act → act_of cmd granules (allocated_in act) ≡ Some act
  unfolding act_of
  allocated_again (Peek page offset) granules e = allocated_peek offset (slice_get granules 0) e
  allocated_again (Realm rd root width) granules e = allocated_realm (root_of width (drop 1 granules)) (slice_get granules 0) e
  allocated_again (Rec page auxiliaries) granules e = allocated_rec (drop 1 granules) (slice_get granules 0) e
  allocated_again _ granules e = e

-- ---- commands

module _ (pages : List ℕ) (cmd : Cmd) (act : Act) (granules : List ℕ) (allocated : Allocated) (o : Option Act)
    (are : AreGranules pages (operands cmd) granules) (allocated_is : allocated ≡ allocated_in act) (o_is : o ≡ act_of cmd granules allocated) where
  -- if `cmd` can ask for `act`, then `act_of` returns `act`, given the granules of the command's pages and the values
  -- allocated for `act`
  made_again : IsMadeOf pages cmd act → o ≡ Some act
  made_again made =
      let same : granules ≡ made.granules = same_granules granules made.granules (sym are ∙ made.are_granules) in
      o_is ∙ (λ i. act_of cmd (same i) (allocated_is i)) ∙ allocated_again made.allocated act cmd made.granules made.act_is

  pub made_same : (made : Act) (r : Bool) → o ≡ Some made → ((r ≡ true) → (made ≡ act)) × ((made ≡ act) → (r ≡ true)) → IsTrue r ↔ IsMadeOf pages cmd act
  made_same made r is says = (
    (λ t. record { granules = granules; allocated = allocated; are_granules = are; act_is = sym o_is ∙ is ∙ ap (λ (a : Act). Some a) (says.0 t) }),
    (λ h. says.1 (same_Some made act (sym is ∙ made_again h))),
  )

  pub made_none : o ≡ None → IsTrue false ↔ IsMadeOf pages cmd act
  made_none is = ((λ t. absurd (let no : false ≡ true = t in cc)), (λ h. let no : None ≡ Some act = sym is ∙ made_again h in cc))

-- ---- undos

module _ (opened : List Act) (undone : Undone) (newest act : Act) (last : last_or None opened ≡ Some newest) where
  pub undone_act : IsFittingUndo opened undone act → reverse_of newest ≡ Some act
  undone_act h = ap (option_and_then reverse_of) (sym last) ∙ h.act_is

  pub undone_kind : IsFittingUndo opened undone act → act_kind newest ≡ Some undone.kind
  undone_kind h = ap (option_and_then act_kind) (sym last) ∙ h.kind_is

  pub undone_from : reverse_of newest ≡ Some act → act_kind newest ≡ Some undone.kind → undone.left ≡ length opened - 1 → IsFittingUndo opened undone act
  undone_from back kind left = record {
    act_is = ap (option_and_then reverse_of) last ∙ back;
    kind_is = ap (option_and_then act_kind) last ∙ kind;
    left_is = left;
  }
