-- Proofs that a command's operation agrees with the machine if the command's allocated values do, and that the
-- allocated byte and REC number do not affect the outcome.
use Rattle.std.proofs.Common.{◌≡◌, ℕ, true, List, [], ◌∷◌, drop, Option, refl, sym, ap, ◌∙◌}
use Rattle.std.specs.Prelude.{◌==◌, ◌&&◌, is_none, slice_index, option_map}
use Rattle.std.specs.List.{All, list_all}
use Rattle.std.proofs.lemmas.Bool.{and_from, eq-eqb}
use Rattle.std.proofs.lemmas.List.Elements.{All-head, All-tail}
use Rattle.std.proofs.lemmas.Option.{same_Some}
use Rattle.realm_model.specs.declared.act.Act.{Act}
use Rattle.realm_model.specs.declared.act.Act.TheVariants as acts
use Rattle.realm_model.specs.Machine.{Limits, Seen}
use Rattle.realm_model.specs.Outcome.{outcome_of, fits}
use Rattle.host_commands.specs.declared.cmd.Cmd.{Cmd}
use Rattle.host_commands.specs.declared.cmd.Cmd.TheVariants.{Take, Fill, Peek, Delegate, Realm, Rtt, Ripas, Data, Unknown, Rec, Activate, Enter, Exit, Poke}
use Rattle.host_commands.specs.declared.reply.Allocated.{Allocated}
use Rattle.host_commands.specs.Acts.{act_of, is_ipa, is_level, of_granule, root_of}
use Rattle.host_commands.specs.Laws.{ActFits, OutcomeIsOfAnyAllocation, outcome_of_act}
use Rattle.host_commands.proofs.ActOf.{act_in_range, some_root}

-- ---- the values in an operation, which agree with the machine

each_byte : (offset byte : ℕ) (cells : List Seen) → All (λ (g : Seen). slice_index g.cell.bytes offset ≡ byte) cells → list_all (λ (g : Seen). slice_index g.cell.bytes offset == byte) cells ≡ true
each_byte offset byte [] all = refl
each_byte offset byte (g ∷ gs) all =
    and_from _ _ (eq-eqb (slice_index g.cell.bytes offset) byte (All-head (λ (g : Seen). slice_index g.cell.bytes offset ≡ byte) g gs all))
    (each_byte offset byte gs (All-tail (λ (g : Seen). slice_index g.cell.bytes offset ≡ byte) g gs all))

module _ (allocated : Allocated) (realm : Option Seen) (cells : List Seen) where
  fits_as : (a act : Act) → a ≡ act → fits a realm cells ≡ true → fits act realm cells ≡ true
  fits_as a act same fitting = ap (λ (x : Act). fits x realm cells) (sym same) ∙ fitting

  pub act_fits : (cmd : Cmd) (gs : List ℕ) (act : Act) → ActFits cmd gs allocated act realm cells
  unfolding act_of fits
  act_fits (Take order) gs act e there = cc
  act_fits (Fill page value) [] act e there = cc
  act_fits (Fill page value) (g ∷ gs) act e there = fits_as (acts.Fill g value) act (same_Some _ act e) refl
  act_fits (Peek page offset) [] act e there = cc
  act_fits (Peek page offset) (g ∷ gs) act e there = fits_as (acts.Peek g offset allocated.byte) act (same_Some _ act e) (each_byte offset allocated.byte cells there)
  act_fits (Delegate page) [] act e there = cc
  act_fits (Delegate page) (g ∷ gs) act e there = fits_as (acts.Delegate g) act (same_Some _ act e) refl
  act_fits (Realm rd root width) [] act e there = cc
  act_fits (Realm rd root width) (g ∷ gs) act e there =
      let made = some_root (root_of width gs) (λ tables. acts.Realm g tables allocated.vmid) act e in
      fits_as (acts.Realm g made.0 allocated.vmid) act made.2 (ap is_none there)
  act_fits (Rtt page ipa level) [] act e there = cc
  act_fits (Rtt page ipa level) (g ∷ gs) act e there = fits_as (acts.Rtt g ipa level) act (act_in_range (is_ipa ipa && is_level level) _ act e) refl
  act_fits (Ripas ipa count) gs act e there = fits_as (acts.Ripas ipa count) act (act_in_range (is_ipa ipa) _ act e) refl
  act_fits (Data page ipa source) [] act e there = cc
  act_fits (Data page ipa source) (g ∷ []) act e there = cc
  act_fits (Data page ipa source) (g ∷ s ∷ gs) act e there = fits_as (acts.Data g ipa s) act (act_in_range (is_ipa ipa) _ act e) refl
  act_fits (Unknown page ipa) [] act e there = cc
  act_fits (Unknown page ipa) (g ∷ gs) act e there = fits_as (acts.Unknown g ipa) act (act_in_range (is_ipa ipa) _ act e) refl
  act_fits (Rec page auxiliaries) [] act e there = cc
  act_fits (Rec page auxiliaries) (g ∷ gs) act e there = fits_as (acts.Rec g (record { items = gs }) allocated.number) act (same_Some _ act e) there
  act_fits Activate gs act e there = fits_as acts.Activate act (same_Some _ act e) refl
  act_fits (Enter number) gs act e there = fits_as (acts.Enter number) act (same_Some _ act e) refl
  act_fits (Exit number) gs act e there = fits_as (acts.Exit number) act (same_Some _ act e) refl
  act_fits (Poke number ipa offset value) gs act e there = fits_as (acts.Poke number ipa offset value) act (act_in_range (is_ipa ipa) _ act e) refl

-- ---- the outcome of the operation

module _ (limits : Limits) (used : List ℕ) (one other : Allocated) (realm : Option Seen) (cells : List Seen) where
  pub any_allocation : (cmd : Cmd) (gs : List ℕ) → OutcomeIsOfAnyAllocation limits used cmd gs one other realm cells
  unfolding act_of outcome_of
  any_allocation (Peek page offset) [] same = refl
  any_allocation (Peek page offset) (g ∷ gs) same = refl
  any_allocation (Realm rd root width) gs same =
      ap (λ (vmid : ℕ). outcome_of_act limits used (of_granule gs 0 (λ g. option_map (λ tables. acts.Realm g tables vmid) (root_of width (drop 1 gs)))) realm cells) same
  any_allocation (Rec page auxiliaries) [] same = refl
  any_allocation (Rec page auxiliaries) (g ∷ gs) same = refl
  any_allocation (Take order) gs same = refl
  any_allocation (Fill page value) gs same = refl
  any_allocation (Delegate page) gs same = refl
  any_allocation (Rtt page ipa level) gs same = refl
  any_allocation (Ripas ipa count) gs same = refl
  any_allocation (Data page ipa source) gs same = refl
  any_allocation (Unknown page ipa) gs same = refl
  any_allocation Activate gs same = refl
  any_allocation (Enter number) gs same = refl
  any_allocation (Exit number) gs same = refl
  any_allocation (Poke number ipa offset value) gs same = refl
