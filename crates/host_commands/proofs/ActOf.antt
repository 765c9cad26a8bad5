-- Proofs that the operation of each command names the granules of the command's pages, and is not a reverse.
use Rattle.std.proofs.Common.{◌≡◌, ℕ, ◌≤◌, true, false, Bool, cond, List, [], ◌∷◌, length, Option, Some, None, refl, sym, ap, ◌∙◌, subst, arith}
use Rattle.std.specs.Prelude.{◌&&◌, option_map, slice_get}
use Rattle.std.specs.Str.{bytes_eq}
use Rattle.std.proofs.lemmas.Bool.{and_parts}
use Rattle.std.proofs.lemmas.Option.{same_Some}
use Rattle.std.proofs.lemmas.Slice.Eq.{bytes_eq-Decides}
use Rattle.granule_addr.specs.Ipa.{is_width}
use Rattle.granule_addr.specs.Root.{starting_tables}
use Rattle.granule_addr.specs.declared.width.Root.{Root}
use Rattle.arrayvec.specs.ArrayVec.{ArrayVec}
use Rattle.realm_model.specs.declared.act.Act.{Act}
use Rattle.realm_model.specs.declared.act.Act.TheVariants as acts
use Rattle.realm_model.specs.Act.{named, is_reverse, reverse_of}
use Rattle.realm_model.specs.Room.{room_taken}
use Rattle.host_commands.specs.declared.cmd.Cmd.{Cmd}
use Rattle.host_commands.specs.declared.cmd.Cmd.TheVariants.{Take, Fill, Peek, Delegate, Realm, Rtt, Ripas, Data, Unknown, Rec, Activate, Enter, Exit, Poke}
use Rattle.host_commands.specs.declared.reply.Allocated.{Allocated}
use Rattle.host_commands.specs.Needs.{operands, needs_of}
use Rattle.host_commands.specs.Acts.{act_of, act_if, is_ipa, is_level, root_of}
use Rattle.host_commands.specs.Laws.{IsOfCommand}

-- ---- parts of the definition

pub act_in_range : (t : Bool) (a act : Act) → act_if t a ≡ Some act → a ≡ act
act_in_range true a act e = same_Some a act e
act_in_range false a act e = cc

pub none_left : (gs : List ℕ) → length gs ≡ 0 → gs ≡ []
none_left [] e = refl
none_left (g ∷ gs) e = absurd (omega arith)

-- if `cond t (Some root) None` is `Some r`, the test `t` holds, and `r` is `root`
pub root_at : (t : Bool) (root r : Root) → cond t (Some root) None ≡ Some r → (t ≡ true) × (root ≡ r)
root_at true root r e = (refl, same_Some root r e)
root_at false root r e = cc

pub tables_are : (width : ℕ) (tables : List ℕ) (root : Root) → root_of width tables ≡ Some root → starting_tables root ≡ tables
tables_are width [] root e = cc
tables_are width (first ∷ rest) root e =
    let parts = root_at (is_width width && bytes_eq (first ∷ rest) (starting_tables (record { first = first; width = width }))) (record { first = first; width = width }) root e in
    let both = and_parts (is_width width) (bytes_eq (first ∷ rest) (starting_tables (record { first = first; width = width }))) parts.0 in
    ap starting_tables (sym parts.1) ∙ sym ((bytes_eq-Decides (first ∷ rest) (starting_tables (record { first = first; width = width }))).0 both.1)

pub some_root : (o : Option Root) (make : Root → Act) (act : Act) → option_map make o ≡ Some act → (root : Root) × (o ≡ Some root) × (make root ≡ act)
some_root None make act e = cc
some_root (Some root) make act e = (root, refl, same_Some (make root) act e)

-- ---- none

pub no_granule : (cmd : Cmd) (gs : List ℕ) (allocated : Allocated) → 1 ≤ length (operands cmd) → None ≡ slice_get gs 0 → None ≡ act_of cmd gs allocated
unfolding act_of operands
no_granule cmd (g ∷ gs) allocated some none = cc
no_granule (Ripas ipa count) [] allocated some none = absurd (omega arith)
no_granule Activate [] allocated some none = absurd (omega arith)
no_granule (Enter number) [] allocated some none = absurd (omega arith)
no_granule (Exit number) [] allocated some none = absurd (omega arith)
no_granule (Poke number ipa offset value) [] allocated some none = absurd (omega arith)
no_granule _ [] allocated some none = refl

-- ---- of the command

-- if `IsOfCommand` holds for an operation, it holds for each operation equal to that one
of_equal : (cmd : Cmd) (gs : List ℕ) (a act : Act) → a ≡ act → IsOfCommand cmd gs a → IsOfCommand cmd gs act
of_equal cmd gs a act same is = subst (IsOfCommand cmd gs) same is

module _ (allocated : Allocated) where
  -- `IsOfCommand` holds for the operation of a Fill; the next lemmas say so of each other command that names one page
  fill : (page value : ℕ) (gs : List ℕ) (act : Act) → length gs ≡ 1 → act_of (Fill page value) gs allocated ≡ Some act → IsOfCommand (Fill page value) gs act
  unfolding act_of named is_reverse reverse_of room_taken needs_of
  fill page value [] act long e = cc
  fill page value (g ∷ []) act long e =
      of_equal (Fill page value) (g ∷ []) (acts.Fill g value) act (same_Some (acts.Fill g value) act e) (record { command = refl; forward = refl; names = refl; paired = refl; room = refl })
  fill page value (g ∷ h ∷ gs) act long e = absurd (omega arith)

  peek : (page offset : ℕ) (gs : List ℕ) (act : Act) → length gs ≡ 1 → act_of (Peek page offset) gs allocated ≡ Some act → IsOfCommand (Peek page offset) gs act
  unfolding act_of named is_reverse reverse_of room_taken needs_of
  peek page offset [] act long e = cc
  peek page offset (g ∷ []) act long e =
      of_equal (Peek page offset) (g ∷ []) (acts.Peek g offset allocated.byte) act (same_Some (acts.Peek g offset allocated.byte) act e)
      (record { command = refl; forward = refl; names = refl; paired = refl; room = refl })
  peek page offset (g ∷ h ∷ gs) act long e = absurd (omega arith)

  delegate : (page : ℕ) (gs : List ℕ) (act : Act) → length gs ≡ 1 → act_of (Delegate page) gs allocated ≡ Some act → IsOfCommand (Delegate page) gs act
  unfolding act_of named is_reverse reverse_of room_taken needs_of
  delegate page [] act long e = cc
  delegate page (g ∷ []) act long e =
      of_equal (Delegate page) (g ∷ []) (acts.Delegate g) act (same_Some (acts.Delegate g) act e) (record { command = refl; forward = refl; names = refl; paired = refl; room = refl })
  delegate page (g ∷ h ∷ gs) act long e = absurd (omega arith)

  rtt : (page ipa level : ℕ) (gs : List ℕ) (act : Act) → length gs ≡ 1 → act_of (Rtt page ipa level) gs allocated ≡ Some act → IsOfCommand (Rtt page ipa level) gs act
  unfolding act_of named is_reverse reverse_of room_taken needs_of
  rtt page ipa level [] act long e = cc
  rtt page ipa level (g ∷ []) act long e =
      of_equal (Rtt page ipa level) (g ∷ []) (acts.Rtt g ipa level) act (act_in_range (is_ipa ipa && is_level level) (acts.Rtt g ipa level) act e)
      (record { command = refl; forward = refl; names = refl; paired = refl; room = refl })
  rtt page ipa level (g ∷ h ∷ gs) act long e = absurd (omega arith)

  unknown : (page ipa : ℕ) (gs : List ℕ) (act : Act) → length gs ≡ 1 → act_of (Unknown page ipa) gs allocated ≡ Some act → IsOfCommand (Unknown page ipa) gs act
  unfolding act_of named is_reverse reverse_of room_taken needs_of
  unknown page ipa [] act long e = cc
  unknown page ipa (g ∷ []) act long e =
      of_equal (Unknown page ipa) (g ∷ []) (acts.Unknown g ipa) act (act_in_range (is_ipa ipa) (acts.Unknown g ipa) act e)
      (record { command = refl; forward = refl; names = refl; paired = refl; room = refl })
  unknown page ipa (g ∷ h ∷ gs) act long e = absurd (omega arith)

  -- `IsOfCommand` holds for the operation of a Ripas; the next lemmas say so of each other command that names no page
  ripas : (ipa count : ℕ) (gs : List ℕ) (act : Act) → length gs ≡ 0 → act_of (Ripas ipa count) gs allocated ≡ Some act → IsOfCommand (Ripas ipa count) gs act
  unfolding act_of named is_reverse reverse_of room_taken needs_of
  ripas ipa count gs act long e =
      of_equal (Ripas ipa count) gs (acts.Ripas ipa count) act (act_in_range (is_ipa ipa) (acts.Ripas ipa count) act e)
      (record { command = refl; forward = refl; names = sym (none_left gs long); paired = refl; room = refl })

  activate : (gs : List ℕ) (act : Act) → length gs ≡ 0 → act_of (Activate) gs allocated ≡ Some act → IsOfCommand (Activate) gs act
  unfolding act_of named is_reverse reverse_of room_taken needs_of
  activate gs act long e =
      of_equal (Activate) gs (acts.Activate) act (same_Some (acts.Activate) act e) (record { command = refl; forward = refl; names = sym (none_left gs long); paired = refl; room = refl })

  enter : (number : ℕ) (gs : List ℕ) (act : Act) → length gs ≡ 0 → act_of (Enter number) gs allocated ≡ Some act → IsOfCommand (Enter number) gs act
  unfolding act_of named is_reverse reverse_of room_taken needs_of
  enter number gs act long e =
      of_equal (Enter number) gs (acts.Enter number) act (same_Some (acts.Enter number) act e) (record { command = refl; forward = refl; names = sym (none_left gs long); paired = refl; room = refl })

  exit : (number : ℕ) (gs : List ℕ) (act : Act) → length gs ≡ 0 → act_of (Exit number) gs allocated ≡ Some act → IsOfCommand (Exit number) gs act
  unfolding act_of named is_reverse reverse_of room_taken needs_of
  exit number gs act long e =
      of_equal (Exit number) gs (acts.Exit number) act (same_Some (acts.Exit number) act e) (record { command = refl; forward = refl; names = sym (none_left gs long); paired = refl; room = refl })

  poke : (number ipa offset value : ℕ) (gs : List ℕ) (act : Act) → length gs ≡ 0 → act_of (Poke number ipa offset value) gs allocated ≡ Some act → IsOfCommand (Poke number ipa offset value) gs act
  unfolding act_of named is_reverse reverse_of room_taken needs_of
  poke number ipa offset value gs act long e =
      of_equal (Poke number ipa offset value) gs (acts.Poke number ipa offset value) act (act_in_range (is_ipa ipa) (acts.Poke number ipa offset value) act e)
      (record { command = refl; forward = refl; names = sym (none_left gs long); paired = refl; room = refl })

  -- `IsOfCommand` holds for the operation of a Data; the next two lemmas say so of a Realm and a Rec
  data_of : (page ipa source : ℕ) (gs : List ℕ) (act : Act) → length gs ≡ 2 → act_of (Data page ipa source) gs allocated ≡ Some act → IsOfCommand (Data page ipa source) gs act
  unfolding act_of named is_reverse reverse_of room_taken needs_of
  data_of page ipa source [] act long e = cc
  data_of page ipa source (g ∷ []) act long e = cc
  data_of page ipa source (g ∷ s ∷ []) act long e =
      of_equal (Data page ipa source) (g ∷ s ∷ []) (acts.Data g ipa s) act (act_in_range (is_ipa ipa) (acts.Data g ipa s) act e)
      (record { command = refl; forward = refl; names = refl; paired = refl; room = refl })
  data_of page ipa source (g ∷ s ∷ h ∷ gs) act long e = absurd (omega arith)

  realm : (rd root width : ℕ) (gs : List ℕ) (act : Act) → act_of (Realm rd root width) gs allocated ≡ Some act → IsOfCommand (Realm rd root width) gs act
  unfolding act_of named is_reverse reverse_of room_taken needs_of
  realm rd root width [] act e = cc
  realm rd root width (g ∷ gs) act e =
      let made = some_root (root_of width gs) (λ tables. acts.Realm g tables allocated.vmid) act e in
      of_equal (Realm rd root width) (g ∷ gs) (acts.Realm g made.0 allocated.vmid) act made.2
      (record { command = refl; forward = refl; names = ap (λ (ts : List ℕ). g ∷ ts) (tables_are width gs made.0 made.1); paired = refl; room = refl })

  rec : (page : ℕ) (auxiliaries : ArrayVec ℕ) (gs : List ℕ) (act : Act) → act_of (Rec page auxiliaries) gs allocated ≡ Some act → IsOfCommand (Rec page auxiliaries) gs act
  unfolding act_of named is_reverse reverse_of room_taken needs_of
  rec page auxiliaries [] act e = cc
  rec page auxiliaries (g ∷ gs) act e =
      of_equal (Rec page auxiliaries) (g ∷ gs) (acts.Rec g (record { items = gs }) allocated.number) act (same_Some _ act e)
      (record { command = refl; forward = refl; names = refl; paired = refl; room = refl })

  pub of_command : (cmd : Cmd) (gs : List ℕ) (act : Act) → length gs ≡ length (operands cmd) → act_of cmd gs allocated ≡ Some act → IsOfCommand cmd gs act
  unfolding act_of operands
  of_command (Take order) gs act long e = cc
  of_command (Fill page value) gs act long e = fill page value gs act long e
  of_command (Peek page offset) gs act long e = peek page offset gs act long e
  of_command (Delegate page) gs act long e = delegate page gs act long e
  of_command (Realm rd root width) gs act long e = realm rd root width gs act e
  of_command (Rtt page ipa level) gs act long e = rtt page ipa level gs act long e
  of_command (Ripas ipa count) gs act long e = ripas ipa count gs act long e
  of_command (Data page ipa source) gs act long e = data_of page ipa source gs act long e
  of_command (Unknown page ipa) gs act long e = unknown page ipa gs act long e
  of_command (Rec page auxiliaries) gs act long e = rec page auxiliaries gs act e
  of_command Activate gs act long e = activate gs act long e
  of_command (Enter number) gs act long e = enter number gs act long e
  of_command (Exit number) gs act long e = exit number gs act long e
  of_command (Poke number ipa offset value) gs act long e = poke number ipa offset value gs act long e
