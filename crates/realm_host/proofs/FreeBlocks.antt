-- Proofs that a block is free in the page store if and only if no build leases a granule of the block.
use Rattle.std.proofs.Common.{◌≡◌, ℕ, zero, suc, ◌+◌, ◌-◌, ◌%◌, ◌^◌, ◌<◌, ◌≤◌, Bool, true, false, List, [], ◌∷◌, length, map, Option, Some, None, refl, arith}
use Rattle.std.specs.Prelude.{is_none, slice_get}
use Rattle.std.specs.List.{list_any, range_with_len}
use Rattle.std.proofs.lemmas.Bool.{and_parts, and_from, eqb-true, eq-eqb, le-leb}
use Rattle.std.proofs.lemmas.Option.{slice_get_within}
use Rattle.std.proofs.lemmas.List.{length-map}
use Rattle.std.proofs.lemmas.Nat.{pow_pos}
use Rattle.page_arena.specs.Page.{is_free}
use Rattle.page_arena.specs.Block.{IsFreeBlock}
use Rattle.realm_model.specs.Act.{block}
use Rattle.realm_model.specs.World.{World, is_leased_to}
use Rattle.realm_model.proofs.Leases.{leased, leased_from}
use Rattle.realm_model.proofs.Lists.{all_from_in, all_in}
use Rattle.realm_host.specs.Refusals.{is_free_block}
use Rattle.realm_host.proofs.Ranges.{any_from, none_from}
use Rattle.rmi_monitor.proofs.Flags.{flag_free}
use Rattle.rmi_monitor.proofs.Ranges.{in_range_from, range_in}

-- ---- one granule

pub free_flag : (leases : List (Option ℕ)) (g : ℕ) → slice_get leases g ≡ Some None → is_free (map is_none leases) g ≡ true
free_flag [] g h = cc
free_flag (None ∷ leases) zero h = refl
free_flag (Some b ∷ leases) zero h = cc
free_flag (lease ∷ leases) (suc g) h = free_flag leases g h

-- ---- a block

module _ (world : World) (order first : ℕ) where
  abbrev flags : List Bool
  flags = map is_none world.leases

  abbrev is_unleased : ℕ → Bool
  is_unleased = is_leased_to None world.leases

  pub free_block : order ≤ 9 → IsFreeBlock flags order first → is_free_block world order first ≡ true
  free_block low is =
      and_from _ _ (and_from _ _ (le-leb order 9 low) (eq-eqb (first % 2 ^ order) 0 is.aligned))
      (all_from_in is_unleased (block order first) (λ g here.
      let between = range_in first (2 ^ order) g here in
      leased_from None world.leases g (flag_free world.leases g (is.run.each g between.low between.high))))

  pub block_free : is_free_block world order first ≡ true → IsFreeBlock flags order first
  block_free is =
      let parts = and_parts _ _ is in
      let start = and_parts _ _ parts.0 in
      let some : 0 < 2 ^ order = pow_pos order in
      let each : (g : ℕ) → first ≤ g → g < first + 2 ^ order → slice_get world.leases g ≡ Some None =
      λ g low high. leased None world.leases g (all_in is_unleased (block order first) g parts.1 (in_range_from first (2 ^ order) g low high)) in
      let last : first + 2 ^ order - 1 < length world.leases = slice_get_within world.leases (first + 2 ^ order - 1) None (each (first + 2 ^ order - 1) (omega arith) (omega arith)) in
      let long : length flags ≡ length world.leases = length-map world.leases is_none in
      record {
        aligned = eqb-true (first % 2 ^ order) 0 start.1;
        inside = omega arith;
        run = record { each = λ g low high. free_flag world.leases g (each g low high) };
      }

pub some_block : (world : World) (order first : ℕ) → order ≤ 9 → IsFreeBlock (map is_none world.leases) order first
    → list_any (is_free_block world order) (range_with_len 0 (length world.leases)) ≡ true
some_block world order first low is =
    let some : 0 < 2 ^ order = pow_pos order in
    let long : length (map is_none world.leases) ≡ length world.leases = length-map world.leases is_none in
    let inside = is.inside in
    any_from (is_free_block world order) (range_with_len 0 (length world.leases)) first
    (in_range_from 0 (length world.leases) first (omega arith) (omega arith)) (free_block world order first low is)

pub none_block : (world : World) (order : ℕ) → ((first : ℕ) → IsFreeBlock (map is_none world.leases) order first → ⊥)
    → list_any (is_free_block world order) (range_with_len 0 (length world.leases)) ≡ false
none_block world order none =
    none_from (is_free_block world order) (range_with_len 0 (length world.leases)) (λ first h. none first (block_free world order first h))
