-- A proof that hosts with the same world and the same pages of each build have the same map.
use Rattle.std.proofs.Common.{◌≡◌, ℕ, ◌++◌, length}
use Rattle.std.specs.Prelude.{sum, slice_index}
use Rattle.std.specs.List.{flat_map, range_with_len}
use Rattle.host_ledger.specs.View.{HostView, world_of, pages_of_build}
use Rattle.realm_host.specs.Interleaving.{DidTheSame}
use Rattle.realm_host.specs.Readings.{realm_at}
use Rattle.realm_host.proofs.Interleaved.{are_indistinguishable}
use Rattle.realm_model.specs.Machine.{cell_at}
use Rattle.realm_model.specs.World.{free_set}
use Rattle.realm_plan.specs.Lines.{page_line, free_line}
use Rattle.plan_replay.specs.Run.{page_text, realm_text, build_text, map_text}

module _ (host twin : HostView) (world : world_of twin ≡ world_of host) (pages : (build : ℕ) → pages_of_build twin build ≡ pages_of_build host build) where
  page_same : (b page : ℕ) → page_text twin b page ≡ page_text host b page
  page_same b page =
      λ i. let cell = cell_at (world i).machine (slice_index (pages b i) page) in page_line b page cell.state (sum cell.bytes)

  build_same : (b : ℕ) → build_text twin b ≡ build_text host b
  build_same b = λ i. flat_map (λ page. page_same b page i) (range_with_len 0 (length (pages b i))) ++ realm_text b (realm_at (world i) b)

  -- hosts with the same world, in which each build has the same pages, have the same map
  pub map_same : map_text twin ≡ map_text host
  map_same = λ i. flat_map (λ b. build_same b i) (range_with_len 0 8) ++ free_line (length (free_set (world i)))

pub same_map : (host twin : HostView) → DidTheSame host twin → map_text twin ≡ map_text host
same_map host twin same = let look = are_indistinguishable host twin same in map_same host twin look.world look.pages
