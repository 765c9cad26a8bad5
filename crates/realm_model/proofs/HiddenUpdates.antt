-- Proofs that a command's updates have the same effect if other builds are hidden, and change nothing visible if the
-- command's own build is hidden.
use Rattle.std.proofs.Common.{◌≡◌, ℕ, Bool, true, false, cond, List, [], ◌∷◌, map, set, Option, Some, None, refl, sym, ap, ◌∙◌}
use Rattle.std.specs.Prelude.{slice_get, option_map}
use Rattle.std.proofs.lemmas.List.{map-set}
use Rattle.std.proofs.lemmas.Option.{slice_get-map}
use Rattle.realm_model.specs.Machine.{Cell, blank, cell_at}
use Rattle.realm_model.specs.Update.{Update, Put, PutByte, Lease, Free, granule_of, cell_after, lease_before, lease_after}
use Rattle.realm_model.specs.World.{World, is_leased_to, each, updated, updated_all, masked, hidden, unleased}
use Rattle.realm_model.proofs.Booleans.{guarded}
use Rattle.realm_model.proofs.Clean.{clean_at, IsClean, IsClean-updated}
use Rattle.realm_model.proofs.Leases.{set_lease, leased-map, each-set, leased, set_cell, cell_at-each}

module _ (p : Option ℕ → Bool) where
  pub hidden-blank : (lease : Option ℕ) → hidden p lease blank ≡ blank
  hidden-blank lease = elim (p lease) as (λ t. cond t blank blank ≡ blank) [ true ↦ refl | false ↦ refl ]

  hide : (lease : Option ℕ) (cell : Cell) → p lease ≡ true → hidden p lease cell ≡ blank
  hide lease cell h = ap (λ t. cond t blank cell) h

  show : (lease : Option ℕ) (cell : Cell) → p lease ≡ false → hidden p lease cell ≡ cell
  show lease cell h = ap (λ t. cond t blank cell) h

  gone : (lease : Option ℕ) → p lease ≡ true → unleased p lease ≡ None
  gone lease h = ap (λ t. cond t None lease) h

  stays : (lease : Option ℕ) → p lease ≡ false → unleased p lease ≡ lease
  stays lease h = ap (λ t. cond t None lease) h

-- an update of a build that is not hidden
module _ (p : Option ℕ → Bool) (free : p None ≡ false) (c : ℕ) (other : p (Some c) ≡ false) where
  before_shown : (u : Update) → p (lease_before c u) ≡ false
  before_shown (Put g x) = other
  before_shown (PutByte g o v) = other
  before_shown (Lease g) = free
  before_shown (Free g) = other

  after_shown : (u : Update) → p (lease_after c u) ≡ false
  after_shown (Put g x) = other
  after_shown (PutByte g o v) = other
  after_shown (Lease g) = other
  after_shown (Free g) = free

  -- if the granule has the lease that an update requires, hiding other builds before the update or after it gives the
  -- same world
  masked-updated : (u : Update) (w : World) → is_leased_to (lease_before c u) w.leases (granule_of u) ≡ true → masked p (updated c u w) ≡ updated c u (masked p w)
  masked-updated u w h =
      let g = granule_of u in
      let old = cell_at w.machine g in
      let seen_same : cell_at (each (hidden p) w.leases w.machine) g ≡ old =
      cell_at-each (hidden p) w.leases w.machine g (lease_before c u) (hidden-blank p (lease_before c u)) (leased _ w.leases g h) ∙ show p (lease_before c u) old (before_shown u) in
      let machine : each (hidden p) (set w.leases g (lease_after c u)) (set w.machine g (cell_after u old))
      ≡ set (each (hidden p) w.leases w.machine) g (cell_after u (cell_at (each (hidden p) w.leases w.machine) g)) =
      each-set (hidden p) w.leases w.machine g (lease_after c u) (cell_after u old)
      ∙ ap (set (each (hidden p) w.leases w.machine) g) (show p (lease_after c u) (cell_after u old) (after_shown u) ∙ ap (cell_after u) (sym seen_same)) in
      let leases : map (unleased p) (set w.leases g (lease_after c u)) ≡ set (map (unleased p) w.leases) g (lease_after c u) =
      map-set (unleased p) w.leases g (lease_after c u) ∙ ap (set (map (unleased p) w.leases) g) (stays p (lease_after c u) (after_shown u)) in
      λ i. record { machine = machine i; leases = leases i }

  pub updated_all-masked : (us : List Update) (w v : World) → updated_all c us w ≡ Some v → updated_all c us (masked p w) ≡ Some (masked p v)
  unfolding updated_all
  updated_all-masked [] w v e = let same : w ≡ v = cc in ap (λ x. Some (masked p x)) same
  updated_all-masked (u ∷ us) w v e =
      let both = guarded _ _ _ e in
      ap (λ t. cond t (updated_all c us (updated c u (masked p w))) None) (leased-map (unleased p) (lease_before c u) w.leases (granule_of u) (stays p (lease_before c u) (before_shown u)) both.0)
      ∙ ap (updated_all c us) (sym (masked-updated u w both.0))
      ∙ updated_all-masked us (updated c u w) v both.1

-- an update of a hidden build
module _ (p : Option ℕ → Bool) (free : p None ≡ false) (c : ℕ) (own : p (Some c) ≡ true) where
  after_hidden : (u : Update) (cell : Cell) → hidden p (lease_after c u) (cell_after u cell) ≡ blank
  after_hidden (Put g x) cell = hide p (Some c) x own
  after_hidden (PutByte g o v) cell = hide p (Some c) (cell_after (PutByte g o v) cell) own
  after_hidden (Lease g) cell = hide p (Some c) cell own
  after_hidden (Free g) cell = show p None blank free

  after_gone : (u : Update) → unleased p (lease_after c u) ≡ None
  after_gone (Put g x) = gone p (Some c) own
  after_gone (PutByte g o v) = gone p (Some c) own
  after_gone (Lease g) = gone p (Some c) own
  after_gone (Free g) = stays p None free

  before_gone : (u : Update) → unleased p (lease_before c u) ≡ None
  before_gone (Put g x) = gone p (Some c) own
  before_gone (PutByte g o v) = gone p (Some c) own
  before_gone (Lease g) = stays p None free
  before_gone (Free g) = gone p (Some c) own

  -- if free granules are blank, a granule's visible cell is blank before an update by a hidden build
  before_hidden : (u : Update) (cell : Cell) → (lease_before c u ≡ None → cell ≡ blank) → hidden p (lease_before c u) cell ≡ blank
  before_hidden (Put g x) cell unheld = hide p (Some c) cell own
  before_hidden (PutByte g o v) cell unheld = hide p (Some c) cell own
  before_hidden (Lease g) cell unheld = show p None cell free ∙ unheld refl
  before_hidden (Free g) cell unheld = hide p (Some c) cell own

  -- if free granules are blank and the granule has the required lease, an update by a hidden build changes nothing
  -- visible
  masked-own_updated : (u : Update) (w : World) → IsClean w → is_leased_to (lease_before c u) w.leases (granule_of u) ≡ true → masked p (updated c u w) ≡ masked p w
  masked-own_updated u w clean h =
      let g = granule_of u in
      let there : slice_get w.leases g ≡ Some (lease_before c u) = leased (lease_before c u) w.leases g h in
      let unheld : lease_before c u ≡ None → cell_at w.machine g ≡ blank = λ e. clean_at w g clean (there ∙ ap Some e) in
      let machine : each (hidden p) (set w.leases g (lease_after c u)) (set w.machine g (cell_after u (cell_at w.machine g))) ≡ each (hidden p) w.leases w.machine =
      each-set (hidden p) w.leases w.machine g (lease_after c u) (cell_after u (cell_at w.machine g))
      ∙ ap (set (each (hidden p) w.leases w.machine) g) (after_hidden u (cell_at w.machine g))
      ∙ set_cell (each (hidden p) w.leases w.machine) g blank
      (cell_at-each (hidden p) w.leases w.machine g (lease_before c u) (hidden-blank p (lease_before c u)) there ∙ before_hidden u (cell_at w.machine g) unheld) in
      let leases : map (unleased p) (set w.leases g (lease_after c u)) ≡ map (unleased p) w.leases =
      map-set (unleased p) w.leases g (lease_after c u)
      ∙ ap (set (map (unleased p) w.leases) g) (after_gone u)
      ∙ set_lease (map (unleased p) w.leases) g None (slice_get-map (unleased p) w.leases g ∙ ap (option_map (unleased p)) there ∙ ap Some (before_gone u)) in
      λ i. record { machine = machine i; leases = leases i }

  pub masked-own_updated_all : (us : List Update) (w v : World) → IsClean w → updated_all c us w ≡ Some v → masked p v ≡ masked p w
  unfolding updated_all
  masked-own_updated_all [] w v clean e = let same : v ≡ w = cc in ap (masked p) same
  masked-own_updated_all (u ∷ us) w v clean e =
      let both = guarded _ _ _ e in
      masked-own_updated_all us (updated c u w) v (IsClean-updated c u w clean) both.1 ∙ masked-own_updated u w clean both.0
