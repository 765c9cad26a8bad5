-- Lemmas on the cells that the creation of a realm writes, and on the facts that follow if all its checks pass.
use Rattle.std.proofs.Common.{◌≡◌, ◌≤◌, ◌%◌, ℕ, true, false, cond, ◌&&◌, ◌||◌, not, List, [], ◌∷◌, map, Some, refl, sym, ap, ◌∙◌}
use Rattle.std.specs.Prelude.{◌==◌, nat_le}
use Rattle.std.specs.List.{list_all}
use Rattle.std.proofs.lemmas.Bool.{and_parts, and_from, eqb-true, eq-eqb, eqb-false, ne_eqb, leb-true}
use Rattle.granule_addr.specs.Ipa.{is_width}
use Rattle.granule_addr.specs.Root.{start_count, starting_tables}
use Rattle.granule_addr.specs.declared.width.Root.{Root}
use Rattle.granule_addr.specs.Page.{zero_page}
use Rattle.realm_model.specs.declared.states.GranuleState.TheVariants.{Rd, Rtt as InRtt}
use Rattle.realm_model.specs.Machine.{Cell, Machine, Seen, seen, held}
use Rattle.realm_model.specs.Update.{Update, Put}
use Rattle.realm_model.specs.Command.Check.{is_delegated, is_in}
use Rattle.realm_model.specs.Command.Realm.{new_realm, is_start}
use Rattle.realm_model.proofs.Booleans.{not_true}
use Rattle.realm_model.proofs.Lists.{AllDistinct}
use Rattle.realm_model.proofs.Roots.{starting_tables-AllDistinct}
use Rattle.realm_model.proofs.Written.{each_put, put_seen, seen-each_put, put_at, put_at-each_put}

-- the cell of the RD of a new realm
abbrev pub new_rd : ℕ → Root → ℕ → Cell
new_rd rd root vmid = record { state = Rd; realm = Some rd; bytes = zero_page; descriptor = Some (new_realm vmid root) }

-- the updates that create a realm
abbrev pub creation : ℕ → Root → ℕ → List Update
creation rd root vmid = Put rd (new_rd rd root vmid) ∷ each_put (held InRtt rd) (starting_tables root)

pub seen-creation : (machine : Machine) (rd : ℕ) (root : Root) (vmid : ℕ)
    → Put rd (new_rd rd root vmid) ∷ map (put_seen (held InRtt rd)) (map (seen machine) (starting_tables root)) ≡ creation rd root vmid
seen-creation machine rd root vmid = ap (λ us. Put rd (new_rd rd root vmid) ∷ us) (seen-each_put machine (held InRtt rd) (starting_tables root))

pub put_at-creation : (rd : ℕ) (root : Root) (vmid k : ℕ) (c : Cell) → put_at (creation rd root vmid) k c ≡ cond (is_in k (starting_tables root))
    (held InRtt rd) (cond (k == rd) (new_rd rd root vmid) c)
put_at-creation rd root vmid k c = put_at-each_put (held InRtt rd) (starting_tables root) k (cond (k == rd) (new_rd rd root vmid) c)

pub put_at-creation_rd : (rd : ℕ) (root : Root) (vmid : ℕ) (c : Cell) → AllDistinct (rd ∷ starting_tables root) → put_at (creation rd root vmid) rd c ≡ new_rd rd root vmid
put_at-creation_rd rd root vmid c different =
    put_at-creation rd root vmid rd c
    ∙ ap (λ t. cond t (held InRtt rd) (cond (rd == rd) (new_rd rd root vmid) c)) different.0
    ∙ ap (λ t. cond t (new_rd rd root vmid) c) (eq-eqb rd rd refl)

-- ---- the checks

pub record CanBeMade (vmids : ℕ) (used : List ℕ) (machine : Machine) (rd : ℕ) (root : Root) (vmid : ℕ) : Type 0 where
  pub width : is_width root.width ≡ true
  pub aligned : root.first % start_count root.width ≡ 0
  pub delegated : list_all is_delegated (map (seen machine) (rd ∷ starting_tables root)) ≡ true
  pub different : AllDistinct (rd ∷ starting_tables root)
  pub least : 1 ≤ vmid
  pub most : vmid ≤ vmids
  pub free : is_in vmid used ≡ false

starts_delegated : (rd : Seen) (tables : List Seen) → list_all (is_start rd) tables ≡ true → list_all is_delegated tables ≡ true
starts_delegated rd [] h = refl
starts_delegated rd (t ∷ tables) h = let parts = and_parts _ _ h in and_from _ _ (and_parts _ _ parts.0).0 (starts_delegated rd tables parts.1)

starts_apart : (machine : Machine) (rd : ℕ) (gs : List ℕ) → list_all (is_start (seen machine rd)) (map (seen machine) gs) ≡ true → is_in rd gs ≡ false
starts_apart machine rd [] h = refl
starts_apart machine rd (g ∷ gs) h =
    let parts = and_parts _ _ h in
    let other : (rd == g) ≡ false = ne_eqb rd g (λ e. eqb-false g rd (not_true _ (and_parts _ _ parts.0).1) (sym e)) in
    ap (λ t. t || is_in rd gs) other ∙ starts_apart machine rd gs parts.1

pub can_be_made : (vmids : ℕ) (used : List ℕ) (machine : Machine) (rd : ℕ) (root : Root) (vmid : ℕ)
    → (is_width root.width && root.first % start_count root.width == 0
    && is_delegated (seen machine rd) && list_all (is_start (seen machine rd)) (map (seen machine) (starting_tables root))
    && nat_le 1 vmid && nat_le vmid vmids && not (is_in vmid used)) ≡ true
    → CanBeMade vmids used machine rd root vmid
can_be_made vmids used machine rd root vmid all =
    let free = and_parts _ _ all in
    let most = and_parts _ _ free.0 in
    let least = and_parts _ _ most.0 in
    let tables = and_parts _ _ least.0 in
    let own = and_parts _ _ tables.0 in
    let shape = and_parts _ _ own.0 in
    record {
      width = shape.0;
      aligned = eqb-true (root.first % start_count root.width) 0 shape.1;
      delegated = and_from _ _ own.1 (starts_delegated (seen machine rd) (map (seen machine) (starting_tables root)) tables.1);
      different = (starts_apart machine rd (starting_tables root) tables.1, starting_tables-AllDistinct root);
      least = leb-true 1 vmid least.1;
      most = leb-true vmid vmids most.1;
      free = not_true _ free.1;
    }
