-- Lemmas about a machine after several granules are written, one after another: the written cells, and the cells that
-- stay unchanged.
use Rattle.std.proofs.Common.{◌≡◌, ◌≢◌, ℕ, ◌<◌, true, false, ◌||◌, List, [], ◌∷◌, ◌++◌, length, map, set, get_or, refl, sym, ap, ◌∙◌, subst}
use Rattle.std.specs.Prelude.{◌==◌}
use Rattle.std.proofs.lemmas.Bool.{eqb-true, eqb-false, ne_eqb}
use Rattle.std.proofs.lemmas.List.{length-set, get_or-set_same, get_or-set_other}
use Rattle.realm_model.specs.Machine.{Cell, Machine, blank, cell_at}
use Rattle.realm_model.specs.StepLaw.{set_each}
use Rattle.realm_model.specs.Update.{Update, Put, machine_after_all}
use Rattle.realm_model.proofs.Booleans.{or_parts}
use Rattle.realm_model.specs.Command.Check.{is_in}
use Rattle.realm_model.proofs.SetEach.{length-set_each}
use Rattle.rmi_monitor.specs.Inside.{Fields, cell_of, machine_of}
use Rattle.rmi_monitor.proofs.Machines.{length-machine_of, cell_at-machine_of, same_machine}
use Rattle.rmi_monitor.proofs.Comparisons.{either}

-- a number that differs from `x` and is not in a list is not in the list with `x` in front
pub out_of : (h x : ℕ) (xs : List ℕ) → h ≢ x → is_in h xs ≡ false → is_in h (x ∷ xs) ≡ false
out_of h x xs differs out = ap (λ t. t || is_in h xs) (ne_eqb h x differs) ∙ out

module _ {X : Type 0} (y : X) where
  -- `set_each` leaves an element unchanged if its index is not among those that are set
  pub set_each_out : (places : List ℕ) (xs : List X) (k : ℕ) (d : X) → is_in k places ≡ false → get_or (set_each y places xs) k d ≡ get_or xs k d
  unfolding set_each
  set_each_out [] xs k d out = refl
  set_each_out (p ∷ places) xs k d out =
      let parts = or_parts (k == p) (is_in k places) out in
      set_each_out places (set xs p y) k d parts.1 ∙ get_or-set_other xs p k y d (eqb-false k p parts.0)

  -- after `set_each`, each index that is set, and is inside the list, has the new element
  pub set_each_in : (places : List ℕ) (xs : List X) (k : ℕ) (d : X) → k < length xs → is_in k places ≡ true → get_or (set_each y places xs) k d ≡ y
  unfolding set_each
  set_each_in [] xs k d within there = cc
  set_each_in (p ∷ places) xs k d within there =
      elim (is_in k places) as (λ t. is_in k places ≡ t → get_or (set_each y places (set xs p y)) k d ≡ y) [
        | true ↦ λ e. set_each_in places (set xs p y) k d (subst (λ n. k < n) (sym (length-set xs p y)) within) e
        | false ↦ λ e.
            let same : k ≡ p = either (k == p) (is_in k places) there (λ s. eqb-true k p s) (λ s. let clash : true ≡ false = sym s ∙ e in cc) in
            set_each_out places (set xs p y) k d e
            ∙ ap (λ j. get_or (set xs p y) j d) same
            ∙ get_or-set_same xs p y d (subst (λ j. j < length xs) same within)
      ] refl

-- the list with `x` put at index `g`, and then `y` at each index in `others`
abbrev pub put_all : {X : Type 0} → List X → ℕ → List ℕ → X → X → List X
put_all xs g others x y = set_each y others (set xs g x)

module _ {X : Type 0} (xs : List X) (g : ℕ) (others : List ℕ) (x y d : X) where
  pub length-put_all : length (put_all xs g others x y) ≡ length xs
  length-put_all = length-set_each y others (set xs g x) ∙ length-set xs g x

  pub put_all-first : is_in g others ≡ false → g < length xs → get_or (put_all xs g others x y) g d ≡ x
  put_all-first own inside = set_each_out y others (set xs g x) g d own ∙ get_or-set_same xs g x d inside

  pub put_all-rest : (h : ℕ) → h < length xs → is_in h others ≡ true → get_or (put_all xs g others x y) h d ≡ y
  put_all-rest h inside there = set_each_in y others (set xs g x) h d (subst (λ n. h < n) (sym (length-set xs g x)) inside) there

  pub put_all-out : (h : ℕ) → is_in h (g ∷ others) ≡ false → get_or (put_all xs g others x y) h d ≡ get_or xs h d
  put_all-out h out =
      let parts = or_parts (h == g) (is_in h others) out in
      set_each_out y others (set xs g x) h d parts.1 ∙ get_or-set_other xs g h x d (eqb-false h g parts.0)

-- after updates that put one cell at several granules, further updates apply to the machine with this cell at each of
-- them
pub after_puts : (places : List ℕ) (y : Cell) (updates : List Update) (machine : Machine)
    → machine_after_all (map (λ a. Put a y) places ++ updates) machine ≡ machine_after_all updates (set_each y places machine)
unfolding machine_after_all set_each
after_puts [] y updates machine = refl
after_puts (p ∷ places) y updates machine = after_puts places y updates (set machine p y)

-- updates that put one cell at several granules lead to the machine with this cell at each of them
pub after_each : (places : List ℕ) (y : Cell) (machine : Machine) → machine_after_all (map (λ a. Put a y) places) machine ≡ set_each y places machine
unfolding machine_after_all set_each
after_each [] y machine = refl
after_each (p ∷ places) y machine = after_each places y (set machine p y)

-- granule `g` gets the cell `x`, and then each granule in `others` gets the cell `y`
module _ (old new : Fields) (as_many : length new.granules ≡ length old.granules) (g : ℕ) (others : List ℕ) (x y : Cell)
    (inside : g < length old.granules)
    (each : (h : ℕ) → h < length old.granules → is_in h others ≡ true → cell_of new h ≡ y)
    (one : cell_of new g ≡ x)
    (rest : (h : ℕ) → h < length old.granules → is_in h (g ∷ others) ≡ false → cell_of new h ≡ cell_of old h) where
  abbrev started : Machine
  started = set (machine_of old) g x

  started_length : length started ≡ length old.granules
  started_length = length-set (machine_of old) g x ∙ length-machine_of old

  started_at : (h : ℕ) → h < length old.granules → is_in h others ≡ false → cell_of new h ≡ cell_at started h
  started_at h within out = elim (h == g) as (λ t. (h == g) ≡ t → cell_of new h ≡ cell_at started h) [
    | true ↦ λ e.
        let same = eqb-true h g e in
        ap (cell_of new) same ∙ one ∙ sym (get_or-set_same (machine_of old) g x blank (subst (λ n. g < n) (sym (length-machine_of old)) inside)) ∙ ap (cell_at started) (sym same)
    | false ↦ λ e.
        rest h within (out_of h g others (eqb-false h g e) out)
        ∙ sym (cell_at-machine_of old h within)
        ∙ sym (get_or-set_other (machine_of old) g h x blank (eqb-false h g e))
  ] refl

  put_at : (h : ℕ) → h < length old.granules → cell_of new h ≡ cell_at (set_each y others started) h
  put_at h within = elim (is_in h others) as (λ t. is_in h others ≡ t → cell_of new h ≡ cell_at (set_each y others started) h) [
    | true ↦ λ e. each h within e ∙ sym (set_each_in y others started h blank (subst (λ n. h < n) (sym started_length) within) e)
    | false ↦ λ e. started_at h within e ∙ sym (set_each_out y others started h blank e)
  ] refl

  pub one_and_others : machine_of new ≡ machine_after_all (Put g x ∷ map (λ a. Put a y) others) (machine_of old)
  unfolding machine_after_all
  one_and_others =
      same_machine (machine_of new) (set_each y others started) (length-machine_of new ∙ as_many ∙ sym (length-set_each y others started ∙ started_length)) (λ h lt.
      let within : h < length old.granules = subst (λ n. h < n) (length-machine_of new ∙ as_many) lt in
      cell_at-machine_of new h (subst (λ n. h < n) (length-machine_of new) lt) ∙ put_at h within)
      ∙ sym (after_each others y started)

-- granule `g` gets the cell `x`, then each granule in `others` gets `y`, and at last granule `rd` gets `z`
module _ (old new : Fields) (as_many : length new.granules ≡ length old.granules) (g rd : ℕ) (others : List ℕ) (x y z : Cell)
    (inside : g < length old.granules) (rd_inside : rd < length old.granules)
    (last : cell_of new rd ≡ z)
    (each : (h : ℕ) → h < length old.granules → is_in h others ≡ true → cell_of new h ≡ y)
    (one : cell_of new g ≡ x)
    (rest : (h : ℕ) → h < length old.granules → h ≢ rd → h ≢ g → is_in h others ≡ false → cell_of new h ≡ cell_of old h) where
  abbrev begun : Machine
  begun = set (machine_of old) g x

  abbrev made : Machine
  made = set_each y others begun

  begun_length : length begun ≡ length old.granules
  begun_length = length-set (machine_of old) g x ∙ length-machine_of old

  made_length : length made ≡ length old.granules
  made_length = length-set_each y others begun ∙ begun_length

  begun_at : (h : ℕ) → h < length old.granules → h ≢ rd → is_in h others ≡ false → cell_of new h ≡ cell_at begun h
  begun_at h within differs out = elim (h == g) as (λ t. (h == g) ≡ t → cell_of new h ≡ cell_at begun h) [
    | true ↦ λ e.
        let same = eqb-true h g e in
        ap (cell_of new) same ∙ one ∙ sym (get_or-set_same (machine_of old) g x blank (subst (λ n. g < n) (sym (length-machine_of old)) inside)) ∙ ap (cell_at begun) (sym same)
    | false ↦ λ e.
        rest h within differs (eqb-false h g e) out
        ∙ sym (cell_at-machine_of old h within)
        ∙ sym (get_or-set_other (machine_of old) g h x blank (eqb-false h g e))
  ] refl

  made_at : (h : ℕ) → h < length old.granules → h ≢ rd → cell_of new h ≡ cell_at made h
  made_at h within differs = elim (is_in h others) as (λ t. is_in h others ≡ t → cell_of new h ≡ cell_at made h) [
    | true ↦ λ e. each h within e ∙ sym (set_each_in y others begun h blank (subst (λ n. h < n) (sym begun_length) within) e)
    | false ↦ λ e. begun_at h within differs e ∙ sym (set_each_out y others begun h blank e)
  ] refl

  all_at : (h : ℕ) → h < length old.granules → cell_of new h ≡ cell_at (set made rd z) h
  all_at h within = elim (h == rd) as (λ t. (h == rd) ≡ t → cell_of new h ≡ cell_at (set made rd z) h) [
    | true ↦ λ e.
        let same = eqb-true h rd e in
        ap (cell_of new) same ∙ last ∙ sym (get_or-set_same made rd z blank (subst (λ n. rd < n) (sym made_length) rd_inside)) ∙ ap (cell_at (set made rd z)) (sym same)
    | false ↦ λ e. made_at h within (eqb-false h rd e) ∙ sym (get_or-set_other made rd h z blank (eqb-false h rd e))
  ] refl

  pub many_put : machine_of new ≡ machine_after_all (Put g x ∷ map (λ a. Put a y) others ++ Put rd z ∷ []) (machine_of old)
  unfolding machine_after_all
  many_put =
      same_machine (machine_of new) (set made rd z) (length-machine_of new ∙ as_many ∙ sym (length-set made rd z ∙ made_length)) (λ h lt.
      let within : h < length old.granules = subst (λ n. h < n) (length-machine_of new ∙ as_many) lt in
      cell_at-machine_of new h (subst (λ n. h < n) (length-machine_of new) lt) ∙ all_at h within)
      ∙ sym (after_puts others y (Put rd z ∷ []) begun)
