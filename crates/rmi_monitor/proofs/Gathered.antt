-- Lemmas about the finite map gathered from a function's entries: its size, lookups in it, and the map after one entry
-- changes.
use Rattle.std.proofs.Common.{◌≡◌, ◌≢◌, ℕ, zero, suc, ◌+◌, ◌-◌, ◌<◌, ◌≤◌, Bool, true, false, cond, Option, Some, None, refl, sym, ap, ◌∙◌, subst, ⊎_elim, arith}
use Rattle.std.specs.Prelude.{is_some}
use Rattle.std.specs.Cmp.{nat_cmp_total, unsigned_tied}
use Rattle.std.specs.Ordering.{nat_cmp, eq_by_cmp}
use Rattle.std.specs.FinMap.{FinMap, empty, insert, remove, get, len, get-empty, get-insert, get-remove, len-empty, len-insert, len-remove, same_map, nat_cmp-IsAntisymmetric, empty_of_len}
use Rattle.std.proofs.lemmas.Bool.{cases_eq, cases_lt, eq-eqb, ne_eqb}
use Rattle.std.proofs.lemmas.Option.{same_Some, none-some}
use Rattle.rmi_monitor.specs.Gathered.{added, gathered, IsOnce}

module _ {A : Type 0} where
  -- after an insert, the map has the new value at its key
  get-insert_same : (map : FinMap nat_cmp A) (key : ℕ) (a : A) → get (insert map key a) key ≡ Some a
  get-insert_same map key a = get-insert nat_cmp_total map key a key ∙ ap (λ t. cond t (Some a) (get map key)) (unsigned_tied key key ∙ eq-eqb key key refl)

  -- an insert changes no value at another key
  get-insert_other : (map : FinMap nat_cmp A) (key : ℕ) (a : A) (q : ℕ) → q ≢ key → get (insert map key a) q ≡ get map q
  get-insert_other map key a q ne = get-insert nat_cmp_total map key a q ∙ ap (λ t. cond t (Some a) (get map q)) (unsigned_tied q key ∙ ne_eqb q key ne)

  -- after a remove, the map has no value at the key
  get-remove_same : (map : FinMap nat_cmp A) (key : ℕ) → get (remove map key) key ≡ None
  get-remove_same map key = get-remove nat_cmp_total map key key ∙ ap (λ t. cond t None (get map key)) (unsigned_tied key key ∙ eq-eqb key key refl)

  -- a remove changes no value at another key
  get-remove_other : (map : FinMap nat_cmp A) (key q : ℕ) → q ≢ key → get (remove map key) q ≡ get map q
  get-remove_other map key q ne = get-remove nat_cmp_total map key q ∙ ap (λ t. cond t None (get map q)) (unsigned_tied q key ∙ ne_eqb q key ne)

  -- ---- the number of entries

  pub len-insert_new : (map : FinMap nat_cmp A) (key : ℕ) (a : A) → get map key ≡ None → len (insert map key a) ≡ len map + 1
  len-insert_new map key a none = len-insert nat_cmp_total map key a ∙ ap (λ o. cond (is_some o) (len map) (len map + 1)) none

  pub len-insert_there : (map : FinMap nat_cmp A) (key : ℕ) (a b : A) → get map key ≡ Some b → len (insert map key a) ≡ len map
  len-insert_there map key a b there = len-insert nat_cmp_total map key a ∙ ap (λ o. cond (is_some o) (len map) (len map + 1)) there

  pub len-remove_there : (map : FinMap nat_cmp A) (key : ℕ) (a : A) → get map key ≡ Some a → len (remove map key) ≡ len map - 1
  len-remove_there map key a there = len-remove nat_cmp_total map key ∙ ap (λ o. cond (is_some o) (len map - 1) (len map)) there

  pub len-some : (map : FinMap nat_cmp A) (key : ℕ) (a : A) → get map key ≡ Some a → 0 < len map
  len-some map key a there = ⊎_elim (λ h. h) (λ h. absurd (none-some a (sym (get-empty nat_cmp key) ∙ ap (λ m. get m key) (sym (empty_of_len map (omega (arith, h)))) ∙ there))) (cases_lt 0 (len map))

  len-added : (o : Option (ℕ × A)) (map : FinMap nat_cmp A) → len (added o map) ≤ len map + 1
  len-added None map = omega arith
  len-added (Some entry) map =
      subst (λ n. n ≤ len map + 1) (sym (len-insert nat_cmp_total map entry.0 entry.1)) (by (is_some (get map entry.0)))
    where
      by : (t : Bool) → cond t (len map) (len map + 1) ≤ len map + 1
      by true = omega arith
      by false = omega arith

  -- the map gathered from the first `n` indexes has at most `n` entries
  pub len-gathered : (f : ℕ → Option (ℕ × A)) (n : ℕ) → len (gathered f n) ≤ n
  unfolding gathered
  len-gathered f zero = let none = len-empty nat_cmp A in omega (arith, none)
  len-gathered f (suc n) = let one = len-added (f n) (gathered f n) in let rest = len-gathered f n in omega (arith, one, rest)

  -- ---- one more place

  get-added_other : (o : Option (ℕ × A)) (map : FinMap nat_cmp A) (q : ℕ) → ((entry : ℕ × A) → o ≡ Some entry → entry.0 ≢ q) → get (added o map) q ≡ get map q
  get-added_other None map q other = refl
  get-added_other (Some entry) map q other = get-insert_other map entry.0 entry.1 q (λ e. other entry refl (sym e))

  get-added_same : (o : Option (ℕ × A)) (m n : FinMap nat_cmp A) (q : ℕ) → get m q ≡ get n q → get (added o m) q ≡ get (added o n) q
  get-added_same None m n q same = same
  get-added_same (Some entry) m n q same =
      get-insert nat_cmp_total m entry.0 entry.1 q
      ∙ ap (cond (eq_by_cmp nat_cmp q entry.0) (Some entry.1)) same
      ∙ sym (get-insert nat_cmp_total n entry.0 entry.1 q)

  once_before : (f : ℕ → Option (ℕ × A)) (n : ℕ) → IsOnce f (suc n) → IsOnce f n
  once_before f n once = λ i j key a b below below'. once i j key a b (omega arith) (omega arith)

  -- ---- all places

  -- functions with the same entries at the first `n` indexes have the same gathered map
  pub gathered-same : (f g : ℕ → Option (ℕ × A)) (n : ℕ) → ((i : ℕ) → i < n → f i ≡ g i) → gathered f n ≡ gathered g n
  unfolding gathered
  gathered-same f g zero same = refl
  gathered-same f g (suc n) same =
      ap (λ o. added o (gathered f n)) (same n (omega arith)) ∙ ap (added (g n)) (gathered-same f g n (λ i lt. same i (omega arith)))

  -- the map gathered from indexes without entries is empty
  pub gathered-none : (f : ℕ → Option (ℕ × A)) (n : ℕ) → ((i : ℕ) → i < n → f i ≡ None) → gathered f n ≡ empty
  unfolding gathered
  gathered-none f zero none = refl
  gathered-none f (suc n) none = ap (λ o. added o (gathered f n)) (none n (omega arith)) ∙ gathered-none f n (λ i lt. none i (omega arith))

  -- if no two indexes have entries with the same key, the gathered map has the entry of each index
  pub get-gathered : (f : ℕ → Option (ℕ × A)) (n i key : ℕ) (a : A) → IsOnce f n → i < n → f i ≡ Some (key, a) → get (gathered f n) key ≡ Some a
  unfolding gathered
  get-gathered f zero i key a once lt there = absurd (omega arith)
  get-gathered f (suc n) i key a once lt there =
      ⊎_elim
      (λ (s : i ≡ n). ap (λ o. get (added o (gathered f n)) key) (sym (ap f s) ∙ there) ∙ get-insert_same (gathered f n) key a)
      (λ (ne : i ≢ n). get-added_other (f n) (gathered f n) key (apart ne) ∙ get-gathered f n i key a (once_before f n once) (omega arith) there)
      (cases_eq i n)
    where
      apart : i ≢ n → (entry : ℕ × A) → f n ≡ Some entry → entry.0 ≢ key
      apart ne entry e same = ne (once i n key a entry.1 lt (omega arith) there (e ∙ ap (λ k. Some (k, entry.1)) same))

  -- each entry of the gathered map is the entry of an index below `n`
  pub gathered-get : (f : ℕ → Option (ℕ × A)) (n key : ℕ) (a : A) → get (gathered f n) key ≡ Some a → (i : ℕ) × (i < n) × (f i ≡ Some (key, a))
  unfolding gathered
  gathered-get f zero key a is = absurd (none-some a (sym (get-empty nat_cmp key) ∙ is))
  gathered-get f (suc n) key a is =
      elim (f n) as (λ o. f n ≡ o → get (added o (gathered f n)) key ≡ Some a → (i : ℕ) × (i < suc n) × (f i ≡ Some (key, a))) [
        | None ↦ λ e below. earlier (gathered-get f n key a below)
        | Some entry ↦ λ e at. ⊎_elim
            (λ (s : key ≡ entry.0). last entry e at s)
            (λ (ne : key ≢ entry.0). earlier (gathered-get f n key a (sym (get-insert_other (gathered f n) entry.0 entry.1 key ne) ∙ at)))
            (cases_eq key entry.0)
      ] refl is
    where
      last : (entry : ℕ × A) → f n ≡ Some entry → get (insert (gathered f n) entry.0 entry.1) key ≡ Some a → key ≡ entry.0
          → (i : ℕ) × (i < suc n) × (f i ≡ Some (key, a))
      last entry e at s =
          let value : entry.1 ≡ a = same_Some _ _ (sym (get-insert_same (gathered f n) entry.0 entry.1) ∙ ap (get (insert (gathered f n) entry.0 entry.1)) (sym s) ∙ at) in
          (n, omega arith, e ∙ (λ i. Some (sym s i, value i)))

      earlier : (i : ℕ) × (i < n) × (f i ≡ Some (key, a)) → (i : ℕ) × (i < suc n) × (f i ≡ Some (key, a))
      earlier found = (found.0, omega arith, found.2)

  -- the gathered map has no value at a key that no index below `n` has
  pub gathered-get-none : (f : ℕ → Option (ℕ × A)) (n key : ℕ) → ((i : ℕ) (a : A) → i < n → f i ≡ Some (key, a) → ⊥) → get (gathered f n) key ≡ None
  gathered-get-none f n key out =
      elim (get (gathered f n) key) as (λ o. get (gathered f n) key ≡ o → o ≡ None) [
        | Some a ↦ λ is. let found = gathered-get f n key a is in absurd (out found.0 a found.1 found.2)
        | None ↦ λ is. refl
      ] refl

  -- ---- one place that changes

  -- if only the entry at one index changes, the map keeps its value at every key except those of the old and the new
  -- entry
  get-gathered_other : (f g : ℕ → Option (ℕ × A)) (n i q : ℕ) → ((entry : ℕ × A) → f i ≡ Some entry → entry.0 ≢ q) → ((entry : ℕ × A) → g i ≡ Some entry → entry.0 ≢ q)
      → ((j : ℕ) → j < n → j ≢ i → g j ≡ f j) → get (gathered g n) q ≡ get (gathered f n) q
  unfolding gathered
  get-gathered_other f g zero i q before after others = refl
  get-gathered_other f g (suc n) i q before after others =
      let rest = get-gathered_other f g n i q before after (λ j lt ne. others j (omega arith) ne) in
      ⊎_elim
      (λ (s : n ≡ i). changed s rest)
      (λ (ne : n ≢ i). ap (λ o. get (added o (gathered g n)) q) (others n (omega arith) ne) ∙ get-added_same (f n) (gathered g n) (gathered f n) q rest)
      (cases_eq n i)
    where
      changed : n ≡ i → get (gathered g n) q ≡ get (gathered f n) q → get (added (g n) (gathered g n)) q ≡ get (added (f n) (gathered f n)) q
      changed s rest =
          get-added_other (g n) (gathered g n) q (λ entry e. after entry (sym (ap g s) ∙ e))
          ∙ rest
          ∙ sym (get-added_other (f n) (gathered f n) q (λ entry e. before entry (sym (ap f s) ∙ e)))

  -- an option that has an entry with another key than `q` has no entry with the key `q`
  own_number : (o : Option (ℕ × A)) (key : ℕ) (a : A) (q : ℕ) → o ≡ Some (key, a) → q ≢ key → (entry : ℕ × A) → o ≡ Some entry → entry.0 ≢ q
  own_number o key a q there ne entry e same = ne (sym same ∙ ap (λ x. x.0) (same_Some _ _ (sym e ∙ there)))

  -- setting the entry at an index is an insert into the map, if keys are distinct afterwards, and any old entry there
  -- had the same key
  pub gathered-put : (f g : ℕ → Option (ℕ × A)) (n i key : ℕ) (a : A) → IsOnce g n → i < n → g i ≡ Some (key, a) → ((old : ℕ × A) → f i ≡ Some old → old.0 ≡ key)
      → ((j : ℕ) → j < n → j ≢ i → g j ≡ f j) → gathered g n ≡ insert (gathered f n) key a
  gathered-put f g n i key a once lt there own others =
      same_map nat_cmp_total nat_cmp-IsAntisymmetric (gathered g n) (insert (gathered f n) key a) (λ q. ⊎_elim (put q) (kept q) (cases_eq q key))
    where
      put : (q : ℕ) → q ≡ key → get (gathered g n) q ≡ get (insert (gathered f n) key a) q
      put q s =
          ap (get (gathered g n)) s
          ∙ get-gathered g n i key a once lt there
          ∙ sym (get-insert_same (gathered f n) key a)
          ∙ ap (get (insert (gathered f n) key a)) (sym s)

      kept : (q : ℕ) → q ≢ key → get (gathered g n) q ≡ get (insert (gathered f n) key a) q
      kept q ne =
          get-gathered_other f g n i q (λ old e same. ne (sym same ∙ own old e)) (own_number (g i) key a q there ne) others
          ∙ sym (get-insert_other (gathered f n) key a q ne)

  -- taking an index's entry away removes its key from the map, if keys were distinct before
  pub gathered-drop : (f g : ℕ → Option (ℕ × A)) (n i key : ℕ) (a : A) → IsOnce f n → i < n → f i ≡ Some (key, a) → g i ≡ None
      → ((j : ℕ) → j < n → j ≢ i → g j ≡ f j) → gathered g n ≡ remove (gathered f n) key
  gathered-drop f g n i key a once lt there gone others =
      same_map nat_cmp_total nat_cmp-IsAntisymmetric (gathered g n) (remove (gathered f n) key) (λ q. ⊎_elim (dropped q) (kept q) (cases_eq q key))
    where
      out : (j : ℕ) (b : A) → j < n → g j ≡ Some (key, b) → ⊥
      out j b below is = ⊎_elim
          (λ (s : j ≡ i). none-some (key, b) (sym gone ∙ ap g (sym s) ∙ is))
          (λ (ne : j ≢ i). ne (once j i key b a below lt (sym (others j below ne) ∙ is) there))
          (cases_eq j i)

      dropped : (q : ℕ) → q ≡ key → get (gathered g n) q ≡ get (remove (gathered f n) key) q
      dropped q s =
          ap (get (gathered g n)) s
          ∙ gathered-get-none g n key out
          ∙ sym (get-remove_same (gathered f n) key)
          ∙ ap (get (remove (gathered f n) key)) (sym s)

      kept : (q : ℕ) → q ≢ key → get (gathered g n) q ≡ get (remove (gathered f n) key) q
      kept q ne =
          get-gathered_other f g n i q (own_number (f i) key a q there ne) (λ entry e. absurd (none-some entry (sym gone ∙ e))) others
          ∙ sym (get-remove_other (gathered f n) key q ne)
