-- Proofs that the parser makes an operation only from as many numbers as the operation's word requires, all of them in
-- range. One to four numbers whose only limits are maxima always make the operation if none is above its maximum.
use Rattle.std.proofs.Common.{◌≡◌, ℕ, ◌≤◌, List, [], ◌∷◌, length, replicate, Bool, true, false, get_or, cond, leb, ◌&&◌, Option, Some, None, option_map, refl, subst}
use Rattle.std.specs.Option.{option_zip}
use Rattle.std.proofs.lemmas.Bool.{le-leb, leb-true, and_parts}
use Rattle.arrayvec.specs.ArrayVec.{ArrayVec}
use Rattle.granule_addr.specs.declared.width.Root.{Root}
use Rattle.decimal_text.specs.Ranges.{AreAtMost}
use Rattle.decimal_text.specs.Rows.{one, two, three, four, up_to}
use Rattle.decimal_text.specs.Written.{u8, u16}
use Rattle.decimal_text.proofs.Grammars.{test_from_some, map_some}
use Rattle.decimal_text.proofs.Rows.{one_makes, two_makes, three_makes, four_makes}
use Rattle.decimal_text.proofs.UpTo.{up_to-some}
use Rattle.history_text.specs.Acts.{realm_row, table_row, rec_row}
use Rattle.history_text.specs.Written.{granule, ipa, width, level}

-- if `cond s (cond t (Some made) None) None` is `Some value`, then `s` and `t` are true, and `made` is `value`
both_tests : {A : Type 0} (s t : Bool) (made value : A) → cond s (cond t (Some made) None) None ≡ Some value → (s ≡ true) × (t ≡ true) × (made ≡ value)
both_tests true t made value e = let found = test_from_some t made value e in (refl, found.0, found.1)
both_tests false t made value e = absurd (cc)

module _ {A : Type 0} (P : List ℕ → A → Type 0) where
  pub realm_makes : (make : ℕ → Root → ℕ → A)
      → ((rd first w vmid : ℕ) → (rd ≤ granule) × (first ≤ granule) × (w ≤ width) × (vmid ≤ u8) → (39 ≤ w) × (1 ≤ vmid)
      → P (rd ∷ first ∷ w ∷ vmid ∷ []) (make rd (record { first = first; width = w }) vmid))
      → (ns : List ℕ) (value : A) → realm_row make ns ≡ Some value → P ns value
  realm_makes make good [] value e = absurd (cc)
  realm_makes make good (rd ∷ []) value e = absurd (cc)
  realm_makes make good (rd ∷ first ∷ []) value e = absurd (cc)
  realm_makes make good (rd ∷ first ∷ w ∷ []) value e = absurd (cc)
  realm_makes make good (rd ∷ first ∷ w ∷ vmid ∷ []) value e =
      let (most, least, same) = both_tests (leb rd granule && leb first granule && leb w width && leb vmid u8) (leb 39 w && leb 1 vmid) (make rd (record { first = first; width = w }) vmid) value e in
      let all = and_parts (leb rd granule && leb first granule && leb w width) (leb vmid u8) most in
      let front = and_parts (leb rd granule && leb first granule) (leb w width) all.0 in
      let start = and_parts (leb rd granule) (leb first granule) front.0 in
      let low = and_parts (leb 39 w) (leb 1 vmid) least in
      subst (P (rd ∷ first ∷ w ∷ vmid ∷ [])) same (good rd first w vmid
      (leb-true rd granule start.0, leb-true first granule start.1, leb-true w width front.1, leb-true vmid u8 all.1)
      (leb-true 39 w low.0, leb-true 1 vmid low.1))
  realm_makes make good (rd ∷ first ∷ w ∷ vmid ∷ more ∷ ns) value e = absurd (cc)

  pub table_makes : (make : ℕ → ℕ → ℕ → A)
      → ((g i l : ℕ) → (g ≤ granule) × (i ≤ ipa) × (l ≤ level) → 1 ≤ l → P (g ∷ i ∷ l ∷ []) (make g i l))
      → (ns : List ℕ) (value : A) → table_row make ns ≡ Some value → P ns value
  table_makes make good [] value e = absurd (cc)
  table_makes make good (g ∷ []) value e = absurd (cc)
  table_makes make good (g ∷ i ∷ []) value e = absurd (cc)
  table_makes make good (g ∷ i ∷ l ∷ []) value e =
      let (most, least, same) = both_tests (leb g granule && leb i ipa && leb l level) (leb 1 l) (make g i l) value e in
      let all = and_parts (leb g granule && leb i ipa) (leb l level) most in
      let front = and_parts (leb g granule) (leb i ipa) all.0 in
      subst (P (g ∷ i ∷ l ∷ [])) same (good g i l (leb-true g granule front.0, leb-true i ipa front.1, leb-true l level all.1) (leb-true 1 l least))
  table_makes make good (g ∷ i ∷ l ∷ more ∷ ns) value e = absurd (cc)

  pub rec_makes : (make : ℕ → ArrayVec ℕ → ℕ → A)
      → ((g number : ℕ) (more : List ℕ) → (g ≤ granule) × (number ≤ u16) → length more ≤ 16 → AreAtMost more (replicate (length more) granule)
      → P (g ∷ number ∷ more) (make g (record { items = more }) number))
      → (ns : List ℕ) (value : A) → rec_row make ns ≡ Some value → P ns value
  rec_makes make good [] value e = absurd (cc)
  rec_makes make good (g ∷ []) value e = absurd (cc)
  rec_makes make good (g ∷ number ∷ more) value e = elim (leb g granule && leb number u16) as
      (λ t. leb g granule && leb number u16 ≡ t → cond t (option_map (λ it. make g it number) (up_to 16 granule more)) None ≡ Some value → P (g ∷ number ∷ more) value) [
        | true ↦ λ test made_it.
            let parts = and_parts (leb g granule) (leb number u16) test in
            let found = map_some (λ it. make g it number) (up_to 16 granule more) value made_it in
            let are = up_to-some 16 granule more found.0 found.1 in
            let same : make g (record { items = more }) number ≡ value = cc in
            subst (P (g ∷ number ∷ more)) same (good g number more (leb-true g granule parts.0, leb-true number u16 parts.1) are.few are.small)
        | false ↦ λ test made_it. absurd (cc)
      ] refl e

-- ---- numbers in their ranges make a value, and no others do

nothing : {A : Type 0} (found : Option A) → ((value : A) → found ≡ Some value → ⊥) → None ≡ found
nothing None h = refl
nothing (Some value) h = absurd (h value refl)

module _ {A : Type 0} (a : ℕ) (make : ℕ → A) where
  pub one_found : (ns : List ℕ) → AreAtMost ns (a ∷ []) → Some (make (get_or ns 0 0)) ≡ one a make ns
  one_found [] h = absurd h
  one_found (k ∷ []) h = rw (le-leb k a h.0) refl
  one_found (k ∷ l ∷ ns) h = absurd h.1

  pub one_not_found : (ns : List ℕ) → (AreAtMost ns (a ∷ []) → ⊥) → None ≡ one a make ns
  one_not_found ns h = nothing (one a make ns) (λ value e. h (one_makes (λ ms _. AreAtMost ms (a ∷ [])) a make (λ k u. (u, tt)) ns value e))

module _ {A : Type 0} (a b : ℕ) (make : ℕ → ℕ → A) where
  pub two_found : (ns : List ℕ) → AreAtMost ns (a ∷ b ∷ []) → Some (make (get_or ns 0 0) (get_or ns 1 0)) ≡ two a b make ns
  two_found [] h = absurd h
  two_found (k ∷ []) h = absurd h.1
  two_found (k ∷ l ∷ []) h = rw (le-leb k a h.0, le-leb l b h.1.0) refl
  two_found (k ∷ l ∷ m ∷ ns) h = absurd h.1.1

  pub two_not_found : (ns : List ℕ) → (AreAtMost ns (a ∷ b ∷ []) → ⊥) → None ≡ two a b make ns
  two_not_found ns h = nothing (two a b make ns) (λ value e. h (two_makes (λ ms _. AreAtMost ms (a ∷ b ∷ [])) a b make (λ k l u v. (u, (v, tt))) ns value e))

module _ {A : Type 0} (a b c : ℕ) (make : ℕ → ℕ → ℕ → A) where
  pub three_found : (ns : List ℕ) → AreAtMost ns (a ∷ b ∷ c ∷ []) → Some (make (get_or ns 0 0) (get_or ns 1 0) (get_or ns 2 0)) ≡ three a b c make ns
  three_found [] h = absurd h
  three_found (k ∷ []) h = absurd h.1
  three_found (k ∷ l ∷ []) h = absurd h.1.1
  three_found (k ∷ l ∷ m ∷ []) h = rw (le-leb k a h.0, le-leb l b h.1.0, le-leb m c h.1.1.0) refl
  three_found (k ∷ l ∷ m ∷ n ∷ ns) h = absurd h.1.1.1

  pub three_not_found : (ns : List ℕ) → (AreAtMost ns (a ∷ b ∷ c ∷ []) → ⊥) → None ≡ three a b c make ns
  three_not_found ns h = nothing (three a b c make ns) (λ value e. h (three_makes (λ ms _. AreAtMost ms (a ∷ b ∷ c ∷ [])) a b c make (λ k l m u v w. (u, (v, (w, tt)))) ns value e))

module _ {A : Type 0} (a b c d : ℕ) (make : ℕ → ℕ → ℕ → ℕ → A) where
  pub four_found : (ns : List ℕ) → AreAtMost ns (a ∷ b ∷ c ∷ d ∷ []) → Some (make (get_or ns 0 0) (get_or ns 1 0) (get_or ns 2 0) (get_or ns 3 0)) ≡ four a b c d make ns
  four_found [] h = absurd h
  four_found (k ∷ []) h = absurd h.1
  four_found (k ∷ l ∷ []) h = absurd h.1.1
  four_found (k ∷ l ∷ m ∷ []) h = absurd h.1.1.1
  four_found (k ∷ l ∷ m ∷ n ∷ []) h = rw (le-leb k a h.0, le-leb l b h.1.0, le-leb m c h.1.1.0, le-leb n d h.1.1.1.0) refl
  four_found (k ∷ l ∷ m ∷ n ∷ o ∷ ns) h = absurd h.1.1.1.1

  pub four_not_found : (ns : List ℕ) → (AreAtMost ns (a ∷ b ∷ c ∷ d ∷ []) → ⊥) → None ≡ four a b c d make ns
  four_not_found ns h = nothing (four a b c d make ns) (λ value e. h (four_makes (λ ms _. AreAtMost ms (a ∷ b ∷ c ∷ d ∷ [])) a b c d make (λ k l m n u v w x. (u, (v, (w, (x, tt))))) ns value e))

-- ---- each of the numbers is at most its maximum

pub first_low : (ns : List ℕ) (a : ℕ) (ms : List ℕ) → AreAtMost ns (a ∷ ms) → get_or ns 0 0 ≤ a
first_low [] a ms h = absurd h
first_low (n ∷ ns) a ms h = h.0

pub second_low : (ns : List ℕ) (a b : ℕ) (ms : List ℕ) → AreAtMost ns (a ∷ b ∷ ms) → get_or ns 1 0 ≤ b
second_low [] a b ms h = absurd h
second_low (n ∷ ns) a b ms h = first_low ns b ms h.1

pub third_low : (ns : List ℕ) (a b c : ℕ) (ms : List ℕ) → AreAtMost ns (a ∷ b ∷ c ∷ ms) → get_or ns 2 0 ≤ c
third_low [] a b c ms h = absurd h
third_low (n ∷ ns) a b c ms h = second_low ns b c ms h.1

pub fourth_low : (ns : List ℕ) (a b c d : ℕ) (ms : List ℕ) → AreAtMost ns (a ∷ b ∷ c ∷ d ∷ ms) → get_or ns 3 0 ≤ d
fourth_low [] a b c d ms h = absurd h
fourth_low (n ∷ ns) a b c d ms h = third_low ns b c d ms h.1

pub fifth_low : (ns : List ℕ) (a b c d e : ℕ) (ms : List ℕ) → AreAtMost ns (a ∷ b ∷ c ∷ d ∷ e ∷ ms) → get_or ns 4 0 ≤ e
fifth_low [] a b c d e ms h = absurd h
fifth_low (n ∷ ns) a b c d e ms h = fourth_low ns b c d e ms h.1

-- ---- the value that a row makes of the operands that were found

map_tests : {A B : Type 0} (f : A → B) (s t : Bool) (x : A) → option_map f (cond s (cond t (Some x) None) None) ≡ cond s (cond t (Some (f x)) None) None
map_tests f true true x = refl
map_tests f true false x = refl
map_tests f false t x = refl

module _ {A : Type 0} (make : ℕ → ℕ → ℕ → A) where
  pub table_made : (ns : List ℕ) (found : Option (ℕ × ℕ × ℕ)) → found ≡ table_row (λ g i l. (g, i, l)) ns → option_map (λ it. make it.0 it.1 it.2) found ≡ table_row make ns
  table_made [] found e = rw e refl
  table_made (g ∷ []) found e = rw e refl
  table_made (g ∷ i ∷ []) found e = rw e refl
  table_made (g ∷ i ∷ l ∷ []) found e = rw e (map_tests (λ it. make it.0 it.1 it.2) (leb g granule && leb i ipa && leb l level) (leb 1 l) (g, i, l))
  table_made (g ∷ i ∷ l ∷ n ∷ ns) found e = rw e refl

module _ {A : Type 0} (make : ℕ → Root → ℕ → A) where
  pub realm_made : (ns : List ℕ) (found : Option (ℕ × Root × ℕ)) → found ≡ realm_row (λ rd root vmid. (rd, root, vmid)) ns
      → option_map (λ it. make it.0 it.1 it.2) found ≡ realm_row make ns
  realm_made [] found e = rw e refl
  realm_made (rd ∷ []) found e = rw e refl
  realm_made (rd ∷ first ∷ []) found e = rw e refl
  realm_made (rd ∷ first ∷ w ∷ []) found e = rw e refl
  realm_made (rd ∷ first ∷ w ∷ vmid ∷ []) found e =
      rw e (map_tests (λ it. make it.0 it.1 it.2) (leb rd granule && leb first granule && leb w width && leb vmid u8) (leb 39 w && leb 1 vmid)
      (rd, record { first = first; width = w }, vmid))
  realm_made (rd ∷ first ∷ w ∷ vmid ∷ n ∷ ns) found e = rw e refl

map_maps : {A B C : Type 0} (f : B → C) (h : A → B) (t : Bool) (found : Option A) → option_map f (cond t (option_map h found) None) ≡ cond t (option_map (λ x. f (h x)) found) None
map_maps f h true (Some x) = refl
map_maps f h true None = refl
map_maps f h false found = refl

module _ {A : Type 0} (make : ℕ → ArrayVec ℕ → ℕ → A) where
  pub rec_made : (ns : List ℕ) (found : Option (ℕ × ArrayVec ℕ × ℕ)) → found ≡ rec_row (λ g auxiliaries number. (g, auxiliaries, number)) ns
      → option_map (λ it. make it.0 it.1 it.2) found ≡ rec_row make ns
  rec_made [] found e = rw e refl
  rec_made (g ∷ []) found e = rw e refl
  rec_made (g ∷ number ∷ more) found e =
      rw e (map_maps (λ it. make it.0 it.1 it.2) (λ (auxiliaries : ArrayVec ℕ). (g, auxiliaries, number)) (leb g granule && leb number u16) (up_to 16 granule more))

-- ---- a realm's width and VMID are tested once more

map_zip_tests : {A B C : Type 0} (f : A × B → C) (s t : Bool) (x : A) (y : B) → option_map f (option_zip (cond (s && true) (Some x) None) (cond t (Some y) None)) ≡ cond (s && t) (Some (f (x, y))) None
map_zip_tests f true true x y = refl
map_zip_tests f true false x y = refl
map_zip_tests f false t x y = refl

module _ {A : Type 0} (make : ℕ → Root → ℕ → A) where
  pub realm_found : (ns : List ℕ) (w v : Option ℕ) → AreAtMost ns (granule ∷ granule ∷ width ∷ u8 ∷ [])
      → w ≡ cond (leb 39 (get_or ns 2 0) && leb (get_or ns 2 0) 43) (Some (get_or ns 2 0)) None → v ≡ cond (leb 1 (get_or ns 3 0)) (Some (get_or ns 3 0)) None
      → option_map (λ it. make (get_or ns 0 0) (record { first = get_or ns 1 0; width = it.0 }) it.1) (option_zip w v) ≡ realm_row make ns
  realm_found [] w v h wide id = absurd h
  realm_found (rd ∷ []) w v h wide id = absurd h.1
  realm_found (rd ∷ first ∷ []) w v h wide id = absurd h.1.1
  realm_found (rd ∷ first ∷ k ∷ []) w v h wide id = absurd h.1.1.1
  realm_found (rd ∷ first ∷ k ∷ n ∷ []) w v h wide id =
      rw (wide, id, le-leb rd granule h.0, le-leb first granule h.1.0, le-leb k width h.1.1.0, le-leb n u8 h.1.1.1.0)
      (map_zip_tests (λ it. make rd (record { first = first; width = it.0 }) it.1) (leb 39 k) (leb 1 n) k n)
  realm_found (rd ∷ first ∷ k ∷ n ∷ m ∷ ns) w v h wide id = absurd h.1.1.1.1

  pub realm_not_found : (ns : List ℕ) → (AreAtMost ns (granule ∷ granule ∷ width ∷ u8 ∷ []) → ⊥) → None ≡ realm_row make ns
  realm_not_found ns h = nothing (realm_row make ns) (λ value e. h (realm_makes (λ ms _. AreAtMost ms (granule ∷ granule ∷ width ∷ u8 ∷ [])) make
      (λ rd first w vmid most low. (most.0, (most.1, (most.2, (most.3, tt))))) ns value e))
