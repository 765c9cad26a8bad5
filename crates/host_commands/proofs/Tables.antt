-- Proofs that granules are a realm's starting tables if and only if they are adjacent, in sequence, and as many as the
-- IPA width needs.
use Rattle.std.proofs.Common.{◌≡◌, ◌≢◌, ℕ, ◌+◌, ◌<◌, true, false, Bool, cond, List, [], ◌∷◌, length, get_or, Some, None, refl, sym, ap, ◌∙◌}
use Rattle.std.specs.Prelude.{slice_get, if◌then◌else◌, ◌&&◌}
use Rattle.std.specs.List.{range_with_len}
use Rattle.std.specs.Str.{bytes_eq}
use Rattle.std.proofs.lemmas.List.FromFn.{length-range_with_len, get_or-range_with_len}
use Rattle.std.proofs.lemmas.Option.{same_Some}
use Rattle.std.proofs.lemmas.Slice.Eq.{bytes_eq-Decides}
use Rattle.granule_addr.specs.Ipa.{is_width}
use Rattle.granule_addr.specs.Root.{start_count, starting_tables}
use Rattle.granule_addr.specs.declared.width.Root.{Root}
use Rattle.host_commands.specs.Acts.{root_of}

-- `t` is true, and `w` is equal to `width`
pub record IsWide (t : Bool) (width w : ℕ) : Type 0 where
  pub yes : t ≡ true
  pub same : w ≡ width

is_wide : (t : Bool) (width w : ℕ) → Some w ≡ (if t then Some width else None) → IsWide t width w
is_wide true width w e = record { yes = refl; same = same_Some w width e }
is_wide false width w e = cc

abbrev root_at : ℕ → ℕ → Root
root_at first width = record { first = first; width = width }

module _ (width : ℕ) where
  root_is : (tables : List ℕ) (first : ℕ) → Some first ≡ slice_get tables 0
      → root_of width tables ≡ cond (is_width width && bytes_eq tables (range_with_len first (start_count width))) (Some (root_at first width)) None
  unfolding starting_tables
  root_is [] first there = cc
  root_is (x ∷ xs) first there =
      ap (λ (f : ℕ). cond (is_width width && bytes_eq (x ∷ xs) (range_with_len f (start_count width))) (Some (root_at f width)) None) (sym (same_Some first x there))

  module _ (tables : List ℕ) (first w : ℕ) (there : Some first ≡ slice_get tables 0) (wide : Some w ≡ (if is_width width then Some width else None)) where
    abbrev run : List ℕ
    run = range_with_len first (start_count w)

    by_run : root_of width tables ≡ cond (bytes_eq tables run) (Some (root_at first w)) None
    by_run =
        let may = is_wide (is_width width) width w wide in
        root_is tables first there
        ∙ ap (λ (t : Bool). cond (t && bytes_eq tables (range_with_len first (start_count width))) (Some (root_at first width)) None) may.yes
        ∙ ap (λ (n : ℕ). cond (bytes_eq tables (range_with_len first (start_count n))) (Some (root_at first n)) None) (sym may.same)

    pub are_tables : tables ≡ run → Some (root_at first w) ≡ root_of width tables
    are_tables same = sym (by_run ∙ ap (λ (t : Bool). cond t (Some (root_at first w)) None) ((bytes_eq-Decides tables run).1 same))

    are_none : (t : Bool) → bytes_eq tables run ≡ t → tables ≢ run → None ≡ root_of width tables
    are_none true is other = absurd (other ((bytes_eq-Decides tables run).0 is))
    are_none false is other = sym (by_run ∙ ap (λ (t : Bool). cond t (Some (root_at first w)) None) is)

    pub too_few : length tables ≢ start_count w → None ≡ root_of width tables
    too_few other = are_none (bytes_eq tables run) refl (λ same. other (ap (λ (gs : List ℕ). length gs) same ∙ length-range_with_len first (start_count w)))

    pub not_adjacent : (i granule : ℕ) → i < start_count w → granule ≡ get_or tables i granule → granule ≢ first + i → None ≡ root_of width tables
    not_adjacent i granule within at other =
        are_none (bytes_eq tables run) refl (λ same. other (at ∙ ap (λ (gs : List ℕ). get_or gs i granule) same ∙ get_or-range_with_len first (start_count w) i granule within))
