-- Proofs that the ledger's records and VMID pool give the view that the checks of a command need.
use Rattle.std.proofs.Common.{◌≡◌, ℕ, zero, suc, ◌+◌, ◌<◌, ◌≤◌, Bool, true, false, ◌&&◌, not, List, [], ◌∷◌, length, map, get_or, Option, Some, None, refl, sym, ap, ◌∙◌, cond, ⊎_elim, arith}
use Rattle.std.specs.Prelude.{nat_le, slice_get, IfSome, IfNone}
use Rattle.std.specs.List.{find, range_with_len}
use Rattle.std.proofs.lemmas.Bool.{and_parts, leb-true, cases_eq}
use Rattle.std.proofs.lemmas.Option.{slice_get_within, get_or_from_slice_get}
use Rattle.granule_addr.specs.Vmids.{is_used}
use Rattle.build_journal.specs.Vmids.{Vmids, is_free, IsLowestFree}
use Rattle.host_ledger.specs.View.{HostView, world_of}
use Rattle.host_ledger.specs.Vmids.{is_vmid_free, lowest_vmid}

-- if `x` is the element of `xs` at index `place`, then `f x` is the element at that index of `map f xs`
pub get_or-of : {X Y : Type 0} (f : X → Y) (xs : List X) (place : ℕ) (x : X) (d : Y) → place < length xs → x ≡ get_or xs place x → f x ≡ get_or (map f xs) place d
get_or-of f [] place x d inside is = absurd (omega arith)
get_or-of f (y ∷ ys) zero x d inside is = ap f is
get_or-of f (y ∷ ys) (suc place) x d inside is = get_or-of f ys place x d (omega arith) is

-- if a lookup in `xs` at index `place` finds `x`, then `f x` is the element at that index of `map f xs`
pub said_of : {X Y : Type 0} (f : X → Y) (xs : List X) (place : ℕ) (x : X) (d : Y) → slice_get xs place ≡ Some x → f x ≡ get_or (map f xs) place d
said_of f xs place x d there = get_or-of f xs place x d (slice_get_within xs place x there) (sym (get_or_from_slice_get xs place x x there))

-- ---- VMIDs

-- if `k` is the lowest number that passes a test, a search of a range that contains `k` finds `k`
find_lowest : (test : ℕ → Bool) (first count k : ℕ) → first ≤ k → k < first + count → test k ≡ true → ((other : ℕ) → other < k → test other ≡ false)
    → find test (range_with_len first count) ≡ Some k
find_lowest test first zero k low high is lower = absurd (omega arith)
find_lowest test first (suc count) k low high is lower = ⊎_elim
    (λ same. ap (λ t. cond t (Some first) (find test (range_with_len (first + 1) count))) (ap test (sym same) ∙ is) ∙ ap (λ n. Some n) (sym same))
    (λ other.
    let above : first < k = above_first first k low other in
    ap (λ t. cond t (Some first) (find test (range_with_len (first + 1) count))) (lower first above)
    ∙ find_lowest test (first + 1) count k (omega arith) (omega arith) is lower)
    (cases_eq k first)
  where
    above_first : (first k : ℕ) → first ≤ k → (k ≡ first → ⊥) → first < k
    above_first first k low other = grind arith

find_none : (test : ℕ → Bool) (first count : ℕ) → ((k : ℕ) → test k ≡ false) → find test (range_with_len first count) ≡ None
find_none test first zero never = refl
find_none test first (suc count) never =
    ap (λ t. cond t (Some first) (find test (range_with_len (first + 1) count))) (never first) ∙ find_none test (first + 1) count never

module _ (host : HostView) (vmids : Vmids) (range : vmids.vmids ≡ host.limits.vmids)
    (are : (vmid : ℕ) → is_used vmids.used vmid ≡ Rattle.realm_model.specs.VmidsUsed.is_vmid_used (world_of host).machine vmid) where
  pub same_free : (vmid : ℕ) → is_free vmids vmid ≡ is_vmid_free host vmid
  same_free vmid = λ i. nat_le 1 vmid && nat_le vmid (range i) && not (are vmid i)

  -- the lowest free VMID of the pool is the lowest that no realm has
  pub lowest_is : (vmid : ℕ) → IsLowestFree vmids vmid → Some vmid ≡ lowest_vmid host
  lowest_is vmid lowest =
      let free : is_vmid_free host vmid ≡ true = sym (same_free vmid) ∙ lowest.free in
      let range = and_parts _ _ (and_parts _ _ free).0 in
      let low = leb-true 1 vmid range.0 in
      let high = leb-true vmid host.limits.vmids range.1 in
      sym (find_lowest (is_vmid_free host) 1 host.limits.vmids vmid low (omega arith) free (λ other less. sym (same_free other) ∙ lowest.lower other less))

  pub none_is : ((vmid : ℕ) → is_free vmids vmid ≡ false) → None ≡ lowest_vmid host
  none_is none = sym (find_none (is_vmid_free host) 1 host.limits.vmids (λ vmid. sym (same_free vmid) ∙ none vmid))

  -- the pool's answer is the lowest VMID that no realm has, or `None` if each VMID is in use
  pub told_is : (told : Option ℕ) → IfSome told (IsLowestFree vmids) → IfNone told ((vmid : ℕ) → is_free vmids vmid ≡ false) → told ≡ lowest_vmid host
  told_is None lowest none = none_is none
  told_is (Some vmid) lowest none = lowest_is vmid lowest
