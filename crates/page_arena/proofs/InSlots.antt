-- Proofs that a write to a page changes that page alone, whether the page has a slot of its own or gets a new one.
use Rattle.std.proofs.Common.{◌≡◌, ◌≢◌, ℕ, zero, suc, ◌+◌, ◌-◌, ◌<◌, ◌≤◌, List, [], ◌∷◌, ◌++◌, length, replicate, set, get_or, refl, sym, ap, ◌∙◌, ⊎_elim, arith, length-set}
use Rattle.std.proofs.lemmas.Bool.{cases_eq}
use Rattle.std.proofs.lemmas.List.{length-replicate, length-map, get_or-map, get_or-replicate, get_or_append_left, get_or_at, get_or-set_same, get_or-set_other, set-get_or, ext_get_or}
use Rattle.granule_addr.specs.Page.{zero_page}
use Rattle.page_arena.specs.Owned.{put_at}
use Rattle.page_arena.proofs.Puts.{put_last}
use Rattle.page_arena.specs.Block.{with_run}
use Rattle.page_arena.specs.Runs.{with_run_more}
use Rattle.page_arena.specs.Slots.{pages_in, owners, IsSlots}

-- ---- the number of pages that have a slot of their own

owners-replicate : (n : ℕ) → owners (replicate n 0) ≡ 0
unfolding owners
owners-replicate zero = refl
owners-replicate (suc n) = owners-replicate n

owners_all : (slots : List ℕ) → owners slots ≤ length slots
unfolding owners
owners_all [] = omega arith
owners_all (zero ∷ slots) = let le = owners_all slots in omega arith
owners_all (suc k ∷ slots) = let le = owners_all slots in omega arith

-- if some page has no slot of its own, the pages that have one are fewer than all pages
owners_room : (slots : List ℕ) (i : ℕ) → i < length slots → get_or slots i 0 ≡ 0 → owners slots < length slots
unfolding owners
owners_room [] i lt e = absurd (omega arith)
owners_room (zero ∷ slots) zero lt e = let le = owners_all slots in omega arith
owners_room (suc k ∷ slots) zero lt e = absurd (omega arith)
owners_room (zero ∷ slots) (suc i) lt e = let less = owners_room slots i (omega arith) e in omega arith
owners_room (suc k ∷ slots) (suc i) lt e = let less = owners_room slots i (omega arith) e in omega arith

owners-set : (slots : List ℕ) (i slot : ℕ) → i < length slots → get_or slots i 0 ≡ 0 → 1 ≤ slot → owners (set slots i slot) ≡ suc (owners slots)
unfolding owners
owners-set [] i slot lt e pos = absurd (omega arith)
owners-set (x ∷ slots) zero zero lt e pos = absurd (omega arith)
owners-set (zero ∷ slots) zero (suc k) lt e pos = refl
owners-set (suc j ∷ slots) zero (suc k) lt e pos = absurd (omega arith)
owners-set (zero ∷ slots) (suc i) slot lt e pos = owners-set slots i slot (omega arith) e pos
owners-set (suc j ∷ slots) (suc i) slot lt e pos = ap suc (owners-set slots i slot (omega arith) e pos)

-- ---- slots that are handed out

pub used_few : (slots : List ℕ) (used : ℕ) → IsSlots slots used → used ≤ length slots + 1
used_few slots used are = let counted = are.counted in let le = owners_all slots in omega arith

pub no_owners : (n : ℕ) → IsSlots (replicate n 0) 1
no_owners n =
    let long : length (replicate {A = ℕ} n 0) ≡ n = length-replicate n 0 in
    record {
      below = λ page lt. let e : get_or (replicate {A = ℕ} n 0) page 0 ≡ 0 = get_or-replicate n page 0 0 (omega arith) in omega arith;
      apart = λ page other lt in_too ne e. get_or-replicate n page 0 0 (omega arith);
      counted = ap suc (sym (owners-replicate n));
    }

module _ (slots : List ℕ) (used : ℕ) (was : IsSlots slots used) (i : ℕ) (lt : i < length slots) (none : get_or slots i 0 ≡ 0) where
  pub room_of_next : used ≤ length slots
  room_of_next = let counted = was.counted in let less = owners_room slots i lt none in omega arith

  here : get_or (set slots i used) i 0 ≡ used
  here = get_or-set_same slots i used 0 lt

  there : (page : ℕ) → page ≢ i → get_or (set slots i used) page 0 ≡ get_or slots page 0
  there page ne = get_or-set_other slots i page used 0 ne

  -- if a page without a slot of its own gets the slot numbered `used`, the first `used + 1` slots are in use
  pub one_owner_more : IsSlots (set slots i used) (used + 1)
  one_owner_more =
      let long = length-set slots i used in let pos : 1 ≤ used = (let counted = was.counted in omega arith) in
      record {
        below = λ page inside. ⊎_elim
            (λ (e : page ≡ i). let it = ap (λ (k : ℕ). get_or (set slots i used) k 0) e ∙ here in omega arith)
            (λ (ne : page ≢ i). let it = there page ne in let less = was.below page (omega arith) in omega arith)
            (cases_eq page i);
        apart = λ page other inside in_too ne same. ⊎_elim
            (λ (e : page ≡ i).
            let mine = ap (λ (k : ℕ). get_or (set slots i used) k 0) e ∙ here in
            let others = there other (λ (o : other ≡ i). ne (e ∙ sym o)) in
            let less = was.below other (omega arith) in absurd (omega arith))
            (λ (off : page ≢ i). ⊎_elim
            (λ (o : other ≡ i).
            let its = ap (λ (k : ℕ). get_or (set slots i used) k 0) o ∙ here in let mine = there page off in
            let less = was.below page (omega arith) in absurd (omega arith))
            (λ (off_too : other ≢ i).
            there page off ∙ was.apart page other (omega arith) (omega arith) ne (sym (there page off) ∙ same ∙ there other off_too))
            (cases_eq other i))
            (cases_eq page i);
        counted = (let counted = was.counted in let more = owners-set slots i used lt none pos in omega arith);
      }

-- ---- the pages

module _ (items : List (List ℕ)) (slots : List ℕ) where
  pub length-pages_in : length (pages_in items slots) ≡ length slots
  unfolding pages_in
  length-pages_in = length-map slots _

  pub page_in : (i : ℕ) (d : List ℕ) → i < length slots → get_or (pages_in items slots) i d ≡ get_or items (get_or slots i 0) zero_page
  unfolding pages_in
  page_in i d lt = get_or-map _ slots i 0 d lt

-- `pages_in` gives the list `pages` if both lists have the same length and the same page at each index
same_pages : (items : List (List ℕ)) (slots : List ℕ) (pages : List (List ℕ)) → length slots ≡ length pages
    → ((i : ℕ) → i < length slots → get_or items (get_or slots i 0) zero_page ≡ get_or pages i zero_page) → pages_in items slots ≡ pages
same_pages items slots pages long each =
    let n = length-pages_in items slots in
    ext_get_or zero_page _ _ (n ∙ long) (λ i lt. page_in items slots i zero_page (omega arith) ∙ each i (omega arith))

pub pages_in-replicate : (items : List (List ℕ)) (n : ℕ) → get_or items 0 zero_page ≡ zero_page → pages_in items (replicate n 0) ≡ replicate n zero_page
pages_in-replicate items n zeros =
    let long : length (replicate {A = ℕ} n 0) ≡ n = length-replicate n 0 in let pages_long : length (replicate n zero_page) ≡ n = length-replicate n zero_page in
    same_pages items (replicate n 0) (replicate n zero_page) (long ∙ sym pages_long) (λ i lt.
    ap (λ (k : ℕ). get_or items k zero_page) (get_or-replicate n i 0 0 (omega arith)) ∙ zeros ∙ sym (get_or-replicate n i zero_page zero_page (omega arith)))

module _ (items : List (List ℕ)) (slots : List ℕ) (used : ℕ) (are : IsSlots slots used) (mark : used ≡ length items) (i : ℕ) (lt : i < length slots) (page : List ℕ) where
  abbrev slot : ℕ
  slot = get_or slots i 0

  pub slot_inside : slot < length items
  slot_inside = let less = are.below i lt in omega arith

  -- a write to a page's own slot changes that page alone
  written_own : 1 ≤ slot → pages_in (set items slot page) slots ≡ set (pages_in items slots) i page
  written_own own =
      let n = length-pages_in items slots in let m = length-set (pages_in items slots) i page in let inside = slot_inside in
      same_pages (set items slot page) slots (set (pages_in items slots) i page) (omega arith) (λ j j_in. ⊎_elim
      (λ (e : j ≡ i).
      ap (λ (k : ℕ). get_or (set items slot page) (get_or slots k 0) zero_page) e
      ∙ get_or-set_same items slot page zero_page inside
      ∙ sym (ap (λ (k : ℕ). get_or (set (pages_in items slots) i page) k zero_page) e ∙ get_or-set_same (pages_in items slots) i page zero_page (omega arith)))
      (λ (ne : j ≢ i).
      get_or-set_other items slot (get_or slots j 0) page zero_page (λ (same : get_or slots j 0 ≡ slot). let none = are.apart j i j_in lt ne same in absurd (omega arith))
      ∙ sym (get_or-set_other (pages_in items slots) i j page zero_page ne ∙ page_in items slots j zero_page j_in))
      (cases_eq j i))

  pub page_written : (own : ℕ) (now : List (List ℕ)) → own ≡ slot → 1 ≤ own → now ≡ set items own page → pages_in now slots ≡ set (pages_in items slots) i page
  page_written own now e pos is = ap (λ (ps : List (List ℕ)). pages_in ps slots) (is ∙ ap (λ (k : ℕ). set items k page) e) ∙ written_own (omega arith)

  -- adding a slot with a page's new bytes, and giving the page that slot, changes that page alone
  placed_next : pages_in (items ++ page ∷ []) (set slots i used) ≡ set (pages_in items slots) i page
  placed_next =
      let n = length-pages_in items slots in let m = length-set (pages_in items slots) i page in let long = length-set slots i used in
      same_pages (items ++ page ∷ []) (set slots i used) (set (pages_in items slots) i page) (omega arith) (λ j j_in. ⊎_elim
      (λ (e : j ≡ i).
      ap (λ (k : ℕ). get_or (items ++ page ∷ []) (get_or (set slots i used) k 0) zero_page) e
      ∙ ap (λ (k : ℕ). get_or (items ++ page ∷ []) k zero_page) (get_or-set_same slots i used 0 lt)
      ∙ get_or_at items page [] zero_page used (sym mark)
      ∙ sym (ap (λ (k : ℕ). get_or (set (pages_in items slots) i page) k zero_page) e ∙ get_or-set_same (pages_in items slots) i page zero_page (omega arith)))
      (λ (ne : j ≢ i).
      let less = are.below j (omega arith) in
      ap (λ (k : ℕ). get_or (items ++ page ∷ []) k zero_page) (get_or-set_other slots i j used 0 ne)
      ∙ get_or_append_left items (page ∷ []) zero_page (get_or slots j 0) (omega arith)
      ∙ sym (get_or-set_other (pages_in items slots) i j page zero_page ne ∙ page_in items slots j zero_page (omega arith)))
      (cases_eq j i))

  pub page_placed : (now : List (List ℕ)) (owned : List ℕ) → now ≡ put_at items used page → owned ≡ set slots i used → pages_in now owned ≡ set (pages_in items slots) i page
  page_placed now owned is e = (λ k. pages_in ((is ∙ sym (put_last items used page mark)) k) (e k)) ∙ placed_next

-- clearing a page that shares slot 0 leaves the pages as they are, since slot 0 has zeros
pub page_shared : (items : List (List ℕ)) (slots : List ℕ) (i : ℕ) → get_or items 0 zero_page ≡ zero_page → i < length slots → get_or slots i 0 ≡ 0
    → set (pages_in items slots) i zero_page ≡ pages_in items slots
page_shared items slots i zeros lt none =
    let it : get_or (pages_in items slots) i zero_page ≡ zero_page = page_in items slots i zero_page lt ∙ ap (λ (k : ℕ). get_or items k zero_page) none ∙ zeros in
    ap (set (pages_in items slots) i) (sym it) ∙ set-get_or (pages_in items slots) i zero_page

-- clearing the page that follows a run of cleared pages makes the run longer by one page
pub run_more : (pages : List (List ℕ)) (first i : ℕ) → first ≤ i → i < length pages
    → set (with_run pages first (i - first) zero_page) i zero_page ≡ with_run pages first (i + 1 - first) zero_page
run_more pages first i low lt =
    let at : i ≡ first + (i - first) = omega arith in let more : i - first + 1 ≡ i + 1 - first = omega arith in
    ap (λ (k : ℕ). set (with_run pages first (i - first) zero_page) k zero_page) at
    ∙ with_run_more pages first (i - first) zero_page (omega arith)
    ∙ ap (λ (n : ℕ). with_run pages first n zero_page) more
