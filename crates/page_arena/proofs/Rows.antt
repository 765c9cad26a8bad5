-- Proofs that ownership of a row (an array of items) can be split into ownership of single items and joined again.
-- Assumes the separation logic `Logic`.
--     Starts, Owner, start_val, owner_val      the two structs, and the machine values that they are
--     found            the item at an index.        begins_below      the offset where it begins fits 64 bits
--     null_lends, null_owns        nothing lies at null
--     shows_one        one item of a row that is borrowed by a `&`
--     item_out, item_in        an item is taken out of the row, and another is put in its place
--     Pair, pair       two items are taken out, and another is put in the place of the second
--     Place, place     an index that can be written: that of an item, or the one after the last
--     fresh, all_room      a new row, without items;  the memory of the whole row, without its items
--     closed, Rest, one_back, PairRest, pair_back      the row after a `&mut`, with other items: all of them, all but
--                                                      one, all but two
--     Others           the tokens of the parameters' lifetimes
use Rattle.page_arena.proofs.Steps.{◌≡◌, refl, sym, ap, ◌∙◌, List, [], ◌∷◌, ◌++◌, ℕ, zero, suc, ◌+◌, ◌-◌, ◌*◌, ◌<◌, ◌≤◌, ◌^◌, arith, length}
use Rattle.page_arena.proofs.Steps.{get_or, set, length-set, Ura, full_share, ent, sep, never, sem, Logic, Lft, Fml, Ty, Val, ftrue}
use Rattle.page_arena.proofs.Steps.{fsep, froom, ty_array, vstruct, vcons, vnil, ‵, ◌⊛◌, given, learn, ◌$◌, ◌∵◌, !, qed, done, by, drop}
use Rattle.page_arena.proofs.Steps.{move, use0, use1, use2, use3, split, split3, fsplit, fjoin, rewrite, RattleType, Array, part_at, shared_of}
use Rattle.page_arena.proofs.Steps.{each_shared, Ptr, block_ptr, null_ptr, ptr_val, room_for, ◌+ₚ◌, mem, cell_at, fpack, flft, Item}
use native.Mathlib.Nat.{zero-mul, suc-mul}
use lib.ListN.{length-append}
use base.Logic.{emp, fst∗}
use contract.Lifetimes.{Lfts, Shares}
use base.Fml.{fseps}
use denote.Memory.{shares, part_of}
use denote.Index.{others}
use denote.Lowered.{Lowered}
use denote.Shadow.{makes_shadow}
use denote.Param.Laws.{param_laws}
use denote.Struct.Struct.{Struct}
use denote.Struct.Owning.{shape, to}
use Rattle.std.proofs.Common.{inl, inr, ◌≢◌}
use Rattle.std.proofs.lemmas.Bool.{cases_lt}
use Rattle.std.proofs.lemmas.List.{set-get_or, get_or-set_other}
use Rattle.core.specs.Allocator.{array_of}
use Rattle.core.proofs.ptr.Rows.{one_below, times_below}
use Rattle.core.proofs.alloc.Calls.{token}
use Rattle.std_alloc.proofs.RawLayout.{as_raw, as_written}
use Rattle.std_alloc.proofs.VecSteps.El.{El, R, P, elτ, el_x, sz}
use Rattle.std_alloc.proofs.VecSteps.Rows.{take_out, put_in, el_room, spare, snoc, empty, all_room as arr_room}
use Rattle.std_alloc.proofs.VecSteps.Gaps.{Beside, two_out, two_in}
use Rattle.page_arena.specs.Owned.{row_owns, row_lends, Reaches, put_at}
use Rattle.page_arena.proofs.Puts.{put_last, put_inside}
use Rattle.page_arena.specs.Lends.{with_items}
use Rattle.page_arena.specs.contracts.row.Row as row
use Rattle.page_arena.specs.contracts.row.Start as start
use Rattle.page_arena.proofs.row.Start.TheLaws as start_laws
use Rattle.page_arena.proofs.row.Row.TheLaws as row_laws

-- a list has an item at each index below its length, and a lookup there gives the item whatever the default is
pub found : {X : Type 0} (xs : List X) (i : ℕ) → i < length xs → (x : X) × ((d : X) → get_or xs i d ≡ x)
found [] i lt = absurd (omega arith)
found (x ∷ xs) zero lt = (x, λ d. refl)
found (x ∷ xs) (suc i) lt = found xs i (omega arith)

module _ (E : El) where
  abbrev pub Starts : RattleType
  Starts = start.the_row (R E)

  abbrev pub Owner : RattleType
  Owner = row.the_row (R E) (P E) E.al.g

  abbrev pub start_lowers : Lowered Starts
  start_lowers = start_laws.lowers (R E) (param_laws 0 E.row E.laws)

  abbrev pub owner_lowers : Lowered Owner
  owner_lowers = row_laws.lowers (R E) (P E) E.al.g (param_laws 0 E.row E.laws) (param_laws 1 E.al.row E.al.laws)

  abbrev pub start_val : Starts.Denot → List Val
  start_val s = start_lowers.lowered s ∷ []

  abbrev pub owner_val : Owner.Denot → List Val
  owner_val r = owner_lowers.lowered r ∷ []

  -- the ownership of `mark`, the only field of a `Row` that is not ghost
  abbrev pub Mark : Owner.Denot → List Val → Fml
  Mark r = (Struct (shape (row.the_type (R E) (P E) E.al.g))).own_val (to (row.the_type (R E) (P E) E.al.g) r)

  abbrev pub right : E.al.row.Denot → Ty → Ptr → Fml
  right = token E.al

  -- if the items of an array take fewer than 2^63 bytes, the size of an item and the offset of each item fit in 64 bits
  pub begins_below : (count index : ℕ) → index < count → Reaches (R E) count → (sz E < 2 ^ 64) × (index * sz E < 2 ^ 64)
  begins_below count index lt reaches =
      let one = one_below count (sz E) (2 ^ 63) (omega arith) reaches.0 in
      let far = times_below index count (sz E) (2 ^ 63) (omega arith) reaches.0 in (omega arith, omega arith)

module _ (E : El) {M : Type 1} {𝓤 : Ura M} (𝓛 : Logic 𝓤) where
  pub null_lends : (xs : List (el_x E)) (κ : Lft) → ent 𝓤 (sem 𝓛 (row_lends (R E) null_ptr xs κ)) (never 𝓤)
  null_lends xs κ = fst∗ 𝓤 (never 𝓤) (sem 𝓛 (shared_of (Array (R E) (length xs)) xs 0 0 κ))

  pub null_owns : (t : Ty → Ptr → Fml) (n : ℕ) (xs : List (el_x E)) → ent 𝓤 (sem 𝓛 (row_owns t (R E) null_ptr n xs)) (never 𝓤)
  null_owns t n xs =
      fst∗ 𝓤 (never 𝓤) (sem 𝓛 (fsep (room_for (array_of (R E) (n - length xs)) (null_ptr +ₚ length xs * sz E)) (t (array_of (R E) n) null_ptr)))

  -- the shared borrow of a list of items includes the shared borrow of each item
  pub shows_one : (κ : Lft) (b : ℕ) (xs : List (el_x E)) (o i : ℕ) (d : el_x E) → i < length xs
      → ent 𝓤 (sem 𝓛 (each_shared xs (shared_of (R E)) (sz E) b o κ)) (sem 𝓛 (shared_of (R E) (get_or xs i d) b (i * sz E + o) κ))
  shows_one κ b [] o i d lt = absurd (omega arith)
  shows_one κ b (x ∷ xs) o zero d lt =
      qed 𝓛 (‵ (each_shared (x ∷ xs) (shared_of (R E)) (sz E) b o κ) ∷ []) ∵ fsplit ! $ move ! (1 ∷ []) $ drop ! $
      rewrite ! 0 (λ (k : ℕ). ‵ (shared_of (R E) x b k κ)) {x = zero * sz E + o} (omega (arith, zero-mul (sz E))) refl $ done !
  shows_one κ b (x ∷ xs) o (suc i) d lt =
      qed 𝓛 (‵ (each_shared (x ∷ xs) (shared_of (R E)) (sz E) b o κ) ∷ []) ∵ fsplit ! $ drop ! $
      use1 𝓛 (‵ (shared_of (R E) (get_or xs i d) b (i * sz E + (o + sz E)) κ)) (shows_one κ b xs (o + sz E) i d (omega arith)) $
      rewrite ! 0 (λ (k : ℕ). ‵ (shared_of (R E) (get_or xs i d) b k κ)) {x = suc i * sz E + o} (omega (arith, suc-mul i (sz E))) refl $ done !

-- the machine value of a `Row`, the owner of an array
abbrev pub mark : Val
mark = vstruct (vcons (vstruct vnil) vnil)

module _ (E : El) {M : Type 1} {𝓤 : Ura M} (𝓛 : Logic 𝓤) where
  pub mark_made : (r : (Owner E).Denot) → ent 𝓤 (emp 𝓤) (sem 𝓛 (Mark E r (mark ∷ [])))
  mark_made r = makes_shadow 𝓛 (Mark E r (mark ∷ [])) (λ vss. (tt, ((λ uss. (tt, tt)), tt))) ((vstruct vnil ∷ [], tt), (refl, ((tt, (refl, tt)), tt)))

  pub start_made : (s : (Starts E).Denot) → ent 𝓤 (emp 𝓤) (sem 𝓛 ((Starts E).own_val s (start_val E s)))
  start_made s = makes_shadow 𝓛 ((Starts E).own_val s (start_val E s)) (λ vss. (tt, (tt, tt))) ((ptr_val s.first ∷ [], tt), (refl, (refl, tt)))

module _ (E : El) {M : Type 1} {𝓤 : Ura M} (𝓛 : Logic 𝓤) (t : Ty → Ptr → Fml) (b o room : ℕ) where
  -- the ownership of the items at the start of the memory
  abbrev pub Items : List (el_x E) → Fml
  Items xs = part_at (Array (R E) (length xs)) full_share xs b o

  -- the unused memory after the first `n` items, with the right to free the whole memory
  abbrev pub Behind : ℕ → Fml
  Behind n = fsep (room_for (array_of (R E) (room - n)) (block_ptr b o +ₚ n * sz E)) (t (array_of (R E) room) (block_ptr b o))

  -- the items, and the unused memory after them with the right to free the whole memory
  abbrev pub All : List (el_x E) → Fml
  All xs = fsep (Items xs) (Behind (length xs))

  abbrev pub at : ℕ → ℕ
  at i = i * sz E + o

  abbrev pub one : ℕ → el_x E → Fml
  one i x = part_at (R E) full_share x b (at i)

  -- if `ys` and `xs` have equal lengths, the items `ys` and the unused memory after `xs` are together an array of the
  -- items `ys`
  same_many : (xs ys : List (el_x E)) → length ys ≡ length xs → ent 𝓤 (sep 𝓤 (sem 𝓛 (part_at (Array (R E) (length xs)) full_share ys b o)) (sem 𝓛 (Behind (length xs)))) (sem 𝓛 (All ys))
  same_many xs ys e =
      qed 𝓛 (‵ (part_at (Array (R E) (length xs)) full_share ys b o) ∷ ‵ (Behind (length xs)) ∷ []) ∵
      rewrite ! 0 (λ (k : ℕ). ‵ (part_at (Array (R E) k) full_share ys b o)) (sym e) refl $ rewrite ! 1 (λ (k : ℕ). ‵ (Behind k)) (sym e) refl $ fjoin ! $ done !

  module _ (xs : List (el_x E)) (i : ℕ) (lt : i < length xs) where
    abbrev pub Besides : Fml
    Besides = fsep (others (shares (R E)) full_share xs i b o) (Behind (length xs))

    pub item_out : (d : el_x E) → ent 𝓤 (sem 𝓛 (All xs)) (sep 𝓤 (sem 𝓛 (one i (get_or xs i d))) (sem 𝓛 Besides))
    item_out d =
        qed 𝓛 (‵ (All xs) ∷ []) ∵ fsplit ! $
        use1 𝓛 (given (length xs ≡ length xs) (‵ (one i (get_or xs i d)) ⊛ ‵ (others (shares (R E)) full_share xs i b o))) (take_out E 𝓛 (length xs) xs i d b o lt) $
        learn ! (λ _. split ! $ move ! (1 ∷ 2 ∷ []) $ fjoin ! $ move ! (1 ∷ 0 ∷ []) $ done !)

    pub item_in : (y : el_x E) → ent 𝓤 (sep 𝓤 (sem 𝓛 (one i y)) (sem 𝓛 Besides)) (sem 𝓛 (All (set xs i y)))
    item_in y =
        qed 𝓛 (‵ (one i y) ∷ ‵ Besides ∷ []) ∵ move ! (1 ∷ []) $ fsplit ! $ move ! (2 ∷ 0 ∷ []) $
        use2 𝓛 (‵ (part_at (Array (R E) (length xs)) full_share (set xs i y) b o)) (put_in E 𝓛 (length xs) xs i y b o lt refl) $
        by ! (same_many xs (set xs i y) (length-set xs i y))

  -- Two items of an array, one to read and one to write. The fields are what is owned besides the two, and the proofs
  -- that both can be taken out of the array, and put back with the second replaced.
  pub record Pair (xs : List (el_x E)) (i j : ℕ) : Type 1 where
    pub besides : Fml
    pub out : (d : el_x E) → ent 𝓤 (sem 𝓛 (All xs)) (sep 𝓤 (sem 𝓛 (one i (get_or xs i d))) (sep 𝓤 (sem 𝓛 (one j (get_or xs j d))) (sem 𝓛 besides)))
    pub back : (d w : el_x E) → ent 𝓤 (sep 𝓤 (sem 𝓛 (one i (get_or xs i d))) (sep 𝓤 (sem 𝓛 (one j w)) (sem 𝓛 besides))) (sem 𝓛 (All (set xs j w)))

  -- if `i` is below `j`, the items at `i` and `j` can be taken out of an array, and two items put back in their places
  module _ (xs : List (el_x E)) (i j : ℕ) (lt : i < j) (j_in : j < length xs) where
    abbrev Apart : Fml
    Apart = fsep (Beside E 𝓛 b o xs i j) (Behind (length xs))

    both_out : (d : el_x E) → ent 𝓤 (sem 𝓛 (All xs)) (sep 𝓤 (sem 𝓛 (one i (get_or xs i d))) (sep 𝓤 (sem 𝓛 (one j (get_or xs j d))) (sem 𝓛 Apart)))
    both_out d =
        qed 𝓛 (‵ (All xs) ∷ []) ∵ fsplit ! $
        use1 𝓛 (‵ (one i (get_or xs i d)) ⊛ ‵ (one j (get_or xs j d)) ⊛ ‵ (Beside E 𝓛 b o xs i j)) (two_out E 𝓛 b o (length xs) i j xs d lt j_in) $ split3 ! $
        move ! (2 ∷ 3 ∷ []) $ fjoin ! $ move ! (1 ∷ 2 ∷ 0 ∷ []) $ done !

    both_in : (x y : el_x E) (zs : List (el_x E)) → set (set xs i x) j y ≡ zs → length zs ≡ length xs → ent 𝓤 (sep 𝓤 (sem 𝓛 (one i x)) (sep 𝓤 (sem 𝓛 (one j y)) (sem 𝓛 Apart))) (sem 𝓛 (All zs))
    both_in x y zs same many =
        qed 𝓛 (‵ (one i x) ∷ ‵ (one j y) ∷ ‵ Apart ∷ []) ∵ move ! (2 ∷ []) $ fsplit ! $ move ! (2 ∷ 3 ∷ 0 ∷ []) $
        use3 𝓛 (‵ (part_at (Array (R E) (length xs)) full_share (set (set xs i x) j y) b o)) (two_in E 𝓛 b o (length xs) i j xs x y lt j_in refl) $
        rewrite ! 0 (λ (ys : List (el_x E)). ‵ (part_at (Array (R E) (length xs)) full_share ys b o)) same refl $ by ! (same_many xs zs many)

  reads_first : (xs : List (el_x E)) (i j : ℕ) → i < j → j < length xs → Pair xs i j
  reads_first xs i j lt j_in = record {
    besides = Apart xs i j lt j_in;
    out = both_out xs i j lt j_in;
    back = λ d w. both_in xs i j lt j_in (get_or xs i d) w (set xs j w) (ap (λ (zs : List (el_x E)). set zs j w) (set-get_or xs i d)) (length-set xs j w);
  }

  reads_second : (xs : List (el_x E)) (i j : ℕ) → j < i → i < length xs → Pair xs i j
  reads_second xs i j lt i_in =
      let Rest = Apart xs j i lt i_in in
      let other : i ≢ j = λ (e : i ≡ j). omega arith in
      record {
        besides = Rest;
        out = λ d. qed 𝓛 (‵ (All xs) ∷ []) ∵
            use1 𝓛 (‵ (one j (get_or xs j d)) ⊛ ‵ (one i (get_or xs i d)) ⊛ ‵ Rest) (both_out xs j i lt i_in d) $ split3 ! $ move ! (1 ∷ 0 ∷ 2 ∷ []) $ done !;
        back = λ d w. let ys : List (el_x E) = set xs j w in
            let kept : set ys i (get_or xs i d) ≡ ys = ap (set ys i) (sym (get_or-set_other xs j i w d other)) ∙ set-get_or ys i d in
            qed 𝓛 (‵ (one i (get_or xs i d)) ∷ ‵ (one j w) ∷ ‵ Rest ∷ []) ∵ move ! (1 ∷ 0 ∷ 2 ∷ []) $
            use3 𝓛 (‵ (All ys)) (both_in xs j i lt i_in w (get_or xs i d) ys kept (length-set xs j w)) $ done !;
      }

  pub pair : (xs : List (el_x E)) (i j : ℕ) → i < length xs → j < length xs → i ≢ j → Pair xs i j
  pair xs i j i_in j_in other = elim (cases_lt i j) [ inl lt ↦ reads_first xs i j lt j_in | inr le ↦ reads_second xs i j (omega (arith, le, other)) i_in ]

  -- An index of an array at which an item can be written. The fields are what is owned besides the memory there, and
  -- the proofs that this memory can be taken out, and put back with an item in it.
  pub record Place (xs : List (el_x E)) (i : ℕ) : Type 1 where
    pub besides : Fml
    pub out : ent 𝓤 (sem 𝓛 (All xs)) (sep 𝓤 (sem 𝓛 (froom (elτ E) b (at i))) (sem 𝓛 besides))
    pub back : (x : el_x E) → ent 𝓤 (sep 𝓤 (sem 𝓛 (one i x)) (sem 𝓛 besides)) (sem 𝓛 (All (put_at xs i x)))

  inside : (xs : List (el_x E)) (i : ℕ) → i < length xs → Place xs i
  inside xs i lt = let it = found xs i lt in record {
    besides = Besides xs i lt;
    out = qed 𝓛 (‵ (All xs) ∷ []) ∵ use1 𝓛 (‵ (one i (get_or xs i it.0)) ⊛ ‵ (Besides xs i lt)) (item_out xs i lt it.0) $ split ! $
        use1 𝓛 (‵ (froom (elτ E) b (at i))) (el_room E 𝓛 (get_or xs i it.0) b (at i)) $ done !;
    back = λ x. qed 𝓛 (‵ (one i x) ∷ ‵ (Besides xs i lt) ∷ []) ∵ use2 𝓛 (‵ (All (set xs i x))) (item_in xs i lt x) $
        rewrite ! 0 (λ (zs : List (el_x E)). ‵ (All zs)) (put_inside xs i x lt) refl $ done !;
  }

  behind : (xs : List (el_x E)) (i : ℕ) → i ≡ length xs → i < room → Place xs i
  behind xs i e lt =
      let n = length xs in let n_lt : n < room = omega arith in
      let Rest : Fml = fsep (Items xs) (fsep (froom (ty_array (elτ E) (room - (n + 1))) b (o + (n + 1) * sz E)) (t (array_of (R E) room) (block_ptr b o))) in
      record {
        besides = Rest;
        out = qed 𝓛 (‵ (All xs) ∷ []) ∵ fsplit ! $ move ! (1 ∷ []) $ fsplit ! $ as_written ! (ty_array (elτ E) (room - n)) b (o + n * sz E) $
            use1 𝓛 (‵ (froom (elτ E) b (n * sz E + o)) ⊛ ‵ (froom (ty_array (elτ E) (room - (n + 1))) b (o + (n + 1) * sz E))) (spare E 𝓛 b o n room n_lt) $ split ! $
            rewrite ! 0 (λ (k : ℕ). ‵ (froom (elτ E) b (k * sz E + o))) (sym e) refl $ move ! (1 ∷ 2 ∷ []) $ fjoin ! $ move ! (2 ∷ 0 ∷ []) $ fjoin ! $ move ! (1 ∷ 0 ∷ []) $ done !;
        back = λ x. let more : n + 1 ≡ length (xs ++ x ∷ []) = sym (length-append xs (x ∷ [])) in
            qed 𝓛 (‵ (one i x) ∷ ‵ Rest ∷ []) ∵ rewrite ! 0 (λ (k : ℕ). ‵ (one k x)) e refl $ move ! (1 ∷ []) $ fsplit ! $ move ! (0 ∷ 2 ∷ []) $
            use2 𝓛 (‵ (part_at (Array (R E) (n + 1)) full_share (xs ++ x ∷ []) b o)) (snoc E 𝓛 b o n xs x) $
            rewrite ! 0 (λ (k : ℕ). ‵ (part_at (Array (R E) k) full_share (xs ++ x ∷ []) b o)) more refl $ move ! (1 ∷ []) $ fsplit ! $
            as_raw ! (ty_array (elτ E) (room - (n + 1))) b (o + (n + 1) * sz E) $ fjoin ! $ rewrite ! 0 (λ (k : ℕ). ‵ (Behind k)) more refl $
            move ! (1 ∷ 0 ∷ []) $ fjoin ! $ rewrite ! 0 (λ (zs : List (el_x E)). ‵ (All zs)) (put_last xs i x e) refl $ done !;
      }

  pub place : (xs : List (el_x E)) (i : ℕ) → i ≤ length xs → i < room → Place xs i
  place xs i le lt = elim (cases_lt i (length xs)) [ inl inner ↦ inside xs i inner | inr end ↦ behind xs i (omega (arith, le, end)) lt ]

  -- newly allocated memory, with the right to free it, is an array without items
  pub fresh : ent 𝓤 (sep 𝓤 (sem 𝓛 (froom (array_of (R E) room) b o)) (sem 𝓛 (t (array_of (R E) room) (block_ptr b o)))) (sem 𝓛 (All []))
  fresh =
      let none : o ≡ o + 0 * sz E = omega (arith, zero-mul (sz E)) in let whole : room ≡ room - 0 = omega arith in
      qed 𝓛 (‵ (froom (array_of (R E) room) b o) ∷ ‵ (t (array_of (R E) room) (block_ptr b o)) ∷ []) ∵
      rewrite ! 0 (λ (k : ℕ). ‵ (froom (array_of (R E) room) b k)) none refl $ rewrite ! 0 (λ (k : ℕ). ‵ (froom (array_of (R E) k) b (o + 0 * sz E))) whole refl $ fjoin ! $
      use0 𝓛 (‵ (Items [])) (empty E 𝓛 [] b o refl) $ fjoin ! $ done !

  -- if an array has at most `room` items, giving up the items leaves the whole memory unused, with the right to free
  -- the memory
  pub all_room : (xs : List (el_x E)) → length xs ≤ room → ent 𝓤 (sem 𝓛 (All xs)) (sep 𝓤 (sem 𝓛 (froom (ty_array (elτ E) room) b o)) (sem 𝓛 (t (array_of (R E) room) (block_ptr b o))))
  all_room xs le =
      qed 𝓛 (‵ (All xs) ∷ []) ∵ fsplit ! $ move ! (1 ∷ []) $ fsplit ! $ as_written ! (ty_array (elτ E) (room - length xs)) b (o + length xs * sz E) $ move ! (2 ∷ 0 ∷ []) $
      use2 𝓛 (‵ (froom (ty_array (elτ E) room) b o)) (arr_room E 𝓛 b o (length xs) room xs le) $ done !

-- replacing items of a `Row` that is borrowed by a `&mut` gives a `Row` with the new items
module _ (E : El) {M : Type 1} {𝓤 : Ura M} (𝓛 : Logic 𝓤) (row : (Owner E).Denot) (rb ro : ℕ) (us : List Val) (b o : ℕ) (e : row.at ≡ block_ptr b o) where
  pub closed : (xs : List (el_x E))
      → ent 𝓤 (sep 𝓤 (sem 𝓛 (All E 𝓛 (right E row.alloc) b o row.room xs)) (sem 𝓛 (fsep (Mark E row us) (cell_at full_share (Owner E).mir us rb ro))))
      (sem 𝓛 ((mem (Owner E)).own_at (with_items row xs) rb ro))
  unfolding part_of
  closed xs =
      let new = with_items row xs in
      qed 𝓛 (‵ (All E 𝓛 (right E row.alloc) b o row.room xs) ∷ ‵ (fsep (Mark E row us) (cell_at full_share (Owner E).mir us rb ro)) ∷ []) ∵
      rewrite ! 0 (λ (p : Ptr). ‵ (row_owns (right E row.alloc) (R E) p row.room xs)) (sym e) refl $ move ! (1 ∷ []) $ fsplit ! $ move ! (0 ∷ 2 ∷ []) $ fjoin ! $ move ! (1 ∷ 0 ∷ []) $ fjoin ! $
      fpack ! (List Val) (λ vs. fsep (cell_at full_share (Owner E).mir vs rb ro) ((Owner E).own_val new vs)) us $ done !

  -- the ownership of the `Row` with all of its array but one item
  abbrev pub Rest : (i : ℕ) → i < length row.items → Fml
  Rest i lt = fsep (Besides E 𝓛 (right E row.alloc) b o row.room row.items i lt) (fsep (Mark E row us) (cell_at full_share (Owner E).mir us rb ro))

  abbrev pub written : ℕ → el_x E → (Owner E).Denot
  written i w = with_items row (set row.items i w)

  pub one_back : (i : ℕ) (lt : i < length row.items) (w : el_x E)
      → ent 𝓤 (sep 𝓤 (sem 𝓛 ((mem (R E)).own_at w b (i * sz E + o))) (sem 𝓛 (Rest i lt))) (sem 𝓛 ((mem (Owner E)).own_at (written i w) rb ro))
  unfolding part_of
  one_back i lt w =
      qed 𝓛 (‵ (part_at (R E) full_share w b (i * sz E + o)) ∷ ‵ (Rest i lt) ∷ []) ∵ move ! (1 ∷ []) $ fsplit ! $ move ! (2 ∷ 0 ∷ []) $
      use2 𝓛 (‵ (All E 𝓛 (right E row.alloc) b o row.room (set row.items i w))) (item_in E 𝓛 (right E row.alloc) b o row.room row.items i lt w) $ by ! (closed (set row.items i w))

  -- the ownership of the `Row` with all of its array but the two items of a `Pair`
  abbrev pub PairRest : (i j : ℕ) → Pair E 𝓛 (right E row.alloc) b o row.room row.items i j → Fml
  PairRest i j two = fsep two.besides (fsep (Mark E row us) (cell_at full_share (Owner E).mir us rb ro))

  pub pair_back : (i j : ℕ) (two : Pair E 𝓛 (right E row.alloc) b o row.room row.items i j) (d w : el_x E)
      → ent 𝓤 (sep 𝓤 (sem 𝓛 ((mem (R E)).own_at w b (j * sz E + o))) (sep 𝓤 (sem 𝓛 (fseps (part_at (R E) full_share (get_or row.items i d) b (i * sz E + o) ∷ []))) (sem 𝓛 (PairRest i j two))))
      (sem 𝓛 ((mem (Owner E)).own_at (written j w) rb ro))
  unfolding part_of fseps
  pair_back i j two d w =
      let x : el_x E = get_or row.items i d in
      qed 𝓛 (‵ (part_at (R E) full_share w b (j * sz E + o)) ∷ ‵ (fsep (part_at (R E) full_share x b (i * sz E + o)) ftrue) ∷ ‵ (PairRest i j two) ∷ []) ∵
      move ! (1 ∷ []) $ fsplit ! $ move ! (1 ∷ []) $ drop ! $ move ! (2 ∷ []) $ fsplit ! $ move ! (2 ∷ 3 ∷ 0 ∷ []) $
      use3 𝓛 (‵ (All E 𝓛 (right E row.alloc) b o row.room (set row.items j w))) (two.back d w) $ by ! (closed (set row.items j w))

-- the tokens of the lifetimes of the two type parameters
abbrev pub Others : {M : Type 1} {𝓤 : Ura M} (𝓛 : Logic 𝓤) → Lfts 3 → Shares 3 → Item 𝓤
Others 𝓛 κs qs = ‵ (flft κs.1.0 qs.1.0) ⊛ ‵ (flft κs.1.1.0 qs.1.1.0) ⊛ ‵ ftrue
