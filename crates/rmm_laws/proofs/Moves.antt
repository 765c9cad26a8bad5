-- Proofs that each granule keeps one role when the use of pages moves from a block to the entries of a table, or back.
use Rattle.std.proofs.Common.{◌≡◌, ◌≢◌, ℕ, ◌+◌, ◌*◌, ◌/◌, ◌%◌, ◌<◌, ◌≤◌, ◌⊎◌, inl, inr, ⊎_elim, Option, Some, None, refl, sym, ap, subst, ◌∙◌, arith}
use Rattle.std.proofs.lemmas.Bool.{cases_eq, cases_lt}
use Rattle.std.proofs.lemmas.Nat.{div-mul-add, mod-mul-add, div-add-mod', div_below, mod_below}
use Rattle.rmm_laws.specs.Role.{Used, IsUsed, HasNoUser, HasOneRole}

-- `F` and `G` have the same uses, at users, indices and parts that `Same` relates. A place is a user, an index and a
-- part. `Same` relates a place in `F` to at most one place in `G`.
pub record IsMoved (F G : ℕ → ℕ → ℕ → Option Used) (Same : ℕ → ℕ → ℕ → ℕ → ℕ → ℕ → Type 0) : Type 0 where
  pub forth : (x i k : ℕ) (u : Used) → F x i k ≡ Some u → (y : ℕ) × (j : ℕ) × (l : ℕ) × Same x i k y j l × (G y j l ≡ Some u)
  pub back : (y j l : ℕ) (u : Used) → G y j l ≡ Some u → (x : ℕ) × (i : ℕ) × (k : ℕ) × Same x i k y j l × (F x i k ≡ Some u)
  pub one : (x i k y j l z h p : ℕ) → Same x i k y j l → Same x i k z h p → (y ≡ z) × (j ≡ h) × (l ≡ p)

module _ (F G : ℕ → ℕ → ℕ → Option Used) (S : ℕ → Used) (Same : ℕ → ℕ → ℕ → ℕ → ℕ → ℕ → Type 0) (moved : IsMoved F G Same) (number : (g : ℕ) → (S g).number ≡ g) where
  moved_used : (g : ℕ) → IsUsed F S g → HasOneRole G S g
  moved_used g r =
      let there = moved.forth r.user r.index r.part (S g) r.is in
      inl (record {
        user = there.0;
        index = there.1;
        part = there.2;
        is = there.4;
        once = λ y j l u gives at.
            let from = moved.back y j l u gives in
            let same = r.once from.0 from.1 from.2 u from.4 at in
            let here : Same r.user r.index r.part y j l =
            subst (λ (x : ℕ). Same x r.index r.part y j l) same.0
            (subst (λ (i : ℕ). Same from.0 i r.part y j l) same.1 (subst (λ (k : ℕ). Same from.0 from.1 k y j l) same.2 from.3)) in
            moved.one r.user r.index r.part y j l there.0 there.1 there.2 here there.3;
        role = r.role;
      })

  pub moved_roles : ((g : ℕ) → HasOneRole F S g) → (g : ℕ) → HasOneRole G S g
  moved_roles roles g =
      ⊎_elim
      (λ (r : IsUsed F S g). moved_used g r)
      (λ (r : HasNoUser F S g). inr (record {
        none = λ y j l u gives at. (let from = moved.back y j l u gives in r.none from.0 from.1 from.2 u from.4 at);
        role = r.role;
      }))
      (roles g)

-- ---- a block that becomes the pages of a table, and the other way round

-- In `B`, entry `i` of table `t` uses `C` pages; in `P`, each of the 512 entries of table `g` uses `c` of these pages.
pub record IsUnfolded (B P : ℕ → ℕ → ℕ → Option Used) (t i g C c : ℕ) (memory : ℕ → Used) : Type 0 where
  pub some : 0 < c
  pub whole : C ≡ 512 * c
  pub block : (k : ℕ) → k < C → B t i k ≡ Some (memory k)
  pub block_end : (k : ℕ) → C ≤ k → B t i k ≡ None
  pub parts : (j l : ℕ) → j < 512 → l < c → P g j l ≡ Some (memory (j * c + l))
  pub parts_end : (j l : ℕ) → (512 ≤ j) ⊎ (c ≤ l) → P g j l ≡ None
  pub cut : (k : ℕ) → P t i k ≡ None
  pub free : (j k : ℕ) → B g j k ≡ None
  pub beside : (x j k : ℕ) → x ≢ g → (x ≢ t) ⊎ (j ≢ i) → P x j k ≡ B x j k

module _ (B P : ℕ → ℕ → ℕ → Option Used) (t i g C c : ℕ) (memory : ℕ → Used) (u : IsUnfolded B P t i g C c memory) where
  -- page `k` of the block is page `l` of entry `j` of the table
  abbrev IsPart : ℕ → ℕ → ℕ → ℕ → ℕ → ℕ → Type 0
  IsPart x h k y j l = (x ≡ t) × (h ≡ i) × (y ≡ g) × (k ≡ j * c + l) × (l < c)

  -- the user, the index and the part are the same in `B` and `P`, and belong to neither table `g` nor entry `i` of
  -- table `t`
  abbrev IsElsewhere : ℕ → ℕ → ℕ → ℕ → ℕ → ℕ → Type 0
  IsElsewhere x h k y j l = (y ≡ x) × (j ≡ h) × (l ≡ k) × (x ≢ g) × ((x ≢ t) ⊎ (h ≢ i))

  abbrev Same : ℕ → ℕ → ℕ → ℕ → ℕ → ℕ → Type 0
  Same x h k y j l = IsPart x h k y j l ⊎ IsElsewhere x h k y j l

  abbrev Back : ℕ → ℕ → ℕ → ℕ → ℕ → ℕ → Type 0
  Back y j l x h k = Same x h k y j l

  none_some : {o : Option Used} {v : Used} → o ≡ None → o ≡ Some v → ⊥
  none_some none some = cc

  -- each page that the block uses is used by an entry of the table
  from_block : (k : ℕ) (v : Used) → B t i k ≡ Some v → (j : ℕ) × (l : ℕ) × (k ≡ j * c + l) × (l < c) × (P g j l ≡ Some v)
  from_block k v is =
      ⊎_elim
      (λ (lt : k < C).
      let positive = u.some in
      let there : k ≡ k / c * c + k % c = sym (div-add-mod' k c) in
      let rest : k % c < c = mod_below k c positive in
      let row : k / c < 512 = div_below k c 512 positive (subst (λ (n : ℕ). k < n) u.whole lt) in
      let both : Some v ≡ Some (memory k) = sym is ∙ u.block k lt in
      (k / c, k % c, there, rest, u.parts (k / c) (k % c) row rest ∙ ap (λ (n : ℕ). Some (memory n)) (sym there) ∙ sym both))
      (λ (past : C ≤ k). absurd (none_some (u.block_end k past) is))
      (cases_lt k C)

  -- each page that an entry of the table uses is used by the block
  from_table : (j l : ℕ) (v : Used) → P g j l ≡ Some v → (l < c) × (B t i (j * c + l) ≡ Some v)
  from_table j l v is =
      ⊎_elim
      (λ (row : j < 512). ⊎_elim
      (λ (lt : l < c).
      let few : j ≤ 511 = omega arith in
      let high : j * c ≤ 511 * c = grind arith in
      let whole = u.whole in
      let both : Some v ≡ Some (memory (j * c + l)) = sym is ∙ u.parts j l row lt in
      (lt, u.block (j * c + l) (omega arith) ∙ sym both))
      (λ (past : c ≤ l). absurd (none_some (u.parts_end j l (inr past)) is))
      (cases_lt l c))
      (λ (past : 512 ≤ j). absurd (none_some (u.parts_end j l (inl past)) is))
      (cases_lt j 512)

  -- either `x` is `t` and `h` is `i`, or one of the two differs
  elsewhere : (x h : ℕ) → ((x ≡ t) × (h ≡ i)) ⊎ ((x ≢ t) ⊎ (h ≢ i))
  elsewhere x h =
      ⊎_elim
      (λ (same : x ≡ t). ⊎_elim (λ (at : h ≡ i). inl (same, at)) (λ (other : h ≢ i). inr (inr other)) (cases_eq h i))
      (λ (other : x ≢ t). inr (inl other))
      (cases_eq x t)

  at_block : (x h k : ℕ) → x ≡ t → h ≡ i → (F : ℕ → ℕ → ℕ → Option Used) → F x h k ≡ F t i k
  at_block x h k here at F = ap (λ (y : ℕ). F y h k) here ∙ ap (λ (j : ℕ). F t j k) at

  forth_place : (x h k : ℕ) (v : Used) → B x h k ≡ Some v → (y : ℕ) × (j : ℕ) × (l : ℕ) × Same x h k y j l × (P y j l ≡ Some v)
  forth_place x h k v is =
      ⊎_elim
      (λ (it : (x ≡ t) × (h ≡ i)).
      let there = from_block k v (sym (at_block x h k it.0 it.1 B) ∙ is) in
      (g, there.0, there.1, inl (it.0, it.1, refl, there.2, there.3), there.4))
      (λ (other : (x ≢ t) ⊎ (h ≢ i)).
      let not_g : x ≢ g = λ same. none_some (ap (λ (y : ℕ). B y h k) same ∙ u.free h k) is in
      (x, h, k, inr (refl, refl, refl, not_g, other), u.beside x h k not_g other ∙ is))
      (elsewhere x h)

  back_place : (y j l : ℕ) (v : Used) → P y j l ≡ Some v → (x : ℕ) × (h : ℕ) × (k : ℕ) × Same x h k y j l × (B x h k ≡ Some v)
  back_place y j l v is =
      ⊎_elim
      (λ (here : y ≡ g).
      let there = from_table j l v (sym (ap (λ (x : ℕ). P x j l) here) ∙ is) in
      (t, i, j * c + l, inl (refl, refl, here, refl, there.0), there.1))
      (λ (not_g : y ≢ g).
      ⊎_elim
      (λ (it : (y ≡ t) × (j ≡ i)). absurd (none_some (at_block y j l it.0 it.1 P ∙ u.cut l) is))
      (λ (other : (y ≢ t) ⊎ (j ≢ i)). (y, j, l, inr (refl, refl, refl, not_g, other), sym (u.beside y j l not_g other) ∙ is))
      (elsewhere y j))
      (cases_eq y g)

  one_part : (j l h p : ℕ) → l < c → p < c → j * c + l ≡ h * c + p → (j ≡ h) × (l ≡ p)
  one_part j l h p lt also same = (
    sym (div-mul-add j c l lt) ∙ ap (λ (n : ℕ). n / c) same ∙ div-mul-add h c p also,
    sym (mod-mul-add j c l lt) ∙ ap (λ (n : ℕ). n % c) same ∙ mod-mul-add h c p also,
  )

  not_both : (x h : ℕ) → x ≡ t → h ≡ i → (x ≢ t) ⊎ (h ≢ i) → ⊥
  not_both x h here at (inl other) = other here
  not_both x h here at (inr other) = other at

  one_forth : (x h k y j l z m p : ℕ) → Same x h k y j l → Same x h k z m p → (y ≡ z) × (j ≡ m) × (l ≡ p)
  one_forth x h k y j l z m p (inl a) (inl b) = let same = one_part j l m p a.4 b.4 (sym a.3 ∙ b.3) in (a.2 ∙ sym b.2, same.0, same.1)
  one_forth x h k y j l z m p (inl a) (inr b) = absurd (not_both x h a.0 a.1 b.4)
  one_forth x h k y j l z m p (inr a) (inl b) = absurd (not_both x h b.0 b.1 a.4)
  one_forth x h k y j l z m p (inr a) (inr b) = (a.0 ∙ sym b.0, a.1 ∙ sym b.1, a.2 ∙ sym b.2)

  one_back : (y j l x h k z m p : ℕ) → Same x h k y j l → Same z m p y j l → (x ≡ z) × (h ≡ m) × (k ≡ p)
  one_back y j l x h k z m p (inl a) (inl b) = (a.0 ∙ sym b.0, a.1 ∙ sym b.1, a.3 ∙ sym b.3)
  one_back y j l x h k z m p (inl a) (inr b) = absurd (b.3 (sym b.0 ∙ a.2))
  one_back y j l x h k z m p (inr a) (inl b) = absurd (a.3 (sym a.0 ∙ b.2))
  one_back y j l x h k z m p (inr a) (inr b) = (sym a.0 ∙ b.0, sym a.1 ∙ b.1, sym a.2 ∙ b.2)

  unfolds : IsMoved B P Same
  unfolds = record { forth = forth_place; back = back_place; one = one_forth }

  folds : IsMoved P B Back
  folds = record { forth = back_place; back = forth_place; one = one_back }

  pub unfolded_roles : (S : ℕ → Used) → ((h : ℕ) → (S h).number ≡ h) → ((h : ℕ) → HasOneRole B S h) → (h : ℕ) → HasOneRole P S h
  unfolded_roles S number roles = moved_roles B P S Same unfolds number roles

  pub folded_roles : (S : ℕ → Used) → ((h : ℕ) → (S h).number ≡ h) → ((h : ℕ) → HasOneRole P S h) → (h : ℕ) → HasOneRole B S h
  folded_roles S number roles = moved_roles P B S Back folds number roles
