-- A proof that a command with an IPA granule or level that no operation can have fails an input check of the RMM.
use Rattle.std.proofs.Common.{◌≡◌, ℕ, ◌-◌, ◌^◌, ◌<◌, ◌≤◌, true, false, Bool, cond, List, [], ◌∷◌, length, Option, Some, None, Err, refl, sym, ap, ◌∙◌, arith}
use Rattle.std.specs.Prelude.{◌&&◌, ◌||◌, ◌==◌, ◌%◌, nat_le}
use Rattle.std.specs.FinMap.{get}
use Rattle.std.proofs.lemmas.Bool.{and_parts, and_from, eqb-true, ltb-true, lt-ltb, leb-true, le-leb}
use Rattle.std.proofs.Math.Bool.{and-false}
use Rattle.std.proofs.Math.Pow.{pow_mono}
use Rattle.granule_addr.specs.Ipa.{is_width, is_protected_at, covered_count, widest_space}
use Rattle.realm_model.specs.declared.act.Act.{Act}
use Rattle.realm_model.specs.Machine.{RealmRow, RecRow, Seen}
use Rattle.realm_model.specs.Rows.{is_table_place}
use Rattle.realm_model.specs.Update.{Outcome}
use Rattle.realm_model.specs.Command.Check.{check, error_input, is_delegated, is_protected, with_realm, with_rec}
use Rattle.realm_model.proofs.Booleans.{true_false, false_from}
use Rattle.host_commands.specs.declared.cmd.Cmd.{Cmd}
use Rattle.host_commands.specs.declared.cmd.Cmd.TheVariants.{Take, Fill, Peek, Delegate, Realm, Rtt, Ripas, Data, Unknown, Rec, Activate, Enter, Exit, Poke}
use Rattle.host_commands.specs.declared.reply.Allocated.{Allocated}
use Rattle.host_commands.specs.Needs.{operands}
use Rattle.host_commands.specs.Acts.{act_of, act_if, is_ipa, is_level}
use Rattle.host_commands.specs.Laws.{HasWidth, IsInputError}

-- ---- booleans

no_act : (t : Bool) (act : Act) → act_if t act ≡ None → t ≡ false
no_act true act e = cc
no_act false act e = refl

middle_false : (a b c : Bool) → b ≡ false → (a && b && c) ≡ false
middle_false a true c e = cc
middle_false true false c e = refl
middle_false false false c e = refl

-- ---- checks

check_fails : (t : Bool) (rest : Outcome) → t ≡ false → check t error_input rest ≡ Err error_input
unfolding check
check_fails t rest bad = ap (λ (b : Bool). cond b rest (Err error_input)) bad

realm_fails : (rd : Seen) (f : RealmRow → Outcome) → ((realm : RealmRow) → rd.cell.descriptor ≡ Some realm → f realm ≡ Err error_input) → with_realm rd f ≡ Err error_input
unfolding with_realm
realm_fails rd f fails = by_realm rd.cell.descriptor fails
  where
    by_realm : (o : Option RealmRow) → ((realm : RealmRow) → o ≡ Some realm → f realm ≡ Err error_input)
        → ◌≡◌ {A = Outcome} (elim o [ Some realm ↦ f realm | None ↦ Err error_input ]) (Err error_input)
    by_realm None fail = refl
    by_realm (Some realm) fail = fail realm refl

rec_fails : (realm : RealmRow) (number : ℕ) (f : RecRow → Outcome) → ((rec : RecRow) → f rec ≡ Err error_input) → with_rec realm number f ≡ Err error_input
unfolding with_rec
rec_fails realm number f fails = by_rec (get realm.recs number)
  where
    by_rec : (o : Option RecRow) → ◌≡◌ {A = Outcome} (elim o [ Some rec ↦ f rec | None ↦ Err error_input ]) (Err error_input)
    by_rec None = refl
    by_rec (Some rec) = fails rec

unprotected : (ipa width : ℕ) → is_width width ≡ true → is_ipa ipa ≡ false → is_protected_at ipa width ≡ false
unprotected ipa width wide bad = false_from (is_protected_at ipa width) (λ good.
    let below : ipa < 2 ^ (width - 13) = ltb-true ipa (2 ^ (width - 13)) good in
    let most : width ≤ 43 = leb-true width 43 (and_parts (nat_le 39 width) (nat_le width 43) wide).1 in
    let more : 2 ^ (width - 13) ≤ 2 ^ 31 = pow_mono {i = width - 13} {j = 31} (omega arith) in
    true_false (is_ipa ipa) (lt-ltb ipa widest_space (omega arith)) bad)

no_place : (ipa level : ℕ) → is_level level ≡ false → is_table_place ipa level ≡ false
no_place ipa level bad = by_both (level == 2) refl (level == 3) refl
  where
    in_range : 1 ≤ level → level ≤ 3 → ⊥
    in_range low high = true_false (is_level level) (and_from (nat_le 1 level) (nat_le level 3) (le-leb 1 level low) (le-leb level 3 high)) bad

    by_both : (two : Bool) → (level == 2) ≡ two → (three : Bool) → (level == 3) ≡ three → is_table_place ipa level ≡ false
    by_both true is_two three is_three = let same : level ≡ 2 = eqb-true level 2 is_two in absurd (in_range (omega arith) (omega arith))
    by_both false is_two true is_three = let same : level ≡ 3 = eqb-true level 3 is_three in absurd (in_range (omega arith) (omega arith))
    by_both false is_two false is_three = λ i. (is_two i || is_three i) && ipa % covered_count (level - 1) == 0

-- ---- commands

module _ (allocated : Allocated) (rd : Seen) (wide : HasWidth rd) where
  -- an input check that requires a protected IPA granule fails if the widest address space does not have that granule
  ipa_fails : (ipa : ℕ) (others : RealmRow → Bool) (rest : RealmRow → Outcome) → is_ipa ipa ≡ false
      → with_realm rd (λ realm. check (others realm && is_protected realm ipa) error_input (rest realm)) ≡ Err error_input
  ipa_fails ipa others rest bad = realm_fails rd (λ realm. check (others realm && is_protected realm ipa) error_input (rest realm)) (λ realm row.
      check_fails (others realm && is_protected realm ipa) (rest realm) (ap (λ t. others realm && t) (unprotected ipa realm.root.width (wide realm row) bad) ∙ and-false (others realm)))

  pub no_act_is_input : (cmd : Cmd) (granules : List ℕ) (cells : List Seen) → length granules ≡ length (operands cmd) → act_of cmd granules allocated ≡ None → IsInputError cmd rd cells
  unfolding act_of operands
  no_act_is_input (Ripas ipa count) gs cells long none = ipa_fails ipa _ _ (no_act (is_ipa ipa) _ none)
  no_act_is_input (Unknown page ipa) [] cells long none = absurd (omega arith)
  no_act_is_input (Unknown page ipa) (g ∷ gs) [] long none = refl
  no_act_is_input (Unknown page ipa) (g ∷ gs) (x ∷ xs) long none = ipa_fails ipa _ _ (no_act (is_ipa ipa) _ none)
  no_act_is_input (Data page ipa source) [] cells long none = absurd (omega arith)
  no_act_is_input (Data page ipa source) (g ∷ []) cells long none = absurd (omega arith)
  no_act_is_input (Data page ipa source) (g ∷ h ∷ gs) [] long none = refl
  no_act_is_input (Data page ipa source) (g ∷ h ∷ gs) (x ∷ []) long none = refl
  no_act_is_input (Data page ipa source) (g ∷ h ∷ gs) (x ∷ y ∷ xs) long none = ipa_fails ipa _ _ (no_act (is_ipa ipa) _ none)
  no_act_is_input (Poke number ipa offset value) gs cells long none =
      realm_fails rd _ (λ realm row. rec_fails realm number _ (λ rec. check_fails (is_protected realm ipa) _ (unprotected ipa realm.root.width (wide realm row) (no_act (is_ipa ipa) _ none))))
  no_act_is_input (Rtt page ipa level) [] cells long none = absurd (omega arith)
  no_act_is_input (Rtt page ipa level) (g ∷ gs) [] long none = refl
  no_act_is_input (Rtt page ipa level) (g ∷ gs) (x ∷ xs) long none = by_number (is_ipa ipa) refl (no_act (is_ipa ipa && is_level level) _ none)
    where
      by_number : (t : Bool) → is_ipa ipa ≡ t → (is_ipa ipa && is_level level) ≡ false → IsInputError (Rtt page ipa level) rd (x ∷ xs)
      by_number false bad both = ipa_fails ipa _ _ bad
      by_number true good both =
          let bad : is_level level ≡ false = sym (ap (λ t. t && is_level level) good) ∙ both in
          realm_fails rd _ (λ realm row. check_fails _ _ (middle_false (is_delegated x) (is_table_place ipa level) (is_protected realm ipa) (no_place ipa level bad)))
  no_act_is_input (Take order) gs cells long none = tt
  no_act_is_input (Fill page value) gs cells long none = tt
  no_act_is_input (Peek page offset) gs cells long none = tt
  no_act_is_input (Delegate page) gs cells long none = tt
  no_act_is_input (Realm a b width) gs cells long none = tt
  no_act_is_input (Rec page auxiliaries) gs cells long none = tt
  no_act_is_input Activate gs cells long none = tt
  no_act_is_input (Enter number) gs cells long none = tt
  no_act_is_input (Exit number) gs cells long none = tt
