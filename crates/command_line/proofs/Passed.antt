-- Proofs that each value of an accepted command line has passed the parser of its argument. This holds for subcommands
-- whose other arguments have values of their own, or ask for help or for the version.
use Rattle.std.proofs.Common.{◌≡◌, ℕ, zero, suc, List, [], ◌∷◌, ◌++◌, Bool, true, false, cond, refl, sym, subst, ◌∙◌, ◌⊎◌, inl, inr, length, drop, arith}
use Rattle.std.specs.Prelude.{◌||◌, ◌&&◌, not, find, fold, Option, Some, None, option_map, is_some, encode_utf8, slice_get}
use Rattle.std.specs.Option.{option_map_or}
use Rattle.std.specs.Str.{bytes_eq, chars}
use Rattle.std.specs.List.{list_all}
use Rattle.std.proofs.lemmas.Bool.{and_parts, cases_Bool, ne_eqb, true≢false, false≢true}
use Rattle.std.proofs.lemmas.Option.{same_Some}
use Rattle.std.proofs.lemmas.Slice.Eq.{bytes_eq-Decides}
use Rattle.clap.specs.Facts.{parser_of_value, unwrap_or_range}
use Rattle.clap.specs.Values.{Accepts, read_as, refused_kind, is_request}
use Rattle.clap.specs.ValueTests.{accepts}
use Rattle.clap.proofs.ValueTestLemmas.{accepts-Accepts}
use Rattle.command_line.specs.Options.{Each, IsPassed}
use Rattle.clap.specs.declared.builder.value_parser.Reading.{Reading}
use Rattle.clap.specs.declared.builder.value_parser.ValueParser.{ValueParser}
use Rattle.clap.specs.declared.error.kind.ErrorKind.{ErrorKind}
use Rattle.clap.specs.Kinds.{Kinds, or_else, value_kinds, range_kinds, request_kinds}
use Rattle.clap.specs.Simple.{App, Shape, entered, rows_at, label_of}
use Rattle.clap.specs.Walk.{Held, Names, Row, Rule, Step, Text, Waiting, Walk, Outcome, idle, option, positional, next, trailing, subcommand, value, done, waits, plain, refused}
use Rattle.clap.specs.Walk.{action_of, reading_by, most_values, takes_values, takes_several, used_by_id, arg_by_id, arg_by_long, arg_by_short}
use Rattle.clap.specs.Walk.{arg_by_index, at_row, more_values, with_values, without, one_of, row_text, values_or_missing, used, used_as, settled}
use Rattle.clap.specs.Walk.{settled_rows, reacted, option_met, flag_met, long_met, attached_value, short_met, bundle_step, bundle_met, bundle}
use Rattle.clap.specs.Walk.{option_word, plain_word, after_flag, long_or_other, short_or_plain, subcommand_met, subcommand_or_other, word_met}
use Rattle.clap.specs.Walk.{is_pending, to_positional, after_step, walked_from, walked, walk_from, walk, default_rows, has_row, is_empty}
use Rattle.clap.specs.Walk.{with_default, finished, nothing_held, rows_after, answers_to}
use Rattle.clap.specs.Lexer.{long_of, short_of}
use Rattle.clap.specs.Faults.{values_fault, repeat_fault, use_fault, action_fault, settle_fault, react_fault, option_fault, long_fault, short_fault}
use Rattle.clap.specs.Faults.{bundle_step_fault, flags_fault, bundle_fault, flag_word_fault, other_fault, word_fault, positional_fault, stray_fault}
use Rattle.clap.specs.Faults.{step_fault, turn_fault, walk_fault, default_fault, given_default_fault, defaults_fault, check_fault, level_fault}
use Rattle.clap.specs.Faults.{entered_fault}
use Rattle.clap.specs.declared.builder.action.ArgAction.{ArgAction}
use Rattle.clap.specs.declared.builder.action.ArgAction.TheVariants as action
use Rattle.clap.specs.declared.error.kind.ErrorKind.TheVariants as kind
use Rattle.clap.specs.declared.parser.matches.ValueSource.{ValueSource}

pub none_of_both : (a b : Kinds) → or_else a b ≡ [] → (a ≡ []) × (b ≡ [])
none_of_both [] b e = (refl, e)
none_of_both (k ∷ ks) b e = absurd (cc)

each_append : (P : Row → Type 0) (xs ys : List Row) → Each P xs → Each P ys → Each P (xs ++ ys)
each_append P [] ys h k = k
each_append P (r ∷ rs) ys h k = (h.0, each_append P rs ys h.1 k)

-- whether the action is `Set`, `SetTrue`, `SetFalse` or `Append`, each of which stores its argument's values
abbrev pub gives_values : ArgAction → Bool
gives_values action.Set = true
gives_values action.SetTrue = true
gives_values action.SetFalse = true
gives_values action.Append = true
gives_values _ = false

-- the rules differ in their ids, and `gives_values` holds for the second rule's action
abbrev pub IsOtherSet : Rule → Rule → Type 0
IsOtherSet a x = (bytes_eq x.id a.id ≡ false) × (gives_values (action_of x) ≡ true)

-- the second rule equals the first, satisfies `IsOtherSet`, or has no defaults and asks for help or the version
abbrev pub IsOrAsks : Rule → Rule → Type 0
IsOrAsks a x = (x ≡ a) ⊎ (((is_request (action_of x) ≡ true) × (x.defaults ≡ [])) ⊎ IsOtherSet a x)

abbrev pub AreOrAsk : Rule → List Rule → Type 0
AreOrAsk a [] = Unit {0}
AreOrAsk a (x ∷ xs) = IsOrAsks a x × AreOrAsk a xs

-- whether the rule has an id other than `id` and an action with `gives_values`, or asks for help or the version and has
-- no defaults
abbrev pub is_apart : Text → Rule → Bool
is_apart id x = is_request (action_of x) && is_empty x.defaults || not (bytes_eq x.id id) && gives_values (action_of x)

pub no_more : {X : Type 0} (xs : List X) → is_empty xs ≡ true → xs ≡ []
no_more [] e = refl
no_more (x ∷ xs) e = absurd (true≢false (sym e ∙ ne_eqb (length (x ∷ xs)) 0 (λ none. omega (arith, none))))

pub other : (a x : Rule) → is_apart a.id x ≡ true → IsOrAsks a x
other a x e = elim (or_parts _ _ e) [
  | inl asks ↦ let p = and_parts _ _ asks in inr (inl (p.0, no_more x.defaults p.1))
  | inr sets ↦ let p = and_parts _ _ sets in inr (inr (not_true _ p.0, p.1))
]
  where
    not_true : (b : Bool) → not b ≡ true → b ≡ false
    not_true true h = absurd (true≢false (sym h))
    not_true false h = refl

    or_parts : (b c : Bool) → (b || c) ≡ true → (b ≡ true) ⊎ (c ≡ true)
    or_parts true c h = inl refl
    or_parts false c h = inr h

pub others : (a : Rule) (xs : List Rule) → list_all (is_apart a.id) xs ≡ true → AreOrAsk a xs
others a [] e = tt
others a (x ∷ xs) e = let p = and_parts _ _ e in (other a x p.0, others a xs p.1)

found_is : (a : Rule) (p : Rule → Bool) (xs : List Rule) (x : Rule) → AreOrAsk a xs → find p xs ≡ Some x → IsOrAsks a x
found_is a p [] x h e = absurd (cc)
found_is a p (y ∷ ys) x h e = elim (cases_Bool (p y)) [
  | inl here ↦ subst (IsOrAsks a) (same_Some y x (rw here at e)) h.0
  | inr there ↦ found_is a p ys x h.1 (rw there at e)
]

-- ---- one use of an argument

no_values_fault : (a : Rule) (xs ys : List Text) → values_fault a xs ≡ [] → values_fault a ys ≡ [] → values_fault a (xs ++ ys) ≡ []
no_values_fault a [] ys h k = k
no_values_fault a (x ∷ xs) ys h k =
    let both = none_of_both (value_kinds a.ignore_case (parser_of_value a.parser) x) (values_fault a xs) h in
    rw both.0 (no_values_fault a xs ys both.1 k)

row_changed : (P : Row → Type 0) (id : Text) (change : Row → List Row) (missing rows : List Row)
    → ((r : Row) → bytes_eq r.id id ≡ true → P r → Each P (change r)) → Each P missing → Each P rows → Each P (at_row id change missing rows)
row_changed P id change missing [] changed there h = there
row_changed P id change missing (r ∷ rs) changed there h =
    elim (bytes_eq r.id id) as (λ b. bytes_eq r.id id ≡ b → Each P (cond b (change r ++ rs) (r ∷ at_row id change missing rs))) [
      | true ↦ λ here. each_append P (change r) rs (changed r here h.0) h.1
      | false ↦ λ there_is. (h.0, row_changed P id change missing rs changed there h.1)
    ] refl

values_added : (a : Rule) (id : Text) (s : ValueSource) (values : List Text) (rows : List Row) → values_fault a values ≡ [] → Each (IsPassed a) rows
    → Each (IsPassed a) (with_values id (reading_by a) s values rows)
values_added a id s values rows pass h =
    row_changed (IsPassed a) id (more_values s values) _ rows
    (λ r here p. ((λ own. (no_values_fault a r.values values (p own).0 pass, (p own).1)), tt))
    ((λ own. (pass, refl)), tt) h

-- a row of matched values that has one of two different ids does not have the other id
other_row : (a x : Text) (r : Row) → bytes_eq x a ≡ false → bytes_eq r.id x ≡ true → bytes_eq r.id a ≡ true → ⊥
other_row a x r apart here own = false≢true (sym apart ∙ subst (λ t. bytes_eq t a ≡ true) ((bytes_eq-Decides r.id x).0 here) own)

others_added : (a : Rule) (id : Text) (how : Reading) (s : ValueSource) (values : List Text) (rows : List Row) → bytes_eq id a.id ≡ false → Each (IsPassed a) rows
    → Each (IsPassed a) (with_values id how s values rows)
others_added a id how s values rows apart h =
    row_changed (IsPassed a) id (more_values s values) _ rows
    (λ r here p. ((λ own. absurd (other_row a.id id r apart here own)), tt))
    ((λ own. absurd (false≢true (sym apart ∙ own))), tt) h

row_left_out : (P : Row → Type 0) (id : Text) (rows : List Row) → Each P rows → Each P (without id rows)
row_left_out P id rows h = row_changed P id (λ _. []) [] rows (λ r here p. tt) tt h

set_passed : (a : Rule) (again : Bool) (values : List Text) (rows : List Row) → action_of a ≡ action.Set → use_fault again a values rows ≡ []
    → Each (IsPassed a) rows → Each (IsPassed a) (used a values rows)
set_passed a again values rows is e h =
    let ranged = none_of_both (range_kinds (unwrap_or_range a.range).start_inclusive (most_values a) (length values)) (action_fault (action_of a) again a (values_or_missing a values) rows) e in
    let set : action_fault action.Set again a (values_or_missing a values) rows ≡ [] = rw is at ranged.1 in
    let passed = none_of_both (repeat_fault again a.id rows) (values_fault a (values_or_missing a values)) set in
    rw is (values_added a a.id _ (values_or_missing a values) (without a.id rows) passed.1 (row_left_out (IsPassed a) a.id rows h))

asked_same : (x : ArgAction) (a : Rule) (values : List Text) (rows : List Row) → is_request x ≡ true → used_as x a.id (reading_by a) values rows ≡ rows
asked_same action.Set a values rows e = absurd (true≢false (sym e))
asked_same action.Append a values rows e = absurd (true≢false (sym e))
asked_same action.SetTrue a values rows e = absurd (true≢false (sym e))
asked_same action.SetFalse a values rows e = absurd (true≢false (sym e))
asked_same action.Count a values rows e = absurd (true≢false (sym e))
asked_same action.Help a values rows e = refl
asked_same action.HelpShort a values rows e = refl
asked_same action.HelpLong a values rows e = refl
asked_same action.Version a values rows e = refl

own_used : (a x : Rule) (how : ArgAction) (values : List Text) (rows : List Row) → bytes_eq x.id a.id ≡ false → gives_values how ≡ true
    → Each (IsPassed a) rows → Each (IsPassed a) (used_as how x.id (reading_by x) values rows)
own_used a x action.Set values rows apart e h = others_added a x.id (reading_by x) _ values (without x.id rows) apart (row_left_out (IsPassed a) x.id rows h)
own_used a x action.SetTrue values rows apart e h = others_added a x.id (reading_by x) _ values (without x.id rows) apart (row_left_out (IsPassed a) x.id rows h)
own_used a x action.SetFalse values rows apart e h = others_added a x.id (reading_by x) _ values (without x.id rows) apart (row_left_out (IsPassed a) x.id rows h)
own_used a x action.Append values rows apart e h = others_added a x.id (reading_by x) _ values rows apart h
own_used a x action.Count values rows apart e h = absurd (true≢false (sym e))
own_used a x action.Help values rows apart e h = absurd (true≢false (sym e))
own_used a x action.HelpShort values rows apart e h = absurd (true≢false (sym e))
own_used a x action.HelpLong values rows apart e h = absurd (true≢false (sym e))
own_used a x action.Version values rows apart e h = absurd (true≢false (sym e))

use_passed : (a x : Rule) (again : Bool) (values : List Text) (rows : List Row) → action_of a ≡ action.Set → IsOrAsks a x → use_fault again x values rows ≡ []
    → Each (IsPassed a) rows → Each (IsPassed a) (used x values rows)
use_passed a x again values rows set (inl is) e h = rw is (set_passed a again values rows set (rw is at e) h)
use_passed a x again values rows set (inr (inl asks)) e h = rw (asked_same (action_of x) x (values_or_missing x values) rows asks.0) h
use_passed a x again values rows set (inr (inr own)) e h = own_used a x (action_of x) (values_or_missing x values) rows own.0 own.1 h

-- ---- the walk over the words

module _ (a : Rule) (set : action_of a ≡ action.Set) (s : Shape) (fits : AreOrAsk a s.rules) where
  abbrev Passed : List Row → Type 0
  Passed = Each (IsPassed a)

  abbrev again : Bool
  again = s.args_override_self

  pending_used : (pending : Option (Text × List Text)) (rows : List Row)
      → option_map_or (λ p. option_map_or (λ x. use_fault again x p.1 rows) (arg_by_id s.rules p.0) []) pending [] ≡ []
      → Passed rows → Passed (settled_rows s.rules pending rows)
  pending_used None rows e h = h
  pending_used (Some p) rows e h = go (arg_by_id s.rules p.0) (λ x is. found_is a (λ r. bytes_eq r.id p.0) s.rules x fits is) e
    where
      go : (found : Option Rule) → ((x : Rule) → found ≡ Some x → IsOrAsks a x) → option_map_or (λ x. use_fault again x p.1 rows) found [] ≡ []
          → Passed (used_by_id found p.1 rows)
      go None is none = h
      go (Some x) is none = use_passed a x again p.1 rows set (is x refl) none h

  settled_passed : (h : Held) → settle_fault s.rules again h ≡ [] → Passed h.rows → Passed (settled s.rules h).rows
  settled_passed h e p = pending_used h.pending h.rows e p

  reacted_passed : (x : Rule) (values : List Text) (h : Held) → IsOrAsks a x → react_fault s.rules again x values h ≡ [] → Passed h.rows
      → Passed (reacted s.rules x values h).rows
  reacted_passed x values h is e p =
      let both = none_of_both (settle_fault s.rules again h) (use_fault again x values (settled s.rules h).rows) e in
      use_passed a x again values (settled s.rules h).rows set is both.1 (settled_passed h both.0 p)

  option_passed : (x : Rule) (v : Option Text) (h : Held) → IsOrAsks a x → option_fault s.rules again x v h ≡ [] → Passed h.rows
      → Passed (option_met s.rules x v h).0.rows
  option_passed x (Some v) h is e p = reacted_passed x (v ∷ []) h is e p
  option_passed x None h is e p = settled_passed h e p

  long_passed : (found : Option Rule) (v : Option Text) (h : Held) → ((x : Rule) → found ≡ Some x → IsOrAsks a x)
      → long_fault s.rules again found v h ≡ [] → Passed h.rows → Passed (long_met s.rules found v h).0.rows
  long_passed None v h is e p = p
  long_passed (Some x) v h is e p = elim (takes_values x) as (λ t.
      (cond t (option_fault s.rules again x v h) (cond (is_some v) (kind.TooManyValues ∷ []) (react_fault s.rules again x [] h))) ≡ []
      → Passed (cond t (option_met s.rules x v h) (flag_met s.rules x v h)).0.rows) [
        | true ↦ λ none. option_passed x v h (is x refl) none p
        | false ↦ λ none. flag v none
      ] e
    where
      flag : (w : Option Text) → (cond (is_some w) (kind.TooManyValues ∷ []) (react_fault s.rules again x [] h)) ≡ [] → Passed (flag_met s.rules x w h).0.rows
      flag None none = reacted_passed x [] h (is x refl) none p
      flag (Some w) none = p

  -- if `fault` finds no fault, `goes` preserves the property `Passed` of the values matched so far
  abbrev Goes : (Held → Kinds) → (Held → Held × Outcome) → Type 0
  Goes fault goes = (h : Held) → fault h ≡ [] → Passed h.rows → Passed (goes h).0.rows

  short_passed : (found : Option Rule) (rest : Text) (h : Held) (fault : Held → Kinds) (goes : Held → Held × Outcome)
      → ((x : Rule) → found ≡ Some x → IsOrAsks a x) → Goes fault goes → short_fault s.rules again found rest h fault ≡ [] → Passed h.rows
      → Passed (short_met s.rules found rest h goes).0.rows
  short_passed None rest h fault goes is then e p = p
  short_passed (Some x) rest h fault goes is then e p = elim (takes_values x) as (λ t.
      (cond t (option_fault s.rules again x (attached_value rest) h) (or_else (react_fault s.rules again x [] h) (fault (reacted s.rules x [] h)))) ≡ []
      → Passed (cond t (option_met s.rules x (attached_value rest) h) (goes (reacted s.rules x [] h))).0.rows) [
        | true ↦ λ none. option_passed x (attached_value rest) h (is x refl) none p
        | false ↦ λ none.
            let both = none_of_both (react_fault s.rules again x [] h) (fault (reacted s.rules x [] h)) none in
            then (reacted s.rules x [] h) both.1 (reacted_passed x [] h (is x refl) both.0 p)
      ] e

  bundle_step_passed : (first : Option ℕ) (flags : Text) (skip : ℕ) (so_far : Outcome) (h : Held) (fault : Text → ℕ → Held → Kinds)
      (goes : Text → ℕ → Outcome → Held → Held × Outcome)
      → ((t : Text) (k : ℕ) (o : Outcome) → Goes (fault t k) (goes t k o))
      → bundle_step_fault s.rules again first flags skip h fault ≡ [] → Passed h.rows → Passed (bundle_step s.rules first flags skip so_far h goes).0.rows
  bundle_step_passed None flags skip so_far h fault goes then e p = p
  bundle_step_passed (Some x) flags zero so_far h fault goes then e p =
      let rest = drop (length (encode_utf8 x)) flags in
      short_passed (arg_by_short s.rules x) rest h (fault rest 0) (goes rest 0 done)
      (λ r is. found_is a _ s.rules r fits is) (then rest 0 done) e p
  bundle_step_passed (Some x) flags (suc skip) so_far h fault goes then e p =
      then (drop (length (encode_utf8 x)) flags) skip so_far h e p

  flags_passed : (k : ℕ) (flags : Text) (skip : ℕ) (so_far : Outcome) → Goes (flags_fault s.rules again k flags skip) (bundle_met s.rules k flags skip so_far)
  unfolding flags_fault bundle_met
  flags_passed zero flags skip so_far h e p = p
  flags_passed (suc k) flags skip so_far h e p =
      bundle_step_passed (slice_get (chars flags) 0) flags skip so_far h (flags_fault s.rules again k) (bundle_met s.rules k)
      (flags_passed k) e p

  -- ---- one word

  plain_same : (waiting : Waiting) (word : Text) (h : Held) → (plain_word s.rules waiting word h).0.rows ≡ h.rows
  plain_same idle word h = refl
  plain_same positional word h = refl
  plain_same (option id) word h = go (arg_by_id s.rules id)
    where
      go : (found : Option Rule) → (option_word found id word h).0.rows ≡ h.rows
      go None = refl
      go (Some x) = refl

  flag_same : (waiting : Waiting) (word : Text) (h : Held) (o : Outcome) → (after_flag s.rules waiting word h o).0.rows ≡ h.rows
  flag_same waiting word h done = refl
  flag_same waiting word h (waits id) = refl
  flag_same waiting word h plain = plain_same waiting word h
  flag_same waiting word h refused = plain_same waiting word h

  short_word_passed : (waiting : Waiting) (word : Text) (flags : Option Text) (h : Held)
      → option_map_or (λ f. bundle_fault s.rules again f h) flags [] ≡ [] → Passed h.rows → Passed (short_or_plain s.rules waiting word flags h).0.rows
  short_word_passed waiting word None h e p = rw (plain_same waiting word h) p
  short_word_passed waiting word (Some flags) h e p =
      let met = bundle s.rules flags h in
      rw (flag_same waiting word met.0 met.1) (flags_passed (length flags) flags h.skip plain (record h { skip = 0 }) e p)

  flag_word_passed : (waiting : Waiting) (word : Text) (long : Option (Text × Option Text)) (h : Held)
      → flag_word_fault s.rules again long word h ≡ [] → Passed h.rows → Passed (long_or_other s.rules waiting word long h).0.rows
  flag_word_passed waiting word None h e p = short_word_passed waiting word (short_of word) h e p
  flag_word_passed waiting word (Some long) h e p =
      let met = long_met s.rules (arg_by_long s.rules long.0) long.1 h in
      rw (flag_same waiting word met.0 met.1)
      (long_passed (arg_by_long s.rules long.0) long.1 h (λ x is. found_is a _ s.rules x fits is) e p)

  other_passed : (met : Option Text) (waiting : Waiting) (position : ℕ) (word : Text) (h : Held)
      → other_fault s met word h ≡ [] → Passed h.rows → Passed (subcommand_or_other s.rules met waiting position word h).0.rows
  other_passed (Some name) waiting position word h e p = p
  other_passed None waiting position word h e p = elim (bytes_eq word (45 ∷ 45 ∷ [])) as (λ t.
      (cond t [] (flag_word_fault s.rules again (long_of word) word h)) ≡ []
      → Passed (cond t (h, trailing position) (long_or_other s.rules waiting word (long_of word) h)).0.rows) [
        | true ↦ λ none. p
        | false ↦ λ none. flag_word_passed waiting word (long_of word) h none p
      ] e

  word_passed : (names : Names) (is_trailing : Bool) (waiting : Waiting) (position : ℕ) (word : Text) (h : Held)
      → word_fault s names is_trailing waiting word h ≡ [] → Passed h.rows → Passed (word_met s.rules names is_trailing waiting position word h).0.rows
  word_passed names true waiting position word h e p = p
  word_passed names false waiting position word h e p = other_passed (subcommand_met names waiting word) waiting position word h e p

  positional_passed : (found : Option Rule) (word : Text) (w : Walk) (h : Held)
      → option_map_or (λ x. positional_fault s.rules again x h) found (stray_fault s) ≡ [] → Passed h.rows
      → Passed (to_positional s.rules found word w h).held.rows
  positional_passed None word w h e p = p
  positional_passed (Some x) word w h e p = elim (is_pending x h.pending && takes_several x) as (λ t.
      (cond t [] (settle_fault s.rules again h)) ≡ [] → Passed (cond t h (settled s.rules h)).rows) [
        | true ↦ λ none. p
        | false ↦ λ none. settled_passed h none p
      ] e

  step_passed : (w : Walk) (word : Text) (h : Held) (step : Step) → step_fault s w.position h step ≡ [] → Passed h.rows
      → Passed (after_step s.rules word w h step).held.rows
  step_passed w word h (next waiting) e p = p
  step_passed w word h (trailing position) e p = p
  step_passed w word h (subcommand name) e p = p
  step_passed w word h value e p = positional_passed (arg_by_index s.rules w.position) word w h e p

  turn_passed : (names : Names) (w : Walk) (word : Text) → turn_fault s names w word ≡ [] → Passed w.held.rows → Passed (walked s.rules names w word).held.rows
  unfolding walked
  turn_passed names w word e p = go w.stopped e
    where
      met : Held × Step
      met = word_met s.rules names w.is_trailing w.waiting w.position word w.held

      go : (stopped : Option (Text × List Text))
          → (cond (is_some stopped) [] (or_else (word_fault s names w.is_trailing w.waiting word w.held) (step_fault s w.position met.0 met.1))) ≡ []
          → Passed (walked_from s.rules names stopped w word).held.rows
      go (Some stop) none = p
      go None none =
          let both = none_of_both (word_fault s names w.is_trailing w.waiting word w.held) (step_fault s w.position met.0 met.1) none in
          step_passed w word met.0 met.1 both.1 (word_passed names w.is_trailing w.waiting w.position word w.held both.0 p)

  -- ---- all words, and what follows

  walk_passed : (names : Names) (words : List Text) (w : Walk) → walk_fault s names w words ≡ [] → Passed w.held.rows
      → Passed (fold (walked s.rules names) w words).held.rows
  unfolding walk_fault
  walk_passed names [] w e p = p
  walk_passed names (word ∷ words) w e p =
      let both = none_of_both (turn_fault s names w word) (walk_fault s names (walked s.rules names w word) words) e in
      walk_passed names words (walked s.rules names w word) both.1 (turn_passed names w word both.0 p)

  set_default_passed : (defaults : List Text) (rows : List Row) → (cond (is_empty defaults) [] (given_default_fault a defaults)) ≡ [] → Passed rows
      → Passed (default_rows a.id (reading_by a) defaults rows)
  set_default_passed [] rows e p = p
  set_default_passed (v ∷ vs) rows e p =
      let some : is_empty (v ∷ vs) ≡ false = ne_eqb (length (v ∷ vs)) 0 (λ none. omega (arith, none)) in
      let both = none_of_both (request_kinds (action_of a)) (values_fault a (v ∷ vs)) (rw some at e) in
      values_added a a.id _ (v ∷ vs) rows both.1 p

  own_default_passed : (rows : List Row) → default_fault rows a ≡ [] → Passed rows → Passed (with_default rows a)
  own_default_passed rows e p = go (has_row a.id rows) e
    where
      go : (has : Bool) → (cond (has || is_empty a.defaults) [] (given_default_fault a a.defaults)) ≡ []
          → Passed (cond has rows (default_rows a.id (reading_by a) a.defaults rows))
      go true none = p
      go false none = set_default_passed a.defaults rows none p

  no_default : (x : Rule) (rows : List Row) → x.defaults ≡ [] → Passed rows → Passed (with_default rows x)
  no_default x rows none p = go (has_row x.id rows)
    where
      go : (has : Bool) → Passed (cond has rows (default_rows x.id (reading_by x) x.defaults rows))
      go true = p
      go false = rw none p

  own_default : (x : Rule) (rows : List Row) → bytes_eq x.id a.id ≡ false → Passed rows → Passed (with_default rows x)
  own_default x rows apart p = go (has_row x.id rows)
    where
      added : (defaults : List Text) → Passed (default_rows x.id (reading_by x) defaults rows)
      added [] = p
      added (v ∷ vs) = others_added a x.id (reading_by x) _ (v ∷ vs) rows apart p

      go : (has : Bool) → Passed (cond has rows (default_rows x.id (reading_by x) x.defaults rows))
      go true = p
      go false = added x.defaults

  default_passed : (x : Rule) (rows : List Row) → IsOrAsks a x → default_fault rows x ≡ [] → Passed rows → Passed (with_default rows x)
  default_passed x rows (inl is) e p = rw is (own_default_passed rows (rw is at e) p)
  default_passed x rows (inr (inl asks)) e p = no_default x rows asks.1 p
  default_passed x rows (inr (inr own)) e p = own_default x rows own.0 p

  defaults_passed : (rules : List Rule) (rows : List Row) → AreOrAsk a rules → defaults_fault rows rules ≡ [] → Passed rows → Passed (fold with_default rows rules)
  unfolding defaults_fault
  defaults_passed [] rows all e p = p
  defaults_passed (x ∷ xs) rows all e p =
      let both = none_of_both (default_fault rows x) (defaults_fault (with_default rows x) xs) e in
      defaults_passed xs (with_default rows x) all.1 both.1 (default_passed x rows all.0 both.0 p)

  -- if the words after a program's or subcommand's name have no fault, the values matched for the rule `a` have passed
  -- its parser
  pub level_passed : (names : Names) (words : List Text) (has : Bool) (below : Kinds) → level_fault s names nothing_held words has below ≡ []
      → Passed (rows_after s.rules names words)
  level_passed names words has below e =
      let end : Held = (walk s.rules names nothing_held words).held in
      let checks = check_fault s (finished s.rules end) has in
      let defaults = defaults_fault (settled s.rules end).rows s.rules in
      let settles = settle_fault s.rules again end in
      let walks = none_of_both (walk_fault s names (walk_from nothing_held) words) (or_else below (or_else settles (or_else defaults checks))) e in
      let enters = none_of_both below (or_else settles (or_else defaults checks)) walks.1 in
      let settled_well = none_of_both settles (or_else defaults checks) enters.1 in
      let defaulted = none_of_both defaults checks settled_well.1 in
      defaults_passed s.rules (settled s.rules end).rows fits defaulted.0
      (settled_passed end settled_well.0 (walk_passed names words (walk_from nothing_held) walks.0 tt))

-- ---- a subcommand's option

abbrev pub AllAreOrAsk : Rule → List Shape → Type 0
AllAreOrAsk a [] = Unit {0}
AllAreOrAsk a (s ∷ ss) = AreOrAsk a s.rules × AllAreOrAsk a ss

found_passed : (a : Rule) → action_of a ≡ action.Set → (p : Shape → Bool) (ss : List Shape) (words : List Text) (r : Text × List Row) → AllAreOrAsk a ss
    → option_map_or (λ s. level_fault s [] nothing_held words false []) (find p ss) [] ≡ []
    → option_map (λ s. rows_at s words) (find p ss) ≡ Some r → Each (IsPassed a) r.1
found_passed a set p [] words r fits e is = absurd (cc)
found_passed a set p (s ∷ ss) words r fits e is = elim (cases_Bool (p s)) [
  | inl here ↦
      let at : Some (rows_at s words) ≡ Some r = rw here at is in
      subst (λ (q : Text × List Row). Each (IsPassed a) q.1) (same_Some _ _ at) (level_passed a set s fits.0 [] words false [] (rw here at e))
  | inr there ↦ found_passed a set p ss words r fits.1 (rw there at e) (rw there at is)
]

-- if a subcommand was matched and its words have no fault, the values matched there for the rule `a` have passed the
-- rule's parser
pub entered_passed : (a : Rule) → action_of a ≡ action.Set → (app : App) (stop : Option (Text × List Text)) (r : Text × List Row) → AllAreOrAsk a app.subs
    → entered_fault app stop ≡ [] → entered app stop ≡ Some r → Each (IsPassed a) r.1
entered_passed a set app None r fits e is = absurd (cc)
entered_passed a set app (Some p) r fits e is = found_passed a set (λ s. answers_to p.0 (label_of s)) app.subs p.1 r fits e is

first_passed : (a : Rule) (values : List Text) (text : Text) → values_fault a values ≡ [] → option_map (read_as (reading_by a)) (slice_get values 0) ≡ Some text
    → (t : Text) × (text ≡ read_as (reading_by a) t) × (value_kinds a.ignore_case (parser_of_value a.parser) t ≡ [])
first_passed a [] text e is = absurd (cc)
first_passed a (v ∷ vs) text e is =
    (v, sym (same_Some _ _ is), (none_of_both (value_kinds a.ignore_case (parser_of_value a.parser) v) (values_fault a vs) e).0)

-- if the values matched for the rule `a` have passed its parser, the text read for `a` comes from a value without a
-- fault
pub text_passed : (a : Rule) (rows : List Row) (text : Text) → Each (IsPassed a) rows → one_of a.id rows ≡ Some text
    → (t : Text) × (text ≡ read_as (reading_by a) t) × (value_kinds a.ignore_case (parser_of_value a.parser) t ≡ [])
text_passed a [] text h is = absurd (cc)
text_passed a (r ∷ rs) text h is = elim (cases_Bool (bytes_eq r.id a.id)) [
  | inl here ↦ let at : row_text r ≡ Some text = rw here at is in first_passed a r.values text (h.0 here).0 (rw ((h.0 here).1) at at)
  | inr there ↦ text_passed a rs text h.1 (rw there at is)
]

accepted_if : (b : Bool) (k : ErrorKind) → (cond b [] (k ∷ [])) ≡ [] → b ≡ true
accepted_if true k e = refl
accepted_if false k e = absurd (cc)

-- if `value_kinds` finds no fault in a text, the parser accepts the text
pub accepted : (ignore_case : Bool) (p : ValueParser) (text : Text) → value_kinds ignore_case p text ≡ [] → Accepts ignore_case p text
accepted ignore_case p text e = accepts-Accepts ignore_case p text (accepted_if (accepts ignore_case p text) (refused_kind p) e)
