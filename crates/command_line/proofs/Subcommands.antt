-- Proofs that an accepted command line names one of the program's subcommands, if one is required, and that the values
-- of that subcommand's options have passed their parsers.
use Rattle.std.proofs.Common.{◌≡◌, ◌∙◌, List, [], ◌∷◌, ◌++◌, map, Bool, true, false, refl, sym, ap, ap₂, subst, ◌⊎◌, inl, inr}
use Rattle.std.specs.Prelude.{not, ◌&&◌, find, Option, Some, None, option_map, is_some, Box}
use Rattle.std.specs.Box.{box_value}
use Rattle.std.proofs.lemmas.Bool.{false≢true, cases_Bool}
use Rattle.std.proofs.lemmas.Option.{same_Some}
use Rattle.clap.specs.Kinds.{or_else, check_kinds}
use Rattle.clap.specs.Simple.{rows_at, entered, built, argument_words, names_of, label_of}
use Rattle.clap.specs.Walk.{Held, Names, Rule, action_of, walk, walk_from, nothing_held, finished, settled, stop_after, answers_to}
use Rattle.clap.specs.Faults.{level_fault, check_fault, defaults_fault, settle_fault, walk_fault, entered_fault}
use Rattle.clap.specs.Words.{App, Kinds, Row, Shape, Text, fault_of, is_simple_and_free, subcommand_name_of, subcommand_of, subcommand_rows, subcommand_rows_of}
use Rattle.clap.specs.declared.builder.action.ArgAction.TheVariants as action
use Rattle.clap.specs.declared.parser.matches.ArgMatches.{ArgMatches}
use Rattle.clap.specs.declared.parser.matches.ArgMatches.TheViews.{out-ArgMatches, out-SubCommand}
use Rattle.clap.specs.declared.parser.matches.SubCommand.{SubCommand}
use Rattle.command_line.specs.Options.{Each, IsPassed}
use Rattle.command_line.proofs.Passed.{AllAreOrAsk, none_of_both, entered_passed}

-- ---- a level that has no fault

-- if `level_fault` finds no fault, the subcommand's words have no fault, and the check at the end of the words finds
-- none
level_nil : (s : Shape) (names : Names) (h : Held) (words : List Text) (has : Bool) (below : Kinds) → level_fault s names h words has below ≡ []
    → (below ≡ []) × (check_fault s (finished s.rules (walk s.rules names h words).held) has ≡ [])
level_nil s names h words has below e =
    let end : Held = (walk s.rules names h words).held in
    let checks = check_fault s (finished s.rules end) has in
    let defaults = defaults_fault (settled s.rules end).rows s.rules in
    let settles = settle_fault s.rules s.args_override_self end in
    let walks = none_of_both (walk_fault s names (walk_from h) words) (or_else below (or_else settles (or_else defaults checks))) e in
    let enters = none_of_both below (or_else settles (or_else defaults checks)) walks.1 in
    let settled_well = none_of_both settles (or_else defaults checks) enters.1 in
    (enters.0, (none_of_both defaults checks settled_well.1).1)

required_there : (empty required missing : Bool) → check_kinds empty required missing ≡ [] → required ≡ false
required_there true required missing e = absurd (cc)
required_there false true missing e = absurd (cc)
required_there false false missing e = refl

has_from : (has required : Bool) → required ≡ true → (not has && required) ≡ false → has ≡ true
has_from true required wanted absent = refl
has_from false required wanted absent = absurd (false≢true (sym absent ∙ wanted))

-- the text is in the list
abbrev IsOneOf : Text → List Text → Type 0
IsOneOf t [] = ⊥
IsOneOf t (n ∷ ns) = (t ≡ n) ⊎ IsOneOf t ns

abbrev names_of_all : List Shape → List Text
names_of_all ss = map (λ (s : Shape). s.name) ss

names_one : (p : Shape → Bool) (ss : List Shape) (args : List Text) (r : Text × List Row) → option_map (λ s. rows_at s args) (find p ss) ≡ Some r → IsOneOf r.0 (names_of_all ss)
names_one p [] args r e = absurd (cc)
names_one p (s ∷ ss) args r e = elim (cases_Bool (p s)) [
  | inl here ↦ inl (let at : Some (rows_at s args) ≡ Some r = rw here at e in sym (ap (λ q. q.0) (same_Some _ _ at)))
  | inr there ↦ inr (names_one p ss args r (rw there at e))
]

entered_one : (a : App) (stop : Option (Text × List Text)) (r : Text × List Row) → entered a stop ≡ Some r → IsOneOf r.0 (names_of_all a.subs)
entered_one a None r e = absurd (cc)
entered_one a (Some p) r e = names_one (λ s. answers_to p.0 (label_of s)) a.subs p.1 r e

-- ---- words that have no fault

module _ (a : App) (words : List Text) (well : fault_of a words ≡ []) where
  abbrev stop : Option (Text × List Text)
  stop = stop_after (built a).top.rules (names_of (built a)) (argument_words a words)

  level : (entered_fault (built a) stop ≡ [])
      × (check_fault (built a).top (finished (built a).top.rules (walk (built a).top.rules (names_of (built a)) nothing_held (argument_words a words)).held) (is_some (entered (built a) stop)) ≡ [])
  level = level_nil (built a).top (names_of (built a)) nothing_held (argument_words a words) (is_some (entered (built a) stop)) (entered_fault (built a) stop) well

  -- if the words have no fault and the program requires a subcommand, the words name a subcommand
  is_entered : (built a).top.subcommand_required ≡ true → is_some (subcommand_of a words) ≡ true
  is_entered required = has_from (is_some (entered (built a) stop)) (built a).top.subcommand_required required (required_there _ _ _ level.1)

  -- If the words have no fault, the values matched for a rule in their subcommand have passed the rule's parser. The
  -- rule's action has to be `Set`, and `AllAreOrAsk` has to hold of the subcommands' rules.
  pub values_passed : (rule : Rule) → action_of rule ≡ action.Set → AllAreOrAsk rule (built a).subs → (rows : List Row)
      → option_map (λ p. p.1) (subcommand_of a words) ≡ Some rows → Each (IsPassed rule) rows
  values_passed rule set fits rows is = go (subcommand_of a words) refl is
    where
      go : (sub : Option (Text × List Row)) → subcommand_of a words ≡ sub → option_map (λ p. p.1) sub ≡ Some rows → Each (IsPassed rule) rows
      go None found at = absurd (cc)
      go (Some r) found at = subst (Each (IsPassed rule)) (same_Some _ _ at) (entered_passed rule set (built a) stop r fits level.0 found)

-- the subcommand that the words name is one of the program's subcommands
is_one : (a : App) (words : List Text) (r : Text × List Row) → subcommand_of a words ≡ Some r → IsOneOf r.0 (names_of_all (built a).subs)
is_one a words r is = entered_one (built a) (stop_after (built a).top.rules (names_of (built a)) (argument_words a words)) r is

-- ---- its name

abbrev pub name_in : Option (Text × List Row) → Option Text
name_in sub = option_map (λ r. r.0) sub

rows_name : {Z : Type 0} (found : Option (Box SubCommand Z)) → option_map (λ b. (out-SubCommand (box_value b)).name.now) found ≡ name_in (subcommand_rows found)
rows_name None = refl
rows_name (Some b) = refl

-- the subcommand name that `clap` returns is the name of the subcommand that `clap` matched
pub name_of_rows : (m : ArgMatches) (sub : Option (Text × List Row)) → subcommand_rows_of m ≡ sub → subcommand_name_of m ≡ name_in sub
name_of_rows m sub is = rows_name (out-ArgMatches m).subcommand ∙ ap name_in is

-- if the matched subcommand has the name `name` and the matched values `rows`, it is the pair of both
pub is_named : (sub : Option (Text × List Row)) (name : Text) (rows : List Row)
    → name_in sub ≡ Some name → option_map (λ p. p.1) sub ≡ Some rows → sub ≡ Some (name, rows)
is_named None name rows named found = absurd (cc)
is_named (Some s) name rows named found = ap₂ (λ (n : Text) (r : List Row). Some (n, r)) (same_Some _ _ named) (same_Some _ _ found)

-- if each subcommand named `name` has a property, and the matched subcommand is named `name`, it has the property
pub by_name : (P : Option (Text × List Row) → Type 0) (name : Text) → ((r : Text × List Row) → r.0 ≡ name → P (Some r)) → (sub : Option (Text × List Row)) → name_in sub ≡ Some name → P sub
by_name P name of_row None is = absurd (cc)
by_name P name of_row (Some r) is = of_row r (same_Some _ _ is)

-- ---- a program

-- The program requires a subcommand, and words without a fault name a subcommand in `names`. The program also satisfies
-- `is_simple_and_free`.
pub record IsKnown (a : App) (names : List Text) : Type 0 where
  pub is_free : is_simple_and_free a ≡ true
  pub required : (built a).top.subcommand_required ≡ true
  pub named : (words : List Text) → fault_of a words ≡ [] → (r : Text × List Row) → subcommand_of a words ≡ Some r → IsOneOf r.0 names

-- if the words have no fault, the name of their subcommand is among the names of the program's subcommands
pub named_by : (a : App) (names : List Text) → names_of_all (built a).subs ≡ names → (words : List Text) → fault_of a words ≡ []
    → (r : Text × List Row) → subcommand_of a words ≡ Some r → IsOneOf r.0 names
named_by a names named words e r is = subst (IsOneOf r.0) named (is_one a words r is)

-- the name, if there is one, is not in the list
abbrev IsNoneOf : Option Text → List Text → Type 0
IsNoneOf name [] = Unit {0}
IsNoneOf name (n ∷ ns) = ¬ (name ≡ Some n) × IsNoneOf name ns

last_one : (others : List Text) (last t : Text) → IsOneOf t (others ++ last ∷ []) → IsNoneOf (Some t) others → t ≡ last
last_one [] last t (inl is) none = is
last_one [] last t (inr more) none = absurd more
last_one (n ∷ ns) last t (inl is) none = absurd (none.0 (ap Some is))
last_one (n ∷ ns) last t (inr more) none = last_one ns last t more none.1

last_from : (others : List Text) (last : Text) (sub : Option (Text × List Row)) → is_some sub ≡ true
    → ((r : Text × List Row) → sub ≡ Some r → IsOneOf r.0 (others ++ last ∷ [])) → IsNoneOf (name_in sub) others → name_in sub ≡ Some last
last_from others last None has names none = absurd (false≢true has)
last_from others last (Some r) has names none = ap Some (last_one others last r.0 (names r refl) none)

-- if a program requires one of the subcommands `others` and `last`, and words without a fault ask for none of `others`,
-- the words ask for `last`
pub last_is_asked : (a : App) (others : List Text) (last : Text) → IsKnown a (others ++ last ∷ []) → (words : List Text) → fault_of a words ≡ []
    → IsNoneOf (name_in (subcommand_of a words)) others → name_in (subcommand_of a words) ≡ Some last
last_is_asked a others last known words e none =
    last_from others last (subcommand_of a words) (is_entered a words e known.required) (known.named words e) none
