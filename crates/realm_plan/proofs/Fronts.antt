-- Lemmas about loops that read a list up to its first unreadable item: the items read so far and the result for the
-- rest make up the whole result. The last lemma is about the keys of a table.
use Rattle.std.proofs.Common.{◌≡◌, ℕ, ◌+◌, ◌<◌, ◌≤◌, List, [], ◌∷◌, ◌++◌, length, get_or, drop, Bool, true, ◌&&◌}
use Rattle.std.proofs.Common.{Option, Some, None, String, Global, string_bytes, Result, Ok, Err, option_map, refl, sym, ap, ◌∙◌, append_assoc}
use Rattle.std.specs.Prelude.{option_and_then}
use mathlib.Core.List.{append-nil}
use Rattle.std.proofs.Math.ListN.{drop_of_length-le}
use Rattle.std.proofs.lemmas.List.{drop_more}
use Rattle.std.specs.List.{list_any}
use Rattle.std.specs.Str.{bytes_eq}
use Rattle.std.specs.Map.{keys_of}
use Rattle.toml.specs.Data.{Data, Items, no_items, item}
use Rattle.toml.specs.View.{view, items_view, members_view}
use Rattle.toml.specs.declared.value.Value.{Value}
use Rattle.realm_plan.specs.Contents.{has_only}
use Rattle.realm_plan.specs.Outcome.{◌>>=◌, Fails}
use Rattle.realm_plan.specs.declared.fault.PlanFault.{PlanFault}
use Rattle.realm_plan.specs.declared.fault.PlanError.{PlanError}
use Rattle.realm_plan.specs.declared.fault.PlanError.TheVariants as errors

-- the items found so far, followed by the result for the items still to be read; none if that result is none
abbrev pub with_front : {A : Type 0} → List A → Option (List A) → Option (List A)
with_front front rest = option_map (λ more. front ++ more) rest

-- the items found so far, followed by the result for the entries still to be read; the fault if that result is a fault
abbrev pub or_fault_with_front : {A : Type 0} → List A → Result (List A) PlanFault → Result (List A) PlanFault
or_fault_with_front front rest = rest >>= (λ more. Ok (front ++ more))

-- if no item was found so far, the whole result is that for the items still to be read
pub starts : {A : Type 0} (front : List A) (rest whole : Option (List A)) → front ≡ [] → rest ≡ whole → with_front front rest ≡ whole
starts front None whole none same = same
starts front (Some more) whole none same = ap (λ before. Some (before ++ more)) none ∙ same

pub or_fault_starts : {A : Type 0} (front : List A) (rest : Result (List A) PlanFault) → front ≡ [] → or_fault_with_front front rest ≡ rest
or_fault_starts front (Err fault) none = refl
or_fault_starts front (Ok more) none = ap (λ before. Ok (before ++ more)) none

-- ---- items of a document

-- `all` applies `one` to each item of a document in sequence, and has no result if `one` has none for some item
pub record ReadsEach {A : Type 0} (one : Data → Option A) (all : Items → Option (List A)) : Type 0 where
  pub none_left : all no_items ≡ Some []
  pub one_more : (value : Data) (more : Items) → all (item value more) ≡ option_and_then (λ a. option_map (λ found. a ∷ found) (all more)) (one value)

module _ {A : Type 0} (one : Data → Option A) (all : Items → Option (List A)) (reads : ReadsEach one all) where
  front_grows : (front : List A) (a : A) (rest : Option (List A)) → with_front (front ++ a ∷ []) rest ≡ with_front front (option_map (λ found. a ∷ found) rest)
  front_grows front a None = refl
  front_grows front a (Some more) = ap Some (append_assoc front (a ∷ []) more)

  from_here : (values : List Value) (i : ℕ) (value : Value) → i < length values → value ≡ get_or values i value
      → all (items_view (drop i values)) ≡ option_and_then (λ a. option_map (λ found. a ∷ found) (all (items_view (drop (i + 1) values)))) (one (view value))
  from_here values i value within at =
      ap (λ (vs : List Value). all (items_view vs)) (drop_more values i value within ∙ ap (λ v. v ∷ drop (i + 1) values) (sym at))
      ∙ reads.one_more (view value) (items_view (drop (i + 1) values))

  pub item_read : (values : List Value) (i : ℕ) (value : Value) (front new : List A) (a : A) → i < length values → value ≡ get_or values i value → Some a ≡ one (view value)
      → new ≡ front ++ a ∷ [] → with_front new (all (items_view (drop (i + 1) values))) ≡ with_front front (all (items_view (drop i values)))
  item_read values i value front new a within at read pushed =
      rw (pushed, from_here values i value within at, ← read) (front_grows front a (all (items_view (drop (i + 1) values))))

  pub item_missing : (values : List Value) (i : ℕ) (value : Value) (front : List A) → i < length values → value ≡ get_or values i value → None ≡ one (view value)
      → with_front front (all (items_view (drop i values))) ≡ None
  item_missing values i value front within at none = rw (from_here values i value within at, ← none) refl

  pub items_read : (values : List Value) (i : ℕ) (front : List A) → length values ≤ i → with_front front (all (items_view (drop i values))) ≡ Some front
  items_read values i front end = rw (drop_of_length-le values end, reads.none_left, append-nil front) refl

-- ---- numbered entries, of which the first that is wrong is a fault

-- `all` applies `one` to each entry in sequence, with the entry's number; its result is the first fault, if there is
-- any
pub record ReadsOrFault {X A : Type 0} (one : ℕ → X → Result A PlanFault) (all : ℕ → List X → Result (List A) PlanFault) : Type 0 where
  pub none_left : (k : ℕ) → all k [] ≡ Ok []
  pub one_more : (k : ℕ) (x : X) (xs : List X) → all k (x ∷ xs) ≡ one k x >>= (λ a. all (k + 1) xs >>= (λ found. Ok (a ∷ found)))

module _ {X A : Type 0} (one : ℕ → X → Result A PlanFault) (all : ℕ → List X → Result (List A) PlanFault) (reads : ReadsOrFault one all) where
  front_or_fault_grows : (front : List A) (a : A) (rest : Result (List A) PlanFault) → or_fault_with_front (front ++ a ∷ []) rest ≡ or_fault_with_front front (rest >>= (λ found. Ok (a ∷ found)))
  front_or_fault_grows front a (Err fault) = refl
  front_or_fault_grows front a (Ok more) = ap Ok (append_assoc front (a ∷ []) more)

  from_place : (xs : List X) (k : ℕ) (d : X) → k < length xs → all k (drop k xs) ≡ one k (get_or xs k d) >>= (λ a. all (k + 1) (drop (k + 1) xs) >>= (λ found. Ok (a ∷ found)))
  from_place xs k d within = ap (all k) (drop_more xs k d within) ∙ reads.one_more k (get_or xs k d) (drop (k + 1) xs)

  pub entry_read : (xs : List X) (k : ℕ) (d : X) (front new : List A) (a : A) → k < length xs → one k (get_or xs k d) ≡ Ok a
      → new ≡ front ++ a ∷ [] → or_fault_with_front new (all (k + 1) (drop (k + 1) xs)) ≡ or_fault_with_front front (all k (drop k xs))
  entry_read xs k d front new a within read pushed = rw (pushed, from_place xs k d within, read) (front_or_fault_grows front a (all (k + 1) (drop (k + 1) xs)))

  pub entry_wrong : (xs : List X) (k : ℕ) (d : X) (front : List A) (fault : PlanFault) → k < length xs → one k (get_or xs k d) ≡ Err fault
      → or_fault_with_front front (all k (drop k xs)) ≡ Err fault
  entry_wrong xs k d front fault within wrong = rw (from_place xs k d within, wrong) refl

  pub entry_fails : (xs : List X) (k : ℕ) (d : X) (front : List A) (error : PlanError) → k < length xs → Fails error (one k (get_or xs k d))
      → Fails error (or_fault_with_front front (all k (drop k xs)))
  entry_fails xs k d front errors.Memory within fails = tt
  entry_fails xs k d front (errors.Fault fault) within wrong = entry_wrong xs k d front fault within wrong

  pub entries_read : (xs : List X) (k : ℕ) (front : List A) → length xs ≤ k → or_fault_with_front front (all k (drop k xs)) ≡ Ok front
  entries_read xs k front end = rw (drop_of_length-le xs end, reads.none_left k, append-nil front) refl

-- ---- keys

-- each key is one of the names
abbrev pub keys_are : List (List ℕ) → List (String Global) → Bool
keys_are names [] = true
keys_are names (key ∷ keys) = list_any (bytes_eq (string_bytes key)) names && keys_are names keys

pub has_only-keys : (names : List (List ℕ)) (entries : List (String Global × Value)) → has_only names (members_view entries) ≡ keys_are names (keys_of entries)
has_only-keys names [] = refl
has_only-keys names (entry ∷ entries) = ap (λ b. list_any (bytes_eq (string_bytes entry.0)) names && b) (has_only-keys names entries)
