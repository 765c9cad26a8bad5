use Rattle.std.proofs.Common.{◌≡◌, List, ℕ, [], ◌++◌, Option, Some, None, refl, sym, subst, ap, ◌∙◌}
use Rattle.std.specs.Prelude.{OnOk, string_bytes}
use Rattle.std.specs.declared.alloc.Global.{Global}
use Rattle.std.specs.declared.string.String.{String}
use Rattle.std.proofs.lemmas.List.{append-nil}
use Rattle.std.proofs.lemmas.Option.{slice_get_past}
use Rattle.plan_states.specs.Lines.{map_shown}
use Rattle.plan_states.proofs.RunLogs.{seen_at_place}
use Rattle.plan_states.proofs.text.push_map_of.Goals as goal

pub returns-in-Some : goal.returns-in-Some
returns-in-Some c =
    let shown : List ℕ → List ℕ = λ map. map_shown c.args.schedule_count.now map c.args.tally.now.first.items c.args.tally.now.count in
    let shown_if : Option (String Global) → List ℕ = λ map. elim map [ Some map ↦ shown (string_bytes map) | None ↦ [] ] in
    let there = seen_at_place c.args.maps.now c.args.maps.now c.args.tally.now.outcome c.in-Some.map.now refl c.in-Some.ensures.lookup.3.0 c.in-Some.ensures.lookup.1 in
    subst (λ text. OnOk c.push_map.result (string_bytes c.push_map.new.text ≡ string_bytes c.args.text.now ++ text))
    (ap shown c.deref.ensures ∙ ap shown_if (sym there)) c.push_map.ensures

pub returns-in-None : goal.returns-in-None
returns-in-None c =
    let shown : List ℕ → List ℕ = λ map. map_shown c.args.schedule_count.now map c.args.tally.now.first.items c.args.tally.now.count in
    let shown_if : Option (String Global) → List ℕ = λ map. elim map [ Some map ↦ shown (string_bytes map) | None ↦ [] ] in
    sym (append-nil (string_bytes c.args.text.now))
    ∙ ap (λ more. string_bytes c.args.text.now ++ more) (sym (ap shown_if (slice_get_past c.args.maps.now c.args.tally.now.outcome c.in-None.ensures.lookup.3)))
