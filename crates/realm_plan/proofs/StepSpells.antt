-- A proof that if a word and numbers mean a step, the step is spelled with that word and those numbers, and the numbers
-- are in their ranges.
use Rattle.std.proofs.Common.{◌≡◌, ℕ, List, [], ◌∷◌, true, false, cond, leb, Some, None, option_map, codes, refl, subst}
use Rattle.std.proofs.lemmas.Bool.{leb-true}
use Rattle.decimal_text.specs.Ranges.{AreAtMost}
use Rattle.decimal_text.specs.Rows.{none, one, two, three, four, up_to}
use Rattle.decimal_text.specs.Written.{u8, u16, u32}
use Rattle.decimal_text.proofs.Grammars.{Spells, map_some}
use Rattle.decimal_text.proofs.Rows.{none_makes, one_makes, two_makes, three_makes, four_makes, choose, either, among_five}
use Rattle.decimal_text.proofs.UpTo.{up_to-some}
use Rattle.host_commands.specs.declared.cmd.Cmd.TheVariants.{Take, Fill, Peek, Delegate, Realm, Rtt, Ripas, Data, Unknown, Rec, Activate, Enter, Exit, Poke}
use Rattle.host_commands.specs.declared.cmd.Step.TheVariants.{Undo, Abort, Mark, Back}
use Rattle.realm_plan.specs.declared.step.PlanStep.{PlanStep}
use Rattle.realm_plan.specs.declared.step.PlanStep.TheVariants.{Whole, WidthLeftOut}
use Rattle.realm_plan.specs.Steps.{whole, page_step_at, realm_of_numbers, realm_step_at, table_step_at, rec_of_numbers, rec_step_at, way_back_step_at, step_at}
use Rattle.realm_plan.specs.StepsWritten.{page, page_offset, written_step, HasCount, IsStepInRange}

abbrev pub SpellsStep : List ℕ → List ℕ → PlanStep → Type 0
SpellsStep word ns s = Spells (λ it. (written_step it).word) (λ it. (written_step it).numbers) IsStepInRange word ns s

made : (s : PlanStep) → AreAtMost (written_step s).numbers (written_step s).maxima → HasCount s → SpellsStep (written_step s).word (written_step s).numbers s
made s at_most count = record { word_is = refl; numbers_are = refl; in_range = record { at_most = at_most; count = count } }

page_spells : (word ns : List ℕ) (s : PlanStep) → page_step_at word ns ≡ Some s → SpellsStep word ns s
page_spells word ns s =
    choose SpellsStep word ns s (codes "take") (one u8 (λ k. whole (Take k))) _ (one_makes (SpellsStep (codes "take")) u8 _ (λ k h. made (whole (Take k)) (h, tt) tt))
    (choose SpellsStep word ns s (codes "fill") (two page u8 (λ k l. whole (Fill k l))) _ (two_makes (SpellsStep (codes "fill")) page u8 _ (λ k l h i. made (whole (Fill k l)) (h, (i, tt)) tt))
    (choose SpellsStep word ns s (codes "peek") (two page page_offset (λ k l. whole (Peek k l))) _
    (two_makes (SpellsStep (codes "peek")) page page_offset _ (λ k l h i. made (whole (Peek k l)) (h, (i, tt)) tt))
    (choose SpellsStep word ns s (codes "delegate") (one page (λ k. whole (Delegate k))) _ (one_makes (SpellsStep (codes "delegate")) page _ (λ k h. made (whole (Delegate k)) (h, tt) tt))
    (λ e. absurd (cc)))))

realm_spells : (ns : List ℕ) (s : PlanStep) → realm_of_numbers ns ≡ Some s → SpellsStep (codes "realm") ns s
realm_spells ns s =
    either SpellsStep (codes "realm") ns s (two page page (λ k l. WidthLeftOut k l) ns) (three page page u8 (λ k l m. whole (Realm k l m)) ns)
    (two_makes (SpellsStep (codes "realm")) page page _ (λ k l h i. made (WidthLeftOut k l) (h, (i, tt)) tt) ns s)
    (three_makes (SpellsStep (codes "realm")) page page u8 _ (λ k l m h i j. made (whole (Realm k l m)) (h, (i, (j, tt))) tt) ns s)

realm_step_spells : (word ns : List ℕ) (s : PlanStep) → realm_step_at word ns ≡ Some s → SpellsStep word ns s
realm_step_spells word ns s =
    choose SpellsStep word ns s (codes "realm") realm_of_numbers _ realm_spells
    (choose SpellsStep word ns s (codes "activate") (none (whole Activate)) _ (none_makes (SpellsStep (codes "activate")) _ (made (whole Activate) tt tt))
    (λ e. absurd (cc)))

table_spells : (word ns : List ℕ) (s : PlanStep) → table_step_at word ns ≡ Some s → SpellsStep word ns s
table_spells word ns s =
    choose SpellsStep word ns s (codes "rtt") (three page u32 u8 (λ k l m. whole (Rtt k l m))) _
    (three_makes (SpellsStep (codes "rtt")) page u32 u8 _ (λ k l m h i j. made (whole (Rtt k l m)) (h, (i, (j, tt))) tt))
    (choose SpellsStep word ns s (codes "ripas") (two u32 u16 (λ k l. whole (Ripas k l))) _ (two_makes (SpellsStep (codes "ripas")) u32 u16 _ (λ k l h i. made (whole (Ripas k l)) (h, (i, tt)) tt))
    (choose SpellsStep word ns s (codes "data") (three page u32 page (λ k l m. whole (Data k l m))) _
    (three_makes (SpellsStep (codes "data")) page u32 page _ (λ k l m h i j. made (whole (Data k l m)) (h, (i, (j, tt))) tt))
    (choose SpellsStep word ns s (codes "unknown") (two page u32 (λ k l. whole (Unknown k l))) _
    (two_makes (SpellsStep (codes "unknown")) page u32 _ (λ k l h i. made (whole (Unknown k l)) (h, (i, tt)) tt))
    (λ e. absurd (cc)))))

rec_spells : (ns : List ℕ) (s : PlanStep) → rec_of_numbers ns ≡ Some s → SpellsStep (codes "rec") ns s
rec_spells [] s e = absurd (cc)
rec_spells (p ∷ more) s e = elim (leb p page) as (λ t. leb p page ≡ t → cond t (option_map (λ it. whole (Rec p it)) (up_to 16 page more)) None ≡ Some s → SpellsStep (codes "rec") (p ∷ more) s) [
  | true ↦ λ test made_it.
      let found = map_some (λ it. whole (Rec p it)) (up_to 16 page more) s made_it in
      let are = up_to-some 16 page more found.0 found.1 in
      let same : whole (Rec p (record { items = more })) ≡ s = cc in
      subst (SpellsStep (codes "rec") (p ∷ more)) same
      (made (whole (Rec p (record { items = more }))) (leb-true p page test, are.small) are.few)
  | false ↦ λ test made_it. absurd (cc)
] refl e

rec_step_spells : (word ns : List ℕ) (s : PlanStep) → rec_step_at word ns ≡ Some s → SpellsStep word ns s
rec_step_spells word ns s =
    choose SpellsStep word ns s (codes "rec") rec_of_numbers _ rec_spells
    (choose SpellsStep word ns s (codes "enter") (one u16 (λ k. whole (Enter k))) _ (one_makes (SpellsStep (codes "enter")) u16 _ (λ k h. made (whole (Enter k)) (h, tt) tt))
    (choose SpellsStep word ns s (codes "exit") (one u16 (λ k. whole (Exit k))) _ (one_makes (SpellsStep (codes "exit")) u16 _ (λ k h. made (whole (Exit k)) (h, tt) tt))
    (choose SpellsStep word ns s (codes "poke") (four u16 u32 page_offset u8 (λ k l m n. whole (Poke k l m n))) _
    (four_makes (SpellsStep (codes "poke")) u16 u32 page_offset u8 _ (λ k l m n h i j o. made (whole (Poke k l m n)) (h, (i, (j, (o, tt)))) tt))
    (λ e. absurd (cc)))))

way_back_spells : (word ns : List ℕ) (s : PlanStep) → way_back_step_at word ns ≡ Some s → SpellsStep word ns s
way_back_spells word ns s =
    choose SpellsStep word ns s (codes "undo") (none (Whole Undo)) _ (none_makes (SpellsStep (codes "undo")) _ (made (Whole Undo) tt tt))
    (choose SpellsStep word ns s (codes "abort") (none (Whole Abort)) _ (none_makes (SpellsStep (codes "abort")) _ (made (Whole Abort) tt tt))
    (choose SpellsStep word ns s (codes "mark") (none (Whole Mark)) _ (none_makes (SpellsStep (codes "mark")) _ (made (Whole Mark) tt tt))
    (choose SpellsStep word ns s (codes "back") (none (Whole Back)) _ (none_makes (SpellsStep (codes "back")) _ (made (Whole Back) tt tt))
    (λ e. absurd (cc)))))

pub spells : (word ns : List ℕ) (s : PlanStep) → step_at word ns ≡ Some s → SpellsStep word ns s
spells word ns s =
    among_five SpellsStep word ns s (page_step_at word ns) (realm_step_at word ns) (table_step_at word ns) (rec_step_at word ns) (way_back_step_at word ns)
    (page_spells word ns s) (realm_step_spells word ns s) (table_spells word ns s) (rec_step_spells word ns s) (way_back_spells word ns s)
