-- The spelling of a plan's steps as a word and decimal numbers, and the maximum of each number.
use Rattle.std.specs.Prelude.{◌≡◌, ℕ, ◌≤◌, List, [], ◌∷◌, codes, replicate}
use Rattle.arrayvec.specs.ArrayVec.{array_vec_len}
use Rattle.decimal_text.specs.Grammar.{spelled}
use Rattle.decimal_text.specs.Ranges.{AreAtMost}
use Rattle.decimal_text.specs.Written.{Written, written, u8, u16, u32}
use Rattle.host_commands.specs.declared.cmd.Cmd.{Cmd}
use Rattle.host_commands.specs.declared.cmd.Cmd.TheVariants.{Take, Fill, Peek, Delegate, Realm, Rtt, Ripas, Data, Unknown, Rec, Activate, Enter, Exit, Poke}
use Rattle.host_commands.specs.declared.cmd.Step.TheVariants.{Ask, Undo, Abort, Mark, Back}
use Rattle.realm_plan.specs.declared.step.PlanStep.{PlanStep}
use Rattle.realm_plan.specs.declared.step.PlanStep.TheVariants.{Whole, WidthLeftOut}

-- the highest number that a page of a build can have: numbers begin at 0, and the largest machine has 4096 granules
abbrev pub page : ℕ
page = 4095

-- the greatest offset in a page
abbrev pub page_offset : ℕ
page_offset = 4095

abbrev pub written_cmd : Cmd → Written
written_cmd (Take order) = written (codes "take") (order ∷ []) (u8 ∷ [])
written_cmd (Fill p value) = written (codes "fill") (p ∷ value ∷ []) (page ∷ u8 ∷ [])
written_cmd (Peek p o) = written (codes "peek") (p ∷ o ∷ []) (page ∷ page_offset ∷ [])
written_cmd (Delegate p) = written (codes "delegate") (p ∷ []) (page ∷ [])
written_cmd (Realm rd root width) = written (codes "realm") (rd ∷ root ∷ width ∷ []) (page ∷ page ∷ u8 ∷ [])
written_cmd (Rtt p ipa level) = written (codes "rtt") (p ∷ ipa ∷ level ∷ []) (page ∷ u32 ∷ u8 ∷ [])
written_cmd (Ripas ipa count) = written (codes "ripas") (ipa ∷ count ∷ []) (u32 ∷ u16 ∷ [])
written_cmd (Data p ipa source) = written (codes "data") (p ∷ ipa ∷ source ∷ []) (page ∷ u32 ∷ page ∷ [])
written_cmd (Unknown p ipa) = written (codes "unknown") (p ∷ ipa ∷ []) (page ∷ u32 ∷ [])
written_cmd (Rec p auxiliaries) = written (codes "rec") (p ∷ auxiliaries.items) (page ∷ replicate (array_vec_len auxiliaries) page)
written_cmd Activate = written (codes "activate") [] []
written_cmd (Enter number) = written (codes "enter") (number ∷ []) (u16 ∷ [])
written_cmd (Exit number) = written (codes "exit") (number ∷ []) (u16 ∷ [])
written_cmd (Poke number ipa o value) = written (codes "poke") (number ∷ ipa ∷ o ∷ value ∷ []) (u16 ∷ u32 ∷ page_offset ∷ u8 ∷ [])

abbrev pub written_step : PlanStep → Written
written_step (Whole (Ask cmd)) = written_cmd cmd
written_step (Whole Undo) = written (codes "undo") [] []
written_step (Whole Abort) = written (codes "abort") [] []
written_step (Whole Mark) = written (codes "mark") [] []
written_step (Whole Back) = written (codes "back") [] []
written_step (WidthLeftOut rd root) = written (codes "realm") (rd ∷ root ∷ []) (page ∷ page ∷ [])

-- the text of a word and its numbers: the word, and then each number in decimal after one space
abbrev pub spelling_of : Written → List ℕ
spelling_of it = spelled it.word it.numbers

-- the spelling of a step in a plan and in the line of a turn
abbrev pub spelling : PlanStep → List ℕ
spelling step = spelling_of (written_step step)

-- if the step creates a REC, it names at most 16 auxiliary pages
abbrev pub HasCount : PlanStep → Type 0
HasCount (Whole (Ask (Rec p auxiliaries))) = array_vec_len auxiliaries ≤ 16
HasCount _ = Unit {0}

pub record IsStepInRange (step : PlanStep) : Type 0 where
  pub at_most : AreAtMost (written_step step).numbers (written_step step).maxima
  pub count : HasCount step

-- the text is the spelling of the step, and the step's numbers are in their ranges
pub record IsStepText (text : List ℕ) (step : PlanStep) : Type 0 where
  pub is_spelled : text ≡ spelling step
  pub in_range : IsStepInRange step
