-- 01, "Words": "IHW 0xE0 (added): 27:0 active lanes, 71:28 reserved. Its answer also says how many lanes the IHW switches on."
-- Assumes nothing.
use Rattle.std.specs.Prelude.{ℕ, Bool, eqb}
use Rattle.std.specs.Int.Count.{ones}
use Rattle.words.specs.declared.Word.{Word}
use Rattle.words.specs.declared.ihw.IhwAnswer.{IhwAnswer}
use Rattle.words.specs.Word.{bits}

abbrev pub ihw_id : ℕ
ihw_id = 0xE0

abbrev pub active_lanes : Word → ℕ
active_lanes = bits 27 0

-- "Count of ones of the 28 active-lane bits, in the IHW's answer."
abbrev pub lanes_on : Word → ℕ
lanes_on w = ones (active_lanes w)

abbrev pub ihw_answer : Word → IhwAnswer
ihw_answer w = record { active = active_lanes w; on = lanes_on w }

abbrev pub reserved : Word → ℕ
reserved = bits 71 28

-- All reserved bits are 0.
abbrev pub is_reserved0 : Word → Bool
is_reserved0 w = eqb (reserved w) 0
