-- Answers as the structs that cross to C (include/khandzorul.h). The numbers of a word's answer are those that cdp_running gives them.
-- Assumes nothing.
use Rattle.std.specs.Prelude.{ℕ}
use Rattle.cdp_running.specs.Told.{Told}
use Rattle.cdp_running.specs.Answer.{Numbers, numbers_of}
use Rattle.payload.specs.Answer.{PayloadAnswer}
use Rattle.khandzorul.specs.declared.WordNumbers.{WordNumbers}
use Rattle.khandzorul.specs.declared.PayloadNumbers.{PayloadNumbers}

-- Refusals of the boundary alone: what was handed in is no tracker; a setting is out of its range.
abbrev pub no_tracker : ℕ
no_tracker = 100

abbrev pub no_settings : ℕ
no_settings = 101

-- A word's answer: "A refusal returns its number and zeros".
abbrev pub crossed : Numbers → WordNumbers
crossed n =
    record {
      refusal = n.refusal;
      kind = n.kind;
      guessed = n.guessed;
      records = n.records;
      frame = n.frame;
      start = n.start;
      end = n.end;
      lanes = n.lanes;
    }

abbrev pub told_numbers : Told → WordNumbers
told_numbers told = crossed (numbers_of told)

-- A payload's answer: "save a payload's words taken and records written".
abbrev pub paid_numbers : PayloadAnswer → PayloadNumbers
paid_numbers a = record { refusal = a.refusal; words = a.words; records = a.records }
