-- 01, "Each place and its form": "Where an answer is an enum, a definition gives this paper's number and values for each of its cases". The numbers of
-- what a word call tells: "A word call answers kind, guessed or not, records written, and frame: none, opened, or closed with start and end."
-- Assumes nothing.
use Rattle.std.specs.Prelude.{ℕ, cond, Result, Ok, Err}
use Rattle.refusals.specs.declared.Refusal.{Refusal}
use Rattle.payload_fsm.specs.Kinds.{kind_number}
use Rattle.stored.specs.declared.FrameTold.{FrameTold}
use Rattle.stored.specs.declared.FrameTold.TheVariants as F
use Rattle.cdp_running.specs.declared.Tracker.{Tracker}
use Rattle.cdp_running.specs.declared.Taken.{Taken}
use Rattle.cdp_running.specs.Told.{Told}
use Rattle.cdp_running.specs.Told as T

pub record Numbers : Type 0 where
  pub refusal : ℕ
  pub kind : ℕ
  pub guessed : ℕ
  pub records : ℕ
  pub frame : ℕ
  pub start : ℕ
  pub end : ℕ
  pub lanes : ℕ

-- The frame: 0 none, 1 opened, 2 closed, "with start and end"; these are 0 otherwise.
abbrev pub frame_number : FrameTold → ℕ
frame_number F.Nothing = 0
frame_number F.Opened = 1
frame_number (F.Closed start end) = 2

abbrev pub frame_start : FrameTold → ℕ
frame_start F.Nothing = 0
frame_start F.Opened = 0
frame_start (F.Closed start end) = start

abbrev pub frame_end : FrameTold → ℕ
frame_end F.Nothing = 0
frame_end F.Opened = 0
frame_end (F.Closed start end) = end

-- "A refusal returns its number and zeros"; of a word that was taken the refusal is 0.
abbrev pub numbers_of : Told → Numbers
numbers_of (T.Taken x) =
    record {
      refusal = 0;
      kind = kind_number x.kind;
      guessed = cond x.guessed 1 0;
      records = x.records;
      frame = frame_number x.frame;
      start = frame_start x.frame;
      end = frame_end x.frame;
      lanes = x.lanes;
    }
numbers_of (T.Refused n) = record { refusal = n; kind = 0; guessed = 0; records = 0; frame = 0; start = 0; end = 0; lanes = 0 }

-- How many records a word call gave.
abbrev pub records_told : Result (Tracker × Taken) Refusal → ℕ
records_told (Ok next) = next.1.records
records_told (Err r) = 0
