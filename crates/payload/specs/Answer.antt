-- What a payload call answers, in this paper's numbers: "stops at a refusal, naming words taken, records written and the number". 0 is no refusal.
-- Assumes nothing.
use Rattle.std.specs.Prelude.{ℕ}
use Rattle.refusals.specs.Refusals.{code_if}
use Rattle.cdp_running.specs.declared.Tracker.{Tracker}
use Rattle.payload.specs.declared.PayloadAnswer as A
use Rattle.payload.specs.declared.PayloadTold as D

pub record PayloadAnswer : Type 0 where
  pub tracker : Tracker
  pub words : ℕ
  pub records : ℕ
  pub refusal : ℕ

-- The same without the tracker.
pub record PayloadTold : Type 0 where
  pub words : ℕ
  pub records : ℕ
  pub refusal : ℕ

-- What the calls say in these numbers.
abbrev pub payload_answered : A.PayloadAnswer → PayloadAnswer
payload_answered r = record { tracker = r.tracker; words = r.words; records = r.records; refusal = code_if r.refusal }

abbrev pub payload_told_by : D.PayloadTold → PayloadTold
payload_told_by r = record { words = r.words; records = r.records; refusal = code_if r.refusal }
