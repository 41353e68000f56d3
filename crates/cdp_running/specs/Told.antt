-- What is told of a word, and the answers to a word and to a packet, in this paper's numbers: "A refusal returns its number", and leaves the tracker.
-- The calls give a Result: a refused one has no tracker to give. What each says in these numbers stands here too.
-- Assumes nothing.
use Rattle.std.specs.Prelude.{ℕ, Result, Ok, Err}
use Rattle.refusals.specs.declared.Refusal.{Refusal}
use Rattle.refusals.specs.Refusals.{number}
use Rattle.cdp_running.specs.declared.Tracker.{Tracker}
use Rattle.cdp_running.specs.declared.Taken as D

-- Of a word that was taken, or the number of the refusal.
pub data Told : Type 0 where
  Taken : D.Taken → Told
  Refused : ℕ → Told

pub record WordAnswer : Type 0 where
  pub tracker : Tracker
  pub told : Told

-- Refusal 0: the packet was accepted.
pub record PacketAnswer : Type 0 where
  pub tracker : Tracker
  pub refusal : ℕ

-- What a call in a memory tells of a word.
abbrev pub told_by : Result D.Taken Refusal → Told
told_by (Ok taken) = Taken taken
told_by (Err r) = Refused (number r)

-- What a word call by value answers, behind a tracker.
abbrev pub word_answered : Tracker → Result (Tracker × D.Taken) Refusal → WordAnswer
word_answered t (Ok next) = record { tracker = next.0; told = Taken next.1 }
word_answered t (Err r) = record { tracker = t; told = Refused (number r) }

-- What a packet call answers, behind a tracker.
abbrev pub packet_answered : Tracker → Result Tracker Refusal → PacketAnswer
packet_answered t (Ok next) = record { tracker = next; refusal = 0 }
packet_answered t (Err r) = record { tracker = t; refusal = number r }
