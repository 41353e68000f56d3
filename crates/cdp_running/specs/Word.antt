-- 01, "Calls and settings": one word call, its refusals in their order, its records, its answer, and what the buffer then holds.
-- Assumes nothing.
use Rattle.std.specs.Prelude.{ℕ, ◌≡◌, Bool, cond, List, [], leb, eqb, length}
use Rattle.words.specs.declared.Word.{Word}
use Rattle.words.specs.Word.{word_bytes, word_of}
use Rattle.packet.specs.Packet.{max_words, position_of}
use Rattle.payload_fsm.specs.declared.ItsPayloadWord.{ItsPayloadWord}
use Rattle.payload_fsm.specs.declared.ItsPayloadWord.TheVariants as K
use Rattle.payload_fsm.specs.declared.Advanced.{Advanced}
use Rattle.payload_fsm.specs.Step.{advance_of, is_three}
use Rattle.records.specs.declared.Row.{Row}
use Rattle.words.specs.Lists.{over}
use Rattle.records.specs.Records.{Record, given, flat, room, exceed}
use Rattle.stored.specs.declared.FrameTold.{FrameTold}
use Rattle.stored.specs.Stored.{frame_told, lanes_told}
use Rattle.validators.specs.Ihw as Ihw
use Rattle.validators.specs.Tdt as Tdt
use Rattle.validators.specs.Ddw as Ddw
use Rattle.validators.specs.DataWords as DataWords
use Rattle.tdh_validator.specs.Tdh as Tdh
use Rattle.cdp_running.specs.declared.Tracker.{Tracker}
use Rattle.cdp_running.specs.declared.Taken.{Taken}
use Rattle.cdp_running.specs.Told as T
use Rattle.cdp_running.specs.Told.{WordAnswer}
use Rattle.cdp_running.specs.Tracker.{Good}
use Rattle.cdp_running.specs.Next.{next_tracker}

-- What a word is taken as.
abbrev pub taken_as : Tracker → Word → Advanced
taken_as t w = advance_of t.at.fsm.state w

-- The rows of a word by what it was taken as.
abbrev pub rows_as : ItsPayloadWord → Bool → Tracker → Word → List Row
rows_as K.Ihw guessed t w = Ihw.ihw_rows t.settings t.packet (is_three t.at.fsm.state) w
rows_as K.IhwContinuation guessed t w = Ihw.continuation_rows w
rows_as K.Tdh guessed t w = Tdh.tdh_rows t.settings t.packet t.stored.internal w
rows_as K.TdhAfterPacketDone guessed t w = Tdh.after_packet_done_rows t.settings t.stored.tdh t.stored.internal w
rows_as K.TdhContinuation guessed t w = Tdh.continuation_rows t.settings t.stored.tdh w
rows_as K.DataWord guessed t w = DataWords.data_rows t.settings t.at.seen t.stored.ihw.lanes t.stored.cdw guessed w
rows_as K.Cdw guessed t w = DataWords.data_rows t.settings t.at.seen t.stored.ihw.lanes t.stored.cdw guessed w
rows_as K.Tdt guessed t w = Tdt.tdt_rows t.settings t.frame.opened w
rows_as K.Ddw0 guessed t w = Ddw.ddw0_rows t.settings t.packet guessed w

abbrev pub rows_of : Tracker → Advanced → Word → List Row
rows_of t a w = rows_as a.word a.guessed t w

-- Where the next word stands, and the records that it gives, which say the packet that it is in.
abbrev pub position_now : Tracker → ℕ
position_now t = position_of t.packet t.at.count

unfoldable pub records_of : Tracker → Word → List Record
records_of t w = given (position_now t) t.packets (rows_of t (taken_as t w) w)

-- What a word call comes to: the word is taken, with the tracker after it, its records and all that is told of it, or it is refused by a number.
pub record TakenWord : Type 0 where
  pub next : Tracker
  pub records : List Record
  pub kind : ItsPayloadWord
  pub guessed : Bool
  pub frame : FrameTold
  pub lanes : ℕ

pub data Outcome : Type 0 where
  taken : TakenWord → Outcome
  refused : ℕ → Outcome

-- The answer to a word that was taken as `a` says, with so many records.
abbrev pub taken_answer : Tracker → Advanced → Word → ℕ → WordAnswer
taken_answer t a w records =
    record {
      tracker = next_tracker t a w;
      told =
          T.Taken
          (record {
            kind = a.word;
            guessed = a.guessed;
            records = records;
            frame = frame_told t.settings.frames a.word w (position_now t) t.frame;
            lanes = lanes_told a.word w;
          });
    }

unfoldable pub taken_of : Tracker → Word → Outcome
taken_of t w =
    let a = taken_as t w in
    taken
    (record {
      next = next_tracker t a w;
      records = records_of t w;
      kind = a.word;
      guessed = a.guessed;
      frame = frame_told t.settings.frames a.word w (position_now t) t.frame;
      lanes = lanes_told a.word w;
    })

-- "Word order: 1, 2, 3, 4." Given exactly when: "word not 10 bytes", "no packet accepted yet", "4,096 words taken in this packet", "this word's records
-- exceed the buffer's room".
unfoldable pub word_call : Tracker → List ℕ → ℕ → Outcome
word_call t bytes places =
    cond (eqb (length bytes) word_bytes)
    (cond t.accepted
    (cond (leb max_words t.at.count) (refused 3)
    (cond (exceed (records_of t (word_of bytes)) places) (refused 4) (taken_of t (word_of bytes))))
    (refused 2))
    (refused 1)

-- What is told of a word that was taken.
abbrev pub told_of : TakenWord → Taken
told_of x = record { kind = x.kind; guessed = x.guessed; records = length x.records; frame = x.frame; lanes = x.lanes }

-- The answer: "A refusal returns its number and zeros", and the tracker as it was.
abbrev pub word_answer : Tracker → Outcome → WordAnswer
word_answer t (taken x) = record { tracker = x.next; told = T.Taken (told_of x) }
word_answer t (refused n) = record { tracker = t; told = T.Refused n }

-- The records that stand in the buffer.
abbrev pub records_in : Outcome → List Record
records_in (taken x) = x.records
records_in (refused n) = []

-- What a word call gives, from the tracker, the bytes and the buffer.
pub record WordPost (t : Tracker) (bytes buffer : List ℕ) (r : WordAnswer) (after : List ℕ) : Type 0 where
  pub answer : r ≡ word_answer t (word_call t bytes (room buffer))
  pub buffer_is : after ≡ over (flat (records_in (word_call t bytes (room buffer)))) buffer
  pub good : Good r.tracker
