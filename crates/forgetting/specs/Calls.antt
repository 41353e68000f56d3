-- Calls one after the other, over the definitions of the calls: what each leaves, what it answers, and which words it took.
-- Assumes nothing.
use Rattle.std.specs.Prelude.{ℕ, ◌+◌, Bool, cond, List, [], ◌∷◌, ◌++◌, eqb, take, drop, length}
use Rattle.words.specs.declared.Word.{Word}
use Rattle.words.specs.Word.{word_bytes, word_of}
use Rattle.packet.specs.declared.Packet.{Packet}
use Rattle.payload_fsm.specs.declared.ItsPayloadWord.{ItsPayloadWord}
use Rattle.words.specs.Lists.{over}
use Rattle.records.specs.Records.{flat, room}
use Rattle.cdp_running.specs.declared.Tracker.{Tracker}
use Rattle.cdp_running.specs.Told.{Told}
use Rattle.cdp_running.specs.Tracker.{reset_of, packet_call}
use Rattle.cdp_running.specs.Word as Word
use Rattle.cdp_running.specs.Word.{Outcome, taken, refused, word_call}
use Rattle.payload.specs.Payload.{Run, payload_call, payload_calls}

-- A call: a packet, a word, a payload or a reset. A word and a payload are any bytes, and a record buffer that is lent.
pub data Call : Type 0 where
  packet : Packet → Call
  word : List ℕ → List ℕ → Call
  payload : List ℕ → List ℕ → Call
  reset : Call

-- The tracker that a call leaves, and that calls leave one after the other.
abbrev pub after : Tracker → Call → Tracker
after t (packet p) = (packet_call t p).tracker
after t (word bytes buffer) = (Word.word_answer t (word_call t bytes (room buffer))).tracker
after t (payload bytes buffer) = (payload_call t bytes (room buffer)).tracker
after t reset = reset_of t

unfoldable pub run : Tracker → List Call → Tracker
run t [] = t
run t (c ∷ calls) = run (after t c) calls

-- What a call answers, with the final content of the buffer.
pub data Answer : Type 0 where
  packet : (refusal : ℕ) → Answer
  word : Told → (buffer : List ℕ) → Answer
  payload : (words records refusal : ℕ) (buffer : List ℕ) → Answer
  reset : Answer

abbrev pub paid : Run → List ℕ → Answer
paid r buffer = payload r.words (length r.records) r.refusal (over (flat r.records) buffer)

abbrev pub answer : Tracker → Call → Answer
answer t (packet p) = packet (packet_call t p).refusal
answer t (word bytes buffer) =
    let o = word_call t bytes (room buffer) in
    word (Word.word_answer t o).told (over (flat (Word.records_in o)) buffer)
answer t (payload bytes buffer) = paid (payload_call t bytes (room buffer)) buffer
answer t reset = reset

unfoldable pub answers : Tracker → List Call → List Answer
answers t [] = []
answers t (c ∷ calls) = answer t c ∷ answers (after t c) calls

-- 02, ticket 7, "the count of packets accepted since the start": the packets that calls accepted, by their answers.
unfoldable pub accepted_in : List Answer → ℕ
accepted_in [] = 0
accepted_in (packet refusal ∷ rest) = cond (eqb refusal 0) 1 0 + accepted_in rest
accepted_in (word told buffer ∷ rest) = accepted_in rest
accepted_in (payload words records refusal buffer ∷ rest) = accepted_in rest
accepted_in (reset ∷ rest) = accepted_in rest

-- The bytes of a call, and the word calls that it makes.
abbrev pub bytes_of : Call → List ℕ
bytes_of (packet p) = []
bytes_of (word bytes buffer) = bytes
bytes_of (payload bytes buffer) = bytes
bytes_of reset = []

abbrev pub words_of : Tracker → Call → List Outcome
words_of t (packet p) = []
words_of t (word bytes buffer) = word_call t bytes (room buffer) ∷ []
words_of t (payload bytes buffer) = payload_calls t bytes (room buffer)
words_of t reset = []

-- Refusals and word kinds, guesses included.
pub data Kind : Type 0 where
  kind : ItsPayloadWord → (guessed : Bool) → Kind
  refusal : ℕ → Kind

abbrev pub kind_of : Outcome → Kind
kind_of (taken x) = kind x.kind x.guessed
kind_of (refused n) = refusal n

unfoldable pub kinds_in : List Outcome → List Kind
kinds_in [] = []
kinds_in (o ∷ os) = kind_of o ∷ kinds_in os

-- Of a packet its refusal or 0; of a word and of a payload what each word call says.
abbrev pub kinds_of : Tracker → Call → List Kind
kinds_of t (packet p) = refusal (packet_call t p).refusal ∷ []
kinds_of t (word bytes buffer) = kinds_in (words_of t (word bytes buffer))
kinds_of t (payload bytes buffer) = kinds_in (words_of t (payload bytes buffer))
kinds_of t reset = []

unfoldable pub kinds : Tracker → List Call → List (List Kind)
kinds t [] = []
kinds t (c ∷ calls) = kinds_of t c ∷ kinds (after t c) calls

-- A word that was taken: as what, and whether data was seen before it in its packet.
pub record Took : Type 0 where
  pub word : Word
  pub kind : ItsPayloadWord
  pub seen : Bool

-- The words that word calls took, one after the other at the front of bytes.
unfoldable pub took_in : Tracker → List ℕ → List Outcome → List Took
took_in t bytes [] = []
took_in t bytes (taken x ∷ os) =
    record { word = word_of (take word_bytes bytes); kind = x.kind; seen = t.at.seen } ∷ took_in x.next (drop word_bytes bytes) os
took_in t bytes (refused n ∷ os) = []

abbrev pub took_of : Tracker → Call → List Took
took_of t c = took_in t (bytes_of c) (words_of t c)

unfoldable pub took : Tracker → List Call → List Took
took t [] = []
took t (c ∷ calls) = took_of t c ++ took (after t c) calls

unfoldable pub words_in : List Took → List Word
words_in [] = []
words_in (x ∷ xs) = x.word ∷ words_in xs
