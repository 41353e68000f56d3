-- 01, "Calls and settings": "A payload call does words in order: it hands on the part of the payload after the words already taken, with the part of the
-- record buffer not yet written, and stops at a refusal, naming words taken, records written and the number. Words taken before the refusal count."
-- Assumes nothing.
use Rattle.std.specs.Prelude.{ℕ, zero, suc, ◌+◌, ◌-◌, ◌/◌, ◌%◌, ◌≡◌, cond, List, [], ◌∷◌, ◌++◌, eqb, length, take, drop}
use Rattle.words.specs.Word.{word_bytes}
use Rattle.words.specs.Lists.{over}
use Rattle.records.specs.Records.{Record, flat, room}
use Rattle.cdp_running.specs.declared.Tracker.{Tracker}
use Rattle.cdp_running.specs.Tracker.{Good}
use Rattle.cdp_running.specs.Word.{TakenWord, Outcome, taken, refused, word_call}
use Rattle.payload.specs.Answer.{PayloadAnswer}

-- What words one after the other come to: the tracker after them, how many were taken, their records, and the refusal's number or 0.
pub record Run : Type 0 where
  pub tracker : Tracker
  pub words : ℕ
  pub records : List Record
  pub refusal : ℕ

abbrev pub stop : Tracker → ℕ → Run
stop t n = record { tracker = t; words = 0; records = []; refusal = n }

-- Words and their records, before a run.
abbrev pub preceded : ℕ → List Record → Run → Run
preceded words records r =
    record { tracker = r.tracker; words = words + r.words; records = records ++ r.records; refusal = r.refusal }

-- A word call's outcome, and what comes after a word that was taken.
abbrev pub onward : Tracker → Outcome → (Tracker → List Record → Run) → Run
onward t (taken x) more = more x.next x.records
onward t (refused n) more = stop t n

-- n words at the front of the bytes, each with the places that those before it left.
unfoldable pub words_from : ℕ → Tracker → List ℕ → ℕ → Run
words_from zero t bytes places = stop t 0
words_from (suc n) t bytes places =
    onward t (word_call t (take word_bytes bytes) places)
    (λ next records. preceded 1 records (words_from n next (drop word_bytes bytes) (places - length records)))

-- 1, "payload not a multiple of 10"; 2, "no packet accepted yet"; "An empty payload is accepted if a packet is."
unfoldable pub payload_call : Tracker → List ℕ → ℕ → Run
payload_call t bytes places =
    cond (eqb (length bytes % word_bytes) 0)
    (cond t.accepted (words_from (length bytes / word_bytes) t bytes places) (stop t 2))
    (stop t 1)

abbrev pub payload_answer : Run → PayloadAnswer
payload_answer r = record { tracker = r.tracker; words = r.words; records = length r.records; refusal = r.refusal }

-- Word calls made one after the other, each on the rest of the bytes and of the places that the one before left, up to a refusal: what they came to.
pub data CallsInTurn : ℕ → Tracker → List ℕ → ℕ → List Outcome → Type 0 where
  done : {t : Tracker} {bytes : List ℕ} {places : ℕ} → CallsInTurn 0 t bytes places []
  last : {n : ℕ} {t : Tracker} {bytes : List ℕ} {places number : ℕ} → word_call t (take word_bytes bytes) places ≡ refused number
      → CallsInTurn (suc n) t bytes places (refused number ∷ [])
  more : {n : ℕ} {t : Tracker} {bytes : List ℕ} {places : ℕ} {x : TakenWord} {rest : List Outcome}
      → word_call t (take word_bytes bytes) places ≡ taken x → CallsInTurn n x.next (drop word_bytes bytes) (places - length x.records) rest
      → CallsInTurn (suc n) t bytes places (taken x ∷ rest)

-- The same calls as a list: what each comes to.
abbrev pub further : Outcome → (Tracker → List Record → List Outcome) → List Outcome
further (taken x) go = taken x ∷ go x.next x.records
further (refused n) go = refused n ∷ []

unfoldable pub word_calls : ℕ → Tracker → List ℕ → ℕ → List Outcome
word_calls zero t bytes places = []
word_calls (suc n) t bytes places =
    further (word_call t (take word_bytes bytes) places) (λ next records. word_calls n next (drop word_bytes bytes) (places - length records))

-- The word calls that a payload call stands for; 1 and 2 as above.
unfoldable pub payload_calls : Tracker → List ℕ → ℕ → List Outcome
payload_calls t bytes places =
    cond (eqb (length bytes % word_bytes) 0)
    (cond t.accepted (word_calls (length bytes / word_bytes) t bytes places) (refused 2 ∷ []))
    (refused 1 ∷ [])

-- What a list of outcomes comes to, all in all.
unfoldable pub total : Tracker → List Outcome → Run
total t [] = stop t 0
total t (taken x ∷ rest) = preceded 1 x.records (total x.next rest)
total t (refused n ∷ rest) = stop t n

-- What a payload call gives, from the tracker, the bytes and the buffer.
pub record PayloadPost (t : Tracker) (bytes buffer : List ℕ) (r : PayloadAnswer) (after : List ℕ) : Type 0 where
  pub answer : r ≡ payload_answer (payload_call t bytes (room buffer))
  pub buffer_is : after ≡ over (flat (payload_call t bytes (room buffer)).records) buffer
  pub good : Good r.tracker
