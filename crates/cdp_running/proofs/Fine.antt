-- Of the records of a word: there are at most six, none stands past the last position, and each says the packet that the word is in. Codes.antt says which
-- codes they have.
-- Assumes nothing.
use Prim.Native.Nat.{ℕ, ◌≤◌, ◌<◌}
use mathlib.Core.Path.{◌≡◌, refl, sym, subst, ◌∙◌}
use mathlib.Core.Bool.{Bool, true}
use mathlib.Core.List.{List, [], ◌∷◌}
use native.Mathlib.Omega.{arith}
use borrow.Author.Tests.{ltb-true}
use lib.ListN.{length}
use Rattle.words.specs.declared.Word.{Word}
use Rattle.words.specs.Word.{word_of}
use Rattle.packet.specs.Packet.{most_position, max_words, most_packets}
use Rattle.packet.proofs.Places.{position_most}
use Rattle.payload_fsm.specs.declared.ItsPayloadWord.{ItsPayloadWord}
use Rattle.payload_fsm.specs.declared.ItsPayloadWord.TheVariants as K
use Rattle.records.specs.declared.Row.{Row}
use Rattle.words.specs.Lists.{Each}
use Rattle.records.specs.Records.{Record, most_records}
use Rattle.records.proofs.Given.{counted, count_low, given_each}
use Rattle.cdp_running.specs.declared.Tracker.{Tracker}
use Rattle.cdp_running.specs.Tracker.{Good}
use Rattle.cdp_running.specs.Word.{rows_as, rows_of, taken_as, position_now, records_of, Outcome, taken, refused, word_call, records_in}
use Rattle.cdp_running.proofs.Outcome.{taken_admitted, records_are}

-- What holds anyway holds of all rows.
of_all : {A : Type 0} → A → (rows : List Row) → Each (λ row. row.on ≡ true → A) rows
of_all a [] = tt
of_all a (row ∷ rows) = (λ _. a, of_all a rows)

-- Rows by kind: at most six.
few_rows : (kind : ItsPayloadWord) (guessed : Bool) (t : Tracker) (w : Word) → length (rows_as kind guessed t w) ≤ most_records
few_rows K.Ihw guessed t w = omega arith
few_rows K.IhwContinuation guessed t w = omega arith
few_rows K.Tdh guessed t w = omega arith
few_rows K.TdhAfterPacketDone guessed t w = omega arith
few_rows K.TdhContinuation guessed t w = omega arith
few_rows K.DataWord guessed t w = omega arith
few_rows K.Cdw guessed t w = omega arith
few_rows K.Tdt guessed t w = omega arith
few_rows K.Ddw0 guessed t w = omega arith

-- 02, ticket 7: the fifth number is "the count of packets accepted since the start, beginning at 1. It stops at 4,294,967,295".
abbrev pub Says : Tracker → Record → Type 0
Says t r = (r.packet ≡ t.packets) × ((1 ≤ r.packet) × (r.packet ≤ most_packets))

module _ (t : Tracker) (w : Word) where
  -- "One word gives at most six".
  pub few_records : length (records_of t w) ≤ most_records
  unfolding records_of
  few_records =
      let a = taken_as t w in
      let rows = rows_of t a w in
      omega (arith, counted (position_now t) t.packets rows, count_low rows, few_rows a.word a.guessed t w)

  -- Positions are at most 2^62 + 64 + 16 * 4095.
  pub positions : Good t → t.at.count < max_words → Each (λ r. r.position ≤ most_position) (records_of t w)
  unfolding records_of
  positions g h =
      given_each (λ r. r.position ≤ most_position) (position_now t) t.packets (rows_of t (taken_as t w) w)
      (of_all (position_most t.packet t.at.count g.packet h) (rows_of t (taken_as t w) w))

  -- A word is taken once a packet was accepted.
  pub packets_said : Good t → t.accepted ≡ true → Each (Says t) (records_of t w)
  unfolding records_of
  packets_said g have =
      let some : 1 ≤ t.packets = ltb-true 0 t.packets (sym g.counted ∙ have) in
      given_each (Says t) (position_now t) t.packets (rows_of t (taken_as t w) w)
      (of_all (refl, (some, g.few)) (rows_of t (taken_as t w) w))

-- So every record that a word call gives says it.
pub call_says : (t : Tracker) (bytes : List ℕ) (places : ℕ) → Good t
    → Each (Says t) (records_in (word_call t bytes places))
call_says t bytes places g = at (word_call t bytes places) refl
  where
    at : (o : Outcome) → word_call t bytes places ≡ o → Each (Says t) (records_in o)
    at (taken x) e =
        subst (Each (Says t)) (sym (records_are t bytes places e))
        (packets_said t (word_of bytes) g (taken_admitted t bytes places e).accepted)
    at (refused n) e = tt
