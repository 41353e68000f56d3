-- What a word of each kind stores among the numbers of a tracker, besides state and count: the places that it changes, and no others. And the numbers that
-- a word call and a payload call in place leave, by that.
-- Assumes nothing.
use Rattle.std.specs.Prelude.{ℕ, zero, suc, ◌+◌, ◌≡◌, Bool, cond, not, ◌&&◌, List, [], ◌∷◌, take, drop, Result, Ok, Err, eqb}
use Rattle.std.proofs.lemmas.List.Edits.{sets}
use Rattle.refusals.specs.declared.Refusal.{Refusal}
use Rattle.words.specs.declared.Word.{Word}
use Rattle.words.specs.Word.{word_bytes, word_of}
use Rattle.words.specs.Ihw.{active_lanes}
use Rattle.words.specs.Tdh.{trigger_type, trigger_bc, trigger_orbit, internal_trigger, continuation}
use Rattle.words.specs.Cdw.{user_fields}
use Rattle.words.specs.Tdt.{packet_done}
use Rattle.payload_fsm.specs.declared.Advanced.{Advanced}
use Rattle.payload_fsm.specs.declared.ItsPayloadWord.{ItsPayloadWord}
use Rattle.payload_fsm.specs.declared.ItsPayloadWord.TheVariants as K
use Rattle.stored.specs.Stored.{first_cdw}
use Rattle.cdp_running.specs.declared.Taken.{Taken}
use Rattle.cdp_running.specs.Word.{taken_as, position_now}
use Rattle.tracker_array.specs.Place as P
use Rattle.tracker_array.specs.Array.{is_on, state_number}
use Rattle.tracker_array.specs.Read.{place, tracker_in}

-- Numbers stored from a place on, if so.
abbrev pub put_if : Bool → ℕ → List ℕ → List ℕ → List ℕ
put_if b at numbers a = cond b (sets a at numbers) a

abbrev pub ihw_stores : Word → List ℕ → List ℕ
ihw_stores w a = sets a P.ihw (1 ∷ active_lanes w ∷ [])

-- The TDH; where it is internal its crossing and its orbit; and a frame's start, where one opens here.
abbrev pub tdh_stores : Word → ℕ → List ℕ → List ℕ
tdh_stores w here a =
    put_if (is_on (place a P.frames) && (not (is_on (place a P.opened)) && eqb (continuation w) 0)) P.frame (1 ∷ here ∷ [])
    (put_if (eqb (internal_trigger w) 1) P.internal (1 ∷ trigger_bc w ∷ trigger_orbit w ∷ [])
    (sets a P.tdh (1 ∷ trigger_type w ∷ trigger_bc w ∷ trigger_orbit w ∷ [])))

-- A first CDW, and that data is seen.
abbrev pub data_stores : Word → List ℕ → List ℕ
data_stores w a = sets (put_if (first_cdw (is_on (place a P.seen)) w) P.cdw (1 ∷ user_fields w ∷ []) a) P.seen (1 ∷ [])

-- No frame, where one closes here.
abbrev pub tdt_stores : Word → List ℕ → List ℕ
tdt_stores w a = put_if (is_on (place a P.frames) && packet_done w) P.frame (0 ∷ 0 ∷ []) a

-- By kind. A DDW0 stores nothing.
abbrev pub stores_of : ItsPayloadWord → Word → ℕ → List ℕ → List ℕ
stores_of K.Ihw w here a = ihw_stores w a
stores_of K.IhwContinuation w here a = ihw_stores w a
stores_of K.Tdh w here a = tdh_stores w here a
stores_of K.TdhAfterPacketDone w here a = tdh_stores w here a
stores_of K.TdhContinuation w here a = tdh_stores w here a
stores_of K.DataWord w here a = data_stores w a
stores_of K.Cdw w here a = data_stores w a
stores_of K.Tdt w here a = tdt_stores w a
stores_of K.Ddw0 w here a = a

-- The numbers after a word that was taken as `taken` says: state and count, and then what its kind stores of it where it stands.
abbrev pub word_stores : Advanced → Word → List ℕ → List ℕ
word_stores taken w a =
    stores_of taken.word w (position_now (tracker_in a))
    (sets a P.reached (state_number taken.fsm.state ∷ (place a P.count + 1) ∷ []))

-- What a word call leaves of the numbers: a word that is taken leaves its stores in them, and a refusal leaves them as they were.
abbrev pub WordStores : List ℕ → List ℕ → Result Taken Refusal → List ℕ → Type 0
WordStores a bytes (Ok told) after =
    after ≡ word_stores (taken_as (tracker_in a) (word_of bytes)) (word_of bytes) a
WordStores a bytes (Err refusal) after = after ≡ a

-- The numbers after so many words from the front of the bytes, one after the other: each stores in what the one before it left.
unfoldable pub payload_stores : ℕ → List ℕ → List ℕ → List ℕ
payload_stores zero bytes a = a
payload_stores (suc n) bytes a =
    payload_stores n (drop word_bytes bytes)
    (word_stores (taken_as (tracker_in a) (word_of (take word_bytes bytes))) (word_of (take word_bytes bytes)) a)
