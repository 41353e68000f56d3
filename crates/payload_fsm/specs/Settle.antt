-- The words that settle every state (promise 3; 01, "At the edges"; 02, ticket 12): data words and a TDH with bit 13 clear, a TDT with packet done.
-- Assumes nothing.
use Rattle.std.specs.Prelude.{◌≡◌, true, List, [], ◌∷◌}
use Rattle.words.specs.declared.Word.{Word}
use Rattle.words.specs.Word.{id_of}
use Rattle.words.specs.Tdh.{tdh_id, no_data}
use Rattle.words.specs.Tdt.{tdt_id, packet_done}
use Rattle.data_ids.specs.DataIds.{is_data_id}
use Rattle.payload_fsm.specs.declared.State.{State}
use Rattle.payload_fsm.specs.Step.{next_state}

-- A data word with bit 13 clear.
pub record DataClear (w : Word) : Type 0 where
  pub data_id : is_data_id (id_of w) ≡ true
  pub clear : no_data w ≡ 0

-- A TDT with packet done.
pub record TdtDone (w : Word) : Type 0 where
  pub tdt_id_is : id_of w ≡ tdt_id
  pub done : packet_done w ≡ true

-- "a TDH with bit 13 clear", told by its id: what a word is taken as depends on the state, and no state is known before a marker.
pub record TdhClear (w : Word) : Type 0 where
  pub tdh_id_is : id_of w ≡ tdh_id
  pub clear : no_data w ≡ 0

-- A marker, one of two: promise 3's three data words with bit 13 clear and a TDT with packet done; or "a TDH with bit 13 clear, one data word with
-- bit 13 clear and a TDT with packet done", which is a clean short frame.
pub data Marker : List Word → Type 0 where
  three_data : {a b c d : Word} → DataClear a → DataClear b → DataClear c → TdtDone d → Marker (a ∷ b ∷ c ∷ d ∷ [])
  short_frame : {h a d : Word} → TdhClear h → DataClear a → TdtDone d → Marker (h ∷ a ∷ d ∷ [])

-- The state after words, one after the other.
unfoldable pub state_after : State → List Word → State
state_after state [] = state
state_after state (w ∷ ws) = state_after (next_state state w) ws
