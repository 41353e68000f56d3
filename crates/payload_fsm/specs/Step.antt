-- Document 01, "The tracker": what a word is taken as in a state, and the next state. The table stands here in 01's order.
-- Assumes nothing.
use Rattle.std.specs.Prelude.{ℕ, Bool, true, false, cond, eqb}
use Rattle.words.specs.declared.Word.{Word}
use Rattle.words.specs.Word.{id_of}
use Rattle.words.specs.Tdh.{tdh_id, no_data}
use Rattle.words.specs.Tdt.{tdt_id, packet_done}
use Rattle.words.specs.Ihw.{ihw_id}
use Rattle.words.specs.Ddw.{ddw0_id}
use Rattle.words.specs.Cdw.{cdw_id}
use Rattle.data_ids.specs.DataIds.{is_data_id}
use Rattle.payload_fsm.specs.declared.State.{State}
use Rattle.payload_fsm.specs.declared.State.TheVariants as S
use Rattle.payload_fsm.specs.declared.ItsPayloadWord.{ItsPayloadWord}
use Rattle.payload_fsm.specs.declared.ItsPayloadWord.TheVariants as K
use Rattle.payload_fsm.specs.declared.ItsPayloadFsmContinuous.{ItsPayloadFsmContinuous}
use Rattle.payload_fsm.specs.declared.Advanced.{Advanced}

-- "IHW_ (start, reset)"
abbrev pub start : ItsPayloadFsmContinuous
start = record { state = S.Ihw }

-- A row of the table: taken as, next.
abbrev pub taken : ItsPayloadWord → State → Advanced
taken kind next = record { word = kind; guessed = false; fsm = record { state = next } }

-- A row with E991 or E992 in front of it: the id is none that the state knows.
abbrev pub guess : ItsPayloadWord → State → Advanced
guess kind next = record { word = kind; guessed = true; fsm = record { state = next } }

-- "bit 13 clear DATA_, set THREE"
abbrev pub after_tdh : Word → State
after_tdh w = cond (eqb (no_data w) 0) S.Data S.Three

-- "DATA_, c_DATA_": 0xF0 "TDT; packet done THREE, else c_IHW_", 0xF8 "CDW, same state", a data id "data word, same state", other "E991, data word, same
-- state".
abbrev pub in_data : State → Word → Advanced
in_data state w =
    cond (eqb (id_of w) tdt_id) (taken K.Tdt (cond (packet_done w) S.Three S.CIhw))
    (cond (eqb (id_of w) cdw_id) (taken K.Cdw state)
    (cond (is_data_id (id_of w)) (taken K.DataWord state) (guess K.DataWord state)))

-- "THREE": 0xE8 "TDH after packet done; bit 13 as above", 0xE4 "DDW0, IHW_", 0xE0 "IHW, TDH_", other "E992, DDW0, IHW_".
abbrev pub in_three : Word → Advanced
in_three w =
    cond (eqb (id_of w) tdh_id) (taken K.TdhAfterPacketDone (after_tdh w))
    (cond (eqb (id_of w) ddw0_id) (taken K.Ddw0 S.Ihw)
    (cond (eqb (id_of w) ihw_id) (taken K.Ihw S.Tdh) (guess K.Ddw0 S.Ihw)))

-- The whole table.
abbrev pub advance_of : State → Word → Advanced
advance_of S.Ihw w = taken K.Ihw S.Tdh
advance_of S.Tdh w = taken K.Tdh (after_tdh w)
advance_of S.Data w = in_data S.Data w
advance_of S.CData w = in_data S.CData w
advance_of S.Three w = in_three w
advance_of S.CIhw w = taken K.IhwContinuation S.CTdh
advance_of S.CTdh w = taken K.TdhContinuation S.CData

-- Whether a state is THREE, the three-way state.
abbrev pub is_three : State → Bool
is_three S.Ihw = false
is_three S.Tdh = false
is_three S.Data = false
is_three S.CData = false
is_three S.Three = true
is_three S.CIhw = false
is_three S.CTdh = false

-- Whether a state is DATA_ or c_DATA_.
abbrev pub among_data : State → Bool
among_data S.Ihw = false
among_data S.Tdh = false
among_data S.Data = true
among_data S.CData = true
among_data S.Three = false
among_data S.CIhw = false
among_data S.CTdh = false

-- The state after a word.
abbrev pub next_state : State → Word → State
next_state state w = (advance_of state w).fsm.state

-- The code of a guess, by what the word was guessed to be: the Rust's errors TDH_or_DDW0 (990), DW_or_TDT_CDW (991) and DDW0_or_TDH_IHW (992).
abbrev pub guess_code : ItsPayloadWord → ℕ
guess_code K.Ihw = 0
guess_code K.IhwContinuation = 0
guess_code K.Tdh = 990
guess_code K.TdhAfterPacketDone = 990
guess_code K.TdhContinuation = 990
guess_code K.DataWord = 991
guess_code K.Cdw = 991
guess_code K.Tdt = 991
guess_code K.Ddw0 = 992

-- "Unknown id: 991 or 992": the code that a word is given for its id, or 0 where its id is known.
abbrev pub unknown_id : Advanced → ℕ
unknown_id a = cond a.guessed (guess_code a.word) 0
