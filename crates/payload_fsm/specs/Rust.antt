-- The Rust's own machine (its_payload_fsm_cont.rs, `sm!`): nine states, and a table of events, each from a state to a state.
-- Assumes nothing.
use Rattle.std.specs.Prelude.{List, [], ◌∷◌}
use Rattle.payload_fsm.specs.declared.State.{State}
use Rattle.payload_fsm.specs.declared.State.TheVariants as S

-- IHW_, TDH_, DATA_, c_DATA_, DDW0_or_TDH_or_IHW_, c_IHW_, c_TDH_, and the two that are never reached, DDW0_ and DDW0_or_TDH_.
pub data Nine : Type 0 where
  ihw tdh dat c_dat three c_ihw c_tdh ddw0 ddw0_or_tdh : Nine

-- _Next, _NoDataTrue, _NoDataFalse, _WasDdw0, _WasData, _WasTDTpacketDoneFalse, _WasTDTpacketDoneTrue, _WasIhw
pub data Event : Type 0 where
  next no_data_true no_data_false was_ddw0 was_data was_tdt_packet_done_false was_tdt_packet_done_true was_ihw : Event

-- A line of the Rust's table: EventName { StateFrom => StateTo }
pub record Arrow : Type 0 where
  pub event : Event
  pub source : Nine
  pub target : Nine

abbrev pub on : Event → Nine → Nine → Arrow
on e s t = record { event = e; source = s; target = t }

-- The Rust's table, line by line.
abbrev pub arrows : List Arrow
arrows =
    on next c_ihw c_tdh ∷ on next c_tdh c_dat
    ∷ on no_data_true tdh three ∷ on no_data_true ddw0_or_tdh three ∷ on no_data_true three three
    ∷ on no_data_false tdh dat ∷ on no_data_false ddw0_or_tdh dat ∷ on no_data_false three dat
    ∷ on was_ddw0 ddw0 ihw ∷ on was_ddw0 ddw0_or_tdh ihw ∷ on was_ddw0 three ihw
    ∷ on was_data dat dat ∷ on was_data c_dat c_dat
    ∷ on was_tdt_packet_done_false dat c_ihw ∷ on was_tdt_packet_done_false c_dat c_ihw
    ∷ on was_tdt_packet_done_true dat three ∷ on was_tdt_packet_done_true c_dat three
    ∷ on was_ihw ihw tdh ∷ on was_ihw three tdh
    ∷ []

-- Our seven states among the nine.
abbrev pub nine : State → Nine
nine S.Ihw = ihw
nine S.Tdh = tdh
nine S.Data = dat
nine S.CData = c_dat
nine S.Three = three
nine S.CIhw = c_ihw
nine S.CTdh = c_tdh
