-- 01, "Calls and settings": the tracker as the start gives it, the packet call and the reset, and what holds of a tracker after every call.
-- Assumes nothing.
use Rattle.std.specs.Prelude.{◌+◌, ◌≤◌, ◌≡◌, Bool, true, false, cond, ltb}
use Rattle.packet.specs.declared.Settings.{Settings}
use Rattle.packet.specs.declared.Packet.{Packet}
use Rattle.packet.specs.Packet.{no_packet, in_range, max_words, most_packets}
use Rattle.payload_fsm.specs.declared.State.{State}
use Rattle.payload_fsm.specs.declared.State.TheVariants as S
use Rattle.payload_fsm.specs.Step.{start}
use Rattle.stored.specs.Kept.{no_stored, no_frame, GoodStored, GoodFrame}
use Rattle.cdp_running.specs.declared.Tracker.{Tracker}
use Rattle.cdp_running.specs.Told.{PacketAnswer}

-- The start: nothing stored, in IHW_, with no packet.
abbrev pub start_of : Settings → Tracker
start_of s =
    record {
      settings = s;
      accepted = false;
      packets = 0;
      packet = no_packet;
      at = record { fsm = start; count = 0; seen = false };
      stored = no_stored;
      frame = no_frame;
    }

-- "Reset sets IHW_ and keeps all else": the count of packets too.
abbrev pub reset_of : Tracker → Tracker
reset_of t =
    record {
      settings = t.settings;
      accepted = t.accepted;
      packets = t.packets;
      packet = t.packet;
      at = record { fsm = start; count = t.at.count; seen = t.at.seen };
      stored = t.stored;
      frame = t.frame;
    }

-- "An accepted packet sets the word count to 0 and marks data as not yet seen." 02, ticket 7: it counts, from 1.
abbrev pub accept_of : Tracker → Packet → Tracker
accept_of t p =
    record {
      settings = t.settings;
      accepted = true;
      packets = t.packets + 1;
      packet = p;
      at = record { fsm = t.at.fsm; count = 0; seen = false };
      stored = t.stored;
      frame = t.frame;
    }

-- 5, "a packet field outside its stated range", and 02's "10, a packet beyond the last count, after 5", leave everything.
unfoldable pub packet_call : Tracker → Packet → PacketAnswer
packet_call t p =
    cond (in_range p)
    (cond (ltb t.packets most_packets) (record { tracker = accept_of t p; refusal = 0 }) (record { tracker = t; refusal = 10 }))
    (record { tracker = t; refusal = 5 })

-- The states outside the start state, and those after a TDH.
abbrev pub past_ihw : State → Bool
past_ihw S.Ihw = false
past_ihw S.Tdh = true
past_ihw S.Data = true
past_ihw S.CData = true
past_ihw S.Three = true
past_ihw S.CIhw = true
past_ihw S.CTdh = true

abbrev pub past_tdh : State → Bool
past_tdh S.Ihw = false
past_tdh S.Tdh = false
past_tdh S.Data = true
past_tdh S.CData = true
past_tdh S.Three = true
past_tdh S.CIhw = true
past_tdh S.CTdh = true

-- The tracker's invariant: what the start and every call give. An IHW is stored outside the start state, and a TDH wherever a previous one is read;
-- before the first packet all is as the start gave it. A packet was accepted where some are counted, and no more are counted than can be.
pub record Good (t : Tracker) : Type 0 where
  pub packet : in_range t.packet ≡ true
  pub count : t.at.count ≤ max_words
  pub stored : GoodStored t.stored
  pub frame : GoodFrame t.settings.frames t.frame
  pub ihw_present : past_ihw t.at.fsm.state ≡ true → t.stored.ihw.present ≡ true
  pub tdh_present : past_tdh t.at.fsm.state ≡ true → t.stored.tdh.present ≡ true
  pub fresh : t.accepted ≡ false → t ≡ start_of t.settings
  pub counted : t.accepted ≡ ltb 0 t.packets
  pub few : t.packets ≤ most_packets

-- What a packet call gives.
pub record PacketPost (t : Tracker) (p : Packet) (r : PacketAnswer) : Type 0 where
  pub answer : r ≡ packet_call t p
  pub good : Good r.tracker
