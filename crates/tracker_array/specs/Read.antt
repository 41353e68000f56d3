-- How the code reads numbers as a tracker, place by place, and by which tests it finds whether they are one. proofs/Laws.antt has that the tests decide
-- exactly this (`tests_decide`).
-- Assumes nothing.
use Rattle.std.specs.Prelude.{ℕ, zero, suc, ◌-◌, ◌^◌, Bool, true, false, cond, not, ◌&&◌, ◌||◌, List, leb, ltb, eqb, length, get_or}
use Rattle.std.specs.Bool.{then_some}
use Rattle.packet.specs.declared.Settings.{Settings}
use Rattle.packet.specs.declared.Packet.{Packet}
use Rattle.packet.specs.Packet.{in_range, max_words, most_packets, most_position}
use Rattle.packet.specs.Settings.{period_of}
use Rattle.payload_fsm.specs.declared.State.{State}
use Rattle.payload_fsm.specs.declared.State.TheVariants as S
use Rattle.stored.specs.declared.StoredTdh.{StoredTdh}
use Rattle.stored.specs.declared.InternalTdh.{InternalTdh}
use Rattle.stored.specs.declared.StoredCdw.{StoredCdw}
use Rattle.stored.specs.declared.StoredIhw.{StoredIhw}
use Rattle.stored.specs.declared.Stored.{Stored}
use Rattle.stored.specs.declared.Frame.{Frame}
use Rattle.cdp_running.specs.declared.Tracker.{Tracker}
use Rattle.cdp_running.specs.Tracker.{past_ihw, past_tdh}
use Rattle.tracker_array.specs.Array.{size, mark, is_on, is_flag, is_rule, rule_of}
use Rattle.tracker_array.specs.Place as P

abbrev pub place : List ℕ → ℕ → ℕ
place a i = get_or a i 0

abbrev pub state_of : ℕ → State
state_of n =
    cond (eqb n 0) S.Ihw
    (cond (eqb n 1) S.Tdh
    (cond (eqb n 2) S.Data (cond (eqb n 3) S.CData (cond (eqb n 4) S.Three (cond (eqb n 5) S.CIhw S.CTdh)))))

-- What the numbers say, each part from its own places.
abbrev pub settings_in : List ℕ → Settings
settings_in a =
    record {
      running = is_on (place a P.running);
      frames = is_on (place a P.frames);
      period = then_some (is_on (place a P.periodic)) (place a P.period);
      rule = rule_of (place a P.rule);
    }

abbrev pub packet_in : List ℕ → Packet
packet_in a =
    record {
      position = place a P.position;
      orbit = place a P.orbit;
      trigger = place a P.trigger;
      bc = place a P.bc;
      page = place a P.page;
      stop = place a P.stop;
      format = place a P.format;
    }

abbrev pub ihw_in : List ℕ → StoredIhw
ihw_in a = record { present = is_on (place a P.ihw); lanes = place a P.lanes }

abbrev pub tdh_in : List ℕ → StoredTdh
tdh_in a = record { present = is_on (place a P.tdh); trigger = place a P.tdh_trigger; bc = place a P.tdh_bc; orbit = place a P.tdh_orbit }

abbrev pub internal_in : List ℕ → InternalTdh
internal_in a = record { present = is_on (place a P.internal); bc = place a P.internal_bc; orbit = place a P.internal_orbit }

abbrev pub cdw_in : List ℕ → StoredCdw
cdw_in a = record { present = is_on (place a P.cdw); user = place a P.cdw_user }

abbrev pub stored_in : List ℕ → Stored
stored_in a = record { ihw = ihw_in a; tdh = tdh_in a; internal = internal_in a; cdw = cdw_in a }

abbrev pub frame_in : List ℕ → Frame
frame_in a = record { opened = is_on (place a P.opened); start = place a P.start }

abbrev pub tracker_in : List ℕ → Tracker
tracker_in a =
    record {
      settings = settings_in a;
      accepted = is_on (place a P.accepted);
      packets = place a P.packets;
      packet = packet_in a;
      at = record { fsm = record { state = state_of (place a P.state) }; count = place a P.count; seen = is_on (place a P.seen) };
      stored = stored_in a;
      frame = frame_in a;
    }

-- The form: the mark, flags that are 0 or 1, one of the two rules, and 0 where nothing stands.
abbrev pub flags_fit : List ℕ → Bool
flags_fit a =
    is_flag (place a P.running)
    && (is_flag (place a P.frames)
    && (is_flag (place a P.periodic)
    && (is_flag (place a P.accepted)
    && (is_flag (place a P.seen)
    && (is_flag (place a P.ihw)
    && (is_flag (place a P.tdh) && (is_flag (place a P.internal) && (is_flag (place a P.cdw) && is_flag (place a P.opened)))))))))

-- So many numbers from a place on are 0.
unfoldable pub zeros_from : ℕ → ℕ → List ℕ → Bool
zeros_from zero i a = true
zeros_from (suc n) i a = eqb (place a i) 0 && zeros_from n (suc i) a

abbrev pub in_form : List ℕ → Bool
in_form a = eqb (place a P.mark) mark && (flags_fit a && (is_rule (place a P.rule) && zeros_from (size - P.unused) P.unused a))

-- A period of 32 bits, which is 0 where there is none.
abbrev pub settings_good : List ℕ → Bool
settings_good a = ltb (place a P.period) (2 ^ 32) && (is_on (place a P.periodic) || eqb (place a P.period) 0)

-- The invariant of cdp_running, `Good`, and the widths, `Sized`, as tests: proofs/Invariant.antt has that they are the same.
abbrev pub ihw_good : StoredIhw → Bool
ihw_good i = ltb i.lanes (2 ^ 28) && (i.present || eqb i.lanes 0)

abbrev pub tdh_good : StoredTdh → Bool
tdh_good h =
    ltb h.trigger (2 ^ 12)
    && (ltb h.bc (2 ^ 12)
    && (ltb h.orbit (2 ^ 32) && (h.present || (eqb h.trigger 0 && (eqb h.bc 0 && eqb h.orbit 0)))))

abbrev pub internal_good : InternalTdh → Bool
internal_good i =
    ltb i.bc (2 ^ 12) && (ltb i.orbit (2 ^ 32) && (i.present || (eqb i.bc 0 && eqb i.orbit 0)))

abbrev pub cdw_good : StoredCdw → Bool
cdw_good c = ltb c.user (2 ^ 48) && (c.present || eqb c.user 0)

abbrev pub frame_good : Bool → Frame → Bool
frame_good frames f = leb f.start most_position && ((f.opened || eqb f.start 0) && (frames || not f.opened))

abbrev pub stored_good : Bool → Stored → Frame → Bool
stored_good frames s f =
    ihw_good s.ihw && (tdh_good s.tdh && (internal_good s.internal && (cdw_good s.cdw && frame_good frames f)))

-- What a state goes by is there: an IHW outside the start state, and a TDH wherever a previous one is read.
abbrev pub nothing_missing : State → Stored → Bool
nothing_missing state s = (not (past_ihw state) || s.ihw.present) && (not (past_tdh state) || s.tdh.present)

-- Some packets are counted where one was accepted, and no more than can be.
abbrev pub packets_good : Bool → ℕ → Bool
packets_good accepted packets = cond accepted (ltb 0 packets) (eqb packets 0) && leb packets most_packets

-- No packet, and the rest as the start gave it, but for the settings.
abbrev pub packet_blank : Packet → Bool
packet_blank p =
    eqb p.position 0
    && (eqb p.orbit 0
    && (eqb p.trigger 0 && (eqb p.bc 0 && (eqb p.page 0 && (eqb p.stop 0 && eqb p.format 0)))))

abbrev pub in_start : State → Bool
in_start S.Ihw = true
in_start S.Tdh = false
in_start S.Data = false
in_start S.CData = false
in_start S.Three = false
in_start S.CIhw = false
in_start S.CTdh = false

abbrev pub blank : Tracker → Bool
blank t =
    in_start t.at.fsm.state
    && (eqb t.at.count 0
    && (not t.at.seen
    && (not t.stored.ihw.present
    && (not t.stored.tdh.present && (not t.stored.internal.present && (not t.stored.cdw.present && not t.frame.opened))))))

abbrev pub kept_good : Tracker → Bool
kept_good t =
    packets_good t.accepted t.packets
    && (in_range t.packet
    && (leb t.at.count max_words
    && (stored_good t.settings.frames t.stored t.frame
    && (nothing_missing t.at.fsm.state t.stored && (t.accepted || (packet_blank t.packet && blank t))))))

-- The same with the width of the period. That of numbers is asked of them (`settings_good`), and is then that of the tracker that they are read as.
abbrev pub is_good : Tracker → Bool
is_good t = ltb (period_of t.settings) (2 ^ 32) && kept_good t

-- The length, the form, the period, one of the seven states, and the invariant.
unfoldable pub is_tracker : List ℕ → Bool
is_tracker a = eqb (length a) size && (in_form a && (settings_good a && (leb (place a P.state) 6 && is_good (tracker_in a))))
