-- A tracker's memory, whether it is a struct or numbers that a caller lends: the tracker with one part changed, what a word of each kind stores, one word's
-- step.
-- Assumes nothing.
use Rattle.std.specs.Prelude.{ℕ, Result, ◌≡◌, true, cond, not, ◌&&◌, eqb, List}
use Rattle.words.specs.declared.Word.{Word}
use Rattle.words.specs.Ihw.{active_lanes}
use Rattle.words.specs.Tdh.{trigger_type, trigger_bc, trigger_orbit, internal_trigger, continuation}
use Rattle.words.specs.Cdw.{user_fields}
use Rattle.words.specs.Tdt.{packet_done}
use Rattle.payload_fsm.specs.declared.ItsPayloadWord.{ItsPayloadWord}
use Rattle.payload_fsm.specs.declared.ItsPayloadWord.TheVariants as K
use Rattle.refusals.specs.declared.Refusal.{Refusal}
use Rattle.records.specs.Records.{padded, room, exceed, WritePost}
use Rattle.cdp_running.specs.Next.{next_tracker}
use Rattle.cdp_running.specs.Word.{taken_as, position_now, rows_of, records_of}
use Rattle.stored.specs.Stored.{first_cdw, frame_told, lanes_told}
use Rattle.stored.specs.Kept.{no_frame}
use Rattle.payload_fsm.specs.declared.State.{State}
use Rattle.stored.specs.declared.StoredIhw.{StoredIhw}
use Rattle.stored.specs.declared.StoredTdh.{StoredTdh}
use Rattle.stored.specs.declared.InternalTdh.{InternalTdh}
use Rattle.stored.specs.declared.StoredCdw.{StoredCdw}
use Rattle.stored.specs.declared.Stored.{Stored}
use Rattle.stored.specs.declared.Frame.{Frame}
use Rattle.cdp_running.specs.declared.Tracker.{Tracker}
use Rattle.cdp_running.specs.declared.Taken.{Taken}

-- One part changed, all else as it was.
abbrev pub with_at : Tracker → State → ℕ → Tracker
with_at t s count =
    record {
      settings = t.settings;
      accepted = t.accepted;
      packets = t.packets;
      packet = t.packet;
      at = record { fsm = record { state = s }; count = count; seen = t.at.seen };
      stored = t.stored;
      frame = t.frame;
    }

abbrev pub with_counted : Tracker → ℕ → Tracker
with_counted t count =
    record {
      settings = t.settings;
      accepted = t.accepted;
      packets = t.packets;
      packet = t.packet;
      at = record { fsm = t.at.fsm; count = count; seen = true };
      stored = t.stored;
      frame = t.frame;
    }

abbrev pub with_seen : Tracker → Tracker
with_seen t =
    record {
      settings = t.settings;
      accepted = t.accepted;
      packets = t.packets;
      packet = t.packet;
      at = record { fsm = t.at.fsm; count = t.at.count; seen = true };
      stored = t.stored;
      frame = t.frame;
    }

abbrev pub with_stored : Tracker → Stored → Tracker
with_stored t s =
    record {
      settings = t.settings;
      accepted = t.accepted;
      packets = t.packets;
      packet = t.packet;
      at = t.at;
      stored = s;
      frame = t.frame;
    }

abbrev pub with_ihw : Tracker → StoredIhw → Tracker
with_ihw t h = with_stored t (record { ihw = h; tdh = t.stored.tdh; internal = t.stored.internal; cdw = t.stored.cdw })

abbrev pub with_tdh : Tracker → StoredTdh → Tracker
with_tdh t h = with_stored t (record { ihw = t.stored.ihw; tdh = h; internal = t.stored.internal; cdw = t.stored.cdw })

abbrev pub with_internal : Tracker → InternalTdh → Tracker
with_internal t h = with_stored t (record { ihw = t.stored.ihw; tdh = t.stored.tdh; internal = h; cdw = t.stored.cdw })

abbrev pub with_cdw : Tracker → StoredCdw → Tracker
with_cdw t h = with_stored t (record { ihw = t.stored.ihw; tdh = t.stored.tdh; internal = t.stored.internal; cdw = h })

abbrev pub with_frame : Tracker → Frame → Tracker
with_frame t f =
    record {
      settings = t.settings;
      accepted = t.accepted;
      packets = t.packets;
      packet = t.packet;
      at = t.at;
      stored = t.stored;
      frame = f;
    }

-- A struct is a tracker whatever it holds.
abbrev pub Always : Tracker → Type 0
Always t = Unit

-- What a word of each kind stores, besides state and count.
abbrev pub ihw_stores : Word → Tracker → Tracker
ihw_stores w t = with_ihw t (record { present = true; lanes = active_lanes w })

abbrev pub internal_stores : Word → Tracker → Tracker
internal_stores w t =
    with_internal t (cond (eqb (internal_trigger w) 1) (record { present = true; bc = trigger_bc w; orbit = trigger_orbit w }) t.stored.internal)

abbrev pub opening_stores : Word → ℕ → Tracker → Tracker
opening_stores w here t =
    with_frame t (cond (t.settings.frames && (not t.frame.opened && eqb (continuation w) 0)) (record { opened = true; start = here }) t.frame)

abbrev pub tdh_stores : Word → ℕ → Tracker → Tracker
tdh_stores w here t =
    opening_stores w here (internal_stores w (with_tdh t (record { present = true; trigger = trigger_type w; bc = trigger_bc w; orbit = trigger_orbit w })))

abbrev pub cdw_stores : Word → Tracker → Tracker
cdw_stores w t = with_cdw t (cond (first_cdw t.at.seen w) (record { present = true; user = user_fields w }) t.stored.cdw)

abbrev pub data_stores : Word → Tracker → Tracker
data_stores w t = with_seen (cdw_stores w t)

abbrev pub tdt_stores : Word → Tracker → Tracker
tdt_stores w t = with_frame t (cond (t.settings.frames && packet_done w) no_frame t.frame)

abbrev pub stores_of : ItsPayloadWord → Word → ℕ → Tracker → Tracker
stores_of K.Ihw w here t = ihw_stores w t
stores_of K.IhwContinuation w here t = ihw_stores w t
stores_of K.Tdh w here t = tdh_stores w here t
stores_of K.TdhAfterPacketDone w here t = tdh_stores w here t
stores_of K.TdhContinuation w here t = tdh_stores w here t
stores_of K.DataWord w here t = data_stores w t
stores_of K.Cdw w here t = data_stores w t
stores_of K.Tdt w here t = tdt_stores w t
stores_of K.Ddw0 w here t = t

-- What is told of a word that is taken, with so many records.
abbrev pub told_as : Tracker → Word → ℕ → Taken
told_as t w records =
    let a = taken_as t w in
    record {
      kind = a.word;
      guessed = a.guessed;
      records = records;
      frame = frame_told t.settings.frames a.word w (position_now t) t.frame;
      lanes = lanes_told a.word w;
    }

-- One word that the packet still takes: its records are written, and the tracker is the one after it; with no room for them both stay.
pub record StepPost (t : Tracker) (w : Word) (buffer : List ℕ) (r : Result ℕ Refusal) (after : Tracker) (buffer-after : List ℕ) : Type 0 where
  pub wrote : WritePost (position_now t) t.packets (padded (rows_of t (taken_as t w) w)) buffer r buffer-after
  pub tracker : after ≡ cond (exceed (records_of t w) (room buffer)) t (next_tracker t (taken_as t w) w)
