-- 01, "Records": what is stored at a word, each part by itself, from as few others as possible, and all of it.
-- Assumes nothing.
use Rattle.std.specs.Prelude.{ℕ, Bool, true, cond, not, ◌&&◌, ◌||◌, eqb}
use Rattle.words.specs.declared.Word.{Word}
use Rattle.words.specs.Tdh.{trigger_type, internal_trigger, continuation, trigger_bc, trigger_orbit}
use Rattle.words.specs.Tdt.{packet_done}
use Rattle.words.specs.Ihw.{active_lanes, lanes_on}
use Rattle.words.specs.Word.{id_of}
use Rattle.words.specs.Cdw.{cdw_id, user_fields}
use Rattle.payload_fsm.specs.declared.ItsPayloadWord.{ItsPayloadWord}
use Rattle.payload_fsm.specs.Kinds.{is_ihw, is_tdh, is_data, is_tdt}
use Rattle.stored.specs.declared.StoredIhw.{StoredIhw}
use Rattle.stored.specs.declared.StoredTdh.{StoredTdh}
use Rattle.stored.specs.declared.InternalTdh.{InternalTdh}
use Rattle.stored.specs.declared.StoredCdw.{StoredCdw}
use Rattle.stored.specs.declared.Stored.{Stored}
use Rattle.stored.specs.declared.Frame.{Frame}
use Rattle.stored.specs.declared.FrameTold.{FrameTold}
use Rattle.stored.specs.declared.FrameTold.TheVariants as F
use Rattle.stored.specs.Kept.{no_frame}

-- "IHW, continuation too: .. Stored after that, whatever its id; the active lanes are those of the one last stored."
abbrev pub next_ihw : ItsPayloadWord → Word → StoredIhw → StoredIhw
next_ihw kind w old = cond (is_ihw kind) (record { present = true; lanes = active_lanes w }) old

-- "TDH: .. Stored after that, whatever its kind and id"
abbrev pub next_tdh : ItsPayloadWord → Word → StoredTdh → StoredTdh
next_tdh kind w old =
    cond (is_tdh kind) (record { present = true; trigger = trigger_type w; bc = trigger_bc w; orbit = trigger_orbit w }) old

-- "this TDH is internal and an earlier one was (the last such)"; 02, ticket 9: with its orbit.
abbrev pub next_internal : ItsPayloadWord → Word → InternalTdh → InternalTdh
next_internal kind w old =
    cond (is_tdh kind && eqb (internal_trigger w) 1) (record { present = true; bc = trigger_bc w; orbit = trigger_orbit w }) old

-- "with no data seen yet in this packet and id 0xF8"
abbrev pub first_cdw : Bool → Word → Bool
first_cdw seen w = not seen && eqb (id_of w) cdw_id

-- ".. then it is stored"
abbrev pub next_cdw : ItsPayloadWord → Bool → Word → StoredCdw → StoredCdw
next_cdw kind seen w old = cond (is_data kind && first_cdw seen w) (record { present = true; user = user_fields w }) old

-- All that is stored.
abbrev pub next_stored : ItsPayloadWord → Bool → Word → Stored → Stored
next_stored kind seen w old =
    record {
      ihw = next_ihw kind w old.ihw;
      tdh = next_tdh kind w old.tdh;
      internal = next_internal kind w old.internal;
      cdw = next_cdw kind seen w old.cdw;
    }

-- "Data is then seen."
abbrev pub next_seen : ItsPayloadWord → Bool → Bool
next_seen kind seen = is_data kind || seen

-- "Frames on, none open, continuation 0: opened here."
abbrev pub opens : Bool → ItsPayloadWord → Word → Frame → Bool
opens frames kind w f = is_tdh kind && (frames && (not f.opened && eqb (continuation w) 0))

-- "Frames on and packet done: an open frame closes here"
abbrev pub closes : Bool → ItsPayloadWord → Word → Bool
closes frames kind w = is_tdt kind && (frames && packet_done w)

abbrev pub next_frame : Bool → ItsPayloadWord → Word → ℕ → Frame → Frame
next_frame frames kind w position f =
    cond (opens frames kind w f) (record { opened = true; start = position }) (cond (closes frames kind w) no_frame f)

-- "frame: none, opened, or closed with start and end"
abbrev pub frame_told : Bool → ItsPayloadWord → Word → ℕ → Frame → FrameTold
frame_told frames kind w position f =
    cond (opens frames kind w f) F.Opened (cond (closes frames kind w && f.opened) (F.Closed f.start position) F.Nothing)

-- The lanes that an IHW switches on, in the answer of a word taken as one.
abbrev pub lanes_told : ItsPayloadWord → Word → ℕ
lanes_told kind w = cond (is_ihw kind) (lanes_on w) 0
