-- What is kept where nothing is stored, and what holds of everything that is kept.
-- Assumes nothing.
use Rattle.std.specs.Prelude.{◌≤◌, ◌<◌, ◌^◌, ◌≡◌, Bool, false}
use Rattle.packet.specs.Packet.{most_position}
use Rattle.stored.specs.declared.StoredIhw.{StoredIhw}
use Rattle.stored.specs.declared.StoredTdh.{StoredTdh}
use Rattle.stored.specs.declared.InternalTdh.{InternalTdh}
use Rattle.stored.specs.declared.StoredCdw.{StoredCdw}
use Rattle.stored.specs.declared.Stored.{Stored}
use Rattle.stored.specs.declared.Frame.{Frame}

-- "a presence flag beside fields": nothing stored, no frame open, all zeros.
abbrev pub no_ihw : StoredIhw
no_ihw = record { present = false; lanes = 0 }

abbrev pub no_tdh : StoredTdh
no_tdh = record { present = false; trigger = 0; bc = 0; orbit = 0 }

abbrev pub no_internal : InternalTdh
no_internal = record { present = false; bc = 0; orbit = 0 }

abbrev pub no_cdw : StoredCdw
no_cdw = record { present = false; user = 0 }

abbrev pub no_stored : Stored
no_stored = record { ihw = no_ihw; tdh = no_tdh; internal = no_internal; cdw = no_cdw }

abbrev pub no_frame : Frame
no_frame = record { opened = false; start = 0 }

-- What is stored fits its bits, and is 0 where it is absent.
pub record GoodIhw (i : StoredIhw) : Type 0 where
  pub lanes : i.lanes < 2 ^ 28
  pub absent : i.present ≡ false → i ≡ no_ihw

pub record GoodTdh (h : StoredTdh) : Type 0 where
  pub trigger : h.trigger < 2 ^ 12
  pub bc : h.bc < 2 ^ 12
  pub absent : h.present ≡ false → h ≡ no_tdh

pub record GoodInternal (i : InternalTdh) : Type 0 where
  pub bc : i.bc < 2 ^ 12
  pub absent : i.present ≡ false → i ≡ no_internal

pub record GoodCdw (c : StoredCdw) : Type 0 where
  pub user : c.user < 2 ^ 48
  pub absent : c.present ≡ false → c ≡ no_cdw

pub record GoodStored (s : Stored) : Type 0 where
  pub ihw : GoodIhw s.ihw
  pub tdh : GoodTdh s.tdh
  pub internal : GoodInternal s.internal
  pub cdw : GoodCdw s.cdw

pub record GoodFrame (frames : Bool) (f : Frame) : Type 0 where
  pub start : f.start ≤ most_position
  pub absent : f.opened ≡ false → f ≡ no_frame
  pub off : frames ≡ false → f.opened ≡ false
