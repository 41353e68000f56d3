-- Numbers that stand for a tracker, whether or not it meets the invariant: it doesn't between the stores of one word.
-- Assumes nothing.
use Rattle.std.specs.Prelude.{ℕ, ◌≡◌, ◌<◌, ◌^◌, List, length}
use Rattle.packet.specs.Settings.{period_of}
use Rattle.cdp_running.specs.declared.Tracker.{Tracker}
use Rattle.tracker_array.specs.Array.{encode_of, size}
use Rattle.tracker_array.specs.Read.{tracker_in}

-- What fits the widths of a tracker's types, which a struct always does.
pub record Widths (t : Tracker) : Type 0 where
  pub period : period_of t.settings < 2 ^ 32
  pub packets : t.packets < 2 ^ 32
  pub orbit : t.packet.orbit < 2 ^ 32
  pub trigger : t.packet.trigger < 2 ^ 32
  pub bc : t.packet.bc < 2 ^ 16
  pub page : t.packet.page < 2 ^ 16
  pub stop : t.packet.stop < 2 ^ 8
  pub format : t.packet.format < 2 ^ 8
  pub count : t.at.count < 2 ^ 16
  pub lanes : t.stored.ihw.lanes < 2 ^ 32
  pub tdh_trigger : t.stored.tdh.trigger < 2 ^ 16
  pub tdh_bc : t.stored.tdh.bc < 2 ^ 16
  pub tdh_orbit : t.stored.tdh.orbit < 2 ^ 32
  pub internal_bc : t.stored.internal.bc < 2 ^ 16
  pub internal_orbit : t.stored.internal.orbit < 2 ^ 32

-- Numbers that stand for a tracker: just those that it is written as.
pub record Holds (a : List ℕ) : Type 0 where
  pub long : length a ≡ size
  pub numbers : a ≡ encode_of (tracker_in a)
  pub widths : Widths (tracker_in a)
