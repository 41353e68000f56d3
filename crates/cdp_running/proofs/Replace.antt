-- What a packet sets does not depend on what was there. What a word stores: `stored/proofs/Replace.antt`.
-- Assumes nothing.
use mathlib.Core.Path.{◌≡◌, refl}
use mathlib.Core.Bool.{true, false}
use Rattle.packet.specs.declared.Packet.{Packet}
use Rattle.cdp_running.specs.declared.Tracker.{Tracker}
use Rattle.cdp_running.specs.Tracker.{accept_of}

-- A packet makes what it sets the same.
pub packet_sets : (t : Tracker) (p : Packet) → ((accept_of t p).accepted ≡ true)
    × (((accept_of t p).packet ≡ p) × (((accept_of t p).at.count ≡ 0) × ((accept_of t p).at.seen ≡ false)))
packet_sets t p = (refl, (refl, (refl, refl)))
