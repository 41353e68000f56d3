-- The call on the numbers, where they are a tracker.
use Rattle.khandzorul.proofs.Exports.{packet_none, is_good, packet_done}
use Rattle.khandzorul.proofs.khz_packet.Goals as goal

pub returns-then-not-is_tracker : goal.returns-then-not-is_tracker
returns-then-not-is_tracker c = packet_none c.args.tracker.now c.is_tracker.ensures c.if-not-is_tracker.true

pub packet-requires : goal.packet-requires
packet-requires c = is_good c.args.tracker.now c.is_tracker.ensures c.if-not-is_tracker.false

pub returns : goal.returns
returns c =
    rw c.code.ensures (packet_done c.args.tracker.now c.is_tracker.ensures c.if-not-is_tracker.false c.packet.ensures)
