use Rattle.in_place.proofs.Packets.{packet_5, packet_10, packet_done}
use Rattle.in_place.proofs.packet.Goals as goal

pub returns-in_err-packet : goal.returns-in_err-packet
returns-in_err-packet c = packet_5 c.args.a.now c.requires _ _ c.from_residual.ensures c.in_err-packet.ensures

pub returns-then-a : goal.returns-then-a
returns-then-a c = packet_10 c.args.a.now c.requires _ c.in_ok-packet.ensures.0 c.if-a.true

pub returns : goal.returns
returns c = packet_done c.args.a.now c.requires _ c.in_ok-packet.ensures c.if-a.false c.packet.ensures
