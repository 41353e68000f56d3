-- The packet's numbers stand one behind the other.
-- Assumes nothing.
use Rattle.std.proofs.Common.{◌+◌, ◌<◌, arith}
use Rattle.bench_writer.proofs.Putting.{number_put, byte_put, packet_put}
use Rattle.bench_writer.proofs.put_packet.Goals as goal

pub returns : goal.returns
returns c =
    let p = c.args.packet in
    let at = c.args.at in
    let stop_low : p.stop < 256 = omega arith in
    let format_low : p.format < 256 = omega arith in
    packet_put c.args.out.now at p c.requires.packet_bytes_in_bounds
    (number_put 8 p.position at _ c.to_le_bytes.ensures c.put.ensures)
    (number_put 4 p.orbit (at + 8) _ c.to_le_bytes-2.ensures c.put-2.ensures)
    (number_put 4 p.trigger (at + 12) _ c.to_le_bytes-3.ensures c.put-3.ensures)
    (number_put 2 p.bc (at + 16) _ c.to_le_bytes-4.ensures c.put-4.ensures)
    (number_put 2 p.page (at + 18) _ c.to_le_bytes-5.ensures c.put-5.ensures)
    (byte_put p.stop (at + 20) _ stop_low c.to_le_bytes-6.ensures c.put-6.ensures)
    (byte_put p.format (at + 21) _ format_low c.to_le_bytes-7.ensures c.put-7.ensures)
    (number_put 2 0 (at + 22) _ c.to_le_bytes-8.ensures c.put-8.ensures)
