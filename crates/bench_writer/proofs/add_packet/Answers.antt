-- A packet that fits stands where the words were, which have moved on.
-- Assumes nothing.
use Rattle.std.proofs.Common.{◌+◌, ◌≤◌, ◌∙◌, ap, rules, arith}
use Rattle.packet.specs.declared.Packet.{Packet}
use Rattle.packet.specs.Packet.{packet_from}
use Rattle.bench_file.specs.File.{packet_bytes, most_bytes}
use Rattle.bench_writer.specs.Content.{packet_as}
use Rattle.bench_writer.specs.Draft.{size, packet_end, put_at}
use Rattle.bench_writer.proofs.Adding.{packet_taken, taken, packet_in_lem}
use Rattle.bench_writer.proofs.Shifting.{moved_on}
use Rattle.bench_writer.proofs.add_packet.Goals as goal

pub returns : goal.returns
returns c =
    let d = c.args.draft in
    let p = packet_from c.args.fields in
    let buffer = c.args.buffer.now in
    let fits = c.in_ok-packet.ensures in
    let room : size d + packet_bytes ≤ most_bytes = omega arith in
    let on = c.copy_within.ensures.after ∙ moved_on buffer (packet_end d) (size d) (omega arith) in
    let put = c.put_packet.ensures ∙ ap (λ (q : Packet). put_at (packet_end d) (packet_as q 0) c.copy_within.new.self) fits.1 in
    taken d buffer (packet_taken d p fits.0 room) (packet_in_lem d p buffer (omega arith) on put)
    (record { long = search rules; short = omega arith })
