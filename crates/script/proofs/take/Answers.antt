-- A packet's line.
-- Assumes nothing.
use Rattle.std.proofs.Common.{sym, ◌∙◌, ap, Ok}
use Rattle.script.specs.Line.{line_of}
use Rattle.script.proofs.Taken.{of_kind_taken, packet_added}
use Rattle.script.proofs.take.Goals as goal

pub returns-in-Packet : goal.returns-in-Packet
returns-in-Packet c =
    of_kind_taken (line_of c.args.text.now) c.in-Some.line c.add_packet.result (sym c.parse.ensures ∙ c.in_ok-line.was ∙ ap Ok c.in-Some.is) c.in-Packet.is
    (packet_added c.in-Some.line.n c.add_packet.result c.packet_fields.ensures c.add_packet.ensures)
