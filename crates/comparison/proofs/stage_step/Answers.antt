-- Each arm by the stage.
-- Assumes nothing.
use Rattle.std.proofs.Common.{refl, ap, arith}
use Rattle.ascii.proofs.Putting.{none_put, in_room_lem}
use Rattle.comparison.specs.Text.{last_line, refused_line}
use Rattle.comparison.specs.Listing.{is_done}
use Rattle.comparison.proofs.Keeping.{count_low}
use Rattle.comparison.proofs.Looking.{packet_quiet}
use Rattle.comparison.proofs.Printing.{staged}
use Rattle.comparison.proofs.stage_step.Goals as goal

pub packets_step-requires-clause-count_bound : goal.packets_step-requires-clause-count_bound
packets_step-requires-clause-count_bound c =
    count_low c.args.a.now c.args.b.now c.args.l c.requires.good (ap is_done c.in-Packets.is)

pub words_step-requires-clause-count_bound : goal.words_step-requires-clause-count_bound
words_step-requires-clause-count_bound c =
    count_low c.args.a.now c.args.b.now c.args.l c.requires.good (ap is_done c.in-Words.is)

pub counts_step-requires-clause-count_bound : goal.counts_step-requires-clause-count_bound
counts_step-requires-clause-count_bound c =
    count_low c.args.a.now c.args.b.now c.args.l c.requires.good (ap is_done c.in-Counts.is)

pub fields_step-requires-clause-count_bound : goal.fields_step-requires-clause-count_bound
fields_step-requires-clause-count_bound c =
    count_low c.args.a.now c.args.b.now c.args.l c.requires.good (ap is_done c.in-Fields.is)

pub bytes_step-requires-clause-count_bound : goal.bytes_step-requires-clause-count_bound
bytes_step-requires-clause-count_bound c =
    count_low c.args.a.now c.args.b.now c.args.l c.requires.good (ap is_done c.in-Bytes.is)

pub returns-in-Packets : goal.returns-in-Packets
returns-in-Packets c = staged c.requires.good c.in-Packets.is c.packets_step.ensures

pub returns-in-Words : goal.returns-in-Words
returns-in-Words c = staged c.requires.good c.in-Words.is c.words_step.ensures

pub returns-in-Counts : goal.returns-in-Counts
returns-in-Counts c = staged c.requires.good c.in-Counts.is c.counts_step.ensures

pub returns-in-Fields : goal.returns-in-Fields
returns-in-Fields c = staged c.requires.good c.in-Fields.is c.fields_step.ensures

pub returns-in-Bytes : goal.returns-in-Bytes
returns-in-Bytes c = staged c.requires.good c.in-Bytes.is c.bytes_step.ensures

pub returns-in-Packet : goal.returns-in-Packet
returns-in-Packet c =
    staged c.requires.good c.in-Packet.is
    (packet_quiet c.args.a.now c.args.b.now c.args.l c.args.out.now c.packet_step.ensures)

pub returns-in-Last : goal.returns-in-Last
unfolding last_line
returns-in-Last c =
    let p = in_room_lem _ _ (omega arith) c.put_line.ensures in
    staged c.requires.good c.in-Last.is (record { next_is = c.begin.ensures; puts = p })

pub returns-in-Refused : goal.returns-in-Refused
unfolding refused_line
returns-in-Refused c =
    let p = in_room_lem _ _ (omega arith) c.put_line-in-Refused.ensures in
    staged c.requires.good c.in-Refused.is (record { next_is = c.begin-in-Refused.ensures; puts = p })

pub returns-in-Done : goal.returns-in-Done
returns-in-Done c = staged c.requires.good c.in-Done.is (record { next_is = refl; puts = none_put _ })
